-- What sound designs have of their code, but for rooms.
use Rattle.std.specs.Prelude.{◌≡◌, ◌⊎◌, ℕ, slice_get, Some}
use Rattle.model_rules.specs.FlatDesign.Code as code
use Rattle.model_rules.specs.FlatDesign.Code.{Statement, arena_of, body_at}
use Rattle.model_rules.specs.FlatDesign.Reach.{InBody, Reached}
use Rattle.model_rules.specs.FlatDesign.Blocking.{DoesNotBlock, IsPlain, SetsNoTrigger}
use Rattle.model_rules.specs.FlatDesign.Sound.{ProcessFits, IsHomeOf, IsMethodBody, IsThreadBody, IsNonblockingHandler, IsAnyHandler, EachReached}
use Rattle.model_rules.specs.FlatDesign.declared.code.CodeBody.{CodeBody}
use Rattle.model_rules.specs.FlatDesign.declared.design.ProcessPart.{ProcessPart}
use Rattle.model_rules.specs.FlatDesign.declared.design.Design.{Design}

abbrev pub ProcessesFit : Design → Type 0
ProcessesFit d = (n : ℕ) (p : ProcessPart) → slice_get d.processes n ≡ Some p → ProcessFits d p

abbrev pub MethodsDoNotBlock : Design → Type 0
MethodsDoNotBlock d = EachReached d (IsMethodBody (arena_of d.code)) (λ home s. DoesNotBlock d home s)

abbrev pub HandlersDoNotBlock : Design → Type 0
HandlersDoNotBlock d = EachReached d (λ f b. IsNonblockingHandler d f) (λ home s. DoesNotBlock d home s)

abbrev pub UnwindingIsPlain : Design → Type 0
UnwindingIsPlain d =
    (f : ℕ) (b : CodeBody) (home body unwind : ℕ) (s : Statement) → body_at (arena_of d.code) f ≡ Some b → IsHomeOf d home b
    → InBody (arena_of d.code) b (code.guard body unwind) → Reached (arena_of d.code) unwind s → DoesNotBlock d home s × IsPlain s

abbrev pub ThreadsSetNoTrigger : Design → Type 0
ThreadsSetNoTrigger d = EachReached d (λ f b. IsThreadBody (arena_of d.code) f b ⊎ IsAnyHandler d f) (λ home s. SetsNoTrigger s)
