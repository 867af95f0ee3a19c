-- What is reached in code, as a sound design has it.
use Rattle.std.specs.Prelude.{◌≡◌, ◌⊎◌, ℕ, Some}
use Rattle.code_rules.specs.FlatDesign.Code as code
use Rattle.code_rules.specs.FlatDesign.Code.{Statement, arena_of, body_at}
use Rattle.code_rules.specs.FlatDesign.Reach.{InBody, Reached}
use Rattle.code_rules.specs.FlatDesign.Blocking.{DoesNotBlock, IsPlain, SetsNoTrigger}
use Rattle.code_rules.specs.FlatDesign.Sound.{IsHomeOf, IsMethodBody, IsThreadBody, IsNonblockingHandler, IsAnyHandler, EachReached}
use Rattle.code_rules.specs.FlatDesign.declared.code.CodeBody.{CodeBody}
use Rattle.code_rules.specs.FlatDesign.declared.design.Design.{Design}

-- from a body that runs as a method
abbrev pub MethodsDoNotBlock : Design → Type 0
MethodsDoNotBlock d = EachReached d (IsMethodBody (arena_of d.code)) (λ home s. DoesNotBlock d home s)

-- from a handler of non-blocking calls
abbrev pub HandlersDoNotBlock : Design → Type 0
HandlersDoNotBlock d = EachReached d (λ f b. IsNonblockingHandler d f) (λ home s. DoesNotBlock d home s)

-- from an unwind block of a body
abbrev pub UnwindingIsPlain : Design → Type 0
UnwindingIsPlain d =
    (f : ℕ) (b : CodeBody) (home body unwind : ℕ) (s : Statement) → body_at (arena_of d.code) f ≡ Some b → IsHomeOf d home b
    → InBody (arena_of d.code) b (code.guard body unwind) → Reached (arena_of d.code) unwind s → DoesNotBlock d home s × IsPlain s

-- from a thread's body or a handler
abbrev pub ThreadsSetNoTrigger : Design → Type 0
ThreadsSetNoTrigger d = EachReached d (λ f b. IsThreadBody (arena_of d.code) f b ⊎ IsAnyHandler d f) (λ home s. SetsNoTrigger s)
