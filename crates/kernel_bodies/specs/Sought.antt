-- Open blocks and saved frames of a kind, and the innermost of them.
use Rattle.std.specs.Prelude.{◌≡◌, ℕ, zero, suc, ◌+◌, ◌||◌, Bool, true, false, not, List, [], ◌∷◌, Option, Some, None}
use Rattle.sim_model.specs.FlatDesign.Code.{Arena}
use Rattle.sim_model.specs.Residual.{Frame, is_nonblocking, counted_call, or_frame, or_via}
use Rattle.sim_model.specs.Unwinding.{handles}
use Rattle.sim_model.specs.declared.plain.Via.{Via}
use Rattle.kernel_bodies.specs.Depths.{handlers_of}
use Rattle.kernel_bodies.specs.declared.layers.Saved.{Saved}
use Rattle.kernel_bodies.specs.declared.layers.Open.{Open}
use Rattle.kernel_bodies.specs.declared.layers.Open.TheVariants as layer
use Rattle.kernel_bodies.specs.Layers.{call_of}

-- none is of the kind; the innermost one of the kind stands at this place; some are of the kind

abbrev pub NoneIs : {A : Type 0} → (A → Bool) → List A → Type 0
NoneIs p [] = Unit {0}
NoneIs p (l ∷ ls) = (p l ≡ false) × NoneIs p ls

abbrev pub LastIs : {A : Type 0} → (A → Bool) → List A → ℕ → Type 0
LastIs p [] i = ⊥
LastIs p (l ∷ ls) zero = (p l ≡ true) × NoneIs p ls
LastIs p (l ∷ ls) (suc i) = LastIs p ls i

abbrev pub IsLast : {A : Type 0} → (A → Bool) → List A → Option ℕ → Type 0
IsLast p ls None = NoneIs p ls
IsLast p ls (Some i) = LastIs p ls i

abbrev pub among : {A : Type 0} → (A → Bool) → List A → Bool
among p [] = false
among p (l ∷ ls) = among p ls || p l

-- an unwind block that is begun
abbrev pub is_run : Open → Bool
is_run (layer.Rest c) = false
is_run (layer.Again s) = false
is_run (layer.Owed u) = false
is_run (layer.Guard u) = false
is_run (layer.Try s) = false
is_run layer.Run = true
is_run (layer.Goal k) = false

-- an unwinding
abbrev pub is_goal : Open → Bool
is_goal (layer.Rest c) = false
is_goal (layer.Again s) = false
is_goal (layer.Owed u) = false
is_goal (layer.Guard u) = false
is_goal (layer.Try s) = false
is_goal layer.Run = false
is_goal (layer.Goal k) = true

-- a `try` that has a handler for an exception
abbrev pub is_handling : Arena → ℕ → Open → Bool
is_handling a e (layer.Rest c) = false
is_handling a e (layer.Again s) = false
is_handling a e (layer.Owed u) = false
is_handling a e (layer.Guard u) = false
is_handling a e (layer.Try s) = handles (handlers_of a s) e
is_handling a e layer.Run = false
is_handling a e (layer.Goal k) = false

-- a frame with such a `try`, or such an unwinding, among its open blocks
abbrev pub has_handler : Arena → ℕ → Saved → Bool
has_handler a e x = among (is_handling a e) x.blocks.items

abbrev pub unwinds : Saved → Bool
unwinds x = among is_goal x.blocks.items

-- a return ends the innermost call that is not being unwound, or the innermost unwind block
abbrev pub is_exit : Saved → Bool
is_exit x = among is_run x.blocks.items || not x.shell

-- a non-blocking transport call that is not being unwound
abbrev pub open_nonblocking : Bool → Option Via → Bool
open_nonblocking false via = is_nonblocking via
open_nonblocking true via = false

abbrev pub is_open_nonblocking : Saved → Bool
is_open_nonblocking x = open_nonblocking x.shell x.frame.via

-- the innermost call; the innermost transport call; how many calls there are, the body not counted

abbrev pub last_call : List Saved → Option Frame
last_call [] = None
last_call (x ∷ xs) = or_frame (last_call xs) (call_of x.frame)

abbrev pub last_via : List Saved → Option Via
last_via [] = None
last_via (x ∷ xs) = or_via (last_via xs) x.frame.via

abbrev pub many_calls : List Saved → ℕ
many_calls [] = 0
many_calls (x ∷ xs) = many_calls xs + counted_call x.frame.call
