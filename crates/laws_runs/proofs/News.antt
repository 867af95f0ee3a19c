-- What statements without marks put in their own place: blocks, loops, tries and called bodies.
use Rattle.std.proofs.Common.{◌≡◌, ℕ, zero, suc, List, [], ◌∷◌, slice_get, slice_set, Option, Some, None, refl, sym, ap, ◌∙◌}
use Rattle.std.proofs.lemmas.Option.{same_Some}
use Rattle.sim_model.specs.LogicValues.declared.kinds.Value.{Value}
use Rattle.sim_model.specs.FlatDesign.Code.{Arena, block_at, body_at}
use Rattle.sim_model.specs.FlatDesign.declared.code.CodeBody.{CodeBody}
use Rattle.sim_model.specs.FlatDesign.declared.code.Handler.{Handler}
use Rattle.sim_model.specs.Residual.{skip, batch, try_, statements, followed, block, entered, entered_in}
use Rattle.sim_model.specs.Configuration.{change, changed_at}
use Rattle.laws_runs.proofs.GoalParts.{IsNew}

pub skip-new : IsNew skip
skip-new = record { normal = tt; guards = refl; calls = tt }

statements_new : (ss : List ℕ) → IsNew (statements ss)
statements_new [] = skip-new
statements_new (s ∷ []) = record { normal = tt; guards = refl; calls = tt }
statements_new (s ∷ t ∷ ss) = record { normal = tt; guards = refl; calls = tt }

pub block-new : (a : Arena) (b : ℕ) → IsNew (block a b)
block-new a b = statements_new (block_at a b)

pub looped-new : (a : Arena) (b n : ℕ) → IsNew (followed (block a b) (n ∷ []))
looped-new a b n = let h = block-new a b in record { normal = h.normal; guards = h.guards; calls = h.calls }

pub try-new : (a : Arena) (b : ℕ) (handlers : List Handler) → IsNew (try_ (block a b) handlers)
try-new a b handlers = let h = block-new a b in record { normal = h.normal; guards = h.guards; calls = h.calls }

entered_new : (a : Arena) (f : ℕ) (args : List Value) (n : ℕ) (o : Option CodeBody) → IsNew (entered_in a f args (Some n) None o)
entered_new a f args n None = record { normal = tt; guards = refl; calls = (tt, refl, tt) }
entered_new a f args n (Some b) = let h = block-new a b.block in record { normal = h.normal; guards = h.guards; calls = (tt, refl, h.calls) }

pub call-new : (a : Arena) (f : ℕ) (args : List Value) (n : ℕ) → IsNew (entered a f args (Some n) None)
call-new a f args n = entered_new a f args n (body_at a f)

pub batch-new : (n : ℕ) (qs : List ℕ) → IsNew (batch n qs)
batch-new n qs = record { normal = tt; guards = refl; calls = tt }

-- ---- an element that is changed to itself

set_same : {A : Type 0} (xs : List A) (n : ℕ) (x : A) → slice_get xs n ≡ Some x → slice_set xs n x ≡ xs
set_same [] n x at = refl
set_same (z ∷ xs) zero x at = ap (λ y. y ∷ xs) (same_Some x z (sym at))
set_same (z ∷ xs) (suc n) x at = ap (λ ys. z ∷ ys) (set_same xs n x at)

pub change-same : {A : Type 0} (xs : List A) (n : ℕ) (f : A → A) (x : A) → slice_get xs n ≡ Some x → f x ≡ x → change xs n f ≡ xs
change-same xs n f x at is = ap (changed_at xs n f) at ∙ ap (slice_set xs n) is ∙ set_same xs n x at
