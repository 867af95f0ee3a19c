-- The marks of an instance are nested as brackets are: what they leave open, the innermost first.
use Rattle.std.specs.Prelude.{ℕ, zero, suc, ◌==◌, List, [], ◌∷◌, ◌++◌, Option, Some, None, if◌then◌else◌}
use Rattle.sim_model.specs.Residual.{Residual, skip, one, batch, seq, owing, guard, try_, frame, shell, run, goal, Mark, enter, leave, begin, finish}
use Rattle.sim_model.specs.Configuration.{Instance}

-- a guard that is open: its unwind block has not begun, or runs
pub data Part : Type 0 where
  unbegun : ℕ → Part
  running : ℕ → Part

-- an instance enters a guard inside those that are open; it leaves only the innermost, and only where its unwind block has not
-- begun; only that of the innermost begins, and it is finished while it is the innermost

abbrev pub after_leave : ℕ → List Part → Option (List Part)
after_leave g [] = None
after_leave g (unbegun n ∷ s) = if n == g then Some s else None
after_leave g (running n ∷ s) = None

abbrev pub after_begin : ℕ → List Part → Option (List Part)
after_begin g [] = None
after_begin g (unbegun n ∷ s) = if n == g then Some (running n ∷ s) else None
after_begin g (running n ∷ s) = None

abbrev pub after_finish : ℕ → List Part → Option (List Part)
after_finish g [] = None
after_finish g (unbegun n ∷ s) = None
after_finish g (running n ∷ s) = if n == g then Some s else None

-- what a mark leaves open of p: a mark of another instance changes nothing
abbrev pub after_mark : ℕ → Mark → List Part → Option (List Part)
after_mark p (enter q g) s = if q == p then Some (unbegun g ∷ s) else Some s
after_mark p (leave q g) s = if q == p then after_leave g s else Some s
after_mark p (begin q g) s = if q == p then after_begin g s else Some s
after_mark p (finish q g) s = if q == p then after_finish g s else Some s

abbrev pub on_some : {A B : Type 0} → (A → Option B) → Option A → Option B
on_some f None = None
on_some f (Some x) = f x

-- and what marks leave open, one after another: none, where one does not fit
abbrev pub after_marks : ℕ → List Mark → List Part → Option (List Part)
after_marks p [] s = Some s
after_marks p (m ∷ ms) s = on_some (after_marks p ms) (after_mark p m s)

-- the guards of what is left of a body, the innermost first
abbrev pub parts_of : Residual → List Part
parts_of skip = []
parts_of (one s) = []
parts_of (batch s qs) = []
parts_of (seq r ss) = parts_of r
parts_of (owing r g u) = parts_of r ++ unbegun g ∷ []
parts_of (guard r g u) = parts_of r ++ unbegun g ∷ []
parts_of (try_ r handlers) = parts_of r
parts_of (frame r x) = parts_of r
parts_of (shell r x) = parts_of r
parts_of (run g r) = parts_of r ++ running g ∷ []
parts_of (goal r k) = parts_of r

-- an instance that was not made has none
abbrev pub parts_at : Option Instance → List Part
parts_at None = []
parts_at (Some i) = parts_of i.residual

-- the numbers that guards were entered with, by all instances, in their order
abbrev pub numbers_entered : List Mark → List ℕ
numbers_entered [] = []
numbers_entered (enter p g ∷ ms) = g ∷ numbers_entered ms
numbers_entered (leave p g ∷ ms) = numbers_entered ms
numbers_entered (begin p g ∷ ms) = numbers_entered ms
numbers_entered (finish p g ∷ ms) = numbers_entered ms

-- 0, 1, 2 and so on, so many of them
unfoldable pub first_numbers : ℕ → List ℕ
first_numbers zero = []
first_numbers (suc n) = first_numbers n ++ n ∷ []
