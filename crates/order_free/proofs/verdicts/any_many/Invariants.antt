use Rattle.std.proofs.Common.{◌≡◌, ◌<◌, ℕ, true}
use Rattle.order_free.specs.Users.{is_many, users_in}
use Rattle.order_free.proofs.verdicts.any_many.Given as goal

abbrev pub invariant-loop-x : goal.invariant-loop-x
invariant-loop-x l = (k : ℕ) → k < l.x-index → is_many (users_in l.table k) ≡ true → ⊥
