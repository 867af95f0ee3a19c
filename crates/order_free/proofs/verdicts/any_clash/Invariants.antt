use Rattle.std.proofs.Common.{◌≡◌, ◌<◌, ℕ, true}
use Rattle.order_free.specs.Users.{is_clash, users_in}
use Rattle.order_free.proofs.verdicts.any_clash.Given as goal

abbrev pub invariant-loop-n : goal.invariant-loop-n
invariant-loop-n l = (k : ℕ) → k < l.n → is_clash (users_in l.cancelled k) (users_in l.notified k) ≡ true → ⊥
