use Rattle.std.proofs.Common.{◌≡◌, ◌-◌, ℕ, vec_len}
use Rattle.order_free.specs.Users.{users_in}
use Rattle.order_free.proofs.tables.grow.Given as goal

abbrev pub invariant-loop-table : goal.invariant-loop-table
invariant-loop-table l = (k : ℕ) → users_in l.table.items k ≡ users_in l.fn.table.items k

abbrev pub decreases-loop-table : goal.decreases-loop-table
decreases-loop-table l = l.count - vec_len l.table
