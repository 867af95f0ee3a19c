use Rattle.std.proofs.Common.{◌≡◌, ◌-◌}
use Rattle.ready_set.specs.Row.{with_row}
use Rattle.ready_set.proofs.members.Members.insert_row.Given as goal

abbrev pub invariant-loop-p : goal.invariant-loop-p
invariant-loop-p l = l.self ≡ with_row l.first (l.p - l.first) l.initial.self
