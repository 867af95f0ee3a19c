use Rattle.std.proofs.Common.{ap, subst, sym}
use Rattle.std.specs.Ordering.{nat_cmp}
use Rattle.std.specs.FinSet as set
use Rattle.room_map.specs.Entries.{IsRising}
use Rattle.ready_set.specs.Layout.{keys_of}
use Rattle.ready_set.proofs.members.Members.new.Goals as goal

pub invariant_of-result : goal.invariant_of-result
invariant_of-result c = subst (IsRising nat_cmp) (sym c.new.ensures.empty) tt

pub returns : goal.returns
returns c = ap (λ es. set.from_list {R = nat_cmp} (keys_of es)) c.new.ensures.empty
