use Rattle.std.proofs.Common.{◌≡◌, ◌+◌, length, ap, arith}
use Rattle.std.specs.Prelude.{count_by}
use Rattle.dmi_map.specs.Regions.{reaches}
use Rattle.dmi_map.proofs.RegionLemmas.{still}
use Rattle.dmi_map.proofs.grants.Grants.invalidate.Goals as goal

pub overflow_sub-result : goal.overflow_sub-result
overflow_sub-result c = let taken = c.strike_out.ensures.taken in let before = c.len-before.ensures in let after = c.len.ensures in omega arith

pub invariant_of-self : goal.invariant_of-self
invariant_of-self c = still c.args.low c.args.high c.self.inside.regions.items _ c.strike_out.ensures.left c.self.invariant

pub returns-clause-taken : goal.returns-clause-taken
returns-clause-taken c =
    let taken : length c.strike_out.new.regions.items + count_by (reaches c.args.low c.args.high) c.args.self.now ≡ length c.args.self.now = rw (← c.self.view_is) c.strike_out.ensures.taken in
    let same : length c.self.inside.regions.items ≡ length c.args.self.now = ap length c.self.view_is in
    let before = c.len-before.ensures in
    let after = c.len.ensures in
    omega (arith, c.self.inside.regions.ok.0)
