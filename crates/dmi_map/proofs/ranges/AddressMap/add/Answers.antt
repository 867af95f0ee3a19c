use Rattle.std.proofs.Common.{refl, is_ok}
use Rattle.dmi_map.proofs.RangeLemmas.{in_range, overlaps, is_accepted, none_shares, apart_pushed}
use Rattle.dmi_map.proofs.ranges.AddressMap.add.Goals as goal

pub returns-in-Some-clause-refused : goal.returns-in-Some-clause-refused
returns-in-Some-clause-refused c =
    let is = in_range c.args.low c.args.size c.if-size-eq0.false c.if-low-size.false c.ranges.low.fits in
    rw (overlaps c.args.self.now c.args.low c.args.size is c.in-Some.other c.in-Some.ensures) refl

pub returns-in-Some-clause-accepted : goal.returns-in-Some-clause-accepted
returns-in-Some-clause-accepted c =
    let is = in_range c.args.low c.args.size c.if-size-eq0.false c.if-low-size.false c.ranges.low.fits in
    rw (overlaps c.args.self.now c.args.low c.args.size is c.in-Some.other c.in-Some.ensures) tt

pub invariant_of-self : goal.invariant_of-self
invariant_of-self c =
    let is = in_range c.args.low c.args.size c.if-size-eq0.false c.if-low-size.false c.ranges.low.fits in
    apart_pushed c.args.low c.args.size c.args.target c.self.inside.ranges.items c.push.new.self.items (is_ok c.push.result) c.push.ensures.items is
    (none_shares c.self.inside.ranges.items c.args.low c.args.size (rw c.self.view_is c.in_default.ensures)) c.self.invariant

pub returns-clause-refused : goal.returns-clause-refused
returns-clause-refused c =
    let is = in_range c.args.low c.args.size c.if-size-eq0.false c.if-low-size.false c.ranges.low.fits in
    rw (is_accepted c.args.self.now c.args.low c.args.size is c.in_default.ensures) tt
