use Rattle.std.proofs.Common.{◌<◌, arith}
use Rattle.ready_set.proofs.Row.{not_before, told_below}
use Rattle.ready_set.proofs.ReadySet.has.Goals as goal

pub returns-then-p-self : goal.returns-then-p-self
returns-then-p-self c =
    let a = c.self.inside.first in
    let n = c.self.inside.count in
    let r = c.self.inside.members in
    let some : 0 < n = omega (arith, c.if-self-eq0.false) in
    not_before a n c.args.p r c.self.invariant some c.self.view_is c.if-p-self.true

pub returns : goal.returns
returns c =
    let a = c.self.inside.first in
    let n = c.self.inside.count in
    let r = c.self.inside.members in
    let some : 0 < n = omega (arith, c.if-self-eq0.false) in
    told_below a n c.args.p r c.self.invariant some c.self.view_is (omega (arith, c.if-p-self.false))
