use Rattle.std.proofs.Common.{◌<◌, ◌≤◌, ◌+◌, ◌⊎◌, inl, inr, arith}
use Rattle.ready_set.proofs.Row.{not_before, not_behind, there, take_absent, take_first, take_last}
use Rattle.ready_set.proofs.ReadySet.remove.Goals as goal
use Rattle.ready_set.proofs.ReadySet.remove.Goals.{then-p-self-via-then-p-self, then-p-self-via-else-p-self+then-self-p}

pub returns-then-p-self-clause-answer : goal.returns-then-p-self-clause-answer
returns-then-p-self-clause-answer c =
    let a = c.self.inside.first in
    let n = c.self.inside.count in
    let r = c.self.inside.members in
    let some : 0 < n = omega (arith, c.if-self-eq0.false) in
    elim c.then-p-self.branch [
      | then-p-self-via-then-p-self w ↦ not_before a n c.args.p r c.self.invariant some c.self.view_is w.if-p-self.true
      | then-p-self-via-else-p-self+then-self-p w ↦ not_behind a n c.args.p r c.self.invariant some c.self.view_is w.if-self-p.true
    ]

pub returns-then-p-self-clause-left : goal.returns-then-p-self-clause-left
returns-then-p-self-clause-left c =
    let a = c.self.inside.first in
    let n = c.self.inside.count in
    let r = c.self.inside.members in
    let some : 0 < n = omega (arith, c.if-self-eq0.false) in
    take_absent a n c.args.p r c.self.invariant some c.self.view_is (elim c.then-p-self.branch [
      | then-p-self-via-then-p-self w ↦ inl w.if-p-self.true
      | then-p-self-via-else-p-self+then-self-p w ↦ inr w.if-self-p.true
    ])

pub returns-then-p-self-2-clause-answer : goal.returns-then-p-self-2-clause-answer
returns-then-p-self-2-clause-answer c =
    let a = c.self.inside.first in
    let n = c.self.inside.count in
    let r = c.self.inside.members in
    let some : 0 < n = omega (arith, c.if-self-eq0.false) in
    there a n c.args.p r c.self.invariant some c.self.view_is (omega (arith, c.if-p-self.false)) (omega (arith, c.if-self-p.false))

pub returns-then-p-self-2-clause-left : goal.returns-then-p-self-2-clause-left
returns-then-p-self-2-clause-left c =
    let a = c.self.inside.first in
    let n = c.self.inside.count in
    let r = c.self.inside.members in
    let some : 0 < n = omega (arith, c.if-self-eq0.false) in
    (take_first a n c.args.p r c.self.invariant some c.self.view_is c.if-p-self-2.true).1

pub returns-then-p-self-3-clause-answer : goal.returns-then-p-self-3-clause-answer
returns-then-p-self-3-clause-answer c =
    let a = c.self.inside.first in
    let n = c.self.inside.count in
    let r = c.self.inside.members in
    let some : 0 < n = omega (arith, c.if-self-eq0.false) in
    there a n c.args.p r c.self.invariant some c.self.view_is (omega (arith, c.if-p-self.false)) (omega (arith, c.if-self-p.false))

pub returns-then-p-self-3-clause-left : goal.returns-then-p-self-3-clause-left
returns-then-p-self-3-clause-left c =
    let a = c.self.inside.first in
    let n = c.self.inside.count in
    let r = c.self.inside.members in
    let some : 0 < n = omega (arith, c.if-self-eq0.false) in
    (take_last a n c.args.p r c.self.invariant some c.self.view_is c.if-p-self-3.true).1

pub returns-else-p-self-3-clause-answer : goal.returns-else-p-self-3-clause-answer
returns-else-p-self-3-clause-answer c =
    let a = c.self.inside.first in
    let n = c.self.inside.count in
    let r = c.self.inside.members in
    let some : 0 < n = omega (arith, c.if-self-eq0.false) in
    there a n c.args.p r c.self.invariant some c.self.view_is (omega (arith, c.if-p-self.false)) (omega (arith, c.if-self-p.false))
