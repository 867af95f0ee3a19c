use Rattle.std.proofs.Common.{◌<◌, arith}
use Rattle.ready_set.proofs.Row.{begins, put_behind, put_before, put_again}
use Rattle.ready_set.proofs.ReadySet.insert.Goals as goal

pub invariant_of-self : goal.invariant_of-self
invariant_of-self c =
    (begins c.self.inside.first c.self.inside.count c.args.p c.self.inside.members c.if-self-eq0.true c.self.view_is (c.is_empty.ensures c.if-is_empty.true) c.requires.room c.requires.below).0

pub returns-then-is_empty : goal.returns-then-is_empty
returns-then-is_empty c =
    (begins c.self.inside.first c.self.inside.count c.args.p c.self.inside.members c.if-self-eq0.true c.self.view_is (c.is_empty.ensures c.if-is_empty.true) c.requires.room c.requires.below).1

pub invariant_of-self-then-p-self : goal.invariant_of-self-then-p-self
invariant_of-self-then-p-self c =
    let a = c.self.inside.first in
    let n = c.self.inside.count in
    let r = c.self.inside.members in
    let some : 0 < n = omega (arith, c.if-self-eq0.false) in
    (put_behind a n c.args.p r c.self.invariant some c.self.view_is c.requires.room c.requires.below c.if-p-self.true).0

pub returns-then-p-self : goal.returns-then-p-self
returns-then-p-self c =
    let a = c.self.inside.first in
    let n = c.self.inside.count in
    let r = c.self.inside.members in
    let some : 0 < n = omega (arith, c.if-self-eq0.false) in
    (put_behind a n c.args.p r c.self.invariant some c.self.view_is c.requires.room c.requires.below c.if-p-self.true).1

pub invariant_of-self-then-p-self-2 : goal.invariant_of-self-then-p-self-2
invariant_of-self-then-p-self-2 c =
    let a = c.self.inside.first in
    let n = c.self.inside.count in
    let r = c.self.inside.members in
    let some : 0 < n = omega (arith, c.if-self-eq0.false) in
    (put_before a n c.args.p r c.self.invariant some c.self.view_is c.requires.room c.if-p-self-2.true).0

pub returns-then-p-self-2 : goal.returns-then-p-self-2
returns-then-p-self-2 c =
    let a = c.self.inside.first in
    let n = c.self.inside.count in
    let r = c.self.inside.members in
    let some : 0 < n = omega (arith, c.if-self-eq0.false) in
    (put_before a n c.args.p r c.self.invariant some c.self.view_is c.requires.room c.if-p-self-2.true).1

pub returns-else-self-p : goal.returns-else-self-p
returns-else-self-p c =
    let a = c.self.inside.first in
    let n = c.self.inside.count in
    let r = c.self.inside.members in
    let some : 0 < n = omega (arith, c.if-self-eq0.false) in
    put_again a n c.args.p r c.self.invariant some c.self.view_is (omega (arith, c.if-p-self-3.false)) (omega (arith, c.if-self-p.false, c.if-p-self.false))
