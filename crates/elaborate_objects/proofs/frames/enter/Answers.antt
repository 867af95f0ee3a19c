use Rattle.std.proofs.Common.{◌≡◌, suc, ◌-◌, ◌+◌, ◌++◌, length, ap, ◌∙◌, arith}
use Rattle.elaborate_objects.specs.Left.{left_of, rows_within}
use Rattle.elaborate_objects.proofs.Lasting.{entered}
use Rattle.elaborate_objects.proofs.frames.enter.Goals as goal

pub returns-clause-left : goal.returns-clause-left
returns-clause-left c = λ t.
    let i = c.args.instance in
    let p = c.args.place in
    let old = c.args.frames.now.items in
    let e : suc (c.args.depth - 1) ≡ c.args.depth = omega (arith, c.if-depth-eq0.false) in
    ap (left_of t (i + 1)) c.in_ok-push.ensures.items
    ∙ entered t (c.args.depth - 1) i p old
    ∙ ap (λ d. rows_within d t i p ++ left_of t (i + 1 + length (rows_within d t i p)) old) e
