use Rattle.std.proofs.Common.{◌≡◌, suc, ◌-◌, ◌+◌, ◌++◌, ap, ◌∙◌, arith}
use Rattle.elaborate_design.specs.Left.{left_of, links_within}
use Rattle.elaborate_design.specs.Work.{work_of, work_within}
use Rattle.elaborate_design.proofs.Lasting.{entered, entered_work}
use Rattle.elaborate_design.proofs.frames.enter.Goals as goal

pub returns-clause-left : goal.returns-clause-left
returns-clause-left c = λ t os.
    let i = c.args.instance in
    let p = c.args.place in
    let old = c.args.frames.now.items in
    let e : suc (c.args.depth - 1) ≡ c.args.depth = omega (arith, c.if-depth-eq0.false) in
    ap (left_of t os) c.in_ok-push.ensures.items
    ∙ entered t os (c.args.depth - 1) i p old
    ∙ ap (λ d. links_within d t os i p ++ left_of t os old) e

pub returns-clause-work : goal.returns-clause-work
returns-clause-work c = λ t.
    let i = c.args.instance in
    let p = c.args.place in
    let old = c.args.frames.now.items in
    let e : suc (c.args.depth - 1) ≡ c.args.depth = omega (arith, c.if-depth-eq0.false) in
    ap (work_of t) c.in_ok-push.ensures.items
    ∙ entered_work t (c.args.depth - 1) i p old
    ∙ ap (λ d. work_within d t p + work_of t old) e
