use Rattle.std.proofs.Common.{◌≡◌, map, Ok, sym, ap, ◌∙◌}
use Rattle.flat_design.specs.Code.{arena_of, body_at, term_of}
use Rattle.exec_data.specs.SimModel.Calls.{first_arguments, locals_in}
use Rattle.exec_data.specs.KernelView.Standings.{next_here}
use Rattle.exec_calls.proofs.Gathering.{one_joins, all_given, given_from}
use Rattle.exec_calls.proofs.given.first_arguments.Goals as goal

pub loop-place-init : goal.loop-place-init
loop-place-init c = λ d i h there vs is. given_from c.new-values.result vs _ c.new-values.ensures is

pub loop-place-preserved : goal.loop-place-preserved
loop-place-preserved c = λ d i h there vs is.
    one_joins (next_here d c.args.p i) c.locals_of-locals.result.now c.args.arguments.now c.loop-place.place c.index-arguments-place.result c.loop-place-test.true c.index-arguments-place.is c.loop-place.values vs (c.loop-place.invariant d i h there vs is)
    c.eval_at.result c.add_argument.new.values (c.eval_at.ensures d i h there) c.in-Ok.ensures

pub returns : goal.returns
returns c = λ d i h there vs is.
    let here = next_here d c.args.p i in
    let es = c.args.arguments.now in
    let given : first_arguments here c.locals_of-locals.result.now 0 (map term_of es) ≡ Ok vs =
    ap (λ ls. first_arguments here ls 0 (map term_of es)) (c.locals_of-locals.ensures ∙ sym (ap (λ y. locals_in (body_at (arena_of y.code) c.args.function)) h.design)) ∙ is in
    let all : Ok c.loop-place.values ≡ Ok vs = all_given here c.locals_of-locals.result.now es c.loop-place.place c.loop-place.values c.loop-place-test.false ∙ c.loop-place.invariant d i h there vs given in
    cc
