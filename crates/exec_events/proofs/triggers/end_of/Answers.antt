use Rattle.std.proofs.Common.{false, true, option_map, sym, ap, ◌∙◌}
use Rattle.flat_design.specs.Code.{term_of, event_terms, await_term}
use Rattle.kernel_view.specs.SimModel.Waiting.{awaited, awaits}
use Rattle.kernel_view.specs.Standings.{next_here}
use Rattle.exec_events.specs.Requests.{wait_for, ends}
use Rattle.exec_events.proofs.triggers.end_of.Goals as goal

pub returns-in-For : goal.returns-in-For
returns-in-For c = λ d i h there. c.after.ensures d i h there ∙ ap (λ w. ends (awaited (next_here d c.args.p i) (await_term w))) (sym c.in-For.is)

pub returns-in-Any : goal.returns-in-Any
returns-in-Any c = λ d i h there.
    c.until.ensures d i h there (wait_for false)
    ∙ ap (λ es. ends (awaits (next_here d c.args.p i) (wait_for false) (event_terms es) (option_map term_of c.in-Any.time))) c.as_slice.ensures.value
    ∙ ap (λ w. ends (awaited (next_here d c.args.p i) (await_term w))) (sym c.in-Any.is)

pub returns-in-All : goal.returns-in-All
returns-in-All c = λ d i h there.
    c.until-in-All.ensures d i h there (wait_for true)
    ∙ ap (λ es. ends (awaits (next_here d c.args.p i) (wait_for true) (event_terms es) (option_map term_of c.in-All.time))) c.as_slice-in-All.ensures.value
    ∙ ap (λ w. ends (awaited (next_here d c.args.p i) (await_term w))) (sym c.in-All.is)
