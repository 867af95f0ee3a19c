use Rattle.std.proofs.Common.{◌≡◌, List, Ok, false, true, option_map, sym, ap, ◌∙◌}
use Rattle.kernel_view.specs.EventCore.declared.event.Ev.{Ev}
use Rattle.flat_design.specs.Code.{term_of, event_terms, await_term}
use Rattle.kernel_view.specs.SimModel.Configuration.{Trigger}
use Rattle.kernel_view.specs.SimModel.Waiting.{awaited, awaits}
use Rattle.kernel_view.specs.KernelProcesses.Moved.{wait_as}
use Rattle.kernel_view.specs.Standings.{Everywhere, next_here}
use Rattle.exec_events.specs.Requests.{wait_for}
use Rattle.exec_events.specs.Named.{events_named}
use Rattle.exec_events.proofs.Gathered.{waits_for, if_found}
use Rattle.exec_events.proofs.triggers.wait_of.Goals as goal

pub returns-in-Any : goal.returns-in-Any
returns-in-Any c =
    if_found (λ w. Everywhere c.args.k.now c.args.p (λ h. (xs : List Ev) → events_named h (event_terms c.as_slice.result.now) ≡ Ok xs → wait_as w ≡ wait_for false xs))
    (λ w. Everywhere c.args.k.now c.args.p (λ h. (t : Trigger) → awaited h (await_term c.args.how.now) ≡ Ok t → wait_as w ≡ t.wait))
    c.for_events.result c.for_events.ensures
    (λ w found d i h there t is. waits_for (next_here d c.args.p i) (wait_for false) (event_terms c.as_slice.result.now) (option_map term_of c.in-Any.field-1) t (wait_as w) (found d i h there)
    (ap (λ es. awaits (next_here d c.args.p i) (wait_for false) (event_terms es) (option_map term_of c.in-Any.field-1)) c.as_slice.ensures.value
    ∙ ap (λ y. awaited (next_here d c.args.p i) (await_term y)) (sym c.in-Any.is) ∙ is))

pub returns-in-All : goal.returns-in-All
returns-in-All c =
    if_found (λ w. Everywhere c.args.k.now c.args.p (λ h. (xs : List Ev) → events_named h (event_terms c.as_slice-in-All.result.now) ≡ Ok xs → wait_as w ≡ wait_for true xs))
    (λ w. Everywhere c.args.k.now c.args.p (λ h. (t : Trigger) → awaited h (await_term c.args.how.now) ≡ Ok t → wait_as w ≡ t.wait))
    c.for_events-in-All.result c.for_events-in-All.ensures
    (λ w found d i h there t is. waits_for (next_here d c.args.p i) (wait_for true) (event_terms c.as_slice-in-All.result.now) (option_map term_of c.in-All.field-1) t (wait_as w) (found d i h there)
    (ap (λ es. awaits (next_here d c.args.p i) (wait_for true) (event_terms es) (option_map term_of c.in-All.field-1)) c.as_slice-in-All.ensures.value
    ∙ ap (λ y. awaited (next_here d c.args.p i) (await_term y)) (sym c.in-All.is) ∙ is))
