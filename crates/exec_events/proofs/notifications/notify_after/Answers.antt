use Rattle.std.proofs.Common.{Ok, sym, ap, ◌∙◌, subst}
use Rattle.kernel_view.specs.SimModel.Values.{on_ok, moment}
use Rattle.kernel_view.specs.SimModel.Residual.{settle}
use Rattle.kernel_view.specs.SimModel.Configuration.{arena}
use Rattle.kernel_view.specs.SimModel.Statements.{settled_in}
use Rattle.kernel_view.specs.SimModel.Reading.{denotes}
use Rattle.kernel_view.specs.SimModel.Storing.{passes}
use Rattle.kernel_view.specs.SimModel.Waits.{notify}
use Rattle.kernel_view.specs.SimModel.Waiting.{event_number, on_event, when_after}
use Rattle.kernel_view.specs.KernelState.Moves.{Follows}
use Rattle.kernel_view.specs.Standings.{next_here}
use Rattle.exec_events.proofs.notifications.notify_after.Goals as goal

pub returns-in-Some-clause-does : goal.returns-in-Some-clause-does
returns-in-Some-clause-does c = λ d i h there.
    let here = next_here d c.args.p i in
    let first = settled_in d c.args.p i.residual in
    let past = passes first c.args.p (settle (arena d) i.residual) in
    subst (λ o. Follows c.notify.new.k (Ok tt) d (on_ok o (λ v. on_ok (when_after first.cycle.now (moment v)) (λ w. Ok (on_event past (event_number (denotes here c.args.n)) (λ x. notify past x w))))))
    (c.in_ok-value.ensures d i h there)
    (subst (λ o. Follows c.notify.new.k (Ok tt) d (on_ok o (λ w. Ok (on_event past (event_number (denotes here c.args.n)) (λ x. notify past x w)))))
    (c.in_ok-when.ensures ∙ ap (when_after c.args.k.now.cycle.now.0) c.moment.ensures ∙ ap (λ t. when_after t (moment c.in_ok-value.value)) (sym (ap (λ y. y.now) h.cycle)))
    (subst (λ o. Follows c.notify.new.k (Ok tt) d (Ok (on_event past o (λ x. notify past x c.in_ok-when.when))))
    (c.in-Some.ensures ∙ ap event_number (c.denoted_at.ensures d i h there)) (c.notify.ensures.steps d i h there)))

pub returns-in-None-clause-does : goal.returns-in-None-clause-does
returns-in-None-clause-does c = λ d i h there.
    let here = next_here d c.args.p i in
    let first = settled_in d c.args.p i.residual in
    let past = passes first c.args.p (settle (arena d) i.residual) in
    subst (λ o. Follows c.pass.new.k (Ok tt) d (on_ok o (λ v. on_ok (when_after first.cycle.now (moment v)) (λ w. Ok (on_event past (event_number (denotes here c.args.n)) (λ x. notify past x w))))))
    (c.in_ok-value.ensures d i h there)
    (subst (λ o. Follows c.pass.new.k (Ok tt) d (on_ok o (λ w. Ok (on_event past (event_number (denotes here c.args.n)) (λ x. notify past x w)))))
    (c.in_ok-when.ensures ∙ ap (when_after c.args.k.now.cycle.now.0) c.moment.ensures ∙ ap (λ t. when_after t (moment c.in_ok-value.value)) (sym (ap (λ y. y.now) h.cycle)))
    (subst (λ o. Follows c.pass.new.k (Ok tt) d (Ok (on_event past o (λ x. notify past x c.in_ok-when.when))))
    (c.in-None.ensures ∙ ap event_number (c.denoted_at.ensures d i h there)) (c.pass.ensures.steps d i h there)))
