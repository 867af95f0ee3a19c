use Rattle.std.proofs.Common.{◌≡◌, ℕ, length, None, Ok, option_map, sym, ap, ◌∙◌, subst, arith}
use Rattle.flat_design.specs.Code as code
use Rattle.flat_design.specs.Code.{AwaitTerm, await_term, event_terms, term_of}
use Rattle.kernel_view.specs.SimModel.Residual.{settle}
use Rattle.kernel_view.specs.SimModel.Configuration.{Trigger, arena}
use Rattle.kernel_view.specs.SimModel.Statements.{settled_in}
use Rattle.kernel_view.specs.SimModel.Storing.{passes}
use Rattle.kernel_view.specs.SimModel.Values.{on_ok}
use Rattle.kernel_view.specs.SimModel.Waiting.{awaited}
use Rattle.kernel_view.specs.SimModel.Waits.{waits}
use Rattle.kernel_view.specs.KernelState.Stopping.{FollowsBut, NoFault}
use Rattle.kernel_view.specs.Standings.{next_here}
use Rattle.exec_events.proofs.Doing.{only_one}
use Rattle.exec_events.proofs.statements.wait_statement.Goals as goal

pub returns-then-len-eq1-clause-does : goal.returns-then-len-eq1-clause-does
returns-then-len-eq1-clause-does c = λ d i h there.
    let events = c.in-Any.events in
    let one : ◌≡◌ {A = ℕ} (length events.items) 1 = omega (arith, c.len.ensures, events.ok.0, c.if-len-eq1.true) in
    let only = only_one events.items c.index.result.now one c.index.ensures in
    subst (λ w. FollowsBut NoFault c.wait_for_one.new.k c.wait_for_one.result d (on_ok (awaited (next_here d c.args.p i) w) (λ (t : Trigger). Ok (waits (passes (settled_in d c.args.p i.residual) c.args.p (settle (arena d) i.residual)) c.args.p t.wait t.deadline))))
    (ap (λ es. code.any (event_terms es) None) (sym only) ∙ ap (λ t. code.any (event_terms events.items) (option_map term_of t)) (sym c.in-None.is) ∙ ap await_term (sym c.in-Any.is))
    (c.wait_for_one.ensures.does d i h there)
