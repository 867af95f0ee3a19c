use Rattle.std.proofs.Common.{◌≡◌, true, refl, sym, ap, ◌∙◌, subst}
use Rattle.std.specs.Prelude.{Ok, Err}
use Rattle.kernel_processes.specs.FlatDesign.declared.faults.RunFault.TheVariants as fault
use Rattle.kernel_processes.specs.SimModel.Residual.{settle}
use Rattle.kernel_processes.specs.SimModel.Configuration.{change, instance_at, arena}
use Rattle.kernel_processes.specs.SimModel.Control.{unless_ended, ends_or_restarts}
use Rattle.kernel_processes.specs.SimModel.Statements.{settled_in}
use Rattle.kernel_processes.specs.InstanceViews.{is_on}
use Rattle.kernel_processes.specs.Moved.{IsTop}
use Rattle.kernel_state.specs.Ways.{moved, moved_on}
use Rattle.kernel_state.proofs.Ending.{alive_in, still_alive, is_refused, follows_any, follows_as}
use Rattle.kernel_state.proofs.control.unwind_other.Goals as goal

pub end_or_restart-requires-clause-place : goal.end_or_restart-requires-clause-place
end_or_restart-requires-clause-place c = subst (λ s. is_on s.items c.args.q ≡ true → IsTop c.args.q s.items) (sym c.move_on.ensures.stack) (c.is_below_top.ensures.place c.if-is_below_top.false)

pub returns-then-is_below_top-clause-does : goal.returns-then-is_below_top-clause-does
returns-then-is_below_top-clause-does c = λ d i h there.
    let q = c.args.q in
    let p = c.args.p in
    let e = moved_on c.args.way (settled_in d p i.residual) p (settle (arena d) i.residual) in
    let alive = alive_in c.args.k.now d h q (c.requires.sound.schedule.active q (c.is_below_top.ensures.on c.if-is_below_top.true)) in
    let settled = still_alive d.processes.instances p q (λ j. record j { residual = settle (arena d) i.residual }) (λ j. refl) alive.0 alive.1.0 alive.1.1 in
    let past = still_alive (change d.processes.instances p (λ j. record j { residual = settle (arena d) i.residual })) p q (λ j. record j { residual = moved c.args.way (settle (arena d) i.residual) }) (λ j. refl) settled.0 settled.1.0 settled.1.1 in
    follows_as c.args.k.now d (Err (fault.ControlOnActive q)) (unless_ended e (instance_at e q) (λ j. ends_or_restarts e q j c.args.end)) (Err (fault.ControlOnActive q))
    (is_refused e q c.args.end past.0 past.1.0 past.1.1 (sym (c.is_below_top.ensures.below d h) ∙ c.if-is_below_top.true)) (refl, h)

pub returns-clause-does : goal.returns-clause-does
returns-clause-does c = λ d i h there.
    let q = c.args.q in
    let p = c.args.p in
    let e = moved_on c.args.way (settled_in d p i.residual) p (settle (arena d) i.residual) in
    follows_any c.end_or_restart.new.k e d (unless_ended e (instance_at e q) (λ j. ends_or_restarts e q j c.args.end)) (c.end_or_restart.ensures.follows e (c.move_on.ensures.steps d i h there))
