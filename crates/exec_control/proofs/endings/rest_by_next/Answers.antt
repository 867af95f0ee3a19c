use Rattle.std.proofs.Common.{None, false, sym, subst}
use Rattle.exec_data.specs.SimModel.Configuration.{change_instance}
use Rattle.exec_data.specs.SimModel.Control.{next_wait}
use Rattle.exec_data.specs.SimModel.Waits.{leaves_stack}
use Rattle.exec_data.specs.KernelProcesses.Moved.{IsTop}
use Rattle.exec_data.specs.KernelState.Kernel.{StandsFor}
use Rattle.exec_control.proofs.endings.rest_by_next.Goals as goal

pub rest_by-requires-clause-top : goal.rest_by-requires-clause-top
rest_by-requires-clause-top c = subst (λ s. IsTop c.args.p s.items) (sym c.take_trigger-t.ensures.stack) c.requires.top

pub returns-clause-moves : goal.returns-clause-moves
returns-clause-moves c d i h there =
    subst (λ u. StandsFor c.rest_by.new.k (leaves_stack (change_instance (change_instance d c.args.p (λ j. record j { trigger = None })) c.args.p (λ j. record j { started = false; wait = (next_wait u).wait; deadline = (next_wait u).deadline }))))
    (sym (c.take_trigger-t.ensures.shown d i h there))
    (c.rest_by.ensures.moves (change_instance d c.args.p (λ j. record j { trigger = None })) (c.take_trigger-t.ensures.moves d h))
