use Rattle.std.proofs.Common.{subst}
use Rattle.kernel_state.specs.KernelEvents.Numbered.{fixed}
use Rattle.kernel_state.specs.SimModel.Waits.{fire_all}
use Rattle.kernel_state.specs.Moves.{Moves}
use Rattle.kernel_phases.proofs.Setting.{sets_off, sound_schedule}
use Rattle.kernel_phases.proofs.due.set_off.Goals as goal

pub returns-clause-moves : goal.returns-clause-moves
returns-clause-moves c = sets_off c.args.events.now.items c.args.k.now c.fire_events.new.k c.wake_due.new.s
    (subst (λ es. Moves c.args.k.now c.fire_events.new.k (fire_all (fixed es))) c.as_slice.ensures.value c.fire_events.ensures.moves) c.fire_events.ensures.due c.wake_due.ensures.wakes

pub returns-clause-sound : goal.returns-clause-sound
returns-clause-sound c = sound_schedule c.fire_events.new.k c.fire_events.ensures.between c.wake_due.new.s c.wake_due.ensures.sound c.wake_due.ensures.wakes.bodies c.wake_due.ensures.wakes.next c.wake_due.ensures.nobody
