use Rattle.std.proofs.Common.{ap}
use Rattle.exec_data.specs.EventCore.declared.event.Ev.TheVariants as ev
use Rattle.exec_data.proofs.KernelState.Frames.{fired_moves, fired_sound}
use Rattle.exec_control.proofs.instances.tell_reset.Goals as goal

pub returns-clause-moves : goal.returns-clause-moves
returns-clause-moves c = fired_moves c.args.k.now c.requires c.fire.new.s c.fire.ensures.sound (ev.Restarted c.args.p) c.fire.ensures.rouses

pub returns-clause-stack : goal.returns-clause-stack
returns-clause-stack c = ap (λ v. v.items) c.fire.ensures.rouses.stack

pub returns-clause-sound : goal.returns-clause-sound
returns-clause-sound c = fired_sound c.args.k.now c.requires c.fire.new.s c.fire.ensures.sound (ev.Restarted c.args.p) c.fire.ensures.rouses
