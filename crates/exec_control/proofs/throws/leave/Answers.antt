use Rattle.std.proofs.Common.{sym, ap, ◌∙◌, arith}
use Rattle.std.specs.Option.{option_copied}
use Rattle.exec_data.proofs.KernelState.Uses.{pool_sound}
use Rattle.exec_control.proofs.Throwing.{left_moves}
use Rattle.exec_control.proofs.throws.leave.Goals as goal

pub returns-in-Some-clause-moves : goal.returns-in-Some-clause-moves
returns-in-Some-clause-moves c = left_moves c.args.k.now c.args.q c.in-Some.x.now (sym c.get.ensures.value ∙ ap option_copied c.in-Some.is) c.leave_calls.new.transactions c.args.e c.leave_calls.ensures.moves c.leave_calls.ensures.quantum c.left_calls_end.ensures.calls

pub returns-in-Some-clause-sound : goal.returns-in-Some-clause-sound
returns-in-Some-clause-sound c = pool_sound c.args.k.now c.leave_calls.new.transactions c.args.k.now.made c.requires.sound (omega arith) (c.leave_calls.ensures.within c.args.k.now.made c.requires.sound.payloads)
