use Rattle.std.proofs.Common.{refl, ap, ◌∙◌, ◌++◌}
use Rattle.kernel_state.specs.KernelEvents.Numbered.{fixed}
use Rattle.kernel_state.specs.SimModel.Phases.{is_delta, is_zero_timeout, due_events}
use Rattle.kernel_phases.proofs.Setting.{all_set_off, taken_between}
use Rattle.kernel_phases.proofs.due.notify_deltas.Goals as goal

pub set_off-requires : goal.set_off-requires
set_off-requires c = taken_between c.args.k.now is_delta is_zero_timeout refl c.take_deltas.new.self c.take_deltas.ensures.left c.take_zero.new.s c.take_zero.ensures.takes c.requires.sound c.take_zero.ensures.sound

pub returns-clause-moves : goal.returns-clause-moves
returns-clause-moves c = all_set_off c.args.k.now is_delta is_zero_timeout refl c.take_deltas.new.self c.take_deltas.ensures.left c.take_zero.new.s c.take_zero.ensures.takes
    c.take_deltas.new.out.items c.set_off.new.k (c.take_deltas.ensures.taken ∙ ap (λ xs. fixed xs ++ due_events is_delta 0 c.args.k.now.events) c.requires.room.none) c.set_off.ensures.moves
