use Rattle.std.proofs.Common.{refl, ap, ◌∙◌, ◌++◌}
use Rattle.kernel_state.specs.KernelEvents.Numbered.{fixed}
use Rattle.kernel_state.specs.SimModel.Phases.{is_at, is_due_at, due_events, now_becomes}
use Rattle.kernel_phases.proofs.Setting.{all_set_off, taken_between}
use Rattle.kernel_phases.proofs.times.notify_at.Goals as goal

pub set_off-requires : goal.set_off-requires
set_off-requires c = taken_between c.now_becomes.new.k (is_at c.args.t.0) (is_due_at c.args.t.0) refl c.take_at.new.self c.take_at.ensures.left c.take_due.new.s c.take_due.ensures.takes c.now_becomes.ensures.sound c.take_due.ensures.sound

pub returns-clause-moves : goal.returns-clause-moves
returns-clause-moves c d h = all_set_off c.now_becomes.new.k (is_at c.args.t.0) (is_due_at c.args.t.0) refl c.take_at.new.self c.take_at.ensures.left c.take_due.new.s c.take_due.ensures.takes
    c.take_at.new.out.items c.set_off.new.k (c.take_at.ensures.taken ∙ ap (λ xs. fixed xs ++ due_events (is_at c.args.t.0) 0 c.now_becomes.new.k.events) c.requires.room.none) c.set_off.ensures.moves
    (now_becomes d c.args.t.0) (c.now_becomes.ensures.moves d h)
