use Rattle.std.proofs.Common.{sym, ◌∙◌}
use Rattle.kernel_processes.proofs.Changed.{then_changes}
use Rattle.kernel_processes.proofs.Moving.{suspends, suspends_one_that_runs}
use Rattle.kernel_processes.proofs.control.suspend.Goals as goal

pub returns-then-unready-clause-sound : goal.returns-then-unready-clause-sound
returns-then-unready-clause-sound g c = (suspends_one_that_runs c.args.s.now c.mark_kept.new.s c.args.p c.requires.sound c.requires.lives (sym c.unready.ensures.answer ∙ c.if-unready.true)
    (then_changes c.args.p _ _ c.args.s.now _ _ (then_changes c.args.p _ _ c.args.s.now _ _ c.unready.ensures.changes c.mark_suspended.ensures) c.mark_kept.ensures)).sound

pub stay_kept-requires-clause-sound : goal.stay_kept-requires-clause-sound
stay_kept-requires-clause-sound g c = (suspends c.args.s.now c.mark_suspended-2.new.s c.args.p c.requires.sound c.requires.lives (then_changes c.args.p _ _ c.args.s.now _ _ c.unready.ensures.changes c.mark_suspended-2.ensures)).sound

pub returns-else-yields-clause-sound : goal.returns-else-yields-clause-sound
returns-else-yields-clause-sound g c = (suspends c.args.s.now c.mark_suspended-2.new.s c.args.p c.requires.sound c.requires.lives (then_changes c.args.p _ _ c.args.s.now _ _ c.unready.ensures.changes c.mark_suspended-2.ensures)).sound
