use Rattle.std.proofs.Common.{sym, ◌∙◌}
use Rattle.kernel_processes.proofs.Changed.{then_changes}
use Rattle.kernel_processes.proofs.Moving.{resumes, resumes_one_kept}
use Rattle.kernel_processes.proofs.control.resume.Goals as goal

pub returns-then-mark_resumed-clause-sound : goal.returns-then-mark_resumed-clause-sound
returns-then-mark_resumed-clause-sound g c = (resumes_one_kept c.args.s.now c.join.new.s c.args.p c.requires.sound c.requires.lives (sym c.mark_resumed.ensures.answer ∙ c.if-mark_resumed.true) (then_changes c.args.p _ _ c.args.s.now _ _ c.mark_resumed.ensures.changes c.join.ensures.changes)).sound

pub returns-else-mark_resumed-clause-sound : goal.returns-else-mark_resumed-clause-sound
returns-else-mark_resumed-clause-sound g c = (resumes c.args.s.now c.mark_resumed.new.s c.args.p c.requires.sound c.requires.lives c.mark_resumed.ensures.changes).sound
