use Rattle.std.proofs.Common.{sym, subst}
use Rattle.kernel_view.specs.KernelProcesses.Moved.{IsTop}
use Rattle.kernel_view.proofs.KernelState.Frames.{lives_on_top}
use Rattle.exec_channels.proofs.slots.past.Goals as goal

pub returns-clause-lives : goal.returns-clause-lives
returns-clause-lives c = lives_on_top c.pass.new.k c.args.p c.pass.ensures.sound (subst (λ s. IsTop c.args.p s.items) (sym c.pass.ensures.stack) c.requires.top)
