use Rattle.std.proofs.Common.{sym, ap, ◌∙◌}
use Rattle.std.specs.Option.{option_copied_mut}
use Rattle.kernel_processes.specs.Moves.{heard}
use Rattle.kernel_processes.proofs.Changed.{rewritten}
use Rattle.kernel_processes.proofs.moves.hear_at.Goals as goal

pub returns-in-Some-clause-changes : goal.returns-in-Some-clause-changes
returns-in-Some-clause-changes g c = rewritten c.args.s.now c.args.p heard c.in-Some.x.now c.hear-heard.new.x (sym c.get_mut.ensures.value ∙ ap option_copied_mut c.in-Some.is) c.hear-heard.ensures.entry
