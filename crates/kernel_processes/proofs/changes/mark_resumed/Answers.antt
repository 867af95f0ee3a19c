use Rattle.std.proofs.Common.{false, sym, ap, ◌∙◌}
use Rattle.std.specs.Option.{option_copied_mut}
use Rattle.kernel_processes.proofs.Changed.{rewritten}
use Rattle.kernel_processes.proofs.changes.mark_resumed.Goals as goal

pub returns-in-Some-clause-changes : goal.returns-in-Some-clause-changes
returns-in-Some-clause-changes g c = rewritten c.args.s.now c.args.p _ c.in-Some.x.now _ (sym c.get_mut.ensures.value ∙ ap option_copied_mut c.in-Some.is)
    (ap (λ b. record c.in-Some.x.now { suspended = false; kept = b }) c.replace.ensures.after)
