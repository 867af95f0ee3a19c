use Rattle.std.proofs.Common.{refl, sym, ap, ◌∙◌}
use Rattle.std.specs.Option.{option_copied_mut}
use Rattle.kernel_processes.proofs.Changed.{rewritten}
use Rattle.kernel_processes.proofs.changes.mark_any.Goals as goal

pub returns-in-Some : goal.returns-in-Some
returns-in-Some g c = rewritten c.args.s.now c.args.p _ c.in-Some.x.now _ (sym c.get_mut.ensures.value ∙ ap option_copied_mut c.in-Some.is) refl
