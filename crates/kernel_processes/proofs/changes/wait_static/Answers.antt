use Rattle.std.proofs.Common.{sym, ap, ◌∙◌}
use Rattle.std.specs.Option.{option_copied_mut}
use Rattle.instance_table.specs.declared.instances.Waiting.TheVariants as waiting
use Rattle.kernel_processes.specs.Moves.{waiting_as}
use Rattle.kernel_processes.specs.declared.parts.Wait.TheVariants as wait
use Rattle.kernel_processes.proofs.Changed.{listed_static, listed_nowhere}
use Rattle.kernel_processes.proofs.changes.wait_static.Goals as goal

pub returns-in-Some : goal.returns-in-Some
returns-in-Some g c =
    let x = c.in-Some.x.now in
    listed_static c.args.s.now c.args.p _ (waiting_as c.args.rests wait.Static c.args.deadline) x _ _ (sym c.get_mut.ensures.value ∙ ap option_copied_mut c.in-Some.is)
    (ap (λ b. record x { wait = waiting.Static; deadline = c.args.deadline; started = b }) c.begun_still-x.ensures) c.as_slice.ensures c.wait_any.ensures

pub returns-in-None : goal.returns-in-None
returns-in-None g c =
    listed_nowhere c.args.s.now c.args.p _ (waiting_as c.args.rests wait.Static c.args.deadline) (sym c.get_mut.ensures.value ∙ ap option_copied_mut c.in-None.is) c.leave.ensures
