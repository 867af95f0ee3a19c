use Rattle.std.proofs.Common.{sym, ap, ◌∙◌}
use Rattle.std.specs.Option.{option_copied_mut}
use Rattle.kernel_processes.specs.Moves.{waiting_by}
use Rattle.kernel_processes.proofs.Changed.{rewritten}
use Rattle.kernel_processes.proofs.changes.mark_wait.Goals as goal

pub returns-in-Some : goal.returns-in-Some
returns-in-Some g c =
    let x = c.in-Some.x.now in
    let t = c.args.t.now in
    rewritten c.args.s.now c.args.p _ x _ (sym c.get_mut.ensures.value ∙ ap option_copied_mut c.in-Some.is)
    (ap (λ w. record x { wait = w; deadline = t.deadline; started = c.begun_still-x.result }) c.waiting_by-x.ensures
    ∙ ap (λ b. record x { wait = waiting_by t.wait; deadline = t.deadline; started = b }) c.begun_still-x.ensures)
