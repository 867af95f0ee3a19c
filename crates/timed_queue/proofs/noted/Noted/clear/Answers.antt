use Rattle.std.proofs.Common.{sym, ap, ◌∙◌}
use Rattle.timed_queue.specs.Timed.{Timed, without}
use Rattle.timed_queue.proofs.Alone.{without_absent}
use Rattle.timed_queue.proofs.Notes.{has, noted_cleared}
use Rattle.timed_queue.proofs.noted.Noted.clear.Goals as goal

pub returns-then-is_out : goal.returns-then-is_out
returns-then-is_out c =
    let q = c.self.inside.queue in
    sym c.self.view_is ∙ without_absent q c.args.name (c.is_out.ensures (has q) c.self.invariant c.if-is_out.true) ∙ ap (λ (w : Timed). without w c.args.name) c.self.view_is

pub invariant_of-self : goal.invariant_of-self
invariant_of-self c =
    noted_cleared c.self.inside.flags.items c.note.new.flags.items c.self.inside.queue c.clear.new.self c.args.name c.clear.ensures c.note.ensures.long c.note.ensures.others c.self.invariant
