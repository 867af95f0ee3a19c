use Rattle.std.proofs.Common.{sym, ap, ◌∙◌}
use Rattle.kernel_bodies.specs.Layers.{held}
use Rattle.kernel_bodies.specs.Sought.{among, unwinds}
use Rattle.process_state.proofs.Showing.{goal_else}
use Rattle.process_state.proofs.body.Body.has_goal.Goals as goal

pub returns-else-is_some : goal.returns-else-is_some
returns-else-is_some c = λ a.
    let b = c.args.self.now in
    c.some_unwinds.ensures ∙ ap (among unwinds) c.as_slice.ensures.value ∙ sym (goal_else a b.goal b.frames.items (held b.frames.items b.statement) (sym c.is_some.ensures ∙ c.if-is_some.false))
