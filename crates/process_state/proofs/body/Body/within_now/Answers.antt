use Rattle.std.proofs.Common.{sym, ap, ◌∙◌}
use Rattle.kernel_bodies.specs.Layers.{held}
use Rattle.kernel_bodies.specs.Sought.{last_via}
use Rattle.process_state.proofs.Showing.{within_left}
use Rattle.process_state.proofs.body.Body.within_now.Goals as goal

pub returns : goal.returns
returns c = λ a.
    let b = c.args.self.now in
    c.last_via.ensures ∙ ap last_via c.as_slice.ensures.value ∙ sym (within_left a b.goal b.frames.items (held b.frames.items b.statement))
