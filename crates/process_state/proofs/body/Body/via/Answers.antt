use Rattle.std.proofs.Common.{sym, ap, ◌∙◌}
use Rattle.kernel_bodies.specs.Layers.{held}
use Rattle.kernel_bodies.specs.Sought.{last_call}
use Rattle.process_state.specs.Bodies.{via_of}
use Rattle.process_state.proofs.Showing.{innermost_left}
use Rattle.process_state.proofs.body.Body.via.Goals as goal

pub returns-in-Some : goal.returns-in-Some
returns-in-Some c = λ a.
    let b = c.args.self.now in
    ap via_of (c.in-Some.ensures ∙ ap last_call c.as_slice.ensures.value ∙ sym (innermost_left a b.goal b.frames.items (held b.frames.items b.statement)))
