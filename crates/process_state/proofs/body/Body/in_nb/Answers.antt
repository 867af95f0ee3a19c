use Rattle.std.proofs.Common.{sym, ap, ◌∙◌}
use Rattle.kernel_bodies.specs.Layers.{held}
use Rattle.kernel_bodies.specs.Sought.{among, is_open_nonblocking}
use Rattle.process_state.proofs.Showing.{nb_left}
use Rattle.process_state.proofs.body.Body.in_nb.Goals as goal

pub returns : goal.returns
returns c = λ a.
    let b = c.args.self.now in
    c.some_nonblocking.ensures ∙ ap (among is_open_nonblocking) c.as_slice.ensures.value ∙ sym (nb_left a b.goal b.frames.items (held b.frames.items b.statement))
