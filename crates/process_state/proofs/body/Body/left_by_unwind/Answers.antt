use Rattle.std.proofs.Common.{sym, ap, ◌∙◌}
use Rattle.std.specs.Prelude.{slice_get}
use Rattle.kernel_bodies.specs.Layers.{inside_frames, held, standing}
use Rattle.kernel_bodies.specs.Unwound.{left_all}
use Rattle.kernel_bodies.proofs.Seeking.{left_frames}
use Rattle.process_state.proofs.Stepping.{left_standing}
use Rattle.process_state.proofs.Unwinding.{left_under}
use Rattle.process_state.proofs.body.Body.left_by_unwind.Goals as goal

pub returns-clause-value : goal.returns-clause-value
returns-clause-value c = λ a.
    let b = c.args.self.now in
    let xs = b.frames.items in
    let o = held xs b.statement in
    c.left_by.ensures.value
    ∙ ap (λ zs. slice_get (left_all zs) c.args.number) c.as_slice.ensures.value
    ∙ ap (λ vs. slice_get vs c.args.number) (sym (left_under b.goal (inside_frames a xs (standing o)) ∙ left_frames a xs (standing o) (left_standing o)))
