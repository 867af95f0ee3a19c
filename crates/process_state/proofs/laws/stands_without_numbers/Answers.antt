use Rattle.std.proofs.Common.{ap, ◌∙◌}
use Rattle.kernel_bodies.specs.Layers.{held, inside_frames, standing, under}
use Rattle.kernel_bodies.proofs.Passing.{through_both, through_frames, through_goal}
use Rattle.process_state.proofs.Stepping.{strip_standing}
use Rattle.process_state.proofs.laws.stands_without_numbers.Goals as goal

pub returns : goal.returns
returns c = λ a b.
    let xs = b.frames.items in
    let o = held xs b.statement in
    (through_both a (under b.goal) (inside_frames a xs) (through_goal a b.goal) (through_frames a xs)).strips (standing o) ∙ ap (λ r. under b.goal (inside_frames a xs r)) (strip_standing o)
