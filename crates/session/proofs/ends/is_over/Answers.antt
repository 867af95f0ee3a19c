use Rattle.session.proofs.Idle.{idle_is_over}
use Rattle.session.proofs.ends.is_over.Goals as goal

pub returns-in-Idle : goal.returns-in-Idle
returns-in-Idle c = λ d h left. rw c.has_none_left.ensures (idle_is_over _ d _ h c.if-k.false c.in-Idle.is left)
