use Rattle.std.proofs.Common.{ap, ◌∙◌}
use Rattle.process_state.proofs.body.lay_by.Goals as goal

pub returns-clause-rests : goal.returns-clause-rests
returns-clause-rests c = ap (λ v. v.items) c.swap.ensures.y_after ∙ c.keep_outer.ensures.items
