use Rattle.std.proofs.Common.{sym, ap, ◌∙◌, true≢false}
use Rattle.std.specs.Prelude.{is_some}
use Rattle.kernel_view.specs.Standings.{next_here}
use Rattle.kernel_view.proofs.evaluating.named_at.Goals as goal

pub returns-in-Some : goal.returns-in-Some
returns-in-Some c = λ d i h there. c.read.ensures (next_here d c.args.p i) (c.in-Some.ensures.shows d i h there)

pub returns-in-None : goal.returns-in-None
returns-in-None c = absurd (true≢false (sym c.requires ∙ ap is_some c.in-None.ensures.ended))
