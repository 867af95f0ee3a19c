use Rattle.std.proofs.Common.{◌∙◌, ap}
use Rattle.std.specs.FinSet as set
use Rattle.ready_set.proofs.Shown.{has-find}
use Rattle.ready_set.proofs.members.Members.has.Goals as goal

pub returns : goal.returns
returns c = c.contains.ensures.found ∙ has-find c.args.p c.self.inside.kept.entries ∙ ap (λ r. set.contains r.members c.args.p) c.self.view_is
