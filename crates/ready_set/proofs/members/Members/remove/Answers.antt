use Rattle.std.proofs.Common.{◌∙◌, ap}
use Rattle.std.specs.Prelude.{is_some}
use Rattle.std.specs.FinSet as set
use Rattle.ready_set.specs.Ready.{without_member}
use Rattle.ready_set.proofs.Shown.{has-find, shown-without}
use Rattle.ready_set.proofs.members.Members.remove.Goals as goal

pub returns-clause-answer : goal.returns-clause-answer
returns-clause-answer c =
    c.is_some.ensures ∙ ap is_some c.remove.ensures.value ∙ has-find c.args.p c.self.inside.kept.entries ∙ ap (λ r. set.contains r.members c.args.p) c.self.view_is

pub returns-clause-left : goal.returns-clause-left
returns-clause-left c =
    shown-without c.args.p c.self.inside.kept.entries c.remove.new.self.entries c.self.inside.kept.spare c.remove.new.self.spare (is_some c.remove.result)
    c.remove.ensures.entries (ap is_some c.remove.ensures.value) c.remove.ensures.gives_one
    ∙ ap (λ r. without_member r c.args.p) c.self.view_is
