use Rattle.std.proofs.Common.{◌∙◌, ap, sym}
use Rattle.std.specs.FinSet as set
use Rattle.std.proofs.lemmas.List.{length-map}
use Rattle.ready_set.specs.Layout.{keys_of}
use Rattle.ready_set.proofs.Shown.{rising-keys, len-set_of}
use Rattle.ready_set.proofs.members.Members.len.Goals as goal

pub returns : goal.returns
returns c =
    let es = c.self.inside.kept.entries in
    c.len.ensures.len ∙ sym (length-map es (λ e. e.0)) ∙ sym (len-set_of (keys_of es) (rising-keys es c.self.invariant)) ∙ ap (λ r. set.len r.members) c.self.view_is
