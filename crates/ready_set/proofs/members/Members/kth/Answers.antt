use Rattle.std.proofs.Common.{◌∙◌, ap, sym}
use Rattle.std.specs.Prelude.{option_map, slice_get}
use Rattle.std.proofs.lemmas.Option.{slice_get-map}
use Rattle.ready_set.specs.Ready.{rising}
use Rattle.ready_set.specs.Layout.{keys_of}
use Rattle.ready_set.proofs.Shown.{rising-keys, rising-set_of}
use Rattle.ready_set.proofs.members.Members.kth.Goals as goal

pub returns : goal.returns
returns c =
    let es = c.self.inside.kept.entries in
    c.key_of.ensures ∙ ap (option_map (λ e. e.0)) c.kth.ensures ∙ sym (slice_get-map (λ e. e.0) es c.args.k)
    ∙ ap (λ xs. slice_get xs c.args.k) (sym (rising-set_of (keys_of es) (rising-keys es c.self.invariant)))
    ∙ ap (λ r. slice_get (rising r.members) c.args.k) c.self.view_is
