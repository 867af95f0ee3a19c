use Rattle.std.proofs.Common.{◌∙◌, ◌-◌, ap, sym, length}
use Rattle.std.specs.Prelude.{option_map, slice_get}
use Rattle.std.specs.Ordering.{nat_cmp}
use Rattle.std.specs.FinSet as set
use Rattle.std.proofs.lemmas.List.{length-map}
use Rattle.std.proofs.lemmas.Option.{slice_get-map}
use Rattle.ready_set.specs.Ready.{rising}
use Rattle.ready_set.specs.Layout.{keys_of}
use Rattle.ready_set.proofs.Shown.{rising-keys, len-set_of, rising-set_of}
use Rattle.ready_set.proofs.members.Members.greatest.Goals as goal

pub returns : goal.returns
returns c =
    let es = c.self.inside.kept.entries in
    let rises = rising-keys es c.self.invariant in
    c.key_of.ensures ∙ ap (option_map (λ e. e.0)) c.greatest.ensures ∙ sym (slice_get-map (λ e. e.0) es (length es - 1))
    ∙ ap (λ n. slice_get (keys_of es) (n - 1)) (sym (length-map es (λ e. e.0)) ∙ sym (len-set_of (keys_of es) rises))
    ∙ ap (λ xs. slice_get xs (set.len (set.from_list {R = nat_cmp} (keys_of es)) - 1)) (sym (rising-set_of (keys_of es) rises))
    ∙ ap (λ r. slice_get (rising r.members) (set.len r.members - 1)) c.self.view_is
