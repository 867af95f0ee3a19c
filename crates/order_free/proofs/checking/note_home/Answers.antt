use Rattle.std.proofs.Common.{ℕ, List, ap, sym, ◌∙◌, subst}
use Rattle.order_free.specs.Spreading.{AreEmpty, cleared}
use Rattle.order_free.specs.Tables.{Took, claims_in}
use Rattle.order_free.specs.declared.users.Users.{Users}
use Rattle.order_free.proofs.Labels.{all_cleared}
use Rattle.order_free.proofs.Homes.{home_told}
use Rattle.order_free.proofs.checking.note_home.Goals as goal

pub returns : goal.returns
returns c =
    let d = c.args.design.now in
    let parts = c.args.parts.now in
    let begun = c.args.begun.now in
    let old = c.args.tables.now in
    let new = c.note_blocks.new.tables in
    let labels = c.spread.new.labels.items in
    let listing = c.in_ok-listing.listing.items in
    let are = c.in_ok-listing.ensures c.requires.empty in
    let took : Took (claims_in d c.args.home parts labels listing) old new =
    subst (λ (ns : List ℕ). Took (claims_in d c.args.home parts labels ns) old new) c.as_slice-2.ensures.value
    (subst (λ (ls : List Users). Took (claims_in d c.args.home parts ls c.as_slice-2.result.now) old new) c.as_slice.ensures.value c.in_ok-note_blocks.ensures) in
    record {
      empty = subst (AreEmpty parts) (sym (c.clear.ensures ∙ ap (λ ns. cleared ns labels) c.as_slice-3.ensures.value)) (all_cleared parts begun labels listing are);
      told = home_told d c.args.home parts c.requires.parts begun c.requires.begun labels listing are old new took c.requires.told;
    }
