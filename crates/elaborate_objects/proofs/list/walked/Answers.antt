use Rattle.std.proofs.Common.{◌≡◌, true, false, List, map, length, ap, sym, subst, ◌∙◌}
use Rattle.std.specs.Bool.{MatchBool}
use Rattle.std.proofs.lemmas.List.{length-map}
use Rattle.check_names.specs.ModelTree.Tree as tree
use Rattle.check_names.specs.ModelTree.Views.{module_of, modules_of}
use Rattle.check_names.specs.FlatDesign.declared.objects.Object.{Object}
use Rattle.design_rules.specs.ObjectFaults.{are_too_many}
use Rattle.elaborate_objects.specs.Rows.{row_of}
use Rattle.elaborate_objects.proofs.RowLemmas.{list_is}
use Rattle.elaborate_objects.proofs.list.walked.Goals as goal

pub returns : goal.returns
returns c =
    let t = map (map row_of) c.as_slice.result.now in
    let m : tree.Model = record { modules = modules_of c.args.places.now; top = c.args.top.now } in
    let many = ap (λ xs. length xs) c.modules.ensures ∙ sym (length-map c.args.places.now module_of) in
    let rows = ap (λ xs. map (map row_of) xs) c.as_slice.ensures.value ∙ c.in_ok-rows.ensures in
    let e = c.in_ok-walk.ensures.whole t ∙ list_is m c.in_ok-place.place (length c.modules.result.now) t c.in_ok-place.ensures many rows in
    subst (λ (xs : List Object). MatchBool c.in_ok-fits.fits ((c.walk_all.new.walk.objects ≡ xs) × (are_too_many c.walk_all.new.walk.objects ≡ false)) (are_too_many xs ≡ true)) e c.in_ok-fits.ensures
