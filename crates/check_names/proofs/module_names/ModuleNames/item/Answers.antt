use Rattle.std.proofs.Common.{List, map, ap, sym, ◌∙◌}
use Rattle.std.specs.Borrow.{Bor}
use Rattle.std.specs.Option.{option_copied}
use Rattle.std.specs.Prelude.{find, option_map, option_and_then, slice_get}
use Rattle.std.proofs.lemmas.Option.{slice_get-map}
use Rattle.model_rules.specs.ModelTree.Views.{item_of}
use Rattle.model_rules.specs.ModelTree.declared.items.Item.{Item}
use Rattle.model_rules.specs.Names.{is_item_named}
use Rattle.check_names.specs.ModuleNames.{items_of}
use Rattle.check_names.proofs.ModuleLemmas.{item_by_table}
use Rattle.check_names.proofs.module_names.ModuleNames.item.Goals as goal

pub returns-in-None : goal.returns-in-None
returns-in-None c =
    let q = c.args.name.now in
    let m = c.self.inside in
    let declaring : List Item = map (λ (i : Bor Item). i.now) m.declaring.items in
    ap (λ o. option_map item_of (option_and_then (slice_get declaring) o)) c.in-None.ensures
    ∙ item_by_table q m.items.now declaring m.places c.self.invariant.declared c.self.invariant.named
    ∙ ap (λ (is : List Item). find (is_item_named q) (items_of is)) c.self.view_is

pub returns-in-Some : goal.returns-in-Some
returns-in-Some c =
    let q = c.args.name.now in
    let m = c.self.inside in
    let declaring : List Item = map (λ (i : Bor Item). i.now) m.declaring.items in
    ap (λ o. option_map item_of (option_copied o)) (c.item_at.ensures ∙ ap (λ xs. slice_get xs c.in-Some.place) c.as_slice.ensures.value)
    ∙ ap (option_map item_of) (sym (slice_get-map (λ (i : Bor Item). i.now) m.declaring.items c.in-Some.place))
    ∙ ap (λ o. option_map item_of (option_and_then (slice_get declaring) o)) c.in-Some.ensures
    ∙ item_by_table q m.items.now declaring m.places c.self.invariant.declared c.self.invariant.named
    ∙ ap (λ (is : List Item). find (is_item_named q) (items_of is)) c.self.view_is
