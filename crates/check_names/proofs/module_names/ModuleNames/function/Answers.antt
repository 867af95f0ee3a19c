use Rattle.std.proofs.Common.{List, map, ap, sym, ◌∙◌}
use Rattle.std.specs.Borrow.{Bor}
use Rattle.std.specs.Option.{option_copied}
use Rattle.std.specs.Prelude.{option_map, option_and_then, slice_get}
use Rattle.std.proofs.lemmas.Option.{slice_get-map}
use Rattle.model_rules.specs.ModelTree.Views.{function_of}
use Rattle.model_rules.specs.ModelTree.declared.items.Item.{Item}
use Rattle.model_rules.specs.ModelTree.declared.items.FunctionItem.{FunctionItem}
use Rattle.model_rules.specs.Scopes.{function_named}
use Rattle.check_names.specs.ModuleNames.{items_of}
use Rattle.check_names.proofs.ModuleLemmas.{function_by_table}
use Rattle.check_names.proofs.module_names.ModuleNames.function.Goals as goal

pub returns-in-None : goal.returns-in-None
returns-in-None c =
    let q = c.args.name.now in
    let m = c.self.inside in
    let functions : List FunctionItem = map (λ (f : Bor FunctionItem). f.now) m.functions.items in
    ap (λ o. option_map function_of (option_and_then (slice_get functions) o)) c.in-None.ensures
    ∙ function_by_table q (items_of m.items.now) functions m.function_places c.self.invariant.called c.self.invariant.functions_named
    ∙ ap (λ (is : List Item). function_named (items_of is) q) c.self.view_is

pub returns-in-Some : goal.returns-in-Some
returns-in-Some c =
    let q = c.args.name.now in
    let m = c.self.inside in
    let functions : List FunctionItem = map (λ (f : Bor FunctionItem). f.now) m.functions.items in
    ap (λ o. option_map function_of (option_copied o)) (c.item_at.ensures ∙ ap (λ xs. slice_get xs c.in-Some.place) c.as_slice.ensures.value)
    ∙ ap (option_map function_of) (sym (slice_get-map (λ (f : Bor FunctionItem). f.now) m.functions.items c.in-Some.place))
    ∙ ap (λ o. option_map function_of (option_and_then (slice_get functions) o)) c.in-Some.ensures
    ∙ function_by_table q (items_of m.items.now) functions m.function_places c.self.invariant.called c.self.invariant.functions_named
    ∙ ap (λ (is : List Item). function_named (items_of is) q) c.self.view_is
