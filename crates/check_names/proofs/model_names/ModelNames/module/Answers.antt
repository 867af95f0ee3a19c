use Rattle.std.proofs.Common.{List, ap, ◌∙◌}
use Rattle.std.specs.Prelude.{option_map, option_and_then, slice_get}
use Rattle.model_rules.specs.ModelTree.Tree as tree
use Rattle.model_rules.specs.ModelTree.Views.{modules_of}
use Rattle.model_rules.specs.ModelTree.declared.items.Module.{Module}
use Rattle.model_rules.specs.Scopes.{module_named}
use Rattle.check_names.specs.ModuleNames.{items_of}
use Rattle.check_names.proofs.ModuleLemmas.{module_by_table}
use Rattle.check_names.proofs.model_names.ModelNames.module.Goals as goal

pub returns-in-None : goal.returns-in-None
returns-in-None c =
    let q = c.args.name.now in
    let m = c.self.inside in
    ap (λ o. option_map items_of (option_and_then (slice_get m.tables.items) o)) c.in-None.ensures
    ∙ module_by_table q m.modules.now m.tables.items m.places c.self.invariant
    ∙ ap (λ (ms : List Module). option_map (λ (x : tree.Module). x.items) (module_named (modules_of ms) q)) c.self.view_is

pub returns-in-Some : goal.returns-in-Some
returns-in-Some c =
    let q = c.args.name.now in
    let m = c.self.inside in
    ap (option_map items_of) (c.table_at.ensures ∙ ap (λ xs. slice_get xs c.in-Some.place) c.as_slice.ensures.value)
    ∙ ap (λ o. option_map items_of (option_and_then (slice_get m.tables.items) o)) c.in-Some.ensures
    ∙ module_by_table q m.modules.now m.tables.items m.places c.self.invariant
    ∙ ap (λ (ms : List Module). option_map (λ (x : tree.Module). x.items) (module_named (modules_of ms) q)) c.self.view_is
