use Rattle.std.proofs.Common.{List, ap, ◌∙◌}
use Rattle.std.specs.Prelude.{position}
use Rattle.model_rules.specs.ModelTree.declared.items.Item.{Item}
use Rattle.model_rules.specs.Meanings.{declarations}
use Rattle.model_rules.specs.Scopes.{is_declared}
use Rattle.check_names.specs.ModuleNames.{items_of}
use Rattle.check_names.proofs.ModuleLemmas.{place_by_table}
use Rattle.check_names.proofs.module_names.ModuleNames.place.Goals as goal

pub returns : goal.returns
returns c =
    let q = c.args.name.now in
    let m = c.self.inside in
    c.find.ensures ∙ place_by_table q (items_of m.items.now) m.places c.self.invariant.named ∙ ap (λ (is : List Item). position (is_declared q) (declarations (items_of is))) c.self.view_is
