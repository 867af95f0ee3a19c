use Rattle.std.proofs.Common.{List, length, ap, ◌∙◌}
use Rattle.std.specs.Prelude.{unwrap_or}
use Rattle.check_names.specs.ModelTree.Views.{modules_of}
use Rattle.check_names.specs.ModelTree.declared.items.Module.{Module}
use Rattle.design_rules.specs.Forms.{module_place}
use Rattle.check_names.specs.Tables.{place_in}
use Rattle.elaborate_objects.proofs.Placed.{placed}
use Rattle.elaborate_objects.proofs.modules.ModulePlaces.find.Goals as goal

pub returns-in-Some : goal.returns-in-Some
returns-in-Some c =
    let q = c.args.name.now in
    let ms = c.self.inside.modules.now in
    ap (λ o. unwrap_or o (length ms)) (c.in-Some.ensures ∙ ap (λ ns. place_in ns q) c.self.invariant)
    ∙ placed q ms
    ∙ ap (λ (xs : List Module). module_place (modules_of xs) q) c.self.view_is

pub returns-in-None : goal.returns-in-None
returns-in-None c =
    let q = c.args.name.now in
    let ms = c.self.inside.modules.now in
    ap (λ o. unwrap_or o (length ms)) (c.in-None.ensures ∙ ap (λ ns. place_in ns q) c.self.invariant)
    ∙ placed q ms
    ∙ ap (λ (xs : List Module). module_place (modules_of xs) q) c.self.view_is
