use Rattle.std.proofs.Common.{ap, ◌∙◌}
use Rattle.std.specs.Prelude.{find, option_map, option_and_then, slice_get}
use Rattle.model_rules.specs.Scopes.{is_local}
use Rattle.check_names.specs.LocalNames.{LocalNames, local_of}
use Rattle.check_names.proofs.LocalLemmas.{found_local}
use Rattle.check_names.proofs.locals.Locals.find.Goals as goal

pub returns-in-None : goal.returns-in-None
returns-in-None c =
    let q = c.args.name.now in
    let visible = c.self.inside.visible.items in
    ap (λ o. option_map local_of (option_and_then (slice_get visible) o)) c.in-None.ensures
    ∙ found_local q visible c.self.inside.table c.self.invariant
    ∙ ap (λ (l : LocalNames). find (is_local q) l.visible) c.self.view_is

pub returns-in-Some : goal.returns-in-Some
returns-in-Some c =
    let q = c.args.name.now in
    let visible = c.self.inside.visible.items in
    let e = ap (λ o. option_map local_of (option_and_then (slice_get visible) o)) c.in-Some.ensures
    ∙ found_local q visible c.self.inside.table c.self.invariant
    ∙ ap (λ (l : LocalNames). find (is_local q) l.visible) c.self.view_is in
    ap (option_map local_of) (c.item_at.ensures ∙ ap (λ xs. slice_get xs c.in-Some.number) c.as_slice.ensures.value) ∙ e
