use Rattle.std.proofs.Common.{◌≡◌, List, length, ap, sym, ◌∙◌}
use Rattle.model_tree.specs.Views.{item_of, modules_of}
use Rattle.model_tree.specs.declared.items.Item.{Item}
use Rattle.check_reach.specs.CheckNames.ModuleNames.{items_of}
use Rattle.code_blocks.specs.CodeTerms.Names.{body_names}
use Rattle.model_check.proofs.BodyLemmas.{added_at, coded_at}
use Rattle.code_blocks.proofs.Results.{on_ok}
use Rattle.model_check.proofs.whole.add_module.Goals as goal

pub add_items-requires-clause-home : goal.add_items-requires-clause-home
add_items-requires-clause-home c =
    c.in_ok-numbered.ensures ∙ ap (λ (is : List Item). body_names (items_of is)) (c.as_slice-items.ensures.value ∙ sym (c.names_at-names.ensures ∙ c.requires.there))

pub add_items-requires-clause-coded : goal.add_items-requires-clause-coded
add_items-requires-clause-coded c =
    let all = c.args.«module».now.items.items in
    coded_at (modules_of c.args.model.now) (items_of c.names_at-names.result.now) (items_of c.as_slice-items.result.now) (items_of all) (length c.args.bodies.now) _ c.args.exceptions.now
    (ap items_of (c.names_at-names.ensures ∙ c.requires.there)) (ap items_of c.as_slice-items.ensures.value) (c.in_ok-first_body.ensures ∙ ap length c.as_slice.ensures)
    c.requires.coded

pub returns-clause-reads : goal.returns-clause-reads
returns-clause-reads c =
    let all = c.args.«module».now.items.items in
    on_ok c.add_items.result
    (added_at c.add_items.new.laid c.args.bodies.now c.add_items.new.bodies (modules_of c.args.model.now) (items_of c.names_at-names.result.now) (items_of c.as_slice-items.result.now) (items_of all) _ c.args.place (length c.args.bodies.now) _ c.args.exceptions.now
    (ap items_of (c.names_at-names.ensures ∙ c.requires.there)) (ap items_of c.as_slice-items.ensures.value) c.in_ok-module_place.ensures (c.in_ok-first_body.ensures ∙ ap length c.as_slice.ensures))
    c.add_items.ensures.reads
