use Rattle.std.proofs.Common.{ap, ◌∙◌}
use Rattle.std.specs.Prelude.{option_and_then}
use Rattle.check_names.specs.ModuleNames.{items_of}
use Rattle.check_names.proofs.ModuleLemmas.{meaning_of_item, meaning_by_item}
use Rattle.check_names.proofs.module_names.ModuleNames.meaning.Goals as goal

pub returns-in-None : goal.returns-in-None
returns-in-None c =
    ap (option_and_then meaning_of_item) c.in-None.ensures ∙ meaning_by_item c.args.name.now (items_of c.args.self.now)

pub returns-in-Some : goal.returns-in-Some
returns-in-Some c =
    c.item_meaning.ensures
    ∙ ap (option_and_then meaning_of_item) c.in-Some.ensures ∙ meaning_by_item c.args.name.now (items_of c.args.self.now)
