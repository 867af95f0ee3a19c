use Rattle.std.proofs.Common.{◌∙◌}
use Rattle.check_statements.specs.ModelRules.Names.{child_module}
use Rattle.check_statements.specs.CheckNames.ModuleNames.{items_of}
use Rattle.check_statements.specs.CheckNames.Places.{scope_of}
use Rattle.check_items.proofs.Walked.{of_child}
use Rattle.check_items.proofs.bindings.child_meaning.Goals as goal

pub returns-in-Some : goal.returns-in-Some
returns-in-Some c =
    c.meaning.ensures
    ∙ of_child (child_module (scope_of c.args.place.now) c.args.child.now) (items_of c.in-Some.names.now) c.args.member.now c.in-Some.ensures
