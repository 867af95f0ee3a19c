use Rattle.std.proofs.Common.{ap, ◌∙◌}
use Rattle.std.specs.Option.{option_or}
use Rattle.model_tree.specs.declared.faults.Kind.TheVariants as kind
use Rattle.check_statements.specs.ModelRules.Calls as calls
use Rattle.check_statements.specs.CheckNames.Places.{scope_of}
use Rattle.check_statements.specs.CheckExpressions.Findings.{faults_of, told}
use Rattle.check_items.proofs.ItemLemmas.{told_or}
use Rattle.check_items.proofs.owns.target_handlers.Goals as goal

pub returns : goal.returns
returns c =
    let s = scope_of c.args.place.now in
    let line = c.args.line in
    let b = calls.blocking_handler s c.args.blocking.now in
    let f = calls.nonblocking_handler s c.args.forward.now in
    c.first_finding.ensures
    ∙ ap (λ o. option_or o (faults_of c.nonblocking_handler.result)) c.blocking_handler.ensures
    ∙ ap (option_or (told kind.BadHandler line b)) c.nonblocking_handler.ensures
    ∙ told_or kind.BadHandler line b f
