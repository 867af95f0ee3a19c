use Rattle.std.proofs.Common.{false, ap, sym, ◌∙◌}
use Rattle.std.specs.Prelude.{option_map}
use Rattle.model_tree.specs.Views.{event_of, expression_of, waiting_of}
use Rattle.model_tree.specs.declared.statements.Waiting.{Waiting}
use Rattle.check_expressions.specs.ModelRules.Passes.{constructs, fault_of}
use Rattle.check_expressions.specs.ModelRules.Sites.{event_sites, option_sites, waiting_sites}
use Rattle.check_expressions.specs.CheckNames.Places.{scope_of}
use Rattle.check_actions.proofs.Parts.{fault_append}
use Rattle.check_actions.proofs.events.waiting_finding.Goals as goal

pub returns-in-One : goal.returns-in-One
returns-in-One c =
    let s = scope_of c.args.place.now in
    c.event_and.ensures
    ∙ sym (fault_append (event_sites s false (event_of c.in-One.event)) (option_sites s (option_map expression_of c.in-One.time)))
    ∙ sym (ap (λ (w : Waiting). fault_of constructs (waiting_sites s (waiting_of w))) c.in-One.is)
