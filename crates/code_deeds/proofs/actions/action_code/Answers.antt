use Rattle.std.proofs.Common.{sym, ap, ◌∙◌}
use Rattle.model_tree.specs.Views.{action_of}
use Rattle.model_tree.specs.declared.statements.Action.{Action}
use Rattle.code_terms.specs.CodeRules.Deeds.{single, action_code as code_in}
use Rattle.code_terms.specs.CheckNames.Places.{scope_of}
use Rattle.code_deeds.specs.Homes.{home_of}
use Rattle.code_deeds.proofs.actions.action_code.Goals as goal

pub returns-in_ok-print_code-in-Print : goal.returns-in_ok-print_code-in-Print
returns-in_ok-print_code-in-Print c =
    c.single-in-Print.ensures
    ∙ ap single c.in_ok-print_code-in-Print.ensures
    ∙ sym (ap (λ (a : Action). code_in (home_of c.args.home) (scope_of c.args.place.now) (action_of a)) c.in-Print.is)

pub returns-in_ok-throw_it_code-in-ThrowIt : goal.returns-in_ok-throw_it_code-in-ThrowIt
returns-in_ok-throw_it_code-in-ThrowIt c =
    c.single-in-ThrowIt.ensures
    ∙ ap single c.in_ok-throw_it_code-in-ThrowIt.ensures
    ∙ sym (ap (λ (a : Action). code_in (home_of c.args.home) (scope_of c.args.place.now) (action_of a)) c.in-ThrowIt.is)
