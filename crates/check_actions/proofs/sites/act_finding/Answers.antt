use Rattle.std.proofs.Common.{ap, sym, ◌∙◌}
use Rattle.std.specs.Option.{option_or}
use Rattle.model_tree.specs.Views.{action_of}
use Rattle.check_expressions.specs.ModelRules.Passes.{constructs, fault_of}
use Rattle.check_expressions.specs.ModelRules.Sites.{action_parts}
use Rattle.check_expressions.specs.CheckNames.Places.{scope_of}
use Rattle.check_actions.proofs.Acts.{act_is}
use Rattle.check_actions.proofs.sites.act_finding.Goals as goal

pub returns : goal.returns
returns c =
    let s = scope_of c.args.place.now in
    let a = action_of c.args.action.now in
    c.action_finding.ensures ∙ ap (λ o. option_or o (fault_of constructs (action_parts s a))) (sym (act_is s c.args.line a))
