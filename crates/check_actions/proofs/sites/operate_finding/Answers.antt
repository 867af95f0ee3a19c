use Rattle.std.proofs.Common.{ap, sym, ◌∙◌}
use Rattle.std.specs.Option.{option_or}
use Rattle.model_tree.specs.Views.{operation_of}
use Rattle.check_expressions.specs.ModelRules.Passes.{constructs, fault_of}
use Rattle.check_expressions.specs.ModelRules.Sites.{operation_parts}
use Rattle.check_expressions.specs.CheckNames.Places.{scope_of}
use Rattle.check_actions.proofs.Acts.{operation_is}
use Rattle.check_actions.proofs.sites.operate_finding.Goals as goal

pub returns : goal.returns
returns c =
    let s = scope_of c.args.place.now in
    let o = operation_of c.args.operation.now in
    c.operation_finding.ensures ∙ ap (λ f. option_or f (fault_of constructs (operation_parts s o))) (sym (operation_is s c.args.line o))
