use Rattle.std.proofs.Common.{◌≡◌, Some, ap, sym, ◌∙◌}
use Rattle.model_tree.specs.declared.faults.Fault.{Fault}
use Rattle.tick_rules.specs.Sources.{bad_resolution, fault_unless, resolution_in}
use Rattle.tick_rules.proofs.Same.{is_one, is_no_one}
use Rattle.tick_rules.proofs.Refusals.{refused_as}
use Rattle.tick_rules.proofs.resolutions.judge_asked.Goals as goal

pub returns-in-Some-clause-accepted : goal.returns-in-Some-clause-accepted
returns-in-Some-clause-accepted c =
    let asked = c.args.asked in
    is_one c.in-Some.field-0 (resolution_in asked.span.count asked.span.unit) asked.line c.in-Some.ensures

pub returns-in-None-clause-refused : goal.returns-in-None-clause-refused
returns-in-None-clause-refused c =
    let asked = c.args.asked in
    let o = resolution_in asked.span.count asked.span.unit in
    refused_as c.bad_resolution.result (λ f. f ≡ bad_resolution asked.line) (λ f. fault_unless o asked.line ≡ Some f)
    (λ f is. is_no_one o asked.line c.in-None.ensures ∙ ap (λ (g : Fault). Some g) (sym is)) c.bad_resolution.ensures
