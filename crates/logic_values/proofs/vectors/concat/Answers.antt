use Rattle.logic_values.proofs.PlaneLemmas.{shifted_or_fits, shifted_or_digits}
use Rattle.logic_values.proofs.vectors.concat.Goals as goal

pub invariant_of-result-clause-ones_fit : goal.invariant_of-result-clause-ones_fit
invariant_of-result-clause-ones_fit c =
    let a = c.args.a in
    let b = c.args.b in
    shifted_or_fits a.ones a.width b.ones b.width a.ones_fit b.ones_fit c.requires

pub invariant_of-result-clause-unknown_fit : goal.invariant_of-result-clause-unknown_fit
invariant_of-result-clause-unknown_fit c =
    let a = c.args.a in
    let b = c.args.b in
    shifted_or_fits a.unknown a.width b.unknown b.width a.unknown_fit b.unknown_fit c.requires

pub returns-clause-each_digit : goal.returns-clause-each_digit
returns-clause-each_digit c =
    let a = c.args.a in
    let b = c.args.b in
    shifted_or_digits a.width a.unknown a.ones b.width b.unknown b.ones a.unknown_fit a.ones_fit b.unknown_fit b.ones_fit c.requires
