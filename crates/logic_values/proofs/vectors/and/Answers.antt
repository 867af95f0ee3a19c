use Rattle.std.proofs.Common.{ap, ◌∙◌}
use Rattle.std.proofs.lemmas.Nat.{or_lt}
use Rattle.logic_values.specs.Digits.{digits, digits_in}
use Rattle.logic_values.specs.LogicTables.{and_of}
use Rattle.logic_values.specs.Vectors.{digit_by_digit}
use Rattle.logic_values.proofs.PlaneLemmas.{and_planes, and_fits}
use Rattle.logic_values.proofs.vectors.and.Goals as goal

pub invariant_of-result-clause-ones_fit : goal.invariant_of-result-clause-ones_fit
invariant_of-result-clause-ones_fit c =
    and_fits c.args.a.width _ _ (or_lt c.args.a.width c.args.a.ones c.args.a.unknown c.args.a.ones_fit c.args.a.unknown_fit)

pub invariant_of-result-clause-unknown_fit : goal.invariant_of-result-clause-unknown_fit
invariant_of-result-clause-unknown_fit c =
    and_fits c.args.a.width _ _
    (and_fits c.args.a.width _ _ (or_lt c.args.a.width c.args.a.ones c.args.a.unknown c.args.a.ones_fit c.args.a.unknown_fit))

pub returns-clause-each_digit : goal.returns-clause-each_digit
returns-clause-each_digit c =
    and_planes c.args.a.width c.args.a.unknown c.args.a.ones c.args.b.unknown c.args.b.ones
    ∙ ap (λ n. digit_by_digit and_of (digits c.args.a) (digits_in n c.args.b.unknown c.args.b.ones)) c.requires
