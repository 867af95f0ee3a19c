use Rattle.std.proofs.Common.{ap, ◌∙◌}
use Rattle.std.proofs.lemmas.Nat.{or_lt, xor_lt}
use Rattle.logic_values.specs.Digits.{digits, digits_in}
use Rattle.logic_values.specs.LogicTables.{xor_of}
use Rattle.logic_values.specs.Vectors.{digit_by_digit}
use Rattle.logic_values.proofs.PlaneLemmas.{xor_planes, at_width}
use Rattle.logic_values.proofs.vectors.xor.Goals as goal

pub invariant_of-result-clause-ones_fit : goal.invariant_of-result-clause-ones_fit
invariant_of-result-clause-ones_fit c =
    let a = c.args.a in
    let b = c.args.b in
    or_lt a.width _ _
    (xor_lt a.width a.ones b.ones a.ones_fit (at_width a.width b.width b.ones c.requires b.ones_fit))
    (or_lt a.width a.unknown b.unknown a.unknown_fit (at_width a.width b.width b.unknown c.requires b.unknown_fit))

pub invariant_of-result-clause-unknown_fit : goal.invariant_of-result-clause-unknown_fit
invariant_of-result-clause-unknown_fit c =
    let a = c.args.a in
    let b = c.args.b in
    or_lt a.width a.unknown b.unknown a.unknown_fit (at_width a.width b.width b.unknown c.requires b.unknown_fit)

pub returns-clause-each_digit : goal.returns-clause-each_digit
returns-clause-each_digit c =
    xor_planes c.args.a.width c.args.a.unknown c.args.a.ones c.args.b.unknown c.args.b.ones
    ∙ ap (λ n. digit_by_digit xor_of (digits c.args.a) (digits_in n c.args.b.unknown c.args.b.ones)) c.requires
