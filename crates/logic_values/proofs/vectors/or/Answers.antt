use Rattle.logic_values.proofs.PlaneLemmas.{de_morgan}
use Rattle.logic_values.specs.Digits.{digits}
use Rattle.logic_values.proofs.vectors.or.Goals as goal

pub returns-clause-each_digit : goal.returns-clause-each_digit
returns-clause-each_digit c =
    rw (c.not-3.ensures.each_digit, c.and.ensures.each_digit, c.not.ensures.each_digit, c.not-2.ensures.each_digit)
    (de_morgan (digits c.args.a) (digits c.args.b))
