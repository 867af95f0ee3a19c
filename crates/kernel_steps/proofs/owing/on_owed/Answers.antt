use Rattle.std.proofs.Common.{refl, sym, ap, ◌∙◌, subst, option_map}
use Rattle.flat_design.specs.Code.{statement_of}
use Rattle.exec_channels.specs.SimModel.Residual.{taken_off}
use Rattle.exec_channels.specs.SimModel.Configuration.{with_residual}
use Rattle.exec_channels.specs.SimModel.Statements.{owed_by}
use Rattle.kernel_steps.specs.StepAnswers.{MakesAll, whole_step}
use Rattle.kernel_steps.specs.declared.answers.StepAnswer.TheVariants as answer
use Rattle.kernel_steps.proofs.Shows.{has_owed}
use Rattle.kernel_steps.proofs.owing.on_owed.Goals as goal

pub make_owed-requires-clause-owes : goal.make_owed-requires-clause-owes
make_owed-requires-clause-owes c = has_owed c.args.k.now c.args.p c.args.s c.args.q c.requires.owes

pub move_on-requires-clause-may : goal.move_on-requires-clause-may
move_on-requires-clause-may c = has_owed c.args.k.now c.args.p c.args.s c.args.q c.requires.owes

pub returns-in-Some-clause-makes : goal.returns-in-Some-clause-makes
returns-in-Some-clause-makes c =
    subst (λ o. MakesAll c.args.k.now c.make_owed.new.k (whole_step c.make_owed.result c.make_owed.new.said) c.args.p (λ d t i r. owed_by (with_residual d t (taken_off r)) c.args.q o))
    (sym (sym c.statement.ensures ∙ ap (option_map (λ z. statement_of z.now)) c.in-Some.is)) c.make_owed.ensures.makes

pub returns-in-None-clause-makes : goal.returns-in-None-clause-makes
returns-in-None-clause-makes c =
    subst (λ o. MakesAll c.args.k.now c.move_on.new.k answer.Went c.args.p (λ d t i r. owed_by (with_residual d t (taken_off r)) c.args.q o))
    (sym (sym c.statement.ensures ∙ ap (option_map (λ z. statement_of z.now)) c.in-None.is))
    (λ d i h there. (c.move_on.ensures.steps d i h there, refl))
