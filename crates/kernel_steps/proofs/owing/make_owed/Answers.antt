use Rattle.std.proofs.Common.{refl, sym, ◌∙◌, subst}
use Rattle.flat_design.specs.Code.{statement_of}
use Rattle.exec_channels.specs.SimModel.Residual.{settle, taken_off}
use Rattle.exec_channels.specs.SimModel.Configuration.{arena, with_residual}
use Rattle.exec_channels.specs.SimModel.Control.{control_call, throw_call}
use Rattle.exec_channels.specs.SimModel.Statements.{settled_in}
use Rattle.kernel_steps.specs.StepAnswers.{TellsAll, whole_step}
use Rattle.kernel_steps.specs.declared.answers.StepAnswer.TheVariants as answer
use Rattle.kernel_steps.proofs.Answered.{left}
use Rattle.kernel_steps.proofs.Silent.{owed_control_quiet, owed_throw_quiet}
use Rattle.kernel_steps.proofs.OwedCalls.{control_is, throw_is, nothing_is}
use Rattle.kernel_steps.proofs.Takes.{plain_takes_none}
use Rattle.kernel_steps.proofs.owing.make_owed.Goals as goal

pub move_on-requires-clause-may : goal.move_on-requires-clause-may
move_on-requires-clause-may c = c.requires.owes

pub returns-in-Control-clause-makes : goal.returns-in-Control-clause-makes
returns-in-Control-clause-makes c d i h there =
    let e = settled_in d c.args.p i.residual in
    let r = settle (arena d) i.residual in
    let past = with_residual e c.args.p (taken_off r) in
    subst (TellsAll c.control_owed.new.k (whole_step c.plain.result c.plain.new.said) d i) (sym (control_is past c.args.q (statement_of c.args.statement.now) c.in-Control.order (sym c.call_of.ensures ∙ c.in-Control.is)))
    (left c.control_owed.new.k d i (whole_step c.plain.result c.plain.new.said) c.control_owed.result (control_call past c.args.q c.in-Control.order) (owed_control_quiet e c.args.p r c.args.q c.in-Control.order) c.plain.ensures (c.control_owed.ensures.does d i h there))

pub returns-in-Throw-clause-makes : goal.returns-in-Throw-clause-makes
returns-in-Throw-clause-makes c d i h there =
    let e = settled_in d c.args.p i.residual in
    let r = settle (arena d) i.residual in
    let past = with_residual e c.args.p (taken_off r) in
    subst (TellsAll c.throw_owed.new.k (whole_step c.plain-in-Throw.result c.plain-in-Throw.new.said) d i) (sym (throw_is past c.args.q (statement_of c.args.statement.now) c.in-Throw.e (sym c.call_of.ensures ∙ c.in-Throw.is)))
    (left c.throw_owed.new.k d i (whole_step c.plain-in-Throw.result c.plain-in-Throw.new.said) c.throw_owed.result (throw_call past c.args.q c.in-Throw.e) (owed_throw_quiet e c.args.p r c.args.q c.in-Throw.e) c.plain-in-Throw.ensures (c.throw_owed.ensures.does d i h there))

pub returns-in-Nothing-clause-makes : goal.returns-in-Nothing-clause-makes
returns-in-Nothing-clause-makes c d i h there =
    let past = with_residual (settled_in d c.args.p i.residual) c.args.p (taken_off (settle (arena d) i.residual)) in
    subst (TellsAll c.move_on.new.k answer.Went d i) (sym (nothing_is past c.args.q (statement_of c.args.statement.now) (sym c.call_of.ensures ∙ c.in-Nothing.is)))
    (c.move_on.ensures.steps d i h there, refl)

pub returns-in-Control-clause-takes_none : goal.returns-in-Control-clause-takes_none
returns-in-Control-clause-takes_none c = plain_takes_none (whole_step c.plain.result c.plain.new.said) c.control_owed.result c.plain.ensures

pub returns-in-Throw-clause-takes_none : goal.returns-in-Throw-clause-takes_none
returns-in-Throw-clause-takes_none c = plain_takes_none (whole_step c.plain-in-Throw.result c.plain-in-Throw.new.said) c.throw_owed.result c.plain-in-Throw.ensures
