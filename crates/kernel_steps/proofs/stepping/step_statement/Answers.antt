use Rattle.exec_channels.specs.SimModel.Residual as residual
use Rattle.exec_channels.specs.SimModel.Residual.{settle}
use Rattle.exec_channels.specs.SimModel.Configuration.{arena}
use Rattle.exec_channels.specs.SimModel.Statements.{settled_in, leaves_call}
use Rattle.kernel_steps.specs.declared.answers.StepAnswer.TheVariants as answer
use Rattle.kernel_steps.proofs.Silent.{goal_quiet}
use Rattle.kernel_steps.proofs.Returned.{leaves_quiet}
use Rattle.kernel_steps.proofs.Answered.{left}
use Rattle.kernel_steps.proofs.Shows.{next_made, owed_made, statement_made}
use Rattle.kernel_steps.proofs.Takes.{plain_takes_none, statement_takes, ended_takes, nothing_takes}
use Rattle.kernel_steps.specs.StepAnswers.{whole_step}
use Rattle.kernel_steps.proofs.stepping.step_statement.Goals as goal

pub on_statement-requires-clause-next : goal.on_statement-requires-clause-next
on_statement-requires-clause-next c = c.next_at.ensures.statement c.in-Statement.s c.in-Statement.is

pub on_statement-requires-clause-free : goal.on_statement-requires-clause-free
on_statement-requires-clause-free c = c.requires.free c.in-Statement.s (c.next_at.ensures.statement c.in-Statement.s c.in-Statement.is)

pub on_owed-requires-clause-owes : goal.on_owed-requires-clause-owes
on_owed-requires-clause-owes c = c.next_at.ensures.owes c.in-Batch.s c.in-Batch.q c.in-Batch.is

pub returns-in-Batch-clause-makes : goal.returns-in-Batch-clause-makes
returns-in-Batch-clause-makes c =
    owed_made c.args.k.now c.on_owed.new.k (whole_step c.on_owed.result c.on_owed.new.said) c.args.p c.in-Batch.s c.in-Batch.q (c.next_at.ensures.shows_owed c.in-Batch.s c.in-Batch.q c.in-Batch.is) c.on_owed.ensures.makes

pub leave-requires-clause-leaves : goal.leave-requires-clause-leaves
leave-requires-clause-leaves c = c.next_at.ensures.leaves c.in-Leave.is

pub reach_goal-requires-clause-reaches : goal.reach_goal-requires-clause-reaches
reach_goal-requires-clause-reaches c = c.next_at.ensures.goal c.in-Goal.goal c.in-Goal.is

pub returns-in-Statement-clause-makes : goal.returns-in-Statement-clause-makes
returns-in-Statement-clause-makes c =
    statement_made c.args.k.now c.on_statement.new.k (whole_step c.on_statement.result c.on_statement.new.said) c.args.p c.in-Statement.s (c.next_at.ensures.shows_statement c.in-Statement.s c.in-Statement.is) c.on_statement.ensures.makes

pub returns-in-Leave-clause-makes : goal.returns-in-Leave-clause-makes
returns-in-Leave-clause-makes c =
    let t = c.next_at.ensures.shows_leave c.in-Leave.is in
    next_made c.args.k.now c.leave.new.k (whole_step c.plain.result c.plain.new.said) c.args.p (residual.leaves t.0) t.1 (λ d i h there.
    let e = settled_in d c.args.p i.residual in
    let j = record i { residual = settle (arena d) i.residual } in
    let r = settle (arena d) i.residual in
    left c.leave.new.k d i (whole_step c.plain.result c.plain.new.said) c.leave.result (leaves_call e c.args.p j r t.0) (leaves_quiet e c.args.p j r t.0) c.plain.ensures (c.leave.ensures.does d i h there t.0 (t.1 d i h there)))

pub returns-in-Done-clause-makes : goal.returns-in-Done-clause-makes
returns-in-Done-clause-makes c = next_made c.args.k.now c.end_body.new.k (whole_step c.end_body.result c.end_body.new.said) c.args.p residual.done (c.next_at.ensures.shows_done c.in-Done.is) c.end_body.ensures.makes

pub returns-in-Goal-clause-makes : goal.returns-in-Goal-clause-makes
returns-in-Goal-clause-makes c =
    next_made c.args.k.now c.reach_goal.new.k answer.Went c.args.p (residual.reaches c.in-Goal.goal) (c.next_at.ensures.shows_goal c.in-Goal.goal c.in-Goal.is)
    (λ d i h there. (c.reach_goal.ensures.steps d i h there, goal_quiet (settled_in d c.args.p i.residual) c.args.p (record i { residual = settle (arena d) i.residual }) (settle (arena d) i.residual) c.in-Goal.goal))

pub returns-in-Nothing-clause-makes : goal.returns-in-Nothing-clause-makes
returns-in-Nothing-clause-makes c = next_made c.args.k.now c.end_body-in-Nothing.new.k (whole_step c.end_body-in-Nothing.result c.end_body-in-Nothing.new.said) c.args.p residual.nothing (c.next_at.ensures.shows_nothing c.in-Nothing.is) c.end_body-in-Nothing.ensures.makes

pub returns-in-Statement-clause-memory : goal.returns-in-Statement-clause-memory
returns-in-Statement-clause-memory c = λ e. statement_takes c.args.k.now c.args.p c.in-Statement.s (c.next_at.ensures.shows_statement c.in-Statement.s c.in-Statement.is) (c.on_statement.ensures.memory e)

pub returns-in-Batch-clause-memory : goal.returns-in-Batch-clause-memory
returns-in-Batch-clause-memory c = λ e. absurd (c.on_owed.ensures.takes_none e)

pub returns-in-Leave-clause-memory : goal.returns-in-Leave-clause-memory
returns-in-Leave-clause-memory c = λ e. absurd (plain_takes_none (whole_step c.plain.result c.plain.new.said) c.leave.result c.plain.ensures e)

pub returns-in-Done-clause-memory : goal.returns-in-Done-clause-memory
returns-in-Done-clause-memory c = λ e. ended_takes c.args.k.now c.args.p (c.next_at.ensures.shows_done c.in-Done.is) (c.end_body.ensures.memory e)

pub returns-in-Nothing-clause-memory : goal.returns-in-Nothing-clause-memory
returns-in-Nothing-clause-memory c = λ e. nothing_takes c.args.k.now c.args.p (c.next_at.ensures.shows_nothing c.in-Nothing.is) (c.end_body-in-Nothing.ensures.memory e)
