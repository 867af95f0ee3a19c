use Rattle.std.proofs.Common.{arith, sym, subst}
use Rattle.kernel_phases.specs.SimModel.Steps.{evaluate}
use Rattle.kernel_steps.specs.StepAnswers.{whole_step}
use Rattle.kernel_runs.specs.Made.{Makes, whole_of}
use Rattle.kernel_runs.proofs.Evaluated.{top_faulted, top_made, top_refused}
use Rattle.kernel_runs.proofs.evaluation.step_of_top.Goals as goal

pub returns-clause-makes : goal.returns-clause-makes
returns-clause-makes c =
    subst (λ m. Makes c.args.k.now c.step_statement-step.new.k m (λ d. evaluate d d.processes.stack d.processes.runnable)) (sym (c.of_instance.ensures c.step_statement-step.new.said))
    (top_made c.args.k.now c.step_statement-step.new.k c.args.p c.requires.top (whole_step c.step_statement-step.result c.step_statement-step.new.said) c.requires.sound c.step_statement-step.ensures.makes)

pub step_statement-step-requires-clause-posts : goal.step_statement-step-requires-clause-posts
step_statement-step-requires-clause-posts c = c.requires.asked.posts

pub step_statement-step-requires-clause-room : goal.step_statement-step-requires-clause-room
step_statement-step-requires-clause-room c = omega (arith, c.requires.room)

pub returns-clause-refused : goal.returns-clause-refused
returns-clause-refused c = top_refused (whole_of c.of_instance.result c.step_statement-step.new.said) (whole_step c.step_statement-step.result c.step_statement-step.new.said) _ (c.of_instance.ensures c.step_statement-step.new.said) c.step_statement-step.ensures.refused

pub returns-clause-faulted : goal.returns-clause-faulted
returns-clause-faulted c = top_faulted (whole_of c.of_instance.result c.step_statement-step.new.said) (whole_step c.step_statement-step.result c.step_statement-step.new.said) _ (c.of_instance.ensures c.step_statement-step.new.said) c.step_statement-step.ensures.faulted
