use Rattle.flat_design.specs.Code.{await_term}
use Rattle.exec_channels.specs.SimModel.Reading.{here}
use Rattle.exec_channels.specs.SimModel.Waiting.{do_next_trigger}
use Rattle.kernel_steps.specs.StepAnswers.{whole_step}
use Rattle.kernel_steps.proofs.Answered.{taking_made}
use Rattle.kernel_steps.proofs.events.trigger_step.Goals as goal

pub returns-clause-carries : goal.returns-clause-carries
returns-clause-carries c =
    taking_made c.args.k.now c.trigger_statement.new.k c.args.p (λ d q i r. do_next_trigger d q r (here d q i r) (await_term c.args.how.now)) (whole_step c.taking.result c.taking.new.said) c.trigger_statement.result c.taking.ensures
    c.trigger_statement.ensures.does
