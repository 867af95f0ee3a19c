use Rattle.flat_design.specs.Code.{term_of, destination_term}
use Rattle.exec_channels.specs.SimModel.Reading.{here}
use Rattle.exec_channels.specs.SimModel.Storing.{do_assign}
use Rattle.kernel_steps.specs.StepAnswers.{whole_step}
use Rattle.kernel_steps.proofs.Answered.{plain_made}
use Rattle.kernel_steps.proofs.Takes.{plain_takes_none}
use Rattle.kernel_steps.proofs.data.assign_step.Goals as goal

pub returns-clause-carries : goal.returns-clause-carries
returns-clause-carries c =
    plain_made c.args.k.now c.assign.new.k c.args.p (λ d q i r. do_assign d q r (here d q i r) (destination_term c.args.to.now) (term_of c.args.e.now)) (whole_step c.plain.result c.plain.new.said) c.assign.result c.plain.ensures
    c.assign.ensures.does

pub returns-clause-takes_none : goal.returns-clause-takes_none
returns-clause-takes_none c = plain_takes_none (whole_step c.plain.result c.plain.new.said) c.assign.result c.plain.ensures
