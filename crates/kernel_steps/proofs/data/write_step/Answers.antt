use Rattle.flat_design.specs.Code.{term_of, channel_term}
use Rattle.exec_channels.specs.SimModel.Reading.{here}
use Rattle.exec_channels.specs.SimModel.Channels.{do_write}
use Rattle.kernel_steps.specs.StepAnswers.{whole_step}
use Rattle.kernel_steps.proofs.Answered.{taking_made}
use Rattle.kernel_steps.proofs.data.write_step.Goals as goal

pub returns-clause-carries : goal.returns-clause-carries
returns-clause-carries c =
    taking_made c.args.k.now c.write.new.k c.args.p (λ d q i r. do_write d q r (here d q i r) (channel_term c.args.to.now) c.args.t (term_of c.args.e.now)) (whole_step c.taking.result c.taking.new.said) c.write.result c.taking.ensures
    c.write.ensures.does
