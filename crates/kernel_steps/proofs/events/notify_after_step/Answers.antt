use Rattle.flat_design.specs.Code.{term_of}
use Rattle.exec_channels.specs.SimModel.Reading.{here}
use Rattle.exec_channels.specs.SimModel.Waiting.{do_notify_after}
use Rattle.kernel_steps.specs.StepAnswers.{whole_step}
use Rattle.kernel_steps.proofs.Answered.{plain_made}
use Rattle.kernel_steps.proofs.Takes.{plain_takes_none}
use Rattle.kernel_steps.proofs.events.notify_after_step.Goals as goal

pub returns-clause-carries : goal.returns-clause-carries
returns-clause-carries c =
    plain_made c.args.k.now c.notify_after.new.k c.args.p (λ d q i r. do_notify_after d q r (here d q i r) c.args.n (term_of c.args.e.now)) (whole_step c.plain.result c.plain.new.said) c.notify_after.result c.plain.ensures
    c.notify_after.ensures.does

pub returns-clause-takes_none : goal.returns-clause-takes_none
returns-clause-takes_none c = plain_takes_none (whole_step c.plain.result c.plain.new.said) c.notify_after.result c.plain.ensures
