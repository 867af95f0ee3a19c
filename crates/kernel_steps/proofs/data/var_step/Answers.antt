use Rattle.std.proofs.Common.{option_map}
use Rattle.flat_design.specs.Code.{term_of}
use Rattle.exec_channels.specs.SimModel.Reading.{here}
use Rattle.exec_channels.specs.SimModel.Storing.{do_var}
use Rattle.kernel_steps.proofs.Answered.{plain_made}
use Rattle.kernel_steps.proofs.Takes.{plain_takes_none}
use Rattle.kernel_steps.specs.StepAnswers.{whole_step}
use Rattle.kernel_steps.proofs.data.var_step.Goals as goal

pub returns-clause-carries : goal.returns-clause-carries
returns-clause-carries c =
    plain_made c.args.k.now c.var.new.k c.args.p (λ d q i r. do_var d q r (here d q i r) c.args.n c.args.t (option_map term_of c.args.e.now)) (whole_step c.plain.result c.plain.new.said) c.var.result c.plain.ensures
    (c.var.ensures.does (option_map term_of c.args.e.now) c.eval_if_at-value.ensures)

pub returns-clause-takes_none : goal.returns-clause-takes_none
returns-clause-takes_none c = plain_takes_none (whole_step c.plain.result c.plain.new.said) c.var.result c.plain.ensures
