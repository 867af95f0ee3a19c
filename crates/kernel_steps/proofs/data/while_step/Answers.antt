use Rattle.std.proofs.Common.{[], ap, sym, subst}
use Rattle.std.specs.Prelude.{Contains}
use Rattle.flat_design.specs.Code.{term_of}
use Rattle.exec_channels.specs.KernelBodies.Around.{around_if}
use Rattle.exec_channels.specs.KernelBodies.Depths.{blocks_in}
use Rattle.exec_channels.specs.SimModel.Reading.{here}
use Rattle.exec_channels.specs.SimModel.Storing.{do_while}
use Rattle.kernel_steps.proofs.Answered.{plain_made}
use Rattle.kernel_steps.proofs.Blocks.{is_first}
use Rattle.kernel_steps.proofs.Takes.{plain_takes_none}
use Rattle.kernel_steps.specs.StepAnswers.{whole_step}
use Rattle.kernel_steps.proofs.data.while_step.Goals as goal

pub while_do-requires-clause-again : goal.while_do-requires-clause-again
while_do-requires-clause-again c = ap around_if c.requires.there

pub while_do-requires-clause-inner : goal.while_do-requires-clause-inner
while_do-requires-clause-inner c = subst (λ o. Contains (blocks_in o) c.args.b) (sym c.requires.there) (is_first c.args.b [])

pub returns-clause-carries : goal.returns-clause-carries
returns-clause-carries c =
    plain_made c.args.k.now c.while_do.new.k c.args.p (λ d q i r. do_while d q r (here d q i r) c.args.s (term_of c.args.e.now) c.args.b) (whole_step c.plain.result c.plain.new.said) c.while_do.result c.plain.ensures
    (c.while_do.ensures.does (term_of c.args.e.now) c.eval_at-value.ensures)

pub returns-clause-takes_none : goal.returns-clause-takes_none
returns-clause-takes_none c = plain_takes_none (whole_step c.plain.result c.plain.new.said) c.while_do.result c.plain.ensures
