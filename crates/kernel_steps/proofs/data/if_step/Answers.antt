use Rattle.std.proofs.Common.{ap, sym, subst}
use Rattle.std.specs.Prelude.{Contains, IfSome}
use Rattle.flat_design.specs.Code.{term_of}
use Rattle.exec_channels.specs.KernelBodies.Around.{around_if}
use Rattle.exec_channels.specs.KernelBodies.Depths.{blocks_in}
use Rattle.exec_channels.specs.SimModel.Reading.{here}
use Rattle.exec_channels.specs.SimModel.Storing.{do_if}
use Rattle.kernel_steps.proofs.Answered.{plain_made}
use Rattle.kernel_steps.proofs.Blocks.{is_first, is_other}
use Rattle.kernel_steps.proofs.Takes.{plain_takes_none}
use Rattle.kernel_steps.specs.StepAnswers.{whole_step}
use Rattle.kernel_steps.proofs.data.if_step.Goals as goal

pub if_then-requires-clause-plain : goal.if_then-requires-clause-plain
if_then-requires-clause-plain c = ap around_if c.requires.there

pub if_then-requires-clause-inner : goal.if_then-requires-clause-inner
if_then-requires-clause-inner c = subst (λ o. Contains (blocks_in o) c.args.b) (sym c.requires.there) (is_first c.args.b _)

pub if_then-requires-clause-other : goal.if_then-requires-clause-other
if_then-requires-clause-other c = subst (λ o. IfSome c.args.other (Contains (blocks_in o))) (sym c.requires.there) (is_other c.args.b c.args.other)

pub returns-clause-carries : goal.returns-clause-carries
returns-clause-carries c =
    plain_made c.args.k.now c.if_then.new.k c.args.p (λ d q i r. do_if d q r (here d q i r) (term_of c.args.e.now) c.args.b c.args.other) (whole_step c.plain.result c.plain.new.said) c.if_then.result c.plain.ensures
    (c.if_then.ensures.does (term_of c.args.e.now) c.eval_at-value.ensures)

pub returns-clause-takes_none : goal.returns-clause-takes_none
returns-clause-takes_none c = plain_takes_none (whole_step c.plain.result c.plain.new.said) c.if_then.result c.plain.ensures
