use Rattle.std.proofs.Common.{sym, subst, true≢false}
use Rattle.std.specs.Prelude.{IsOk}
use Rattle.exec_channels.specs.SimModel.Residual.{settle}
use Rattle.exec_channels.specs.SimModel.Configuration.{arena}
use Rattle.exec_channels.specs.SimModel.Statements.{settled_in}
use Rattle.kernel_steps.proofs.Silent.{done_quiet}
use Rattle.kernel_steps.proofs.Takes.{no_thread_refused}
use Rattle.kernel_steps.proofs.stepping.end_body.Goals as goal

pub returns-in-Ok-clause-makes : goal.returns-in-Ok-clause-makes
returns-in-Ok-clause-makes c d i h there = (c.in-Ok.ensures.steps d i h there, done_quiet (settled_in d c.args.p i.residual) c.args.p (record i { residual = settle (arena d) i.residual }) i.kind)

pub returns-in-Err-clause-makes : goal.returns-in-Err-clause-makes
returns-in-Err-clause-makes c d i h there = c.in-Err.ensures.stays d h

pub returns-in-Err-clause-memory : goal.returns-in-Err-clause-memory
returns-in-Err-clause-memory c = λ e. no_thread_refused c.args.k.now c.args.p (λ d i h there thread. true≢false (sym (subst IsOk c.in-Err.is (c.body_ends.ensures.thread d i h there thread))))
