use Rattle.std.proofs.Common.{map, ◌∷◌, [], Some, refl, sym, ap, ◌∙◌, subst}
use Rattle.std.specs.Prelude.{Contains}
use Rattle.flat_design.specs.Code.{statement_of, argument_term}
use Rattle.exec_channels.specs.SimModel.Reading.{here}
use Rattle.exec_channels.specs.SimModel.Calls.{do_call}
use Rattle.exec_channels.specs.KernelState.Stopping.{DoesOrStops}
use Rattle.exec_channels.specs.KernelBodies.Around.{around_if}
use Rattle.exec_channels.specs.KernelBodies.Depths.{blocks_in}
use Rattle.kernel_steps.specs.Taking.{takes_memory}
use Rattle.kernel_steps.specs.StepAnswers.{whole_step}
use Rattle.kernel_steps.specs.declared.answers.StepAnswer.TheVariants as answer
use Rattle.kernel_steps.proofs.Blocks.{is_first}
use Rattle.kernel_steps.proofs.Answered.{carried, plain_carried, plain_faulted, plain_refused, taking_carried, taking_faulted, taking_refused, sending_carried, try_carried}
use Rattle.kernel_steps.proofs.Takes.{plain_takes_none, all_takes}
use Rattle.kernel_steps.proofs.carrying.carry_rare.Goals as goal

pub returns-in-Call-clause-carries : goal.returns-in-Call-clause-carries
returns-in-Call-clause-carries c = taking_carried c.args.k.now c.call.new.k (whole_step c.taking.result c.taking.new.said) c.args.p c.args.s c.args.statement.now _ c.in-Call.is refl c.call.result c.taking.ensures
    (subst (λ xs. DoesOrStops c.args.k.now c.call.new.k c.call.result c.args.p (λ d q i r. do_call d q r (here d q i r) c.args.s c.in-Call.f (map argument_term xs))) c.as_slice.ensures.value c.call.ensures.does)

pub returns-in-Read-clause-carries : goal.returns-in-Read-clause-carries
returns-in-Read-clause-carries c = taking_carried c.args.k.now c.read.new.k (whole_step c.taking-in-Read.result c.taking-in-Read.new.said) c.args.p c.args.s c.args.statement.now _ c.in-Read.is refl c.read.result c.taking-in-Read.ensures c.read.ensures.does

pub returns-in-NbRead-clause-carries : goal.returns-in-NbRead-clause-carries
returns-in-NbRead-clause-carries c = plain_carried c.args.k.now c.nb_read.new.k (whole_step c.plain.result c.plain.new.said) c.args.p c.args.s c.args.statement.now _ c.in-NbRead.is refl c.nb_read.result c.plain.ensures c.nb_read.ensures.does

pub returns-in-NbWrite-clause-carries : goal.returns-in-NbWrite-clause-carries
returns-in-NbWrite-clause-carries c = plain_carried c.args.k.now c.nb_write.new.k (whole_step c.plain-in-NbWrite.result c.plain-in-NbWrite.new.said) c.args.p c.args.s c.args.statement.now _ c.in-NbWrite.is refl c.nb_write.result c.plain-in-NbWrite.ensures c.nb_write.ensures.does

pub returns-in-Trylock-clause-carries : goal.returns-in-Trylock-clause-carries
returns-in-Trylock-clause-carries c = plain_carried c.args.k.now c.trylock.new.k (whole_step c.plain-in-Trylock.result c.plain-in-Trylock.new.said) c.args.p c.args.s c.args.statement.now _ c.in-Trylock.is refl c.trylock.result c.plain-in-Trylock.ensures c.trylock.ensures.does

pub returns-in-Unlock-clause-carries : goal.returns-in-Unlock-clause-carries
returns-in-Unlock-clause-carries c = plain_carried c.args.k.now c.unlock.new.k (whole_step c.plain-in-Unlock.result c.plain-in-Unlock.new.said) c.args.p c.args.s c.args.statement.now _ c.in-Unlock.is refl c.unlock.result c.plain-in-Unlock.ensures c.unlock.ensures.does

pub returns-in-SemTrywait-clause-carries : goal.returns-in-SemTrywait-clause-carries
returns-in-SemTrywait-clause-carries c = plain_carried c.args.k.now c.sem_trywait.new.k (whole_step c.plain-in-SemTrywait.result c.plain-in-SemTrywait.new.said) c.args.p c.args.s c.args.statement.now _ c.in-SemTrywait.is refl c.sem_trywait.result c.plain-in-SemTrywait.ensures c.sem_trywait.ensures.does

pub returns-in-Cancel-clause-carries : goal.returns-in-Cancel-clause-carries
returns-in-Cancel-clause-carries c = carried c.args.k.now c.cancel_named.new.k answer.Went c.args.p c.args.s c.args.statement.now _ c.in-Cancel.is refl c.cancel_named.ensures.does

pub returns-in-Lock-clause-carries : goal.returns-in-Lock-clause-carries
returns-in-Lock-clause-carries c = taking_carried c.args.k.now c.lock.new.k (whole_step c.taking-in-Lock.result c.taking-in-Lock.new.said) c.args.p c.args.s c.args.statement.now _ c.in-Lock.is refl c.lock.result c.taking-in-Lock.ensures c.lock.ensures.does

pub returns-in-SemWait-clause-carries : goal.returns-in-SemWait-clause-carries
returns-in-SemWait-clause-carries c = taking_carried c.args.k.now c.sem_wait.new.k (whole_step c.taking-in-SemWait.result c.taking-in-SemWait.new.said) c.args.p c.args.s c.args.statement.now _ c.in-SemWait.is refl c.sem_wait.result c.taking-in-SemWait.ensures c.sem_wait.ensures.does

pub returns-in-Post-clause-carries : goal.returns-in-Post-clause-carries
returns-in-Post-clause-carries c = plain_carried c.args.k.now c.post.new.k (whole_step c.plain-in-Post.result c.plain-in-Post.new.said) c.args.p c.args.s c.args.statement.now _ c.in-Post.is refl c.post.result c.plain-in-Post.ensures c.post.ensures.does

pub returns-in-Spawn-clause-carries : goal.returns-in-Spawn-clause-carries
returns-in-Spawn-clause-carries c = taking_carried c.args.k.now c.spawn.new.k (whole_step c.taking-in-Spawn.result c.taking-in-Spawn.new.said) c.args.p c.args.s c.args.statement.now _ c.in-Spawn.is refl c.spawn.result c.taking-in-Spawn.ensures c.spawn.ensures.does

pub throw-requires-clause-free : goal.throw-requires-clause-free
throw-requires-clause-free c = c.requires.free c.in-Throw.e (ap statement_of c.in-Throw.is)

pub returns-in-Throw-clause-carries : goal.returns-in-Throw-clause-carries
returns-in-Throw-clause-carries c = plain_carried c.args.k.now c.throw.new.k (whole_step c.plain-in-Throw.result c.plain-in-Throw.new.said) c.args.p c.args.s c.args.statement.now _ c.in-Throw.is refl c.throw.result c.plain-in-Throw.ensures c.throw.ensures.does

pub returns-in-Return-clause-carries : goal.returns-in-Return-clause-carries
returns-in-Return-clause-carries c = plain_carried c.args.k.now c.return_value.new.k (whole_step c.plain-in-Return.result c.plain-in-Return.new.said) c.args.p c.args.s c.args.statement.now _ c.in-Return.is refl c.return_value.result c.plain-in-Return.ensures c.return_value.ensures.does

pub returns-in-Stop-clause-carries : goal.returns-in-Stop-clause-carries
returns-in-Stop-clause-carries c = carried c.args.k.now c.stop.new.k answer.Went c.args.p c.args.s c.args.statement.now _ c.in-Stop.is refl c.stop.ensures.steps

pub begin_guard-requires-clause-owes : goal.begin_guard-requires-clause-owes
begin_guard-requires-clause-owes c = ap around_if (c.requires.there ∙ ap (λ z. Some (statement_of z)) c.in-Guard.is)

pub begin_guard-requires-clause-inner : goal.begin_guard-requires-clause-inner
begin_guard-requires-clause-inner c = subst (λ o. Contains (blocks_in o) c.in-Guard.b) (sym (c.requires.there ∙ ap (λ z. Some (statement_of z)) c.in-Guard.is)) (is_first c.in-Guard.b (c.in-Guard.u ∷ []))

pub returns-in-Guard-clause-carries : goal.returns-in-Guard-clause-carries
returns-in-Guard-clause-carries c = carried c.args.k.now c.begin_guard.new.k answer.Went c.args.p c.args.s c.args.statement.now _ c.in-Guard.is refl c.begin_guard.ensures.does

pub begin_try-requires-clause-catches : goal.begin_try-requires-clause-catches
begin_try-requires-clause-catches c = ap around_if (c.requires.there ∙ ap (λ z. Some (statement_of z)) c.in-Try.is)

pub begin_try-requires-clause-inner : goal.begin_try-requires-clause-inner
begin_try-requires-clause-inner c = subst (λ o. Contains (blocks_in o) c.in-Try.b) (sym (c.requires.there ∙ ap (λ z. Some (statement_of z)) c.in-Try.is)) (is_first c.in-Try.b _)

pub returns-in-Try-clause-carries : goal.returns-in-Try-clause-carries
returns-in-Try-clause-carries c = try_carried c.args.k.now c.begin_try.new.k c.args.p c.args.s c.in-Try.b c.args.statement.now _ c.in-Try.is c.requires.there c.begin_try.ensures.does

pub returns-in-Make-clause-carries : goal.returns-in-Make-clause-carries
returns-in-Make-clause-carries c = taking_carried c.args.k.now c.make.new.k (whole_step c.taking-in-Make.result c.taking-in-Make.new.said) c.args.p c.args.s c.args.statement.now _ c.in-Make.is refl c.make.result c.taking-in-Make.ensures c.make.ensures.does

pub returns-in-Acquire-clause-carries : goal.returns-in-Acquire-clause-carries
returns-in-Acquire-clause-carries c = plain_carried c.args.k.now c.acquire.new.k (whole_step c.plain-in-Acquire.result c.plain-in-Acquire.new.said) c.args.p c.args.s c.args.statement.now _ c.in-Acquire.is refl c.acquire.result c.plain-in-Acquire.ensures c.acquire.ensures.does

pub returns-in-Release-clause-carries : goal.returns-in-Release-clause-carries
returns-in-Release-clause-carries c = plain_carried c.args.k.now c.release.new.k (whole_step c.plain-in-Release.result c.plain-in-Release.new.said) c.args.p c.args.s c.args.statement.now _ c.in-Release.is refl c.release.result c.plain-in-Release.ensures c.release.ensures.does

pub returns-in-Carry-clause-carries : goal.returns-in-Carry-clause-carries
returns-in-Carry-clause-carries c = plain_carried c.args.k.now c.carry.new.k (whole_step c.plain-in-Carry.result c.plain-in-Carry.new.said) c.args.p c.args.s c.args.statement.now _ c.in-Carry.is refl c.carry.result c.plain-in-Carry.ensures c.carry.ensures.does

pub returns-in-QkGlobal-clause-carries : goal.returns-in-QkGlobal-clause-carries
returns-in-QkGlobal-clause-carries c = plain_carried c.args.k.now c.qk_global.new.k (whole_step c.plain-in-QkGlobal.result c.plain-in-QkGlobal.new.said) c.args.p c.args.s c.args.statement.now _ c.in-QkGlobal.is refl c.qk_global.result c.plain-in-QkGlobal.ensures c.qk_global.ensures.does

pub returns-in-QkInc-clause-carries : goal.returns-in-QkInc-clause-carries
returns-in-QkInc-clause-carries c = plain_carried c.args.k.now c.qk_inc.new.k (whole_step c.plain-in-QkInc.result c.plain-in-QkInc.new.said) c.args.p c.args.s c.args.statement.now _ c.in-QkInc.is refl c.qk_inc.result c.plain-in-QkInc.ensures c.qk_inc.ensures.does

pub returns-in-QkSet-clause-carries : goal.returns-in-QkSet-clause-carries
returns-in-QkSet-clause-carries c = plain_carried c.args.k.now c.qk_set.new.k (whole_step c.plain-in-QkSet.result c.plain-in-QkSet.new.said) c.args.p c.args.s c.args.statement.now _ c.in-QkSet.is refl c.qk_set.result c.plain-in-QkSet.ensures c.qk_set.ensures.does

pub returns-in-QkReset-clause-carries : goal.returns-in-QkReset-clause-carries
returns-in-QkReset-clause-carries c = plain_carried c.args.k.now c.qk_reset.new.k (whole_step c.plain-in-QkReset.result c.plain-in-QkReset.new.said) c.args.p c.args.s c.args.statement.now _ c.in-QkReset.is refl c.qk_reset.result c.plain-in-QkReset.ensures c.qk_reset.ensures.does

pub returns-in-Control-clause-carries : goal.returns-in-Control-clause-carries
returns-in-Control-clause-carries c = taking_carried c.args.k.now c.control.new.k (whole_step c.taking-in-Control.result c.taking-in-Control.new.said) c.args.p c.args.s c.args.statement.now _ c.in-Control.is refl c.control.result c.taking-in-Control.ensures c.control.ensures.does

pub returns-in-ThrowIt-clause-carries : goal.returns-in-ThrowIt-clause-carries
returns-in-ThrowIt-clause-carries c = taking_carried c.args.k.now c.throw_it.new.k (whole_step c.taking-in-ThrowIt.result c.taking-in-ThrowIt.new.said) c.args.p c.args.s c.args.statement.now _ c.in-ThrowIt.is refl c.throw_it.result c.taking-in-ThrowIt.ensures c.throw_it.ensures.does

pub returns-in-NbTransport-clause-carries : goal.returns-in-NbTransport-clause-carries
returns-in-NbTransport-clause-carries c = sending_carried c.args.k.now c.nb_transport.new.k (whole_step c.taking-in-NbTransport.result c.taking-in-NbTransport.new.said) c.args.p c.args.s c.args.statement.now _ c.in-NbTransport.is refl c.nb_transport.result c.taking-in-NbTransport.ensures c.nb_transport.ensures.calls

pub returns-in-BTransport-clause-carries : goal.returns-in-BTransport-clause-carries
returns-in-BTransport-clause-carries c = sending_carried c.args.k.now c.b_transport.new.k (whole_step c.taking-in-BTransport.result c.taking-in-BTransport.new.said) c.args.p c.args.s c.args.statement.now _ c.in-BTransport.is refl c.b_transport.result c.taking-in-BTransport.ensures c.b_transport.ensures.calls

pub returns-in-Make-clause-refused : goal.returns-in-Make-clause-refused
returns-in-Make-clause-refused c = taking_refused (whole_step c.taking-in-Make.result c.taking-in-Make.new.said) c.make.result _ c.taking-in-Make.ensures c.make.ensures.refused

pub returns-in-Make-clause-faulted : goal.returns-in-Make-clause-faulted
returns-in-Make-clause-faulted c = taking_faulted (whole_step c.taking-in-Make.result c.taking-in-Make.new.said) c.make.result _ c.taking-in-Make.ensures c.make.ensures.refused

pub returns-in-Acquire-clause-refused : goal.returns-in-Acquire-clause-refused
returns-in-Acquire-clause-refused c = plain_refused (whole_step c.plain-in-Acquire.result c.plain-in-Acquire.new.said) c.acquire.result _ c.plain-in-Acquire.ensures c.acquire.ensures.refused

pub returns-in-Acquire-clause-faulted : goal.returns-in-Acquire-clause-faulted
returns-in-Acquire-clause-faulted c = plain_faulted (whole_step c.plain-in-Acquire.result c.plain-in-Acquire.new.said) c.acquire.result _ c.plain-in-Acquire.ensures c.acquire.ensures.refused

pub returns-in-Spawn-clause-refused : goal.returns-in-Spawn-clause-refused
returns-in-Spawn-clause-refused c = taking_refused (whole_step c.taking-in-Spawn.result c.taking-in-Spawn.new.said) c.spawn.result _ c.taking-in-Spawn.ensures c.spawn.ensures.refused

pub returns-in-Spawn-clause-faulted : goal.returns-in-Spawn-clause-faulted
returns-in-Spawn-clause-faulted c = taking_faulted (whole_step c.taking-in-Spawn.result c.taking-in-Spawn.new.said) c.spawn.result _ c.taking-in-Spawn.ensures c.spawn.ensures.refused

pub returns-in-NbRead-clause-memory : goal.returns-in-NbRead-clause-memory
returns-in-NbRead-clause-memory c = λ e. absurd (plain_takes_none (whole_step c.plain.result c.plain.new.said) c.nb_read.result c.plain.ensures e)

pub returns-in-NbWrite-clause-memory : goal.returns-in-NbWrite-clause-memory
returns-in-NbWrite-clause-memory c = λ e. absurd (plain_takes_none (whole_step c.plain-in-NbWrite.result c.plain-in-NbWrite.new.said) c.nb_write.result c.plain-in-NbWrite.ensures e)

pub returns-in-Trylock-clause-memory : goal.returns-in-Trylock-clause-memory
returns-in-Trylock-clause-memory c = λ e. absurd (plain_takes_none (whole_step c.plain-in-Trylock.result c.plain-in-Trylock.new.said) c.trylock.result c.plain-in-Trylock.ensures e)

pub returns-in-Unlock-clause-memory : goal.returns-in-Unlock-clause-memory
returns-in-Unlock-clause-memory c = λ e. absurd (plain_takes_none (whole_step c.plain-in-Unlock.result c.plain-in-Unlock.new.said) c.unlock.result c.plain-in-Unlock.ensures e)

pub returns-in-SemTrywait-clause-memory : goal.returns-in-SemTrywait-clause-memory
returns-in-SemTrywait-clause-memory c = λ e. absurd (plain_takes_none (whole_step c.plain-in-SemTrywait.result c.plain-in-SemTrywait.new.said) c.sem_trywait.result c.plain-in-SemTrywait.ensures e)

pub returns-in-Post-clause-memory : goal.returns-in-Post-clause-memory
returns-in-Post-clause-memory c = λ e. absurd (plain_takes_none (whole_step c.plain-in-Post.result c.plain-in-Post.new.said) c.post.result c.plain-in-Post.ensures e)

pub returns-in-Acquire-clause-memory : goal.returns-in-Acquire-clause-memory
returns-in-Acquire-clause-memory c = λ e. absurd (plain_takes_none (whole_step c.plain-in-Acquire.result c.plain-in-Acquire.new.said) c.acquire.result c.plain-in-Acquire.ensures e)

pub returns-in-Release-clause-memory : goal.returns-in-Release-clause-memory
returns-in-Release-clause-memory c = λ e. absurd (plain_takes_none (whole_step c.plain-in-Release.result c.plain-in-Release.new.said) c.release.result c.plain-in-Release.ensures e)

pub returns-in-Carry-clause-memory : goal.returns-in-Carry-clause-memory
returns-in-Carry-clause-memory c = λ e. absurd (plain_takes_none (whole_step c.plain-in-Carry.result c.plain-in-Carry.new.said) c.carry.result c.plain-in-Carry.ensures e)

pub returns-in-QkGlobal-clause-memory : goal.returns-in-QkGlobal-clause-memory
returns-in-QkGlobal-clause-memory c = λ e. absurd (plain_takes_none (whole_step c.plain-in-QkGlobal.result c.plain-in-QkGlobal.new.said) c.qk_global.result c.plain-in-QkGlobal.ensures e)

pub returns-in-QkInc-clause-memory : goal.returns-in-QkInc-clause-memory
returns-in-QkInc-clause-memory c = λ e. absurd (plain_takes_none (whole_step c.plain-in-QkInc.result c.plain-in-QkInc.new.said) c.qk_inc.result c.plain-in-QkInc.ensures e)

pub returns-in-QkSet-clause-memory : goal.returns-in-QkSet-clause-memory
returns-in-QkSet-clause-memory c = λ e. absurd (plain_takes_none (whole_step c.plain-in-QkSet.result c.plain-in-QkSet.new.said) c.qk_set.result c.plain-in-QkSet.ensures e)

pub returns-in-QkReset-clause-memory : goal.returns-in-QkReset-clause-memory
returns-in-QkReset-clause-memory c = λ e. absurd (plain_takes_none (whole_step c.plain-in-QkReset.result c.plain-in-QkReset.new.said) c.qk_reset.result c.plain-in-QkReset.ensures e)

pub returns-in-Throw-clause-memory : goal.returns-in-Throw-clause-memory
returns-in-Throw-clause-memory c = λ e. absurd (plain_takes_none (whole_step c.plain-in-Throw.result c.plain-in-Throw.new.said) c.throw.result c.plain-in-Throw.ensures e)

pub returns-in-Return-clause-memory : goal.returns-in-Return-clause-memory
returns-in-Return-clause-memory c = λ e. absurd (plain_takes_none (whole_step c.plain-in-Return.result c.plain-in-Return.new.said) c.return_value.result c.plain-in-Return.ensures e)

pub returns-in-Call-clause-memory : goal.returns-in-Call-clause-memory
returns-in-Call-clause-memory c = λ e. ap (λ z. takes_memory (statement_of z)) c.in-Call.is

pub returns-in-Read-clause-memory : goal.returns-in-Read-clause-memory
returns-in-Read-clause-memory c = λ e. ap (λ z. takes_memory (statement_of z)) c.in-Read.is

pub returns-in-NbTransport-clause-memory : goal.returns-in-NbTransport-clause-memory
returns-in-NbTransport-clause-memory c = λ e. ap (λ z. takes_memory (statement_of z)) c.in-NbTransport.is

pub returns-in-Lock-clause-memory : goal.returns-in-Lock-clause-memory
returns-in-Lock-clause-memory c = λ e. ap (λ z. takes_memory (statement_of z)) c.in-Lock.is

pub returns-in-SemWait-clause-memory : goal.returns-in-SemWait-clause-memory
returns-in-SemWait-clause-memory c = λ e. ap (λ z. takes_memory (statement_of z)) c.in-SemWait.is

pub returns-in-Make-clause-memory : goal.returns-in-Make-clause-memory
returns-in-Make-clause-memory c = λ e. ap (λ z. takes_memory (statement_of z)) c.in-Make.is

pub returns-in-BTransport-clause-memory : goal.returns-in-BTransport-clause-memory
returns-in-BTransport-clause-memory c = λ e. ap (λ z. takes_memory (statement_of z)) c.in-BTransport.is

pub returns-in-Spawn-clause-memory : goal.returns-in-Spawn-clause-memory
returns-in-Spawn-clause-memory c = λ e. ap (λ z. takes_memory (statement_of z)) c.in-Spawn.is

pub returns-in-Control-clause-memory : goal.returns-in-Control-clause-memory
returns-in-Control-clause-memory c = λ e. ap (λ z. takes_memory (statement_of z)) c.in-Control.is ∙ all_takes (whole_step c.taking-in-Control.result c.taking-in-Control.new.said) c.control.result c.in-Control.descendants c.taking-in-Control.ensures c.control.ensures.alone e

pub returns-in-ThrowIt-clause-memory : goal.returns-in-ThrowIt-clause-memory
returns-in-ThrowIt-clause-memory c = λ e. ap (λ z. takes_memory (statement_of z)) c.in-ThrowIt.is ∙ all_takes (whole_step c.taking-in-ThrowIt.result c.taking-in-ThrowIt.new.said) c.throw_it.result c.in-ThrowIt.descendants c.taking-in-ThrowIt.ensures c.throw_it.ensures.alone e
