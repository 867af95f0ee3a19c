use Rattle.std.proofs.Common.{◌==◌, not, true, false, refl, sym, ap, ◌∙◌}
use Rattle.kernel_processes.specs.FifoSync.Fifos.{free}
use Rattle.std.specs.Prelude.{slice_get}
use Rattle.kernel_state.proofs.Fifos.{tested, untested, negated, written_steps, blocked_steps, refused_moves, no_fifo_steps}
use Rattle.kernel_state.proofs.statements.write_fifo.Goals as goal

pub returns-in-Some-true-clause-steps : goal.returns-in-Some-true-clause-steps
returns-in-Some-true-clause-steps c =
    let t = tested (λ q. not (free q == 0)) (slice_get c.args.k.now.channels.fifos c.args.n) _ (sym c.in-Some-true.is ∙ c.write_fifo.ensures.done) in
    written_steps c.args.k.now c.args.n c.args.v _ c.write_fifo.ensures.left t.0 t.1.0 (negated (free t.0 == 0) true (t.1.1 ∙ c.in-Some-true.field-0-test)) c.args.p c.args.events c.pass.new.k c.pass.ensures.steps

pub returns-in-Ok-clause-steps : goal.returns-in-Ok-clause-steps
returns-in-Ok-clause-steps c =
    let t = tested (λ q. not (free q == 0)) (slice_get c.args.k.now.channels.fifos c.args.n) _ (sym c.in-Some-false.is ∙ c.write_fifo.ensures.done) in
    blocked_steps c.args.k.now c.args.n c.args.v _ c.write_fifo.ensures.left t.0 t.1.0 (negated (free t.0 == 0) false (t.1.1 ∙ c.in-Some-false.field-0-test)) c.args.p c.args.events c.block.new.k c.in-Ok.ensures.steps

pub returns-in-Err-clause-stays : goal.returns-in-Err-clause-stays
returns-in-Err-clause-stays c =
    let t = tested (λ q. not (free q == 0)) (slice_get c.args.k.now.channels.fifos c.args.n) _ (sym c.in-Some-false.is ∙ c.write_fifo.ensures.done) in
    refused_moves c.args.k.now c.args.n c.args.v _ c.write_fifo.ensures.left t.0 t.1.0 (negated (free t.0 == 0) false (t.1.1 ∙ c.in-Some-false.field-0-test)) c.block.new.k c.in-Err.ensures.stays

pub returns-in-None-clause-steps : goal.returns-in-None-clause-steps
returns-in-None-clause-steps c = no_fifo_steps c.args.k.now c.args.n c.args.v _ c.write_fifo.ensures.left (untested (λ q. not (free q == 0)) (slice_get c.args.k.now.channels.fifos c.args.n) (sym c.in-None.is ∙ c.write_fifo.ensures.done))
    c.args.p c.args.events c.pass-in-None.new.k c.pass-in-None.ensures.steps
