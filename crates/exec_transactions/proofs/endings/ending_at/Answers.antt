use Rattle.std.proofs.Common.{◌≡◌, sym, ap, ◌∙◌}
use Rattle.flat_design.specs.Code.{arena_of}
use Rattle.exec_calls.specs.KernelBodies.Layers.{call_of}
use Rattle.exec_calls.specs.SimModel.Residual as residual
use Rattle.exec_transactions.specs.Ending.{ending_of}
use Rattle.exec_transactions.proofs.endings.ending_at.Goals as goal

pub returns : goal.returns
returns c = λ d i x h there is.
    let ends : residual.leaves (call_of c.ending_call.result.now) ≡ residual.leaves x = sym (c.ending_call.ensures.frame d i h there) ∙ is in
    let same : call_of c.ending_call.result.now ≡ x = cc in
    c.ending_of.ensures ∙ ap (ending_of (arena_of c.args.k.now.program.now.code)) same ∙ ap (λ e. ending_of (arena_of e.code) x) (sym h.design)
