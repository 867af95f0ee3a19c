use Rattle.std.proofs.Common.{◌≡◌, sym, ap, ◌∙◌}
use Rattle.std.specs.Option.{option_copied}
use Rattle.exec_data.specs.KernelBodies.Layers.{call_of}
use Rattle.exec_data.specs.ProcessBodies.Bodies.{settled_in}
use Rattle.exec_data.specs.SimModel.Residual as residual
use Rattle.exec_data.specs.SimModel.Residual.{next_of}
use Rattle.exec_calls.proofs.OneBody.{was, kept_is, comes_next}
use Rattle.exec_calls.proofs.leaving.ending_call.Goals as goal

pub ending_in-requires : goal.ending_in-requires
ending_in-requires c = c.requires.leaves c.in-Some.x.now.body.body (was c.args.k.now c.args.p c.in-Some.x.now (sym c.get.ensures.value ∙ ap option_copied c.in-Some.is))

pub returns-clause-ends : goal.returns-clause-ends
returns-clause-ends c =
    kept_is c.args.k.now c.args.p c.in-Some.x.now (sym c.get.ensures.value ∙ ap option_copied c.in-Some.is)
    (λ kept. next_of (settled_in c.args.k.now.program.now kept.body) ≡ residual.leaves (call_of c.ending_in.result.now)) c.ending_in.ensures

pub returns-clause-frame : goal.returns-clause-frame
returns-clause-frame c =
    comes_next c.args.k.now c.args.p c.in-Some.x.now (sym c.get.ensures.value ∙ ap option_copied c.in-Some.is) (residual.leaves (call_of c.ending_in.result.now)) c.ending_in.ensures
