use Rattle.std.proofs.Common.{Ok}
use Rattle.kernel_view.specs.SimModel.Reading.{here, val}
use Rattle.kernel_view.specs.SimModel.Storing.{passes, stored}
use Rattle.exec_data.proofs.Following.{evaluated, at_fault}
use Rattle.exec_data.proofs.assignments.assign_name.Goals as goal

pub returns-in-Ok-clause-does : goal.returns-in-Ok-clause-does
returns-in-Ok-clause-does c = λ e gives.
    evaluated c.args.k.now c.args.p c.args.v (λ h. val h e) gives (λ d q i r x. Ok (stored (passes d q r) q (here d q i r) c.args.target x)) c.store.new.k (Ok tt) c.in-Ok.x c.in-Ok.is c.store.ensures.steps

pub returns-in-Err-clause-does : goal.returns-in-Err-clause-does
returns-in-Err-clause-does c = λ e gives.
    at_fault c.args.k.now c.args.p c.args.v (λ h. val h e) gives (λ d q i r x. Ok (stored (passes d q r) q (here d q i r) c.args.target x)) c.in-Err.fault c.in-Err.is
