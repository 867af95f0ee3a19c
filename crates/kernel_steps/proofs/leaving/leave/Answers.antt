use Rattle.kernel_steps.proofs.Endings.{blocking, nonblocking, plainly}
use Rattle.kernel_steps.proofs.leaving.leave.Goals as goal

pub b_transport_returns-requires-clause-called : goal.b_transport_returns-requires-clause-called
b_transport_returns-requires-clause-called c = blocking c.args.k.now c.args.p c.end_at.result _ _ c.in-Blocking.d c.in-Blocking.is c.end_at.ensures.called

pub nb_transport_returns-requires-clause-called : goal.nb_transport_returns-requires-clause-called
nb_transport_returns-requires-clause-called c = nonblocking c.args.k.now c.args.p c.end_at.result c.in-NonBlocking.target _ _ c.in-NonBlocking.phase c.in-NonBlocking.d c.in-NonBlocking.is c.end_at.ensures.called

pub leave_plain_call-requires-clause-called : goal.leave_plain_call-requires-clause-called
leave_plain_call-requires-clause-called c = plainly c.args.k.now c.args.p c.end_at.result c.in-Plain.is c.end_at.ensures.called
