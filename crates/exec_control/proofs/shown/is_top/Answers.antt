use Rattle.std.proofs.Common.{sym, subst, true≢false, eqb-true}
use Rattle.exec_data.specs.KernelProcesses.Moved.{IsTop}
use Rattle.exec_control.proofs.Suspended.{top_as, nobody_on_top}
use Rattle.exec_control.proofs.shown.is_top.Goals as goal

pub returns-in-Some-clause-shown : goal.returns-in-Some-clause-shown
returns-in-Some-clause-shown c = λ d h. top_as c.args.k.now d h c.args.q c.in-Some.p c.in-Some.ensures.some

pub returns-in-Some-clause-top : goal.returns-in-Some-clause-top
returns-in-Some-clause-top c = λ is. subst (λ n. IsTop n c.args.k.now.schedule.stack.items) (eqb-true c.in-Some.p c.args.q is) c.in-Some.ensures.some

pub returns-in-None-clause-shown : goal.returns-in-None-clause-shown
returns-in-None-clause-shown c = λ d h. sym (nobody_on_top c.args.k.now d h c.args.q c.in-None.ensures.none)

pub returns-in-None-clause-top : goal.returns-in-None-clause-top
returns-in-None-clause-top c = λ is. absurd (true≢false (sym is))
