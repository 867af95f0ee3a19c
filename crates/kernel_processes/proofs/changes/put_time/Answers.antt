use Rattle.std.proofs.Common.{sym, ap, inr}
use Rattle.kernel_processes.proofs.Changed.{told_as, still_untimed, gets_zero, gets_time}
use Rattle.kernel_processes.specs.InstanceViews.{seen}
use Rattle.kernel_processes.specs.Sound.{time_of, is_zero}
use Rattle.kernel_processes.proofs.changes.put_time.Goals as goal

pub insert-requires-clause-room : goal.insert-requires-clause-room
insert-requires-clause-room g c = inr c.requires.zeros

pub set-requires : goal.set-requires
set-requires g c = inr c.requires.times

pub returns-in-None-clause-changes : goal.returns-in-None-clause-changes
returns-in-None-clause-changes g c = told_as c.args.p _ _ c.args.s.now _ (still_untimed c.args.s.now c.args.p c.requires.untimed)
    (ap (λ d. record (seen c.args.s.now c.args.p) { time = time_of d; zero = is_zero d }) (sym c.in-None.is))

pub returns-in-Delta-clause-changes : goal.returns-in-Delta-clause-changes
returns-in-Delta-clause-changes g c = told_as c.args.p _ _ c.args.s.now _ (gets_zero c.args.s.now c.args.p c.requires.untimed _ c.insert.ensures)
    (ap (λ d. record (seen c.args.s.now c.args.p) { time = time_of d; zero = is_zero d }) (sym c.in-Delta.is))

pub returns-in-At-clause-changes : goal.returns-in-At-clause-changes
returns-in-At-clause-changes g c = told_as c.args.p _ _ c.args.s.now _ (gets_time c.args.s.now c.args.p c.requires.untimed _ _ c.set.ensures)
    (ap (λ d. record (seen c.args.s.now c.args.p) { time = time_of d; zero = is_zero d }) (sym c.in-At.is))
