use Rattle.std.proofs.Common.{sym, ◌∙◌}
use Rattle.kernel_phases.specs.ReadySet.Ready.{rising}
use Rattle.kernel_runs.proofs.Picked.{none_picked, not_runnable, is_taken}
use Rattle.kernel_runs.proofs.takings.take.Goals as goal

pub returns-in-None-clause-takes : goal.returns-in-None-clause-takes
returns-in-None-clause-takes g c = none_picked c.args.k.now (g.C.Chooser.picks c.args.chooser.now (rising c.args.k.now.schedule.ready.members)) (sym c.choose.ensures.answer ∙ c.in-None.is)

pub returns-then-has-clause-takes : goal.returns-then-has-clause-takes
returns-then-has-clause-takes g c =
    is_taken c.args.k.now (g.C.Chooser.picks c.args.chooser.now (rising c.args.k.now.schedule.ready.members)) c.turn.new.k c.in-Some.p c.has.result
    (sym c.choose.ensures.answer ∙ c.in-Some.is) c.has.ensures c.if-has.true c.turn.ensures.moves

pub returns-else-has-clause-takes : goal.returns-else-has-clause-takes
returns-else-has-clause-takes g c =
    not_runnable c.args.k.now (g.C.Chooser.picks c.args.chooser.now (rising c.args.k.now.schedule.ready.members)) c.in-Some.p c.has.result
    (sym c.choose.ensures.answer ∙ c.in-Some.is) c.has.ensures c.if-has.false
