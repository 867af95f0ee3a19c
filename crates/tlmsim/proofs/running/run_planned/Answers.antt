use Rattle.tlmsim.proofs.Courses.{ran_with, took_alone}
use Rattle.tlmsim.proofs.running.run_planned.Goals as goal

pub returns-in-None-None-clause-ran : goal.returns-in-None-None-clause-ran
returns-in-None-None-clause-ran g c =
    ran_with _ _ _ _ _ _ _ (λ t grew. took_alone g.S.Shelf.stands c.args.shelf.now c.args.plan.vcd c.args.plan.choices c.in-None-None.is-0 c.in-None-None.is-1 _ _ _ t grew) c.run_alone.ensures.ran
