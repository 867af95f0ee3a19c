use Rattle.std.proofs.Common.{sym, ap, ◌∙◌}
use Rattle.flat_design.specs.Code.{arena_of}
use Rattle.expr_eval.specs.SimModel.Reading.{home_of_via}
use Rattle.kernel_state.specs.ProcessBodies.Bodies.{left_in}
use Rattle.kernel_view.proofs.Within.{settled_within}
use Rattle.kernel_view.proofs.standings.home_of.Goals as goal

pub returns-in-None : goal.returns-in-None
returns-in-None c =
    let p = c.args.k.now.program.now in
    ap (home_of_via c.args.k.now.design c.args.kept.now.home) (sym (settled_within (arena_of p.code) (left_in p c.args.kept.now.body) (sym (c.within_now.ensures (arena_of p.code)) ∙ c.in-None.is)))
