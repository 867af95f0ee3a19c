use Rattle.std.proofs.Common.{subst}
use Rattle.vcd_trace.specs.Points.{IsPoint, snapshot_of}
use Rattle.vcd_trace.proofs.PointTexts.{point-adds, point-keeps}
use Rattle.vcd_trace.proofs.tracing.Tracing.next_point.Goals as goal

pub returns-clause-text : goal.returns-clause-text
returns-clause-text c = λ d before h keeps.
    let last = c.args.self.now.last in
    let t = c.args.time.0 in
    let text = c.in_ok-text.text in
    point-adds d before last c.in_ok-values.values t keeps (c.in_ok-values.ensures d h) text
    (subst (λ vs. IsPoint last (snapshot_of t vs) text) c.as_slice.ensures c.in_ok-text.ensures)

pub returns-clause-keeps : goal.returns-clause-keeps
returns-clause-keeps c = λ d before h keeps. point-keeps d before c.args.self.now.last c.in_ok-values.values c.args.time.0 keeps (c.in_ok-values.ensures d h)
