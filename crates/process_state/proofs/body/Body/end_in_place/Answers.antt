use Rattle.std.proofs.Common.{◌≡◌, ◌-◌, suc, length, arith}
use Rattle.process_state.proofs.Passed.{ended_shows_if}
use Rattle.process_state.proofs.body.Body.end_in_place.Goals as goal

pub returns-in-None-clause-value : goal.returns-in-None-clause-value
returns-in-None-clause-value c =
    let b = c.args.self.now in
    let i = c.len-many.result - 1 in
    let last : suc i ≡ length b.frames.items = omega (arith, c.if-many-eq0.false, b.frames.ok.0) in
    ended_shows_if b.goal b.frames.items b.statement i c.index.result.now c.in-None.is last c.index.ensures c.end_of.result c.end_of.ensures.settled
