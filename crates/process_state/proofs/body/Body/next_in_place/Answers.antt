use Rattle.std.proofs.Common.{◌≡◌, ◌-◌, ◌<◌, suc, length, arith}
use Rattle.kernel_bodies.specs.FlatDesign.Code.{arena_of}
use Rattle.process_state.proofs.Passed.{statement_shows, first_shows_if}
use Rattle.process_state.proofs.body.Body.next_in_place.Goals as goal

pub returns-in-Some : goal.returns-in-Some
returns-in-Some c =
    let b = c.args.self.now in
    let some : 0 < length b.frames.items = omega (arith, c.if-many-eq0.false, b.frames.ok.0) in
    statement_shows (arena_of c.args.program.now.code) b.goal b.frames.items b.statement c.in-Some.statement c.in-Some.is some

pub returns-in-None : goal.returns-in-None
returns-in-None c =
    let b = c.args.self.now in
    let i = c.len-many.result - 1 in
    let last : suc i ≡ length b.frames.items = omega (arith, c.if-many-eq0.false, b.frames.ok.0) in
    first_shows_if (arena_of c.args.program.now.code) b.goal b.frames.items b.statement i c.index.result.now c.in-None.is last c.index.ensures c.first_in.result c.first_in.ensures
