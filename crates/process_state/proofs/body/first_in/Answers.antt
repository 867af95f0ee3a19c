use Rattle.std.proofs.Common.{◌≡◌, ◌-◌, suc, length, arith}
use Rattle.kernel_bodies.specs.FlatDesign.Code.{arena_of}
use Rattle.process_state.proofs.Passed.{comes_here}
use Rattle.process_state.proofs.body.first_in.Goals as goal

pub returns-in-Some : goal.returns-in-Some
returns-in-Some c =
    let v = c.args.saved.now.blocks in
    let i = c.len-many.result - 1 in
    let last : suc i ≡ length v.items = omega (arith, c.if-many-eq0.false, v.ok.0) in
    comes_here (arena_of c.args.program.now.code) v.items i c.index.result.now _ c.in-Some.statement last c.index.ensures c.in-Some.ensures.settles
