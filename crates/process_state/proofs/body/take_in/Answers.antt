use Rattle.std.proofs.Common.{◌≡◌, ◌-◌, ◌++◌, suc, Some, length, take, refl, sym, ap, ◌∙◌, arith}
use Rattle.std.specs.Vec.{vec_capacity}
use Rattle.kernel_bodies.specs.FlatDesign.Code.{arena_of}
use Rattle.kernel_bodies.specs.SimModel.Residual.{one}
use Rattle.kernel_bodies.specs.Layers.{inside, rest_if}
use Rattle.kernel_bodies.proofs.Rooms.{fits_at_cap}
use Rattle.process_state.proofs.Passed.{blocks_taken, blocks_fit}
use Rattle.process_state.proofs.body.take_in.Goals as goal

pub leave_rest-requires : goal.leave_rest-requires
leave_rest-requires c = omega (arith, c.if-many-eq0.false, c.args.saved.now.blocks.ok.0)

pub returns-in-Some-clause-settles : goal.returns-in-Some-clause-settles
returns-in-Some-clause-settles c =
    let a = arena_of c.args.program.now.code in
    let v = c.args.saved.now.blocks in
    let i = c.len-many.result - 1 in
    let s = c.in-Some.statement in
    let last : suc i ≡ length v.items = omega (arith, c.if-many-eq0.false, v.ok.0) in
    blocks_taken a v.items i c.index.result.now (rest_if c.in-Some.rest) s last c.index.ensures c.in-Some.ensures.settles ∙ ap (λ ls. inside a ls (one s)) (sym c.leave_rest.ensures.blocks)

pub returns-in-Some-clause-room : goal.returns-in-Some-clause-room
returns-in-Some-clause-room c = λ h.
    let a = arena_of c.args.program.now.code in
    let ds = c.args.program.now.depths.items in
    let v = c.args.saved.now.blocks in
    let w = c.leave_rest.new.saved.blocks in
    let i = c.len-many.result - 1 in
    let s = c.in-Some.statement in
    let last : suc i ≡ length v.items = omega (arith, c.if-many-eq0.false, v.ok.0) in
    fits_at_cap a ds (vec_capacity v) (vec_capacity w) (take i v.items ++ rest_if c.in-Some.rest) w.items (Some s) (Some s) c.leave_rest.ensures.same.room c.leave_rest.ensures.blocks refl
    (blocks_fit a v.items i c.index.result.now (rest_if c.in-Some.rest) s last c.index.ensures ds (vec_capacity v) c.in-Some.ensures.room h)
