use Rattle.std.proofs.Common.{◌-◌, None, take, ap, ◌∙◌, arith}
use Rattle.sim_model.specs.FlatDesign.Code.{arena_of}
use Rattle.sim_model.specs.Residual.{skip, settle}
use Rattle.kernel_bodies.specs.Layers.{whole}
use Rattle.kernel_bodies.proofs.Lands.{statement_lands, nothing_lands, lands_from, unfold_frame}
use Rattle.kernel_bodies.proofs.Passing.{through_frames}
use Rattle.kernel_bodies.proofs.Rooms.{fits_there}
use Rattle.kernel_bodies.proofs.landing.land.Goals as goal

pub returns-in-Some-clause-lands : goal.returns-in-Some-clause-lands
returns-in-Some-clause-lands c =
    statement_lands c.land_statement.result c.args.frames.now (arena_of c.args.program.now.code) c.args.program.now.depths.items c.args.statement c.in-Some.statement c.in-Some.is c.land_statement.ensures.lands

pub returns-in-Some-land_in-clause-lands : goal.returns-in-Some-land_in-clause-lands
returns-in-Some-land_in-clause-lands c =
    let a = arena_of c.args.program.now.code in
    let ds = c.args.program.now.depths.items in
    let xs = c.args.frames.now in
    let n = c.loop-many.many - 1 in
    let x = c.index-frames-many.result in
    let t = c.in-Some-land_in.stand in
    nothing_lands a ds xs c.args.statement (record { outside = n; blocks = t.blocks; comes = t.comes }) c.in_default.is
    (lands_from a ds xs None None skip n x t (omega arith) c.index-frames-many.is
    (c.loop-many.invariant.settled ∙ ap (settle a) (unfold_frame a xs c.loop-many.many n x skip (omega arith) (omega arith) c.index-frames-many.is)) c.in-Some-land_in.ensures.lands
    (λ f. fits_there a ds xs None n x (omega arith) c.index-frames-many.is f))

pub loop-many-preserved : goal.loop-many-preserved
loop-many-preserved c =
    let a = arena_of c.args.program.now.code in
    let xs = c.args.frames.now in
    let n = c.loop-many.many - 1 in
    let x = c.index-frames-many.result in record {
      few = omega arith;
      settled =
          c.loop-many.invariant.settled
          ∙ ap (settle a) (unfold_frame a xs c.loop-many.many n x skip (omega arith) (omega arith) c.index-frames-many.is)
          ∙ (through_frames a (take n xs)).same (whole a x skip) skip c.in_default-land_in.ensures.falls;
    }
