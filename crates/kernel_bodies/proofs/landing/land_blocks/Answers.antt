use Rattle.std.proofs.Common.{◌-◌, length, take, sym, arith}
use Rattle.sim_model.specs.FlatDesign.Code.{arena_of}
use Rattle.kernel_bodies.specs.declared.layers.Comes.TheVariants as comes
use Rattle.kernel_bodies.specs.declared.layers.Open.TheVariants as layer
use Rattle.kernel_bodies.specs.Layers.{layers_of, statement_of}
use Rattle.kernel_bodies.specs.Room.{kept_along}
use Rattle.kernel_bodies.proofs.Lands.{end_there, ends_there, first_there, none_there, less_there, end_room, begun_ends}
use Rattle.kernel_bodies.proofs.Rooms.{fits_more}
use Rattle.kernel_bodies.proofs.landing.land_blocks.Goals as goal

pub returns-in-Some-clause-settled : goal.returns-in-Some-clause-settled
returns-in-Some-clause-settled c =
    end_there (arena_of c.args.program.now.code) c.args.blocks.now c.loop-stand.stand (c.loop-stand.stand - 1) _ c.in-Some.comes (omega arith) (omega arith) c.loop-stand.invariant.settled (sym c.in-Some.ensures)

pub returns-in-Some-clause-ends : goal.returns-in-Some-clause-ends
returns-in-Some-clause-ends c =
    ends_there (arena_of c.args.program.now.code) c.args.blocks.now c.loop-stand.stand (c.loop-stand.stand - 1) _ c.in-Some.comes (omega arith) (omega arith) c.loop-stand.invariant.settled (sym c.in-Some.ensures)

pub returns-in-Some-clause-room : goal.returns-in-Some-clause-room
returns-in-Some-clause-room c = λ most h.
    end_room (arena_of c.args.program.now.code) c.args.program.now.depths.items most (take c.loop-stand.stand c.args.blocks.now) _ c.in-Some.comes (sym c.in-Some.ensures) (c.loop-stand.invariant.room most h)

pub returns-in-Some-first_in-clause-settled : goal.returns-in-Some-first_in-clause-settled
returns-in-Some-first_in-clause-settled c =
    first_there (arena_of c.args.program.now.code) c.args.blocks.now c.loop-stand.stand (c.loop-stand.stand - 1) _ c.in-Some-first_in.comes (omega arith) (omega arith) c.loop-stand.invariant.settled c.in-Some-first_in.ensures.value c.in-Some-first_in.ensures.begun

pub returns-in-Some-first_in-clause-ends : goal.returns-in-Some-first_in-clause-ends
returns-in-Some-first_in-clause-ends c = begun_ends (take (c.loop-stand.stand - 1) c.args.blocks.now) c.in-Some-first_in.comes c.in-Some-first_in.ensures.begun

pub returns-in-Some-first_in-clause-room : goal.returns-in-Some-first_in-clause-room
returns-in-Some-first_in-clause-room c = λ most h.
    let a = arena_of c.args.program.now.code in
    let ds = c.args.program.now.depths.items in
    let ls = c.args.blocks.now in
    let n = c.loop-stand.stand - 1 in
    let w = less_there a ls c.loop-stand.stand n _ comes.Nothing (omega arith) (omega arith) c.loop-stand.invariant.settled ds most (c.loop-stand.invariant.room most h) in
    fits_more a ds most (take n ls) (layers_of c.in-Some-first_in.comes) (statement_of c.in-Some-first_in.comes) w.0.0 (c.in-Some-first_in.ensures.room most (kept_along 1 (take n ls)) (length (take n ls)) w.1)

pub loop-stand-preserved : goal.loop-stand-preserved
loop-stand-preserved c =
    let a = arena_of c.args.program.now.code in
    let ds = c.args.program.now.depths.items in
    let ls = c.args.blocks.now in
    let n = c.loop-stand.stand - 1 in record {
      few = omega arith;
      settled = none_there a ls c.loop-stand.stand n _ comes.Nothing (omega arith) (omega arith) c.loop-stand.invariant.settled c.in_default-first_in.ensures.value;
      room = λ most h. (less_there a ls c.loop-stand.stand n (layer.Run) comes.Nothing (omega arith) (omega arith) c.loop-stand.invariant.settled ds most (c.loop-stand.invariant.room most h)).0;
    }
