use Rattle.std.proofs.Common.{subst}
use Rattle.sim_model.specs.FlatDesign.Code.{arena_of}
use Rattle.kernel_bodies.specs.declared.layers.Open.{Open}
use Rattle.kernel_bodies.specs.Room.{FitsLayer}
use Rattle.kernel_bodies.proofs.Blocks.{in_block_fits, in_unwind_fits}
use Rattle.kernel_bodies.proofs.landing.first_in.Goals as goal

pub returns-in-Some-clause-room : goal.returns-in-Some-clause-room
returns-in-Some-clause-room c = λ most t i h.
    let a = arena_of c.args.program.now.code in
    let ds = c.args.program.now.depths.items in
    let P : Open → Type 0 = λ l. FitsLayer a ds most t i l in
    in_block_fits a ds c.args.program.now.deep most t i c.in-Rest.cursor c.in-Some.rest c.in-Some.statement c.in-Some.ensures.of_block.0 c.in-Some.ensures.of_block.1 (subst P c.in-Rest.is h)

pub returns-in-Some-first_of-clause-room : goal.returns-in-Some-first_of-clause-room
returns-in-Some-first_of-clause-room c = λ most t i h.
    let a = arena_of c.args.program.now.code in
    let ds = c.args.program.now.depths.items in
    let P : Open → Type 0 = λ l. FitsLayer a ds most t i l in
    in_unwind_fits a ds c.args.program.now.deep most t i c.in-Owed.unwind c.in-Some-first_of.rest c.in-Some-first_of.statement c.in-Some-first_of.ensures.of_block.0 c.in-Some-first_of.ensures.of_block.1 (subst P c.in-Owed.is h)
