use Rattle.std.proofs.Common.{subst, sym, ap, ◌∙◌}
use Rattle.sim_model.specs.FlatDesign.Code.{arena_of}
use Rattle.sim_model.specs.Residual.{skip, one, settle}
use Rattle.kernel_bodies.specs.declared.layers.Open.{Open}
use Rattle.kernel_bodies.specs.Layers.{around, rest_at}
use Rattle.kernel_bodies.specs.Room.{FitsLayer}
use Rattle.kernel_bodies.proofs.Blocks.{rest_fits, again_fits}
use Rattle.kernel_bodies.proofs.Settling.{settle_followed}
use Rattle.kernel_bodies.proofs.landing.comes_in.Goals as goal

pub returns-in-Some-clause-settles : goal.returns-in-Some-clause-settles
returns-in-Some-clause-settles c =
    let a = arena_of c.args.program.now.code in
    ap (λ l. settle a (around a l skip)) c.in-Rest.is ∙ settle_followed a skip (rest_at a c.in-Rest.cursor) ∙ c.in-Some.ensures.value ∙ sym (c.rest_from.ensures.value (one c.in-Some.statement))

pub returns-in-Some-clause-room : goal.returns-in-Some-clause-room
returns-in-Some-clause-room c = λ most t i h.
    let a = arena_of c.args.program.now.code in
    let ds = c.args.program.now.depths.items in
    let P : Open → Type 0 = λ l. FitsLayer a ds most t i l in
    rest_fits a ds c.args.program.now.deep most t i c.in-Rest.cursor c.in-Some.rest c.rest_from.result c.in-Some.statement c.rest_from.ensures.same c.in-Some.ensures.of_block.0 c.in-Some.ensures.of_block.1 (subst P c.in-Rest.is h)

pub returns-in-Again-clause-settles : goal.returns-in-Again-clause-settles
returns-in-Again-clause-settles c =
    let a = arena_of c.args.program.now.code in
    ap (λ l. settle a (around a l skip)) c.in-Again.is

pub returns-in-Again-clause-room : goal.returns-in-Again-clause-room
returns-in-Again-clause-room c = λ most t i h.
    let a = arena_of c.args.program.now.code in
    let ds = c.args.program.now.depths.items in
    let P : Open → Type 0 = λ l. FitsLayer a ds most t i l in
    again_fits a ds c.args.program.now.deep most t i c.in-Again.statement (subst P c.in-Again.is h)
