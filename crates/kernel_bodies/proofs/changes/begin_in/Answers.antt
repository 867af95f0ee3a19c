use Rattle.std.proofs.Common.{◌≡◌, ◌≤◌, ◌++◌, length, sym, ap, ◌∙◌, arith, length-append}
use Rattle.std.specs.Vec.{vec_capacity}
use Rattle.sim_model.specs.FlatDesign.Code.{arena_of}
use Rattle.sim_model.specs.Residual as residual
use Rattle.sim_model.specs.Residual.{Residual}
use Rattle.kernel_bodies.specs.Layers.{inside, standing, landed, layers_of, layers_around, statement_of}
use Rattle.kernel_bodies.proofs.Settling.{inside_append}
use Rattle.kernel_bodies.proofs.Rooms.{fits_at_cap}
use Rattle.kernel_bodies.proofs.Enclosing.{around_few, enclosing_room, enclosing_fits}
use Rattle.kernel_bodies.proofs.changes.begin_in.Goals as goal

pub add_around-requires : goal.add_around-requires
add_around-requires c =
    let x = c.args.saved.now in
    let room = enclosing_room (arena_of c.args.program.now.code) c.args.program.now.depths.items (vec_capacity x.blocks) x.blocks.items c.args.statement c.args.block c.around.result (sym c.around.ensures) c.requires.room c.requires.inner in
    omega (arith, room, around_few c.around.result c.args.statement, x.blocks.ok.0)

pub add_layers-requires : goal.add_layers-requires
add_layers-requires c =
    let x = c.args.saved.now in
    let room = enclosing_room (arena_of c.args.program.now.code) c.args.program.now.depths.items (vec_capacity x.blocks) x.blocks.items c.args.statement c.args.block c.around.result (sym c.around.ensures) c.requires.room c.requires.inner in
    omega (arith, room, around_few c.around.result c.args.statement, length-append x.blocks.items (layers_around c.around.result c.args.statement), ap length c.add_around.ensures.items, c.add_around.ensures.capacity, c.block_begins-comes.ensures.few, x.blocks.ok.0, c.add_around.new.blocks.ok.0)

pub returns-clause-left : goal.returns-clause-left
returns-clause-left c =
    let a = arena_of c.args.program.now.code in
    let ls = c.args.saved.now.blocks.items in
    let s = c.args.statement in
    let v = c.around.result in
    let comes = c.block_begins-comes.result in
    ap (λ ms. inside a ms (standing c.add_layers.result)) (c.add_layers.ensures.items ∙ ap (λ ks. ks ++ layers_of comes) c.add_around.ensures.items)
    ∙ ap (λ o. inside a (ls ++ layers_around v s ++ layers_of comes) (standing o)) c.add_layers.ensures.statement
    ∙ inside_append a (ls ++ layers_around v s) (layers_of comes) (standing (statement_of comes))
    ∙ inside_append a ls (layers_around v s) (landed a comes)
    ∙ ap (λ q. inside a ls (inside a (layers_around v s) q)) c.block_begins-comes.ensures.value
    ∙ ap (λ u. inside a ls (inside a (layers_around u s) (residual.block a c.args.block))) c.around.ensures

pub returns-clause-room : goal.returns-clause-room
returns-clause-room c =
    let a = arena_of c.args.program.now.code in
    let ds = c.args.program.now.depths.items in
    let ls = c.args.saved.now.blocks.items in
    let s = c.args.statement in
    let v = c.around.result in
    let comes = c.block_begins-comes.result in
    let cap = vec_capacity c.args.saved.now.blocks in
    let fits = enclosing_fits a ds cap ls s c.args.block v (sym c.around.ensures) c.requires.room c.requires.inner comes (c.block_begins-comes.ensures.room cap) in
    let items : c.add_layers.new.blocks.items ≡ ls ++ layers_around v s ++ layers_of comes = c.add_layers.ensures.items ∙ ap (λ ks. ks ++ layers_of comes) c.add_around.ensures.items in
    let wide : cap ≤ vec_capacity c.add_layers.new.blocks = omega (arith, c.add_around.ensures.capacity, c.add_layers.ensures.capacity) in
    fits_at_cap a ds cap (vec_capacity c.add_layers.new.blocks) (ls ++ layers_around v s ++ layers_of comes) c.add_layers.new.blocks.items (statement_of comes) c.add_layers.result wide items c.add_layers.ensures.statement fits
