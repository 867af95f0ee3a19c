use Rattle.std.proofs.Common.{◌≡◌, ◌≤◌, ◌++◌, false, refl, ap, ◌∙◌, arith}
use Rattle.std.specs.Vec.{vec_capacity}
use Rattle.kernel_bodies.specs.FlatDesign.Code.{arena_of}
use Rattle.kernel_bodies.specs.SimModel.Residual as residual
use Rattle.kernel_bodies.specs.Layers.{call_of, inside, standing, layers_of, statement_of}
use Rattle.kernel_bodies.proofs.Rooms.{fits_at_cap}
use Rattle.process_state.proofs.starting.begin_call.Goals as goal

pub returns-clause-begun : goal.returns-clause-begun
returns-clause-begun c =
    let a = arena_of c.args.program.now.code in
    let ds = c.args.program.now.depths.items in
    let x = c.args.frame in
    let comes = c.body_begins-comes.result in
    let s = c.add_layers-first.result in
    let new = c.add_layers-first.new.blocks in
    let cap = vec_capacity c.args.blocks in
    let items : new.items ≡ layers_of comes = c.add_layers-first.ensures.items ∙ ap (λ ls. ls ++ layers_of comes) c.clear.ensures.items in
    let wide : cap ≤ vec_capacity new = omega (arith, c.clear.ensures.capacity, c.add_layers-first.ensures.capacity) in record {
      inner = record { frame = x; shell = false; blocks = new };
      frames = c.place.ensures.items;
      call = refl;
      room = wide;
      left =
          ap (λ q. residual.frame q (call_of x))
          (ap (λ ls. inside a ls (standing s)) items ∙ ap (λ o. inside a (layers_of comes) (standing o)) c.add_layers-first.ensures.statement ∙ c.body_begins-comes.ensures.value);
      fits = fits_at_cap a ds cap (vec_capacity new) (layers_of comes) new.items (statement_of comes) s wide items c.add_layers-first.ensures.statement (c.body_begins-comes.ensures.room cap 1 0 (omega (arith, c.requires.room)));
    }
