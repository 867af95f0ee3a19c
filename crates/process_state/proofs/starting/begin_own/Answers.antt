use Rattle.std.proofs.Common.{◌≡◌, ◌≤◌, ◌++◌, None, List, length, subst, sym, ap, ◌∙◌, arith}
use Rattle.std.specs.Vec.{vec_capacity}
use Rattle.kernel_bodies.specs.FlatDesign.Code.{arena_of, body_at}
use Rattle.kernel_bodies.specs.FlatDesign.declared.code.Local.{Local}
use Rattle.kernel_bodies.specs.SimModel.Residual as residual
use Rattle.kernel_bodies.specs.SimModel.Residual.{first_locals}
use Rattle.kernel_bodies.specs.Layers.{inside, standing, layers_of, statement_of}
use Rattle.kernel_bodies.specs.Room.{begun_in}
use Rattle.kernel_bodies.proofs.Rooms.{fits_at_cap}
use Rattle.process_state.proofs.Stepping.{entered_is}
use Rattle.process_state.proofs.starting.begin_own.Goals as goal

pub begin_locals-requires : goal.begin_locals-requires
begin_locals-requires c =
    let P : List Local → Type 0 = λ ls. length (first_locals c.args.arguments.now ls) ≤ vec_capacity c.args.saved.now.frame.locals in
    subst P (sym c.locals_in.ensures) c.requires.locals

pub returns-clause-left : goal.returns-clause-left
returns-clause-left c =
    let a = arena_of c.args.program.now.code in
    let f = c.args.code in
    let args = c.args.arguments.now in
    let values = c.begin_locals.new.values in
    let comes = c.body_begins-comes.result in
    let s = c.add_layers.result in
    let items : c.add_layers.new.blocks.items ≡ layers_of comes = c.add_layers.ensures.items ∙ ap (λ ls. ls ++ layers_of comes) c.clear.ensures.items in
    ap (λ q. residual.frame q (record { body = f; locals = values.items; answer = None; call = None; via = None }))
    (ap (λ ls. inside a ls (standing s)) items ∙ ap (λ o. inside a (layers_of comes) (standing o)) c.add_layers.ensures.statement ∙ c.body_begins-comes.ensures.value)
    ∙ ap (λ ls. residual.frame (begun_in a (body_at a f)) (record { body = f; locals = ls; answer = None; call = None; via = None })) (c.begin_locals.ensures.items ∙ ap (first_locals args) c.locals_in.ensures)
    ∙ entered_is a f args None None

pub returns-clause-fits : goal.returns-clause-fits
returns-clause-fits c =
    let a = arena_of c.args.program.now.code in
    let ds = c.args.program.now.depths.items in
    let comes = c.body_begins-comes.result in
    let s = c.add_layers.result in
    let new = c.add_layers.new.blocks in
    let cap = vec_capacity c.args.saved.now.blocks in
    let items : new.items ≡ layers_of comes = c.add_layers.ensures.items ∙ ap (λ ls. ls ++ layers_of comes) c.clear.ensures.items in
    let wide : cap ≤ vec_capacity new = omega (arith, c.clear.ensures.capacity, c.add_layers.ensures.capacity) in
    fits_at_cap a ds cap (vec_capacity new) (layers_of comes) new.items (statement_of comes) s wide items c.add_layers.ensures.statement (c.body_begins-comes.ensures.room cap 1 0 (omega (arith, c.requires.blocks)))
