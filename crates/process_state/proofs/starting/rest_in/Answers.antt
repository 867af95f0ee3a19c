use Rattle.std.proofs.Common.{◌++◌, ◌∷◌, [], List, None, false, refl, subst, sym, ap, ◌∙◌}
use Rattle.kernel_bodies.specs.declared.layers.Saved.{Saved}
use Rattle.kernel_bodies.specs.Room.{own_locals, own_blocks}
use Rattle.process_state.specs.Bodies.{IsOwnFirst}
use Rattle.process_state.proofs.starting.rest_in.Goals as goal

pub returns-clause-own : goal.returns-clause-own
returns-clause-own c =
    let x : Saved = record { frame = record { body = c.args.code; locals = c.args.locals; answer = None; call = None; via = None }; shell = false; blocks = c.args.blocks } in
    let P : List Saved → Type 0 = IsOwnFirst in
    subst P (sym (c.place.ensures.items ∙ ap (λ xs. xs ++ x ∷ []) c.requires.none)) refl

pub returns-clause-locals : goal.returns-clause-locals
returns-clause-locals c =
    let x : Saved = record { frame = record { body = c.args.code; locals = c.args.locals; answer = None; call = None; via = None }; shell = false; blocks = c.args.blocks } in
    ap (own_locals 0) (c.place.ensures.items ∙ ap (λ xs. xs ++ x ∷ []) c.requires.none)

pub returns-clause-blocks : goal.returns-clause-blocks
returns-clause-blocks c =
    let x : Saved = record { frame = record { body = c.args.code; locals = c.args.locals; answer = None; call = None; via = None }; shell = false; blocks = c.args.blocks } in
    ap (own_blocks 0) (c.place.ensures.items ∙ ap (λ xs. xs ++ x ∷ []) c.requires.none)
