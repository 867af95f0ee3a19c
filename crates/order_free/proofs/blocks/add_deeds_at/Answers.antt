use Rattle.std.proofs.Common.{◌≡◌, ◌++◌, OnOk, Some, List, length, refl, ap, sym, ◌∙◌, subst}
use Rattle.std.specs.Prelude.{slice_get}
use Rattle.std.proofs.lemmas.Option.{slice_get_past, slice_get_read}
use Rattle.flat_design.specs.declared.code.Statement.{Statement}
use Rattle.order_free.specs.Uses.{deeds_of}
use Rattle.order_free.specs.declared.uses.Deed.{Deed}
use Rattle.order_free.proofs.Found.{nothing_found, one_found}
use Rattle.order_free.proofs.blocks.add_deeds_at.Goals as goal

pub returns-in-None : goal.returns-in-None
returns-in-None c =
    nothing_found deeds_of c.args.code.now c.args.n c.args.deeds.now.items
    (ap (λ (xs : List Statement). slice_get xs c.args.n) (sym c.as_slice.ensures) ∙ slice_get_past c.as_slice.result.now c.args.n c.in-None.ensures.lookup.3)

pub returns-in-Some : goal.returns-in-Some
returns-in-Some c =
    let s = c.in-Some.statement.now in
    let xs = c.as_slice.result.now in
    let found : slice_get c.args.code.now.statements c.args.n ≡ Some s =
    ap (λ (ys : List Statement). slice_get ys c.args.n) (sym c.as_slice.ensures) ∙ slice_get_read xs (length xs) c.args.n s refl c.in-Some.ensures.lookup.3.0 c.in-Some.ensures.lookup.1 in
    subst (λ (ds : List Deed). OnOk c.add_statement.result (c.add_statement.new.deeds.items ≡ c.args.deeds.now.items ++ ds)) (sym (one_found deeds_of c.args.code.now c.args.n s found)) c.add_statement.ensures
