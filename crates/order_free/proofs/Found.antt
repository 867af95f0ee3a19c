-- The statement of a number, as memory keeps it and as contracts speak of it.
use Rattle.std.proofs.Common.{◌≡◌, ◌++◌, ℕ, List, Option, Some, None, sym, ap, ◌∙◌}
use Rattle.std.specs.Prelude.{slice_get, option_map}
use Rattle.std.proofs.lemmas.List.{append-nil}
use Rattle.std.proofs.lemmas.Option.{slice_get-map}
use Rattle.flat_design.specs.Code as code
use Rattle.flat_design.specs.Code.{arena_of, statement_at, statement_of}
use Rattle.flat_design.specs.declared.code.Code.{Code}
use Rattle.flat_design.specs.declared.code.Statement.{Statement}
use Rattle.order_free.specs.Blocks.{where_found}

pub nothing_found : {X : Type 0} (f : code.Statement → List X) (c : Code) (n : ℕ) (xs : List X) → slice_get c.statements n ≡ None → xs ≡ xs ++ where_found f (statement_at (arena_of c) n)
nothing_found f c n xs e =
    sym (append-nil xs) ∙ ap (λ (o : Option code.Statement). xs ++ where_found f o) (sym (slice_get-map statement_of c.statements n ∙ ap (option_map statement_of) e))

pub one_found : {X : Type 0} (f : code.Statement → List X) (c : Code) (n : ℕ) (s : Statement) → slice_get c.statements n ≡ Some s → where_found f (statement_at (arena_of c) n) ≡ f (statement_of s)
one_found f c n s e = ap (where_found f) (slice_get-map statement_of c.statements n ∙ ap (option_map statement_of) e)
