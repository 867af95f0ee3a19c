-- Blocks and handlers, each statement and each handler of which is changed.
use Rattle.std.proofs.Common.{◌≡◌, ℕ, ◌+◌, ◌≤◌, List, [], ◌∷◌, ◌++◌, map, set, get_or, take, drop, length, Option, append-nil, refl, sym, ap, ap₂, ◌∙◌, arith}
use Rattle.std.proofs.lemmas.List.{length-set, get_or-set_other, take_all, drop_all}
use Rattle.std.specs.Global.{Vec}
use Rattle.model_tree.specs.Tree as tree
use Rattle.model_tree.specs.Views.{block_of, body_of, expression_of, statement_of}
use Rattle.model_tree.specs.declared.expressions.Expression.{Expression}
use Rattle.model_tree.specs.declared.statements.Statement.{Statement, If, Try}
use Rattle.model_tree.specs.declared.types.Span.{Span}
use Rattle.model_tree.proofs.Trees.{other_of, handlers_list, sees_if, sees_try}
use Rattle.tick_trees.specs.Retimed as retimed
use Rattle.tick_trees.proofs.Each.{Changed}

pub block_each : (f : Span → Span) (ss : List tree.Statement) → block_of (map (retimed.statement f) ss) ≡ retimed.block f (block_of ss)
block_each f [] = refl
block_each f (s ∷ ss) = ap (tree.then (retimed.statement f s)) (block_each f ss)

-- a handler as the tree has it, and with its times written otherwise
abbrev pub handler_of : List ℕ × Vec Statement → List ℕ × tree.Block
handler_of h = (h.0, body_of h.1.items)

abbrev pub retimed_handler : (Span → Span) → List ℕ × tree.Block → List ℕ × tree.Block
retimed_handler f h = (h.0, retimed.block f h.1)

abbrev handlers_from : List (List ℕ × tree.Block) → tree.Handlers
handlers_from [] = tree.no_more
handlers_from (h ∷ hs) = tree.handler h.0 h.1 (handlers_from hs)

listed : (hs : List (List ℕ × Vec Statement)) → handlers_list hs ≡ handlers_from (map handler_of hs)
listed [] = refl
listed (h ∷ hs) = ap (tree.handler h.0 (body_of h.1.items)) (listed hs)

changed : (f : Span → Span) (hs : List (List ℕ × tree.Block)) → handlers_from (map (retimed_handler f) hs) ≡ retimed.handlers_ f (handlers_from hs)
changed f [] = refl
changed f (h ∷ hs) = ap (tree.handler h.0 (retimed.block f h.1)) (changed f hs)

pub handlers_each : (f : Span → Span) (hs olds : List (List ℕ × Vec Statement)) → map handler_of hs ≡ map (retimed_handler f) (map handler_of olds) → handlers_list hs ≡ retimed.handlers_ f (handlers_list olds)
handlers_each f hs olds e =
    listed hs ∙ ap handlers_from e ∙ changed f (map handler_of olds) ∙ ap (retimed.handlers_ f) (sym (listed olds))

-- all of a list once the last is changed
pub whole : {X Y : Type 0} (view : X → Y) (g : Y → Y) (xs olds : List X) (i : ℕ) → length olds ≤ i → Changed view g xs olds i → map view xs ≡ map g (map view olds)
whole view g xs olds i done so =
    so ∙ ap₂ (λ as_made as_was. map g (map view as_made) ++ map view as_was) (take_all i olds done) (drop_all i olds done) ∙ append-nil (map g (map view olds))

-- those behind a place are as they were
pub unvisited_more : {X : Type 0} (xs olds : List X) (i : ℕ) (new : X) → (length xs ≡ length olds) × ((k : ℕ) (d : X) → i ≤ k → get_or xs k d ≡ get_or olds k d)
    → (length (set xs i new) ≡ length olds) × ((k : ℕ) (d : X) → i + 1 ≤ k → get_or (set xs i new) k d ≡ get_or olds k d)
unvisited_more xs olds i new same =
    (length-set xs i new ∙ same.0, λ k d past. get_or-set_other xs i k new d (λ e. omega (arith, past, e)) ∙ same.1 k d (omega (arith, past)))

-- a statement that holds others, once its parts are written otherwise
module _ (f : Span → Span) (s : Statement) where
  pub if_made : (line : ℕ) (e new : Expression) (body fresh : Vec Statement) (other more : Option (Vec Statement)) → s ≡ If line e body other
      → expression_of new ≡ retimed.expression f (expression_of e) → body_of fresh.items ≡ retimed.block f (body_of body.items) → other_of more ≡ retimed.else_ f (other_of other)
      → statement_of (If line new fresh more) ≡ retimed.statement f (statement_of s)
  if_made line e new body fresh other more is x y z = rw (is, sees_if line e body other, sees_if line new fresh more, x, y, z) refl

  pub try_made : (line : ℕ) (body fresh : Vec Statement) (hs news : Vec (List ℕ × Vec Statement)) → s ≡ Try line body hs
      → body_of fresh.items ≡ retimed.block f (body_of body.items) → handlers_list news.items ≡ retimed.handlers_ f (handlers_list hs.items)
      → statement_of (Try line fresh news) ≡ retimed.statement f (statement_of s)
  try_made line body fresh hs news is x y = rw (is, sees_try line body hs, sees_try line fresh news, x, y) refl
