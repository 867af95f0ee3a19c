-- What contracts see of the statements that hold others.
use Rattle.std.proofs.Common.{◌≡◌, ℕ, ◌+◌, ◌<◌, List, [], ◌∷◌, Option, Some, None, map, get_or, drop, drop-cons, add-one, length, refl, sym, ap, ◌∙◌}
use Rattle.std.specs.Global.{Vec}
use Rattle.model_tree.specs.Tree as tree
use Rattle.model_tree.specs.declared.expressions.Expression.{Expression}
use Rattle.model_tree.specs.declared.statements.Statement.{Statement, If, While, Guard, Try, fold-roll-Statement}
use Rattle.model_tree.specs.declared.statements.Statement.TheVariants.{rolls-If, rolls-While, rolls-Guard, rolls-Try}
use Rattle.model_tree.specs.declared.statements.Statement.TheOpen.{Statement-F}
use Rattle.model_tree.specs.Views.{expression_of, statement_step, statement_of, block_of, body_of, handlers_of}

-- the other block of a test
abbrev pub other_of : Option (Vec Statement) → tree.Else
other_of None = tree.no_else
other_of (Some body) = tree.else_block (body_of body.items)

-- handlers in memory, as the tree has them
abbrev pub handlers_list : List (List ℕ × Vec Statement) → tree.Handlers
handlers_list [] = tree.no_more
handlers_list (h ∷ hs) = tree.handler h.0 (body_of h.1.items) (handlers_list hs)

pub sees_if : (line : ℕ) (e : Expression) (body : Vec Statement) (other : Option (Vec Statement))
    → statement_of (If line e body other) ≡ tree.if_ line (expression_of e) (body_of body.items) (other_of other)
sees_if line e body None = ap statement_of (sym (rolls-If line e body None)) ∙ fold-roll-Statement tree.Statement statement_step (Statement-F.If line e body None)
sees_if line e body (Some other) = ap statement_of (sym (rolls-If line e body (Some other))) ∙ fold-roll-Statement tree.Statement statement_step (Statement-F.If line e body (Some other))

pub sees_while : (line : ℕ) (e : Expression) (body : Vec Statement) → statement_of (While line e body) ≡ tree.while_ line (expression_of e) (body_of body.items)
sees_while line e body = ap statement_of (sym (rolls-While line e body)) ∙ fold-roll-Statement tree.Statement statement_step (Statement-F.While line e body)

pub sees_guard : (line : ℕ) (body undo : Vec Statement) → statement_of (Guard line body undo) ≡ tree.guard line (body_of body.items) (body_of undo.items)
sees_guard line body undo = ap statement_of (sym (rolls-Guard line body undo)) ∙ fold-roll-Statement tree.Statement statement_step (Statement-F.Guard line body undo)

same_handlers : (F : List ℕ × Vec Statement → List ℕ × Vec tree.Statement) → ((h : List ℕ × Vec Statement) → (F h).0 ≡ h.0) → ((h : List ℕ × Vec Statement) → block_of (F h).1.items ≡ body_of h.1.items)
    → (hs : List (List ℕ × Vec Statement)) → handlers_of (map F hs) ≡ handlers_list hs
same_handlers F names bodies [] = refl
same_handlers F names bodies (h ∷ hs) = rw (names h, bodies h, same_handlers F names bodies hs) refl

pub sees_try : (line : ℕ) (body : Vec Statement) (handlers : Vec (List ℕ × Vec Statement))
    → statement_of (Try line body handlers) ≡ tree.try_ line (body_of body.items) (handlers_list handlers.items)
sees_try line body handlers =
    ap statement_of (sym (rolls-Try line body handlers)) ∙ fold-roll-Statement tree.Statement statement_step (Statement-F.Try line body handlers)
    ∙ ap (tree.try_ line (body_of body.items)) (same_handlers _ (λ h. refl) (λ h. refl) handlers.items)

-- the handlers from one on
pub next_handler : (hs : List (List ℕ × Vec Statement)) (i : ℕ) (h : List ℕ × Vec Statement) → i < length hs → h ≡ get_or hs i h
    → handlers_list (drop i hs) ≡ tree.handler h.0 (body_of h.1.items) (handlers_list (drop (i + 1) hs))
next_handler hs i h within is = rw (add-one, drop-cons hs i h within, ← is) refl
