-- What a try is, as the tree has it.
use Rattle.std.proofs.Common.{◌≡◌, ℕ, List, [], ◌∷◌, Some, refl, ap, sym, ◌∙◌, map}
use Rattle.std.specs.Global.{Vec}
use Rattle.model_tree.specs.declared.statements.Statement.{Statement, Try, fold-roll-Statement}
use Rattle.model_tree.specs.declared.statements.Statement.TheVariants.{rolls-Try}
use Rattle.model_tree.specs.declared.statements.Statement.TheOpen.{Statement-F}
use Rattle.model_tree.specs.declared.vocabulary.Word.TheVariants as w
use Rattle.model_tree.specs.Views.{statement_of, statement_step, block_of, body_of, handlers_of}
use Rattle.model_tree.specs.Tree as tree
use Rattle.parse_actions.specs.ModelLexer.Tokens.{Tokens}
use Rattle.parse_actions.specs.ParseExpressions.Parse.{Parser, word}
use Rattle.parse_statements.specs.Parse.{handlers, handlers_in, handlers_of_list, try_statement}

handlers_same : (seen : List ℕ × Vec Statement → List ℕ × Vec tree.Statement) → ((h : List ℕ × Vec Statement) → ((seen h).0 ≡ h.0) × (block_of (seen h).1.items ≡ body_of h.1.items)) → (hs : List (List ℕ × Vec Statement)) → handlers_of (map seen hs) ≡ handlers_of_list (handlers_in hs)
handlers_same seen same [] = refl
handlers_same seen same (h ∷ hs) = rw ((same h).0, (same h).1, handlers_same seen same hs) refl

try_view : (line : ℕ) (body : Vec Statement) (hs : Vec (List ℕ × Vec Statement)) → statement_of (Try line body hs) ≡ tree.try_ line (body_of body.items) (handlers_of_list (handlers_in hs.items))
try_view line body hs = ap statement_of (sym (rolls-Try line body hs)) ∙ (fold-roll-Statement tree.Statement statement_step (Statement-F.Try line body hs) ∙ ap (tree.try_ line (body_of body.items)) (handlers_same _ (λ h. (refl, refl)) hs.items))

-- a try whose parts are read is read
pub try_reads : (inner : Parser tree.Block) (line : ℕ) (body : Vec Statement) (hs : Vec (List ℕ × Vec Statement)) (ts a b rest : Tokens) → word w.Try ts ≡ Some (line, a) → inner a ≡ Some (body_of body.items, b) → handlers inner b ≡ Some (handlers_in hs.items, rest) → try_statement inner ts ≡ Some (statement_of (Try line body hs), rest)
unfolding try_statement
try_reads inner line body hs ts a b rest one two three = rw (one, two, three, try_view line body hs) refl
