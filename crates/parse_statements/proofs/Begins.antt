-- What statements begin with.
use Rattle.std.proofs.Common.{◌≡◌, ℕ, false, List, ◌∷◌, Option, Some, None, refl, sym, subst}
use Rattle.model_tree.specs.declared.vocabulary.Word.{Word}
use Rattle.model_tree.specs.declared.vocabulary.Word.TheVariants as w
use Rattle.model_tree.specs.declared.vocabulary.Symbol.TheVariants as s
use Rattle.model_tree.specs.Tree as tree
use Rattle.parse_actions.specs.ModelLexer.Tokens as t
use Rattle.parse_actions.specs.ModelLexer.Tokens.{Tokens}
use Rattle.parse_actions.specs.ModelLexer.Expressions.{sees}
use Rattle.parse_actions.specs.ModelLexer.Statements.{DerivesOperation, DerivesStatement}
use Rattle.parse_actions.specs.ParseExpressions.Parse.{is_the_word}
use Rattle.parse_actions.specs.Operations.{begins_operation}
use Rattle.parse_actions.specs.Actions.{begins_action}
use Rattle.parse_actions.proofs.Laws.{operation_begins_no, operation_begins_no_symbol, action_begins_no, action_begins_no_symbol}
use Rattle.parse_statements.specs.Parse.{at_right_brace}

-- what comes behind a statement: neither `else` nor `catch`
abbrev pub Follow : Tokens → Type 0
Follow ts = (sees (is_the_word w.Else) ts ≡ false) × (sees (is_the_word w.Catch) ts ≡ false)

-- none of the words that statements with blocks begin with
abbrev pub Apart : Tokens → Type 0
Apart ts = (sees (is_the_word w.If) ts ≡ false) × (sees (is_the_word w.While) ts ≡ false) × (sees (is_the_word w.Guard) ts ≡ false) × (sees (is_the_word w.Try) ts ≡ false)

act_begins_no : (v : Word) → begins_action v ≡ false → (line : ℕ) (a : tree.Action) (ts rest : Tokens) → DerivesStatement (tree.act line a) ts rest → sees (is_the_word v) ts ≡ false
act_begins_no v e line a ts rest h = action_begins_no v e line a ts h.0 h.1

-- the operation stands at the front where no variable gets its value
operate_first : (line at : ℕ) (x : tree.Operation) (ts rest : Tokens) → DerivesStatement (tree.operate line None at x) ts rest → (mid : Tokens) × DerivesOperation at x ts mid
operate_first line at x ts rest (a, (same, none), (b, operation_at, end_at)) = (b, subst (λ z. DerivesOperation at x z b) (sym none) operation_at)

operate_begins_no : (v : Word) → begins_operation v ≡ false → (line at : ℕ) (x : tree.Operation) (ts rest : Tokens) → DerivesStatement (tree.operate line None at x) ts rest → sees (is_the_word v) ts ≡ false
operate_begins_no v e line at x ts rest h = let (mid, first) = operate_first line at x ts rest h in operation_begins_no v e at x ts mid first

operate_begins : (line at : ℕ) (x : tree.Operation) (ts rest : Tokens) → DerivesStatement (tree.operate line None at x) ts rest → at_right_brace ts ≡ false
operate_begins line at x ts rest h = let (mid, first) = operate_first line at x ts rest h in operation_begins_no_symbol s.RightBrace at x ts mid first

pub act_apart : (line : ℕ) (a : tree.Action) (ts rest : Tokens) → DerivesStatement (tree.act line a) ts rest → Apart ts
act_apart line a ts rest h = (act_begins_no w.If refl line a ts rest h, act_begins_no w.While refl line a ts rest h, act_begins_no w.Guard refl line a ts rest h, act_begins_no w.Try refl line a ts rest h)

pub operate_apart : (line : ℕ) (o : Option (List ℕ)) (at : ℕ) (x : tree.Operation) (ts rest : Tokens) → DerivesStatement (tree.operate line o at x) ts rest → Apart ts
operate_apart line None at x ts rest h = (operate_begins_no w.If refl line at x ts rest h, operate_begins_no w.While refl line at x ts rest h, operate_begins_no w.Guard refl line at x ts rest h, operate_begins_no w.Try refl line at x ts rest h)
operate_apart line (Some bytes) at x ts rest h = (rw h.1.1 refl, rw h.1.1 refl, rw h.1.1 refl, rw h.1.1 refl)

-- a statement begins neither with a brace that closes nor with what goes on with another
pub statement_begins : (x : tree.Statement) (ts rest : Tokens) → DerivesStatement x ts rest → (at_right_brace ts ≡ false) × Follow ts
statement_begins (tree.var line v x o) ts rest h = (rw h.1 refl, (rw h.1 refl, rw h.1 refl))
statement_begins (tree.assign line place e) ts rest h = (rw h.1.1 refl, (rw h.1.1 refl, rw h.1.1 refl))
statement_begins (tree.operate line None at x) ts rest h = (operate_begins line at x ts rest h, (operate_begins_no w.Else refl line at x ts rest h, operate_begins_no w.Catch refl line at x ts rest h))
statement_begins (tree.operate line (Some bytes) at x) ts rest h = (rw h.1.1 refl, (rw h.1.1 refl, rw h.1.1 refl))
statement_begins (tree.act line a) ts rest h = (action_begins_no_symbol s.RightBrace line a ts h.0 h.1, (act_begins_no w.Else refl line a ts rest h, act_begins_no w.Catch refl line a ts rest h))
statement_begins (tree.if_ line e body other) ts rest h = (rw h.1 refl, (rw h.1 refl, rw h.1 refl))
statement_begins (tree.while_ line e body) ts rest h = (rw h.1 refl, (rw h.1 refl, rw h.1 refl))
statement_begins (tree.guard line body undo) ts rest h = (rw h.1 refl, (rw h.1 refl, rw h.1 refl))
statement_begins (tree.try_ line body handlers) ts rest h = (rw h.1 refl, (rw h.1 refl, rw h.1 refl))

-- a brace that closes follows a statement
pub brace_follows : (ts rest : Tokens) (line : ℕ) → ts ≡ (t.symbol s.RightBrace, line) ∷ rest → Follow ts
brace_follows ts rest line h = (rw h refl, rw h refl)
