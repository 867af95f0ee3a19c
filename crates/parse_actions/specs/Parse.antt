-- Parser functions on lists of tokens for operations and actions, each with the line of its word.
-- They are no definition of the language: the grammar is.
use Rattle.std.specs.Prelude.{ℕ, Bool, false, Option, Some, None}
use Rattle.model_tree.specs.declared.vocabulary.Word.{Word}
use Rattle.model_tree.specs.Tree as tree
use Rattle.parse_expressions.specs.ModelLexer.Tokens as t
use Rattle.parse_expressions.specs.Parse.{Parser, ◌>>=◌, pure, refuse, where_some, skip, word_ahead}
use Rattle.parse_actions.specs.Operations.{operation_start, begins_operation, started_operation}
use Rattle.parse_actions.specs.Actions.{action_start, begins_action, started_action}

abbrev pub passes : (Word → Bool) → Option Word → Bool
passes test None = false
passes test (Some v) = test v

-- whether an operation's word comes
abbrev pub sees_operation : t.Tokens → Bool
sees_operation ts = passes begins_operation (word_ahead ts)

-- whether an action's word comes
abbrev pub sees_action : t.Tokens → Bool
sees_action ts = passes begins_action (word_ahead ts)

-- the word that comes, and what begins with it

unfoldable pub operation_by : ℕ → Word → Parser (ℕ × tree.Operation)
operation_by depth v = do
  line ← skip
  o ← started_operation depth (operation_start v)
  pure (line, o)

unfoldable pub operation : ℕ → Parser (ℕ × tree.Operation)
operation depth ts = where_some (word_ahead ts) refuse (operation_by depth) ts

unfoldable pub action_by : ℕ → Word → Parser (ℕ × tree.Action)
action_by depth v = do
  line ← skip
  a ← started_action depth (action_start v)
  pure (line, a)

unfoldable pub action : ℕ → Parser (ℕ × tree.Action)
action depth ts = where_some (word_ahead ts) refuse (action_by depth) ts
