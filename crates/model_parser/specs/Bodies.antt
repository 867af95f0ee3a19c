-- Parser functions on lists of tokens for functions and processes, and for any item. They are no definition of the
-- language: the grammar is.
use Rattle.std.specs.Prelude.{ℕ, true, false, List, [], ◌∷◌, Option, Some, None}
use Rattle.model_tree.specs.declared.vocabulary.Word.TheVariants as w
use Rattle.model_tree.specs.declared.vocabulary.Symbol.TheVariants as s
use Rattle.model_tree.specs.declared.types.VarType.{VarType}
use Rattle.model_tree.specs.declared.types.Parameter.{Parameter}
use Rattle.model_tree.specs.declared.items.ProcessKind.{ProcessKind}
use Rattle.model_tree.specs.Tree as tree
use Rattle.parse_statements.specs.ModelLexer.Expressions.{is_the_symbol, sees}
use Rattle.model_tree.specs.Spelling.{process_word}
use Rattle.parse_statements.specs.ParseExpressions.Parse.{Parser, ◌>>=◌, pure, refuse, choose, many, word, is_the_word, flag, symbol, name, opened}
use Rattle.parse_statements.specs.ParseActions.ChannelParse.{variable_type, sensitive, at_no_comma, at_right_paren}
use Rattle.parse_statements.specs.Parse.{block, at_right_brace}
use Rattle.model_parser.specs.declared.starts.ItemStart.{ItemStart}
use Rattle.model_parser.specs.declared.starts.ItemStart.TheVariants as start
use Rattle.model_parser.specs.Starts.{item_ahead}
use Rattle.model_parser.specs.ItemParse.{signal_item, resolved_item, clock_item, fifo_item, plain_item, semaphore_item, memory_item, variable_item, port_item, export_item, initiator_item, target_item, instance_item, bind_item}

-- parameters

unfoldable pub inout_parameter : Parser Parameter
inout_parameter = do
  line ← word w.Inout
  x ← variable_type
  bytes ← name
  pure (record { line = line; inout = true; var_type = x.1; name = bytes })

unfoldable pub value_parameter : Parser Parameter
value_parameter = do
  x ← variable_type
  bytes ← name
  pure (record { line = x.0; inout = false; var_type = x.1; name = bytes })

unfoldable pub parameter : Parser Parameter
parameter = choose (sees (is_the_word w.Inout)) inout_parameter value_parameter

unfoldable pub next_parameter : Parser Parameter
next_parameter = do
  comma ← symbol s.Comma
  parameter

unfoldable pub more_parameters : List Parameter → Parser (List Parameter)
more_parameters found = many at_no_comma next_parameter found

abbrev pub some_parameters : Parser (List Parameter)
some_parameters = do
  p ← parameter
  more_parameters (p ∷ [])

-- parameters with commas between them, none before a closing parenthesis
unfoldable pub listed_parameters : Parser (List Parameter)
listed_parameters = choose at_right_paren (pure []) some_parameters

-- the number is how many brackets may still be opened
unfoldable pub parameters : ℕ → Parser (List Parameter)
parameters depth = do
  parens ← opened depth s.LeftParen
  ps ← listed_parameters
  close ← symbol s.RightParen
  pure ps

-- functions and processes

abbrev pub some_answer : Parser (Option VarType)
some_answer = do
  arrow ← symbol s.Arrow
  x ← variable_type
  pure (Some x.1)

-- the type of a function's answer, if one is written
unfoldable pub answer : Parser (Option VarType)
answer = choose (sees (is_the_symbol s.Arrow)) some_answer (pure None)

unfoldable pub function_item : ℕ → Parser tree.Item
function_item depth = do
  line ← word w.Func
  x ← name
  ps ← parameters depth
  of ← answer
  body ← block depth
  pure (tree.function line (record { name = x; parameters = ps; answer = of; body = body }))

unfoldable pub process_item : ProcessKind → ℕ → Parser tree.Item
process_item k depth = do
  line ← word (process_word k)
  x ← name
  events ← sensitive depth
  without ← flag w.DontInitialize
  body ← block depth
  pure (tree.process line (record { kind = k; name = x; sensitive = events; dont_initialize = without; body = body }))

-- items

abbrev pub started_item : ItemStart → ℕ → Parser tree.Item
started_item (start.Signal k) depth = signal_item k
started_item start.Resolved depth = resolved_item
started_item start.Clock depth = clock_item
started_item start.Fifo depth = fifo_item
started_item (start.Plain k) depth = plain_item k
started_item start.Semaphore depth = semaphore_item
started_item start.Memory depth = memory_item depth
started_item start.Variable depth = variable_item
started_item start.Port depth = port_item depth
started_item start.Export depth = export_item
started_item start.Initiator depth = initiator_item
started_item start.Target depth = target_item
started_item start.Instance depth = instance_item
started_item start.Bind depth = bind_item
started_item start.Function depth = function_item depth
started_item (start.Process k) depth = process_item k depth
started_item start.Nothing depth = refuse

unfoldable pub item : ℕ → Parser tree.Item
item depth ts = started_item (item_ahead ts) depth ts

unfoldable pub items : ℕ → Parser (List tree.Item)
items depth = many at_right_brace (item depth) []
