-- Parser functions on lists of tokens for what items and statements share: types, channels, events and arguments.
-- They are no definition of the language: the grammar is.
use Rattle.std.specs.Prelude.{ℕ, Bool, not, List, [], ◌∷◌, Option, Some, None}
use Rattle.model_tree.specs.declared.vocabulary.Word.{Word}
use Rattle.model_tree.specs.declared.vocabulary.Word.TheVariants as w
use Rattle.model_tree.specs.declared.vocabulary.Symbol.TheVariants as s
use Rattle.model_tree.specs.declared.types.SignalType.{SignalType}
use Rattle.model_tree.specs.declared.types.TypeForm.{TypeForm}
use Rattle.model_tree.specs.declared.types.TypeForm.TheVariants as form
use Rattle.model_tree.specs.declared.types.VarType.{VarType}
use Rattle.model_tree.specs.declared.types.VarType.TheVariants as var_type
use Rattle.model_tree.specs.Tree as tree
use Rattle.parse_expressions.specs.ModelLexer.Tokens as t
use Rattle.parse_expressions.specs.ModelLexer.Expressions.{is_the_symbol, sees}
use Rattle.parse_expressions.specs.Parse.{Parser, ◌>>=◌, pure, choose, many, word, is_the_word, symbol, named, name, number, sees_number, opened, inside, expression, group}

-- a width between angle brackets
unfoldable pub width : Parser ℕ
width = do
  less ← symbol s.Less
  n ← number
  greater ← symbol s.Greater
  pure n

-- types of signals; the answer has the line of the first token

unfoldable pub plain_type : Word → TypeForm → Parser SignalType
plain_type v f = do
  line ← word v
  pure (record { line = line; form = f })

unfoldable pub int_type : Parser SignalType
int_type = do
  line ← word w.Int
  n ← width
  pure (record { line = line; form = form.Int n })

unfoldable pub uint_type : Parser SignalType
uint_type = do
  line ← word w.Uint
  n ← width
  pure (record { line = line; form = form.Uint n })

unfoldable pub vector_type : Parser SignalType
vector_type = do
  line ← word w.Lv
  n ← width
  pure (record { line = line; form = form.Vector n })

abbrev pub uint_or_vector : Parser SignalType
uint_or_vector = choose (sees (is_the_word w.Uint)) uint_type vector_type

abbrev pub integer_or_vector : Parser SignalType
integer_or_vector = choose (sees (is_the_word w.Int)) int_type uint_or_vector

abbrev pub logic_or_wide : Parser SignalType
logic_or_wide = choose (sees (is_the_word w.Logic)) (plain_type w.Logic form.Logic) integer_or_vector

unfoldable pub signal_type : Parser SignalType
signal_type = choose (sees (is_the_word w.Bool)) (plain_type w.Bool form.Bool) logic_or_wide

-- types of variables, each with the line of its first token

unfoldable pub type_word : Word → VarType → Parser (ℕ × VarType)
type_word v x = do
  line ← word v
  pure (line, x)

unfoldable pub plain_variable_type : Parser (ℕ × VarType)
plain_variable_type = do
  x ← signal_type
  pure (x.line, var_type.Plain x)

abbrev pub payload_or_plain : Parser (ℕ × VarType)
payload_or_plain = choose (sees (is_the_word w.Payload)) (type_word w.Payload var_type.Payload) plain_variable_type

abbrev pub process_or_less : Parser (ℕ × VarType)
process_or_less = choose (sees (is_the_word w.Process)) (type_word w.Process var_type.Process) payload_or_plain

unfoldable pub variable_type : Parser (ℕ × VarType)
variable_type = choose (sees (is_the_word w.Time)) (type_word w.Time var_type.Time) process_or_less

-- channels and events; the number is how many brackets may still be opened

unfoldable pub numbered_place : Parser tree.Place
numbered_place = do
  n ← number
  pure (tree.place_number n)

unfoldable pub computed_place : ℕ → Parser tree.Place
computed_place depth = do
  e ← group depth (inside depth)
  pure (tree.computed e.1)

abbrev pub some_place : ℕ → Parser tree.Place
some_place depth = do
  sign ← symbol s.At
  choose sees_number numbered_place (computed_place depth)

unfoldable pub place : ℕ → Parser tree.Place
place depth = choose (sees (is_the_symbol s.At)) (some_place depth) (pure tree.first)

unfoldable pub channel : ℕ → Parser tree.Channel
channel depth = do
  x ← named
  p ← place depth
  pure (record { line = x.0; name = x.1; place = p })

abbrev pub some_member : Parser (Option (List ℕ))
some_member = do
  dot ← symbol s.Dot
  x ← name
  pure (Some x)

-- the member behind a dot, if one comes
unfoldable pub optional_member : Parser (Option (List ℕ))
optional_member = choose (sees (is_the_symbol s.Dot)) some_member (pure None)

unfoldable pub event : ℕ → Parser tree.Event
event depth = do
  c ← channel depth
  x ← optional_member
  pure (record { channel = c; member = x })

unfoldable pub next_event : ℕ → Parser tree.Event
next_event depth = do
  comma ← symbol s.Comma
  event depth

abbrev pub at_no_comma : t.Tokens → Bool
at_no_comma ts = not (sees (is_the_symbol s.Comma) ts)

-- these events, and those behind commas that come
unfoldable pub more_events : ℕ → List tree.Event → Parser (List tree.Event)
more_events depth found = many at_no_comma (next_event depth) found

-- events with commas between them
unfoldable pub events : ℕ → Parser (List tree.Event)
events depth = do
  e ← event depth
  more_events depth (e ∷ [])

abbrev pub some_sensitivity : ℕ → Parser (List tree.Event)
some_sensitivity depth = do
  line ← word w.Sensitive
  events depth

-- a static sensitivity, empty where none is written
unfoldable pub sensitive : ℕ → Parser (List tree.Event)
sensitive depth = choose (sees (is_the_word w.Sensitive)) (some_sensitivity depth) (pure [])

-- arguments

unfoldable pub next_inside : ℕ → Parser tree.Expression
next_inside depth = do
  comma ← symbol s.Comma
  inside depth

unfoldable pub more_inside : ℕ → List tree.Expression → Parser (List tree.Expression)
more_inside depth found = many at_no_comma (next_inside depth) found

abbrev pub some_inside : ℕ → Parser (List tree.Expression)
some_inside depth = do
  e ← inside depth
  more_inside depth (e ∷ [])

abbrev pub at_right_paren : t.Tokens → Bool
at_right_paren = sees (is_the_symbol s.RightParen)

-- expressions with commas between them, none before a closing parenthesis
unfoldable pub listed : ℕ → Parser (List tree.Expression)
listed depth = choose at_right_paren (pure []) (some_inside depth)

unfoldable pub arguments : ℕ → Parser (List tree.Expression)
arguments depth = do
  parens ← opened depth s.LeftParen
  es ← listed depth
  close ← symbol s.RightParen
  pure es

-- an expression between square brackets, if one comes

abbrev pub some_index : ℕ → Parser (Option tree.Expression)
some_index depth = do
  bracket ← opened depth s.LeftBracket
  e ← inside depth
  close ← symbol s.RightBracket
  pure (Some e)

unfoldable pub optional_index : ℕ → Parser (Option tree.Expression)
optional_index depth = choose (sees (is_the_symbol s.LeftBracket)) (some_index depth) (pure None)

-- an expression, or none before a semicolon

abbrev pub at_semicolon : t.Tokens → Bool
at_semicolon = sees (is_the_symbol s.Semicolon)

abbrev pub some_expression : ℕ → Parser (Option tree.Expression)
some_expression depth = do
  e ← expression depth
  pure (Some e)

unfoldable pub optional_expression : ℕ → Parser (Option tree.Expression)
optional_expression depth = choose at_semicolon (pure None) (some_expression depth)
