-- Parser functions on lists of tokens for what is waited for, for notifications, processes and new instances.
-- They are no definition of the language: the grammar is.
use Rattle.std.specs.Prelude.{ℕ, List, Option, Some, None}
use Rattle.model_tree.specs.declared.vocabulary.Word.TheVariants as w
use Rattle.model_tree.specs.declared.vocabulary.Symbol.TheVariants as s
use Rattle.model_tree.specs.declared.statements.Who.{Who}
use Rattle.model_tree.specs.declared.statements.Who.TheVariants as who_is
use Rattle.model_tree.specs.Tree as tree
use Rattle.parse_expressions.specs.ModelLexer.Expressions.{is_the_symbol, sees}
use Rattle.parse_expressions.specs.Parse.{Parser, ◌>>=◌, pure, choose, word, is_the_word, sees_second, flag, symbol, named, name, expression}
use Rattle.parse_actions.specs.ChannelParse.{event, events, sensitive, arguments, at_semicolon}

-- a time-out, if one comes

abbrev pub some_span : ℕ → Parser (Option tree.Expression)
some_span depth = do
  line ← word w.For
  e ← expression depth
  pure (Some e)

unfoldable pub optional_span : ℕ → Parser (Option tree.Expression)
optional_span depth = choose (sees (is_the_word w.For)) (some_span depth) (pure None)

-- what is waited for

unfoldable pub for_delta : Parser tree.Waiting
for_delta = do
  line ← word w.Delta
  pure tree.delta

unfoldable pub for_span : ℕ → Parser tree.Waiting
for_span depth = do
  line ← word w.For
  e ← expression depth
  pure (tree.for_ e)

unfoldable pub for_any : ℕ → Parser tree.Waiting
for_any depth = do
  line ← word w.Any
  es ← events depth
  x ← optional_span depth
  pure (tree.any es x)

unfoldable pub for_all : ℕ → Parser tree.Waiting
for_all depth = do
  line ← word w.All
  es ← events depth
  x ← optional_span depth
  pure (tree.all es x)

unfoldable pub for_one : ℕ → Parser tree.Waiting
for_one depth = do
  e ← event depth
  x ← optional_span depth
  pure (tree.one e x)

abbrev pub all_or_one : ℕ → Parser tree.Waiting
all_or_one depth = choose (sees (is_the_word w.All)) (for_all depth) (for_one depth)

unfoldable pub for_events : ℕ → Parser tree.Waiting
for_events depth = choose (sees (is_the_word w.Any)) (for_any depth) (all_or_one depth)

abbrev pub span_or_events : ℕ → Parser tree.Waiting
span_or_events depth = choose (sees (is_the_word w.For)) (for_span depth) (for_events depth)

abbrev pub some_waiting : ℕ → Parser tree.Waiting
some_waiting depth = choose (sees (is_the_word w.Delta)) for_delta (span_or_events depth)

-- what is waited for: the static sensitivity where nothing comes before a semicolon
unfoldable pub waiting : ℕ → Parser tree.Waiting
waiting depth = choose at_semicolon (pure tree.static) (some_waiting depth)

-- when a notification comes

unfoldable pub in_delta : Parser tree.Notification
in_delta = do
  line ← word w.Delta
  pure tree.next_delta

unfoldable pub after_span : ℕ → Parser tree.Notification
after_span depth = do
  line ← word w.After
  e ← expression depth
  pure (tree.after e)

abbrev pub later : ℕ → Parser tree.Notification
later depth = choose (sees (is_the_word w.Delta)) in_delta (after_span depth)

unfoldable pub notification : ℕ → Parser tree.Notification
notification depth = choose at_semicolon (pure tree.immediate) (later depth)

-- a process

unfoldable pub myself : Parser Who
myself = do
  line ← word w.SelfProcess
  pure (who_is.Myself line)

unfoldable pub process_name : Parser Who
process_name = do
  x ← named
  pure (who_is.Named x.0 x.1)

unfoldable pub who : Parser Who
who = choose (sees (is_the_word w.SelfProcess)) myself process_name

-- a new instance of a function

abbrev pub some_handle : Parser (Option (List ℕ))
some_handle = do
  x ← name
  equal ← symbol s.Equal
  pure (Some x)

-- the variable that gets the handle, if a name and `=` come
unfoldable pub optional_handle : Parser (Option (List ℕ))
optional_handle = choose (sees_second (is_the_symbol s.Equal)) some_handle (pure None)

unfoldable pub spawn : ℕ → Parser tree.Spawn
spawn depth = do
  handle ← optional_handle
  method ← flag w.Method
  function ← name
  arguments ← arguments depth
  sensitive ← sensitive depth
  dont_initialize ← flag w.DontInitialize
  pure (record { handle = handle; method = method; function = function; arguments = arguments; sensitive = sensitive; dont_initialize = dont_initialize })
