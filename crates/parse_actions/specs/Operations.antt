-- Parser functions on lists of tokens for an operation: its word, and what stands behind it.
-- They are no definition of the language: the grammar is.
use Rattle.std.specs.Prelude.{ℕ, Bool, true, false, List}
use Rattle.model_tree.specs.declared.vocabulary.Word.{Word}
use Rattle.model_tree.specs.declared.vocabulary.Word.TheVariants as w
use Rattle.model_tree.specs.declared.vocabulary.Symbol.TheVariants as s
use Rattle.model_tree.specs.Tree as tree
use Rattle.parse_expressions.specs.Parse.{Parser, ◌>>=◌, pure, refuse, symbol, name, expression}
use Rattle.parse_actions.specs.ChannelParse.{channel, arguments}
use Rattle.parse_actions.specs.declared.operations.OperationStart.{OperationStart}
use Rattle.parse_actions.specs.declared.operations.OperationStart.TheVariants as start

-- the operation that begins with a word, and whether one does

abbrev pub operation_start : Word → OperationStart
operation_start w.Call = start.Call
operation_start w.Read = start.Read
operation_start w.NbRead = start.NbRead
operation_start w.NbWrite = start.NbWrite
operation_start w.Trylock = start.Trylock
operation_start w.Unlock = start.Unlock
operation_start w.SemTrywait = start.SemTrywait
operation_start w.NbTransport = start.NbTransport
operation_start _ = start.Nothing

abbrev pub operates_so : OperationStart → Bool
operates_so start.Nothing = false
operates_so _ = true

abbrev pub begins_operation : Word → Bool
begins_operation v = operates_so (operation_start v)

-- a name behind a comma
unfoldable pub next_name : Parser (List ℕ)
next_name = do
  comma ← symbol s.Comma
  name

-- an expression behind a comma
unfoldable pub next_expression : ℕ → Parser tree.Expression
next_expression depth = do
  comma ← symbol s.Comma
  expression depth

unfoldable pub call : ℕ → Parser tree.Operation
call depth = do
  x ← name
  es ← arguments depth
  pure (tree.call x es)

unfoldable pub nb_read : ℕ → Parser tree.Operation
nb_read depth = do
  c ← channel depth
  x ← next_name
  pure (tree.nb_read c x)

unfoldable pub nb_write : ℕ → Parser tree.Operation
nb_write depth = do
  c ← channel depth
  e ← next_expression depth
  pure (tree.nb_write c e)

unfoldable pub nb_transport : Parser tree.Operation
nb_transport = do
  socket ← name
  payload ← next_name
  phase ← next_name
  delay ← next_name
  pure (tree.nb_transport socket payload phase delay)

-- what is made of a channel
abbrev pub of_channel : {A : Type 0} → ℕ → (tree.Channel → A) → Parser A
of_channel depth make = do
  c ← channel depth
  pure (make c)

-- the operation that begins so, behind its word
unfoldable pub started_operation : ℕ → OperationStart → Parser tree.Operation
started_operation depth start.Call = call depth
started_operation depth start.Read = of_channel depth tree.read
started_operation depth start.NbRead = nb_read depth
started_operation depth start.NbWrite = nb_write depth
started_operation depth start.Trylock = of_channel depth tree.trylock
started_operation depth start.Unlock = of_channel depth tree.unlock
started_operation depth start.SemTrywait = of_channel depth tree.sem_trywait
started_operation depth start.NbTransport = nb_transport
started_operation depth start.Nothing = refuse
