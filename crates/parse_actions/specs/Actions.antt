-- Parser functions on lists of tokens for an action: its word, and what stands behind it.
-- They are no definition of the language: the grammar is.
use Rattle.std.specs.Prelude.{ℕ, Bool, true, false, List, Option, Some, None}
use Rattle.model_tree.specs.declared.vocabulary.Word.{Word}
use Rattle.model_tree.specs.declared.vocabulary.Word.TheVariants as w
use Rattle.model_tree.specs.declared.vocabulary.Symbol.TheVariants as s
use Rattle.model_tree.specs.declared.statements.Control.{Control}
use Rattle.model_tree.specs.declared.statements.Control.TheVariants as order
use Rattle.model_tree.specs.Tree as tree
use Rattle.parse_expressions.specs.ModelLexer.Expressions.{is_the_symbol, sees}
use Rattle.parse_expressions.specs.Parse.{Parser, ◌>>=◌, pure, choose, refuse, text, name, flag, expression}
use Rattle.parse_actions.specs.ChannelParse.{channel, optional_expression}
use Rattle.parse_actions.specs.declared.actions.ActionStart.{ActionStart}
use Rattle.parse_actions.specs.declared.actions.ActionStart.TheVariants as start
use Rattle.parse_actions.specs.Operations.{next_name, next_expression, of_channel}
use Rattle.parse_actions.specs.Waits.{waiting, notification, who, spawn}

-- the action that begins with a word, and whether one does

abbrev pub action_start : Word → ActionStart
action_start w.Write = start.Write
action_start w.Print = start.Print
action_start w.Notify = start.Notify
action_start w.Cancel = start.Cancel
action_start w.Wait = start.Wait
action_start w.NextTrigger = start.NextTrigger
action_start w.Lock = start.Lock
action_start w.SemWait = start.SemWait
action_start w.Post = start.Post
action_start w.Make = start.Make
action_start w.Acquire = start.Acquire
action_start w.Release = start.Release
action_start w.Carry = start.Carry
action_start w.BTransport = start.BTransport
action_start w.QkGlobal = start.QkGlobal
action_start w.QkInc = start.QkInc
action_start w.QkSet = start.QkSet
action_start w.QkReset = start.QkReset
action_start w.QkSync = start.QkSync
action_start w.Spawn = start.Spawn
action_start w.Suspend = start.Control order.Suspend
action_start w.Resume = start.Control order.Resume
action_start w.Disable = start.Control order.Disable
action_start w.Enable = start.Control order.Enable
action_start w.Kill = start.Control order.Kill
action_start w.Reset = start.Control order.Reset
action_start w.ThrowIt = start.ThrowIt
action_start w.Throw = start.Throw
action_start w.Return = start.Return
action_start w.Stop = start.Stop
action_start _ = start.Nothing

abbrev pub acts_so : ActionStart → Bool
acts_so start.Nothing = false
acts_so _ = true

abbrev pub begins_action : Word → Bool
begins_action v = acts_so (action_start v)

unfoldable pub write : ℕ → Parser tree.Action
write depth = do
  c ← channel depth
  e ← expression depth
  pure (tree.write c e)

unfoldable pub print : ℕ → Parser tree.Action
print depth = do
  x ← text
  e ← optional_expression depth
  pure (tree.print x e)

unfoldable pub notify : ℕ → Parser tree.Action
notify depth = do
  x ← name
  n ← notification depth
  pure (tree.notify x n)

abbrev pub some_next_expression : ℕ → Parser (Option tree.Expression)
some_next_expression depth = do
  e ← next_expression depth
  pure (Some e)

-- an expression behind a comma, if one comes
unfoldable pub optional_next_expression : ℕ → Parser (Option tree.Expression)
optional_next_expression depth = choose (sees (is_the_symbol s.Comma)) (some_next_expression depth) (pure None)

unfoldable pub make : ℕ → Parser tree.Action
make depth = do
  x ← name
  len ← next_expression depth
  enables ← optional_next_expression depth
  pure (tree.make x len enables)

unfoldable pub carry : Parser tree.Action
carry = do
  payload ← name
  memory ← next_name
  pure (tree.carry payload memory)

unfoldable pub b_transport : Parser tree.Action
b_transport = do
  socket ← name
  payload ← next_name
  delay ← next_name
  pure (tree.b_transport socket payload delay)

-- a name and an expression
unfoldable pub name_and_expression : ℕ → Parser (List ℕ × tree.Expression)
name_and_expression depth = do
  x ← name
  e ← expression depth
  pure (x, e)

unfoldable pub control : Control → Parser tree.Action
control order = do
  p ← who
  all ← flag w.Descendants
  pure (tree.control order p all)

unfoldable pub throw_it : Parser tree.Action
throw_it = do
  p ← who
  x ← name
  all ← flag w.Descendants
  pure (tree.throw_it p x all)

-- what is made of a part

abbrev pub of_name : (List ℕ → tree.Action) → Parser tree.Action
of_name act = do
  x ← name
  pure (act x)

abbrev pub of_name_and_expression : ℕ → (List ℕ → tree.Expression → tree.Action) → Parser tree.Action
of_name_and_expression depth act = do
  x ← name_and_expression depth
  pure (act x.0 x.1)

abbrev pub of_waiting : ℕ → (tree.Waiting → tree.Action) → Parser tree.Action
of_waiting depth act = do
  x ← waiting depth
  pure (act x)

abbrev pub of_expression : ℕ → Parser tree.Action
of_expression depth = do
  e ← expression depth
  pure (tree.qk_global e)

abbrev pub of_spawn : ℕ → Parser tree.Action
of_spawn depth = do
  x ← spawn depth
  pure (tree.spawn x)

abbrev pub of_answer : ℕ → Parser tree.Action
of_answer depth = do
  e ← optional_expression depth
  pure (tree.return_ e)

-- the action that begins so, behind its word
unfoldable pub started_action : ℕ → ActionStart → Parser tree.Action
started_action depth start.Write = write depth
started_action depth start.Print = print depth
started_action depth start.Notify = notify depth
started_action depth start.Cancel = of_name tree.cancel
started_action depth start.Wait = of_waiting depth tree.wait
started_action depth start.NextTrigger = of_waiting depth tree.next_trigger
started_action depth start.Lock = of_channel depth tree.lock
started_action depth start.SemWait = of_channel depth tree.sem_wait
started_action depth start.Post = of_channel depth tree.post
started_action depth start.Make = make depth
started_action depth start.Acquire = of_name tree.acquire
started_action depth start.Release = of_name tree.release
started_action depth start.Carry = carry
started_action depth start.BTransport = b_transport
started_action depth start.QkGlobal = of_expression depth
started_action depth start.QkInc = of_name_and_expression depth tree.qk_inc
started_action depth start.QkSet = of_name_and_expression depth tree.qk_set
started_action depth start.QkReset = of_name tree.qk_reset
started_action depth start.QkSync = of_name tree.qk_sync
started_action depth start.Spawn = of_spawn depth
started_action depth (start.Control c) = control c
started_action depth start.ThrowIt = throw_it
started_action depth start.Throw = of_name tree.throw
started_action depth start.Return = of_answer depth
started_action depth start.Stop = pure tree.stop
started_action depth start.Nothing = refuse
