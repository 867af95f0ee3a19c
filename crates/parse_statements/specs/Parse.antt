-- Parser functions on lists of tokens for statements and blocks. They are no definition of the language: the
-- grammar is.
use Rattle.std.specs.Prelude.{ℕ, zero, suc, Bool, not, List, [], ◌∷◌, Option, Some, None, map}
use Rattle.std.specs.Global.{Vec}
use Rattle.model_tree.specs.declared.vocabulary.Word.TheVariants as w
use Rattle.model_tree.specs.declared.vocabulary.Symbol.TheVariants as s
use Rattle.model_tree.specs.declared.statements.Statement.{Statement}
use Rattle.model_tree.specs.Tree as tree
use Rattle.model_tree.specs.Views.{block_of, body_of}
use Rattle.parse_actions.specs.ModelLexer.Tokens as t
use Rattle.parse_actions.specs.ModelLexer.Expressions.{is_the_symbol, sees}
use Rattle.parse_actions.specs.ParseExpressions.Parse.{Parser, ◌>>=◌, pure, refuse, choose, many, word, is_the_word, symbol, named, name, expression}
use Rattle.parse_actions.specs.ChannelParse.{variable_type, optional_member, optional_index}
use Rattle.parse_actions.specs.Parse.{sees_operation, sees_action, operation, action}

-- statements that hold no block; the number is how many brackets may still be opened

abbrev pub some_initial : ℕ → Parser (Option tree.Expression)
some_initial depth = do
  sign ← symbol s.Equal
  e ← expression depth
  pure (Some e)

-- the value behind `=`, if one is written
unfoldable pub initial : ℕ → Parser (Option tree.Expression)
initial depth = choose (sees (is_the_symbol s.Equal)) (some_initial depth) (pure None)

unfoldable pub var_statement : ℕ → Parser tree.Statement
var_statement depth = do
  line ← word w.Var
  t ← variable_type
  x ← name
  e ← initial depth
  end ← symbol s.Semicolon
  pure (tree.var line t.1 x e)

-- a statement that is over at a semicolon
unfoldable pub ended : tree.Statement → Parser tree.Statement
ended x = do
  end ← symbol s.Semicolon
  pure x

-- what is assigned to a place, behind its `=`
unfoldable pub assign_statement : ℕ → ℕ → tree.Target → Parser tree.Statement
assign_statement depth line place = do
  e ← expression depth
  end ← symbol s.Semicolon
  pure (tree.assign line place e)

-- an operation whose value a variable gets, behind its `=`
unfoldable pub result_statement : ℕ → ℕ × List ℕ → Parser tree.Statement
result_statement depth x = do
  o ← operation depth
  end ← symbol s.Semicolon
  pure (tree.operate x.0 (Some x.1) o.0 o.1)

-- an operation alone
unfoldable pub operate_statement : ℕ → Parser tree.Statement
operate_statement depth = do
  o ← operation depth
  end ← symbol s.Semicolon
  pure (tree.operate o.0 None o.0 o.1)

unfoldable pub act_statement : ℕ → Parser tree.Statement
act_statement depth = do
  a ← action depth
  ended (tree.act a.0 a.1)

-- a variable as a place
abbrev pub plain_target : List ℕ → tree.Target
plain_target x = record { name = x; member = None; index = None }

-- a name on its line, and `=` behind it: an operation, or the value of an assignment
unfoldable pub equated : ℕ → ℕ × List ℕ → Parser tree.Statement
equated depth x = do
  sign ← symbol s.Equal
  choose sees_operation (result_statement depth x) (assign_statement depth x.0 (plain_target x.1))

-- a place that begins with this name, and its assignment
unfoldable pub target_statement : ℕ → ℕ × List ℕ → Parser tree.Statement
target_statement depth x = do
  m ← optional_member
  i ← optional_index depth
  sign ← symbol s.Equal
  assign_statement depth x.0 (record { name = x.1; member = m; index = i })

abbrev pub equated_or_target : ℕ → ℕ × List ℕ → Parser tree.Statement
equated_or_target depth x = choose (sees (is_the_symbol s.Equal)) (equated depth x) (target_statement depth x)

-- a statement that begins with a name
unfoldable pub name_statement : ℕ → Parser tree.Statement
name_statement depth = do
  x ← named
  equated_or_target depth x

abbrev pub var_or_name : ℕ → Parser tree.Statement
var_or_name depth = choose (sees (is_the_word w.Var)) (var_statement depth) (name_statement depth)

abbrev pub operate_or_less : ℕ → Parser tree.Statement
operate_or_less depth = choose sees_operation (operate_statement depth) (var_or_name depth)

-- a statement that holds no block
unfoldable pub plain : ℕ → Parser tree.Statement
plain depth = choose sees_action (act_statement depth) (operate_or_less depth)

-- statements that hold blocks, which the first parser reads

abbrev pub some_else : Parser tree.Block → Parser tree.Else
some_else inner = do
  line ← word w.Else
  body ← inner
  pure (tree.else_block body)

unfoldable pub else_part : Parser tree.Block → Parser tree.Else
else_part inner = choose (sees (is_the_word w.Else)) (some_else inner) (pure tree.no_else)

unfoldable pub if_statement : Parser tree.Block → ℕ → Parser tree.Statement
if_statement inner depth = do
  line ← word w.If
  e ← expression depth
  body ← inner
  other ← else_part inner
  pure (tree.if_ line e body other)

unfoldable pub while_statement : Parser tree.Block → ℕ → Parser tree.Statement
while_statement inner depth = do
  line ← word w.While
  e ← expression depth
  body ← inner
  pure (tree.while_ line e body)

unfoldable pub guard_statement : Parser tree.Block → Parser tree.Statement
guard_statement inner = do
  line ← word w.Guard
  body ← inner
  at ← word w.Unwind
  undo ← inner
  pure (tree.guard line body undo)

-- a handler: the name of what it catches, and its block
unfoldable pub handler : Parser tree.Block → Parser (List ℕ × tree.Block)
handler inner = do
  line ← word w.Catch
  x ← name
  body ← inner
  pure (x, body)

abbrev pub at_no_catch : t.Tokens → Bool
at_no_catch ts = not (sees (is_the_word w.Catch) ts)

-- these handlers, and those that come
unfoldable pub more_handlers : Parser tree.Block → List (List ℕ × tree.Block) → Parser (List (List ℕ × tree.Block))
more_handlers inner found = many at_no_catch (handler inner) found

unfoldable pub handlers : Parser tree.Block → Parser (List (List ℕ × tree.Block))
handlers inner = do
  h ← handler inner
  more_handlers inner (h ∷ [])

abbrev pub handlers_of_list : List (List ℕ × tree.Block) → tree.Handlers
handlers_of_list [] = tree.no_more
handlers_of_list (h ∷ hs) = tree.handler h.0 h.1 (handlers_of_list hs)

unfoldable pub try_statement : Parser tree.Block → Parser tree.Statement
try_statement inner = do
  line ← word w.Try
  body ← inner
  hs ← handlers inner
  pure (tree.try_ line body (handlers_of_list hs))

abbrev pub try_or_plain : Parser tree.Block → ℕ → Parser tree.Statement
try_or_plain inner depth = choose (sees (is_the_word w.Try)) (try_statement inner) (plain depth)

abbrev pub guard_or_less : Parser tree.Block → ℕ → Parser tree.Statement
guard_or_less inner depth = choose (sees (is_the_word w.Guard)) (guard_statement inner) (try_or_plain inner depth)

abbrev pub while_or_less : Parser tree.Block → ℕ → Parser tree.Statement
while_or_less inner depth = choose (sees (is_the_word w.While)) (while_statement inner depth) (guard_or_less inner depth)

unfoldable pub statement : Parser tree.Block → ℕ → Parser tree.Statement
statement inner depth = choose (sees (is_the_word w.If)) (if_statement inner depth) (while_or_less inner depth)

abbrev pub at_right_brace : t.Tokens → Bool
at_right_brace = sees (is_the_symbol s.RightBrace)

unfoldable pub statements : Parser tree.Block → ℕ → Parser (List tree.Statement)
statements inner depth = many at_right_brace (statement inner depth) []

unfoldable pub braced : Parser tree.Block → ℕ → Parser tree.Block
braced inner depth = do
  open_brace ← symbol s.LeftBrace
  xs ← statements inner depth
  close_brace ← symbol s.RightBrace
  pure (block_of xs)

-- a block, where so many brackets may still be opened
unfoldable pub block : ℕ → Parser tree.Block
block zero = refuse
block (suc depth) = braced (block depth) depth

-- what the code hands on, as the tree has it

abbrev pub other_of : Option (Vec Statement) → tree.Else
other_of None = tree.no_else
other_of (Some body) = tree.else_block (body_of body.items)

abbrev pub handler_of : List ℕ × Vec Statement → List ℕ × tree.Block
handler_of h = (h.0, body_of h.1.items)

abbrev pub handlers_in : List (List ℕ × Vec Statement) → List (List ℕ × tree.Block)
handlers_in hs = map handler_of hs
