-- Parser functions on lists of tokens for modules and whole texts. They are no definition of the language: the
-- grammar is, and no public clause names them.
use Rattle.std.specs.Prelude.{◌≡◌, ◌≢◌, ℕ, Bool, not, List, [], ◌∷◌, Option, Some, None}
use Rattle.std.specs.Global.{Vec}
use Rattle.model_tree.specs.declared.vocabulary.Word.TheVariants as w
use Rattle.model_tree.specs.declared.vocabulary.Symbol.TheVariants as s
use Rattle.model_tree.specs.declared.items.ResolutionLine.{ResolutionLine}
use Rattle.model_tree.specs.declared.items.Head.{Head}
use Rattle.model_tree.specs.declared.items.Head.TheVariants as head
use Rattle.model_tree.specs.declared.items.Module.{Module}
use Rattle.model_tree.specs.declared.items.Top.{Top}
use Rattle.model_tree.specs.declared.faults.ParseStop.{ParseStop}
use Rattle.model_tree.specs.declared.faults.ParseStop.TheVariants as stop
use Rattle.model_tree.specs.Tree as tree
use Rattle.model_tree.specs.Views.{modules_of}
use Rattle.parse_statements.specs.ModelLexer.Languages.{in_language}
use Rattle.parse_statements.specs.ModelLexer.Tokens as t
use Rattle.parse_statements.specs.ModelLexer.Expressions.{sees}
use Rattle.parse_statements.specs.ModelLexer.Cut.{Lexeme, Cut}
use Rattle.parse_statements.specs.ModelLexer.Laws.{with_lines}
use Rattle.parse_statements.specs.ParseExpressions.Parse.{Parser, ◌>>=◌, pure, choose, many, word, is_the_word, symbol, name, this_number}
use Rattle.model_parser.specs.ItemParse.{time_span}
use Rattle.model_parser.specs.Bodies.{items}

-- a module, in which so many brackets may be opened between its braces
unfoldable pub module_text : ℕ → Parser tree.Module
module_text depth = do
  line ← word w.Module
  x ← name
  open_brace ← symbol s.LeftBrace
  is ← items depth
  close_brace ← symbol s.RightBrace
  pure (record { line = line; name = x; items = is })

abbrev pub at_no_module : t.Tokens → Bool
at_no_module ts = not (sees (is_the_word w.Module) ts)

unfoldable pub modules : ℕ → Parser (List tree.Module)
modules depth = many at_no_module (module_text depth) []

unfoldable pub top : Parser Top
top = do
  line ← word w.Top
  of ← name
  x ← name
  end ← symbol s.Semicolon
  pure (record { line = line; «module» = of; name = x })

-- a module opens one of 64 brackets
unfoldable pub model : Parser tree.Model
model = do
  ms ← modules 63
  x ← top
  pure (record { modules = ms; top = x })

-- what a text says of its language

abbrev pub some_resolution : Parser (Option ResolutionLine)
some_resolution = do
  line ← word w.Resolution
  x ← time_span
  end ← symbol s.Semicolon
  pure (Some (record { line = line; span = x }))

unfoldable pub resolution : Parser (Option ResolutionLine)
resolution = choose (sees (is_the_word w.Resolution)) some_resolution (pure None)

abbrev pub second_head : Parser Head
second_head = do
  line ← word w.Language
  version ← this_number 2
  end ← symbol s.Semicolon
  r ← resolution
  pure (head.Second r)

unfoldable pub head_text : Parser Head
head_text = choose (sees (is_the_word w.Language)) second_head (pure head.First)

unfoldable pub source : Parser tree.Source
source = do
  h ← head_text
  m ← model
  pure (record { head = h; model = m })

-- the modules and the top that the code hands on, as a tree
abbrev pub parts_of : Vec Module × Top → tree.Model
parts_of parts = record { modules = modules_of parts.0.items; top = parts.1 }

abbrev pub source_of_parts : Head × Vec Module × Top → tree.Source
source_of_parts parts = record { head = parts.0; model = parts_of (parts.1, parts.2) }

-- all of the tokens
abbrev pub whole : {A : Type 0} → Option (A × t.Tokens) → Option A
whole None = None
whole (Some (x, [])) = Some x
whole (Some (x, (t ∷ ts))) = None

unfoldable pub from_tokens : t.Tokens → Option tree.Source
from_tokens ts = whole (source ts)

-- the tree is read from the text's tokens
abbrev pub IsFound : List ℕ → tree.Source → Type 0
IsFound text x = (ts : List Lexeme) × Cut text ts × (from_tokens (in_language (with_lines ts)) ≡ Some x)

-- no tree is read from any tokens of the text, unless memory ran out
abbrev pub IsStopped : List ℕ → ParseStop → Type 0
IsStopped text e = e ≢ stop.NoMemory → (ts : List Lexeme) → Cut text ts → from_tokens (in_language (with_lines ts)) ≡ None
