-- What the parts of a text with clocked threads become: tokens of the language without them.
--
-- A token that is kept keeps its line. One that is put in before the first kept token of its form is on the line of the form's
-- first token; every other one that is put in is on the line of the kept token before it.
use Rattle.std.specs.Prelude.{◌≡◌, ℕ, ◌⊎◌, List, [], ◌∷◌, ◌++◌, map, codes, Option, Some, None}
use Rattle.model_lexer.specs.ModelTree.declared.vocabulary.Word.TheVariants as w
use Rattle.model_lexer.specs.ModelTree.declared.vocabulary.Symbol.TheVariants as s
use Rattle.model_lexer.specs.ModelTree.declared.faults.ParseStop.{ParseStop}
use Rattle.model_lexer.specs.ModelTree.declared.faults.ParseStop.TheVariants as stop
use Rattle.model_lexer.specs.Tokens.{Token, Tokens, name, number, word, symbol}
use Rattle.clocked.specs.declared.words.NewWord.TheVariants as n
use Rattle.clocked.specs.Words.{new_word}
use Rattle.clocked.specs.Parts.{Reset, WrittenReset, Piece, plain, tick, Clocked, Part, kept, clocked, Text, truth, clock_of, reset_name, AreParts, written}

-- tokens that are put in, on a line
abbrev pub put : ℕ → List Token → Tokens
put line ts = map (λ t. (t, line)) ts

-- ---- a tick

-- if r == v { throw tick_reset ; }
abbrev pub test : Reset → List Token
test r =
    word w.If ∷ name r.signal ∷ symbol s.EqualEqual ∷ truth r.level
    ∷ symbol s.LeftBrace ∷ word w.Throw ∷ new_word n.TickReset ∷ symbol s.Semicolon ∷ symbol s.RightBrace ∷ []

-- the test of a reset, if there is one
abbrev pub test_of : Option Reset → List Token
test_of None = []
test_of (Some r) = test r

-- if true { var uint < 32 > tick_count =
abbrev pub tick_before : List Token
tick_before =
    word w.If ∷ word w.True ∷ symbol s.LeftBrace
    ∷ word w.Var ∷ word w.Uint ∷ symbol s.Less ∷ number 32 ∷ symbol s.Greater ∷ new_word n.TickCount ∷ symbol s.Equal ∷ []

-- while tick_count > 0 { wait ;
abbrev pub wait_before : List Token
wait_before =
    word w.While ∷ new_word n.TickCount ∷ symbol s.Greater ∷ number 0 ∷ symbol s.LeftBrace ∷ word w.Wait ∷ symbol s.Semicolon ∷ []

-- tick_count = tick_count - 1 ; } }
abbrev pub wait_behind : List Token
wait_behind =
    new_word n.TickCount ∷ symbol s.Equal ∷ new_word n.TickCount ∷ symbol s.Minus ∷ number 1 ∷ symbol s.Semicolon
    ∷ symbol s.RightBrace ∷ symbol s.RightBrace ∷ []

-- the resets of a thread, at once and at an edge
abbrev pub Resets : Type 0
Resets = Option Reset × Option Reset

-- behind the `;` of a tick: at each turn it waits, tests the resets in the order written, and counts
abbrev pub tick_behind : Resets → List Token
tick_behind rs = wait_before ++ (test_of rs.0 ++ (test_of rs.1 ++ wait_behind))

abbrev pub expanded_piece : Resets → Piece → Tokens
expanded_piece rs (plain t line) = (t, line) ∷ []
expanded_piece rs (tick line None end) = put line (tick_before ++ number 1 ∷ []) ++ (symbol s.Semicolon, end) ∷ put end (tick_behind rs)
expanded_piece rs (tick line (Some v) end) = put line tick_before ++ (number v.0, v.1) ∷ (symbol s.Semicolon, end) ∷ put end (tick_behind rs)

abbrev pub expanded_body : Resets → List Piece → Tokens
expanded_body rs [] = []
expanded_body rs (p ∷ ps) = expanded_piece rs p ++ expanded_body rs ps

-- the line of the last kept token of a block, which its `{` on this line opens
abbrev pub last_line : ℕ → List Piece → ℕ
last_line line [] = line
last_line line (plain t at ∷ ps) = last_line at ps
last_line line (tick at v end ∷ ps) = last_line end ps

-- ---- a clocked thread

abbrev pub reset_of : Option WrittenReset → Option Reset
reset_of None = None
reset_of (Some x) = Some x.reset

abbrev pub resets_of : Clocked → Resets
resets_of f = (reset_of f.asynchronous, reset_of f.synchronous)

-- var bool tick_again = true ; while tick_again { try {
abbrev pub body_before : List Token
body_before =
    word w.Var ∷ word w.Bool ∷ new_word n.TickAgain ∷ symbol s.Equal ∷ word w.True ∷ symbol s.Semicolon
    ∷ word w.While ∷ new_word n.TickAgain ∷ symbol s.LeftBrace ∷ word w.Try ∷ symbol s.LeftBrace ∷ []

-- tick_again = false ; } catch tick_reset { } }
abbrev pub body_behind : List Token
body_behind =
    new_word n.TickAgain ∷ symbol s.Equal ∷ word w.False ∷ symbol s.Semicolon
    ∷ symbol s.RightBrace ∷ word w.Catch ∷ new_word n.TickReset ∷ symbol s.LeftBrace ∷ symbol s.RightBrace ∷ symbol s.RightBrace ∷ []

-- sensitive r dont_initialize { if r == v { reset T ; } }
abbrev pub reset_body : List ℕ → Reset → List Token
reset_body thread r =
    word w.Sensitive ∷ name r.signal ∷ word w.DontInitialize ∷ symbol s.LeftBrace
    ∷ word w.If ∷ name r.signal ∷ symbol s.EqualEqual ∷ truth r.level
    ∷ symbol s.LeftBrace ∷ word w.Reset ∷ name thread ∷ symbol s.Semicolon ∷ symbol s.RightBrace ∷ symbol s.RightBrace ∷ []

-- method T_areset, behind a thread T with a reset at once
abbrev pub reset_method : List ℕ → Option Reset → List Token
reset_method thread None = []
reset_method thread (Some r) = word w.Method ∷ name (reset_name thread) ∷ reset_body thread r

-- thread T sensitive c . x dont_initialize {
abbrev pub expanded_head : Clocked → Tokens
expanded_head f =
    (word w.Thread, f.line) ∷ (name f.name, f.name_line) ∷ (word w.Sensitive, f.name_line) ∷ (clock_of f
    ++ (word w.DontInitialize, f.edge_line) ∷ (symbol s.LeftBrace, f.from) ∷ [])

-- a token is kept; a clocked thread is a thread that begins its block anew until it has run to its end, and a method behind it
abbrev pub expanded_part : Part → Tokens
expanded_part (kept t line) = (t, line) ∷ []
expanded_part (clocked f) =
    expanded_head f ++ (put f.from body_before ++ (expanded_body (resets_of f) f.body ++ (put (last_line f.from f.body) body_behind
    ++ (symbol s.RightBrace, f.to) ∷ put f.to (reset_method f.name (reset_of f.asynchronous)))))

abbrev pub expanded_parts : List Part → Tokens
expanded_parts [] = []
expanded_parts (p ∷ ps) = expanded_part p ++ expanded_parts ps

-- a text of language 2
abbrev pub expanded : Text → Tokens
expanded x = (name (codes "language"), x.word_line) ∷ (number 2, x.number_line) ∷ (symbol s.Semicolon, x.end_line) ∷ expanded_parts x.parts

-- the tokens of a text with clocked threads, and those of the language without them that they become
abbrev pub Expands : Tokens → Tokens → Type 0
Expands ts out = (x : Text) × AreParts x.parts × (ts ≡ written x) × (out ≡ expanded x)

-- ---- why tokens become nothing

-- some token list that expands begins with these tokens
abbrev pub IsFront : Tokens → Type 0
IsFront ts = (more : Tokens) × (out : Tokens) × Expands (ts ++ more) out

-- the line of the last token, or this one where there is none
abbrev pub line_behind : ℕ → Tokens → ℕ
line_behind line [] = line
line_behind line (t ∷ ts) = line_behind t.1 ts

-- a token on this line is the first that does not go on with what is before it
pub record StopsAt (ts : Tokens) (line : ℕ) : Type 0 where
  pub front : Tokens
  pub token : Token
  pub behind : Tokens
  pub are : ts ≡ front ++ (token, line) ∷ behind
  pub goes : IsFront front
  pub stops : IsFront (front ++ (token, line) ∷ []) → ⊥

-- more tokens are missing behind the last, which is on this line
pub record EndsEarly (ts : Tokens) (line : ℕ) : Type 0 where
  pub goes : IsFront ts
  pub none : (out : Tokens) → Expands ts out → ⊥
  pub last : line ≡ line_behind 1 ts

abbrev pub IsRefused : Tokens → ParseStop → Type 0
IsRefused ts stop.NoMemory = Unit {0}
IsRefused ts (stop.Syntax line) = StopsAt ts line ⊎ EndsEarly ts line
