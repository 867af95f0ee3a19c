-- What the expansion makes of one token behind another: a help to the proofs, which no public clause speaks of.
use Rattle.std.specs.Prelude.{ℕ, Bool, true, false, ◌&&◌, ◌==◌, List, [], ◌∷◌, ◌++◌, codes, Option, Some, None, option_map, is_some, not}
use Rattle.std.specs.Str.{bytes_eq}
use Rattle.model_lexer.specs.ModelTree.declared.vocabulary.Word.TheVariants as w
use Rattle.model_lexer.specs.Tokens.{Token, Tokens, number, word}
use Rattle.clocked.specs.declared.words.NewWord.TheVariants as n
use Rattle.clocked.specs.Words.{Sign, new, old_name, a_number, truth_value, left_brace, right_brace, left_paren, right_paren, dot, at_sign, semicolon, sign_of}
use Rattle.clocked.specs.Parts.{Reset, one_less, parens_behind, braces_behind, is_count, is_edge, fits_reset}
use Rattle.clocked.specs.Expanded.{put, Resets, tick_before, tick_behind, body_before, body_behind, reset_method}

-- a clocked thread, as far as its block needs it
pub record Head : Type 0 where
  pub thread : List ℕ
  pub asynchronous : Option Reset
  pub synchronous : Option Reset

-- where in a text a token stands
pub data State : Type 0 where
  language : State  -- before `language`
  version : State  -- before its number
  line_end : State  -- before its `;`
  outside : State  -- outside of clocked threads
  named : State  -- before a thread's name
  channel : List ℕ → State  -- before its channel's name
  place : List ℕ → State  -- behind that
  placed : List ℕ → State  -- behind `@`
  inner : List ℕ → ℕ → State  -- between parentheses, so many of them open inside
  dotted : List ℕ → State  -- before `.`
  edge : List ℕ → State  -- before `pos` or `neg`
  resets : Head → State  -- before a reset or the block
  signal : Head → Bool → State  -- before the signal of a reset, at once or at an edge
  level : Head → Bool → List ℕ → State  -- before its level
  inside : Head → ℕ → ℕ → State  -- in the block, so many braces open inside, behind a kept token on this line
  ticked : Head → ℕ → ℕ → State  -- behind a `tick` on this line
  counted : Head → ℕ → State  -- behind its number

-- where the next token stands, and what is written of this one; nothing where it may not stand there
abbrev pub Turn : Type 0
Turn = Option (State × Tokens)

abbrev pub goes : State → Tokens → Turn
goes s out = Some (s, out)

abbrev pub keeps : State → Token → ℕ → Turn
keeps s t l = Some (s, (t, l) ∷ [])

-- the token is kept, if so many are open behind it
abbrev pub keeps_at : (ℕ → State) → Option ℕ → Token → ℕ → Turn
keeps_at f None t l = None
keeps_at f (Some k) t l = keeps (f k) t l

abbrev pub goes_if : Bool → State → Tokens → Turn
goes_if true s out = goes s out
goes_if false s out = None

abbrev pub resets_in : Head → Resets
resets_in h = (h.asynchronous, h.synchronous)

abbrev pub head_of : List ℕ → Head
head_of thread = record { thread = thread; asynchronous = None; synchronous = None }

abbrev pub with_reset : Head → Bool → Reset → Head
with_reset h true r = record h { asynchronous = Some r }
with_reset h false r = record h { synchronous = Some r }

-- a reset at once comes first, and one at an edge behind it
abbrev pub may_be_asynchronous : Head → Bool
may_be_asynchronous h = (not (is_some h.asynchronous) && not (is_some h.synchronous)) && fits_reset h.thread

abbrev pub may_be_synchronous : Head → Bool
may_be_synchronous h = not (is_some h.synchronous)

abbrev pub turn_language : Sign → Token → ℕ → Turn
turn_language (old_name x) t l = goes_if (bytes_eq x (codes "language")) version ((t, l) ∷ [])
turn_language sign t l = None

abbrev pub turn_version : Sign → ℕ → Turn
turn_version (a_number v) l = goes_if (v == 3) line_end ((number 2, l) ∷ [])
turn_version sign l = None

abbrev pub turn_line_end : Sign → Token → ℕ → Turn
turn_line_end semicolon t l = keeps outside t l
turn_line_end sign t l = None

abbrev pub turn_outside : Sign → Token → ℕ → Turn
turn_outside (new n.Cthread) t l = goes named ((word w.Thread, l) ∷ [])
turn_outside (new u) t l = None
turn_outside sign t l = keeps outside t l

abbrev pub turn_named : Sign → Token → ℕ → Turn
turn_named (old_name x) t l = goes (channel x) ((t, l) ∷ (word w.Sensitive, l) ∷ [])
turn_named sign t l = None

abbrev pub turn_channel : List ℕ → Sign → Token → ℕ → Turn
turn_channel thread (old_name x) t l = keeps (place thread) t l
turn_channel thread sign t l = None

abbrev pub turn_place : List ℕ → Sign → Token → ℕ → Turn
turn_place thread dot t l = keeps (edge thread) t l
turn_place thread at_sign t l = keeps (placed thread) t l
turn_place thread sign t l = None

abbrev pub turn_placed : List ℕ → Sign → Token → ℕ → Turn
turn_placed thread (a_number v) t l = keeps (dotted thread) t l
turn_placed thread left_paren t l = keeps (inner thread 0) t l
turn_placed thread sign t l = None

-- behind a parenthesis that closes, so many being open before
abbrev pub inner_closed : List ℕ → Option ℕ → State
inner_closed thread None = dotted thread
inner_closed thread (Some k) = inner thread k

abbrev pub turn_inner : List ℕ → ℕ → Sign → Token → ℕ → Turn
turn_inner thread k right_paren t l = keeps (inner_closed thread (one_less k)) t l
turn_inner thread k sign t l = keeps_at (inner thread) (parens_behind sign k) t l

abbrev pub turn_dotted : List ℕ → Sign → Token → ℕ → Turn
turn_dotted thread dot t l = keeps (edge thread) t l
turn_dotted thread sign t l = None

abbrev pub turn_edge : List ℕ → Sign → Token → ℕ → Turn
turn_edge thread (old_name x) t l = goes_if (is_edge x) (resets (head_of thread)) ((t, l) ∷ (word w.DontInitialize, l) ∷ [])
turn_edge thread sign t l = None

-- the `{` of a block
abbrev pub block_begins : Token → ℕ → Tokens
block_begins t l = (t, l) ∷ put l body_before

abbrev pub turn_resets : Head → Sign → Token → ℕ → Turn
turn_resets h left_brace t l = goes (inside h 0 l) (block_begins t l)
turn_resets h (new n.AsyncReset) t l = goes_if (may_be_asynchronous h) (signal h true) []
turn_resets h (new n.SyncReset) t l = goes_if (may_be_synchronous h) (signal h false) []
turn_resets h sign t l = None

abbrev pub turn_signal : Head → Bool → Sign → Turn
turn_signal h at_once (old_name x) = goes (level h at_once x) []
turn_signal h at_once sign = None

abbrev pub turn_level : Head → Bool → List ℕ → Sign → Turn
turn_level h at_once x (truth_value b) = goes (resets (with_reset h at_once (record { signal = x; level = b }))) []
turn_level h at_once x sign = None

-- the end of a clocked thread
abbrev pub thread_end : Head → ℕ → Token → ℕ → Tokens
thread_end h at t l = put at body_behind ++ (t, l) ∷ put l (reset_method h.thread h.asynchronous)

-- behind a brace that closes
abbrev pub turn_closed : Head → Option ℕ → ℕ → Token → ℕ → Turn
turn_closed h None at t l = goes outside (thread_end h at t l)
turn_closed h (Some k) at t l = keeps (inside h k l) t l

abbrev pub turn_inside : Head → ℕ → ℕ → Sign → Token → ℕ → Turn
turn_inside h k at right_brace t l = turn_closed h (one_less k) at t l
turn_inside h k at (new n.Tick) t l = goes (ticked h k l) []
turn_inside h k at sign t l = keeps_at (λ m. inside h m l) (braces_behind sign k) t l

-- the `;` of a tick, its number, what stands for one, and a tick without one
abbrev pub tick_end : Head → Token → ℕ → Tokens
tick_end h t l = (t, l) ∷ put l (tick_behind (resets_in h))

abbrev pub tick_number : ℕ → Token → ℕ → Tokens
tick_number at t l = put at tick_before ++ (t, l) ∷ []

abbrev pub tick_one : List Token
tick_one = tick_before ++ number 1 ∷ []

abbrev pub tick_alone : Head → ℕ → Token → ℕ → Tokens
tick_alone h at t l = put at tick_one ++ tick_end h t l

abbrev pub turn_ticked : Head → ℕ → ℕ → Sign → Token → ℕ → Turn
turn_ticked h k at (a_number v) t l = goes_if (is_count v) (counted h k) (tick_number at t l)
turn_ticked h k at semicolon t l = goes (inside h k l) (tick_alone h at t l)
turn_ticked h k at sign t l = None

abbrev pub turn_counted : Head → ℕ → Sign → Token → ℕ → Turn
turn_counted h k semicolon t l = goes (inside h k l) (tick_end h t l)
turn_counted h k sign t l = None

abbrev pub turn : State → Sign → Token → ℕ → Turn
turn language sign t l = turn_language sign t l
turn version sign t l = turn_version sign l
turn line_end sign t l = turn_line_end sign t l
turn outside sign t l = turn_outside sign t l
turn named sign t l = turn_named sign t l
turn (channel thread) sign t l = turn_channel thread sign t l
turn (place thread) sign t l = turn_place thread sign t l
turn (placed thread) sign t l = turn_placed thread sign t l
turn (inner thread k) sign t l = turn_inner thread k sign t l
turn (dotted thread) sign t l = turn_dotted thread sign t l
turn (edge thread) sign t l = turn_edge thread sign t l
turn (resets h) sign t l = turn_resets h sign t l
turn (signal h b) sign t l = turn_signal h b sign
turn (level h b x) sign t l = turn_level h b x sign
turn (inside h k at) sign t l = turn_inside h k at sign t l
turn (ticked h k at) sign t l = turn_ticked h k at sign t l
turn (counted h k) sign t l = turn_counted h k sign t l

-- what is written at the end of the tokens
abbrev pub ended : State → Option Tokens
ended language = None
ended version = None
ended line_end = None
ended outside = Some []
ended named = None
ended (channel thread) = None
ended (place thread) = None
ended (placed thread) = None
ended (inner thread k) = None
ended (dotted thread) = None
ended (edge thread) = None
ended (resets h) = None
ended (signal h b) = None
ended (level h b x) = None
ended (inside h k at) = None
ended (ticked h k at) = None
ended (counted h k) = None

abbrev pub go_on : Turn → (State → Option Tokens) → Option Tokens
go_on None more = None
go_on (Some x) more = option_map (λ out. x.1 ++ out) (more x.0)

-- what is written of these tokens, where the first of them stands so
abbrev pub run : State → Tokens → Option Tokens
run s [] = ended s
run s (t ∷ ts) = go_on (turn s (sign_of t.0) t.0 t.1) (λ next. run next ts)
