-- What contracts see of an expansion, and of the places of its tokens.
use Rattle.std.specs.Prelude.{◌≡◌, ℕ, List, ◌++◌, map, Option, Some, None, Result, Ok, Err}
use Rattle.model_lexer.specs.ModelTree.declared.faults.ParseStop.{ParseStop}
use Rattle.model_lexer.specs.ModelTree.declared.faults.ParseStop.TheVariants as stop
use Rattle.model_lexer.specs.Tokens as t
use Rattle.model_lexer.specs.Tokens.{Tokens}
use Rattle.model_lexer.specs.declared.token.Token.{Token}
use Rattle.model_lexer.specs.declared.token.TokenKind.{TokenKind}
use Rattle.model_lexer.specs.Views.{token_of, lexemes}
use Rattle.model_lexer.specs.Laws.{with_lines}
use Rattle.clocked.specs.declared.expansion.Written.{Written}
use Rattle.clocked.specs.declared.expansion.Written.TheVariants as written
use Rattle.clocked.specs.declared.expansion.Placed.{Placed}
use Rattle.clocked.specs.declared.putting.Reset.{Reset}
use Rattle.clocked.specs.declared.signs.Sign.{Sign}
use Rattle.clocked.specs.declared.signs.Sign.TheVariants as sign
use Rattle.clocked.specs.declared.states.Head.{Head}
use Rattle.clocked.specs.declared.states.State.{State}
use Rattle.clocked.specs.declared.states.State.TheVariants as state
use Rattle.clocked.specs.Words as words
use Rattle.clocked.specs.Parts as parts
use Rattle.clocked.specs.Turns as turns

-- the tokens of a text, each with its line
abbrev pub tokens_in : List Token → Tokens
tokens_in xs = with_lines (lexemes xs)

abbrev pub token_written : Written → t.Token
token_written (written.Kind kind) = token_of kind
token_written (written.ResetName thread) = t.name (parts.reset_name thread.now)

abbrev pub placed_in : Placed → t.Token × ℕ
placed_in x = (token_written x.written, x.line)

-- the tokens of an expansion, each with its line
abbrev pub expansion_in : List Placed → Tokens
expansion_in xs = map placed_in xs

-- the tokens that these kinds are
abbrev pub kinds_in : List TokenKind → List t.Token
kinds_in kinds = map token_of kinds

abbrev pub reset_in : Reset → parts.Reset
reset_in r = record { signal = r.signal.now; level = r.level }

abbrev pub reset_if : Option Reset → Option parts.Reset
reset_if None = None
reset_if (Some r) = Some (reset_in r)

abbrev pub head_in : Head → turns.Head
head_in h = record { thread = h.thread.now; asynchronous = reset_if h.asynchronous; synchronous = reset_if h.synchronous }

abbrev pub sign_in : Sign → words.Sign
sign_in (sign.New u) = words.new u
sign_in (sign.OldName x) = words.old_name x.now
sign_in (sign.Number v) = words.a_number v
sign_in (sign.Truth b) = words.truth_value b
sign_in sign.LeftBrace = words.left_brace
sign_in sign.RightBrace = words.right_brace
sign_in sign.LeftParen = words.left_paren
sign_in sign.RightParen = words.right_paren
sign_in sign.Dot = words.dot
sign_in sign.AtSign = words.at_sign
sign_in sign.Semicolon = words.semicolon
sign_in sign.Other = words.other

abbrev pub state_in : State → turns.State
state_in state.Language = turns.language
state_in state.Version = turns.version
state_in state.LineEnd = turns.line_end
state_in state.Outside = turns.outside
state_in state.Named = turns.named
state_in (state.Channel thread) = turns.channel thread.now
state_in (state.Place thread) = turns.place thread.now
state_in (state.Counted h k) = turns.counted (head_in h) k
state_in (state.Number thread) = turns.placed thread.now
state_in (state.Inner thread k) = turns.inner thread.now k
state_in (state.Dotted thread) = turns.dotted thread.now
state_in (state.Edge thread) = turns.edge thread.now
state_in (state.Resets h) = turns.resets (head_in h)
state_in (state.Signal h b) = turns.signal (head_in h) b
state_in (state.Level h b x) = turns.level (head_in h) b x.now
state_in (state.Inside h k at) = turns.inside (head_in h) k at
state_in (state.Ticked h k at) = turns.ticked (head_in h) k at

-- so many tokens were added, unless memory ran out
abbrev pub Adds : Result Unit ParseStop → List Placed → List Placed → Tokens → Type 0
Adds (Ok x) old new ts = expansion_in new ≡ expansion_in old ++ ts
Adds (Err e) old new ts = e ≡ stop.NoMemory

-- a token was taken as the turn says; where there is none it is refused, on its line
abbrev pub Turned : turns.Turn → Result State ParseStop → List Placed → List Placed → ℕ → Type 0
Turned None r old new line = r ≡ Err (stop.Syntax line)
Turned (Some x) (Ok next) old new line = (state_in next ≡ x.0) × (expansion_in new ≡ expansion_in old ++ x.1)
Turned (Some x) (Err e) old new line = e ≡ stop.NoMemory
