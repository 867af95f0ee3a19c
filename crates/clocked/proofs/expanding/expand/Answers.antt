use Rattle.std.proofs.Common.{◌≡◌, ◌+◌, ◌<◌, List, length, take, drop, ◌∙◌, sym, ap, subst, arith}
use Rattle.std.proofs.lemmas.List.{take_all}
use Rattle.std.specs.Prelude.{Ok, Err}
use Rattle.model_lexer.specs.Tokens.{Tokens}
use Rattle.model_lexer.specs.declared.token.Token.{Token}
use Rattle.model_lexer.specs.Views.{token_of}
use Rattle.clocked.specs.Words.{Sign}
use Rattle.clocked.specs.Expanded.{line_behind}
use Rattle.clocked.specs.Turns.{language, turn}
use Rattle.clocked.specs.Views.{tokens_in, expansion_in, state_in, Turned}
use Rattle.clocked.proofs.Leads.{Leads}
use Rattle.clocked.proofs.Looping.{tokens_on, tokens_at, line_more, turned_on, refused_at, only_refused, only_one, led_expands, led_nowhere}
use Rattle.clocked.proofs.expanding.expand.Goals as goal

-- one more token
pub loop-token-preserved : goal.loop-token-preserved
loop-token-preserved c =
    let lt : c.loop-token.token-index < length c.args.tokens.now = omega (arith, c.loop-token-test.true) in
    record {
      leads =
          subst (λ (x : Tokens). Leads language x (state_in c.in-Ok.next) (expansion_in c.turn.new.out)) (sym (tokens_on c.args.tokens.now c.loop-token.token-index c.token-item.result lt c.token-item.is))
          (turned_on (tokens_in (take c.loop-token.token-index c.args.tokens.now)) (state_in c.loop-token.state) (token_of c.token-item.result.kind) c.token-item.result.line c.in-Ok.next c.loop-token.out c.turn.new.out
          (subst (λ (x : Sign). Turned (turn (state_in c.loop-token.state) x (token_of c.token-item.result.kind) c.token-item.result.line) (Ok c.in-Ok.next) c.loop-token.out c.turn.new.out c.token-item.result.line) c.sign_of.ensures c.in-Ok.ensures)
          c.loop-token.invariant.leads);
      line = ap (λ (x : Token). x.line) c.token-item.is ∙ line_more c.args.tokens.now c.loop-token.token-index c.token-item.result lt;
    }

-- the token is refused
pub returns-in-Err-clause-refused : goal.returns-in-Err-clause-refused
returns-in-Err-clause-refused c =
    let lt : c.loop-token.token-index < length c.args.tokens.now = omega (arith, c.loop-token-test.true) in
    refused_at (tokens_in c.args.tokens.now) (tokens_in (take c.loop-token.token-index c.args.tokens.now)) (tokens_in (drop (c.loop-token.token-index + 1) c.args.tokens.now))
    (state_in c.loop-token.state) (token_of c.token-item.result.kind) c.token-item.result.line c.in-Err.stop c.loop-token.out c.turn.new.out
    (subst (λ (x : Sign). Turned (turn (state_in c.loop-token.state) x (token_of c.token-item.result.kind) c.token-item.result.line) (Err c.in-Err.stop) c.loop-token.out c.turn.new.out c.token-item.result.line) c.sign_of.ensures c.in-Err.ensures)
    c.loop-token.invariant.leads
    (tokens_at c.args.tokens.now c.loop-token.token-index c.token-item.result lt c.token-item.is)

pub returns-in-Err-clause-only : goal.returns-in-Err-clause-only
returns-in-Err-clause-only c = λ out h. only_refused (tokens_in c.args.tokens.now) out c.in-Err.stop (returns-in-Err-clause-refused c) h

-- all tokens have been looked at, and they may end here
pub returns-then-is_outside-clause-expanded : goal.returns-then-is_outside-clause-expanded
returns-then-is_outside-clause-expanded c =
    let all : take c.loop-token.token-index c.args.tokens.now ≡ c.args.tokens.now = take_all c.loop-token.token-index c.args.tokens.now (omega (arith, c.loop-token-test.false)) in
    led_expands (tokens_in c.args.tokens.now) (expansion_in c.loop-token.out) (state_in c.loop-token.state) (sym c.is_outside.ensures ∙ c.if-is_outside.true)
    (subst (λ (x : List Token). Leads language (tokens_in x) (state_in c.loop-token.state) (expansion_in c.loop-token.out)) all c.loop-token.invariant.leads)

pub returns-then-is_outside-clause-only : goal.returns-then-is_outside-clause-only
returns-then-is_outside-clause-only c = λ out h. only_one (tokens_in c.args.tokens.now) (expansion_in c.loop-token.out) out (returns-then-is_outside-clause-expanded c) h

-- or more are missing
pub returns-clause-refused : goal.returns-clause-refused
returns-clause-refused c =
    let all : take c.loop-token.token-index c.args.tokens.now ≡ c.args.tokens.now = take_all c.loop-token.token-index c.args.tokens.now (omega (arith, c.loop-token-test.false)) in
    led_nowhere (tokens_in c.args.tokens.now) (expansion_in c.loop-token.out) (state_in c.loop-token.state) c.loop-token.line (sym c.is_outside.ensures ∙ c.if-is_outside.false)
    (subst (λ (x : List Token). Leads language (tokens_in x) (state_in c.loop-token.state) (expansion_in c.loop-token.out)) all c.loop-token.invariant.leads)
    (c.loop-token.invariant.line ∙ ap (λ (x : List Token). line_behind 1 (tokens_in x)) all)

pub returns-clause-only : goal.returns-clause-only
returns-clause-only c = λ out h. only_refused (tokens_in c.args.tokens.now) out _ (returns-clause-refused c) h
