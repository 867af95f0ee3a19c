use Rattle.std.proofs.Common.{◌≡◌, ℕ, ◌+◌, List, [], ◌∷◌, ◌++◌, drop, subst, arith}
use Rattle.model_lexer.specs.declared.lexing.Next.TheVariants as next
use Rattle.model_lexer.specs.Cut.{IsGap, IsStuck}
use Rattle.model_lexer.specs.Views.{token_of, lexemes, IsNext}
use Rattle.model_lexer.proofs.Cuts.{up_to_gap, piece_some, lexeme}
use Rattle.model_lexer.proofs.Turns.{Stands, stands_within, turn_fits, turn_only, turn_up_to, counted, gap_fits, gap_only, all_found, only_found, none_found, line_turn, gap_within, one_more}
use Rattle.model_lexer.proofs.lexing.tokens.Goals as goal

-- a blank or a comment is passed over
pub loop-at-preserved-in-Passed : goal.loop-at-preserved-in-Passed
loop-at-preserved-in-Passed c =
    let gap : IsGap (drop c.loop-at.at c.args.text.now) c.in-Passed.len = subst (λ (x : List ℕ). IsNext x (next.Passed c.in-Passed.len)) c.past-rest.ensures c.in-Passed.ensures in
    record {
      within = gap_within c.args.text.now c.loop-at.at c.in-Passed.len gap;
      line = line_turn c.args.text.now c.past-rest.result.now c.front.result.now c.loop-at.at c.in-Passed.len c.loop-at.line c.line_ends-line.result c.past-rest.ensures c.front.ensures c.line_ends-line.ensures.ends c.loop-at.invariant.line;
      up_to = up_to_gap c.args.text.now 0 c.loop-at.at c.in-Passed.len (lexemes c.loop-at.found) c.loop-at.invariant.up_to gap;
      fits = gap_fits c.args.text.now c.loop-at.at c.in-Passed.len (lexemes c.loop-at.found) gap c.loop-at.invariant.fits;
      only = gap_only c.args.text.now c.loop-at.at c.in-Passed.len (lexemes c.loop-at.found) gap c.loop-at.invariant.only;
    }

pub loop-at-smaller : goal.loop-at-smaller
loop-at-smaller c =
    let token = c.in-Token.ensures in
    let some = piece_some c.past-rest.result.now token.0 c.in-Token.len token.1 in
    omega arith

-- the token joins those found
pub loop-at-preserved : goal.loop-at-preserved
loop-at-preserved c =
    let token : Stands (drop c.loop-at.at c.args.text.now) c.in-Token.len (token_of c.in-Token.kind) = subst (λ (x : List ℕ). Stands x c.in-Token.len (token_of c.in-Token.kind)) c.past-rest.ensures c.in-Token.ensures in
    let more : lexemes c.push.new.found ≡ lexemes c.loop-at.found ++ lexeme c.args.text.now c.loop-at.at c.in-Token.len (token_of c.in-Token.kind) ∷ [] =
    one_more c.loop-at.found c.push.new.found (record { kind = c.in-Token.kind; start = c.loop-at.at; end = c.loop-at.at + c.in-Token.len; line = c.loop-at.line }) (lexeme c.args.text.now c.loop-at.at c.in-Token.len (token_of c.in-Token.kind)) c.in_ok-push-in-Token.ensures.ok
    (counted c.args.text.now c.loop-at.at c.in-Token.len c.loop-at.line (token_of c.in-Token.kind) c.loop-at.invariant.line) in
    record {
      within = stands_within c.args.text.now c.loop-at.at c.in-Token.len (token_of c.in-Token.kind) token;
      line = line_turn c.args.text.now c.past-rest.result.now c.front-in-Token.result.now c.loop-at.at c.in-Token.len c.loop-at.line c.line_ends-line-in-Token.result c.past-rest.ensures c.front-in-Token.ensures c.line_ends-line-in-Token.ensures.ends c.loop-at.invariant.line;
      up_to = turn_up_to c.args.text.now c.loop-at.at c.in-Token.len (lexemes c.loop-at.found) (lexemes c.push.new.found) (token_of c.in-Token.kind) more token c.loop-at.invariant.up_to;
      fits = turn_fits c.args.text.now c.loop-at.at c.in-Token.len (lexemes c.loop-at.found) (lexemes c.push.new.found) (token_of c.in-Token.kind) more token c.loop-at.invariant.fits;
      only = turn_only c.args.text.now c.loop-at.at c.in-Token.len (lexemes c.loop-at.found) (lexemes c.push.new.found) (token_of c.in-Token.kind) more token c.loop-at.invariant.only;
    }

-- no tokens go on from here
pub returns-in-Nothing-clause-only : goal.returns-in-Nothing-clause-only
returns-in-Nothing-clause-only c = λ ts cut.
    absurd (none_found c.args.text.now c.loop-at.at (lexemes c.loop-at.found) ts c.loop-at-test.true (subst (λ (x : List ℕ). IsNext x next.Nothing) c.past-rest.ensures c.in-Nothing.ensures) c.loop-at.invariant.only cut)

-- and this is why
pub returns-in-Nothing-clause-refused : goal.returns-in-Nothing-clause-refused
returns-in-Nothing-clause-refused c = (lexemes c.loop-at.found, c.loop-at.at, c.loop-at.invariant.up_to, c.loop-at-test.true, subst IsStuck c.past-rest.ensures c.in-Nothing.ensures, c.loop-at.invariant.line)

pub returns-clause-found : goal.returns-clause-found
returns-clause-found c = all_found c.args.text.now c.loop-at.at (lexemes c.loop-at.found) (omega (arith, c.loop-at.invariant.within, c.loop-at-test.false)) c.loop-at.invariant.fits

pub returns-clause-only : goal.returns-clause-only
returns-clause-only c = λ ts cut. only_found c.args.text.now c.loop-at.at (lexemes c.loop-at.found) ts (omega (arith, c.loop-at.invariant.within, c.loop-at-test.false)) c.loop-at.invariant.only cut
