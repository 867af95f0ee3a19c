use Rattle.std.proofs.Common.{◌+◌, sym, ◌∙◌, subst, arith}
use Rattle.std.proofs.lemmas.Result.{err_from_is_err_and}
use Rattle.model_tree.specs.Tree as tree
use Rattle.model_tree.specs.Views.{expression_of}
use Rattle.parse_expressions.specs.Parse.{Parser, Parses, at_no_link, at_none_of, link, chain, binary, levelled, climb, inside}
use Rattle.parse_expressions.proofs.Parsers.{turn_stops, turn_goes, turn_fails, turns_end}
use Rattle.parse_expressions.proofs.Descent.{climb_ends, climb_deeper, inside_none, inside_deeper}
use Rattle.parse_expressions.proofs.expressions.+expression.Goals as goal

-- links, one after another

pub chain-returns-then-at_no_link : goal.chain-returns-then-at_no_link
chain-returns-then-at_no_link t c = turn_stops at_no_link (link c.args.depth (inside c.args.depth)) 257 c.loop-turn.turn (expression_of c.loop-turn.found) c.loop-turn.tokens (chain c.args.depth (inside c.args.depth) c.args.tokens.now) c.loop-turn.invariant c.loop-turn-test.true (sym c.at_no_link.ensures ∙ c.if-at_no_link.true)

pub chain-returns-in_err-longer : goal.chain-returns-in_err-longer
chain-returns-in_err-longer t c =
    let p = err_from_is_err_and c.from_residual-in_err-longer.result c.from_residual-in_err-longer.ensures.1 in
    rw (p.1, p.2) (λ other. turn_fails at_no_link (link c.args.depth (inside c.args.depth)) 257 c.loop-turn.turn (expression_of c.loop-turn.found) c.loop-turn.tokens (chain c.args.depth (inside c.args.depth) c.args.tokens.now) c.loop-turn.invariant c.loop-turn-test.true (sym c.at_no_link.ensures ∙ c.if-at_no_link.false) (c.in_err-longer.ensures other))

pub chain-loop-turn-preserved : goal.chain-loop-turn-preserved
chain-loop-turn-preserved t c = turn_goes at_no_link (link c.args.depth (inside c.args.depth)) 257 c.loop-turn.turn (expression_of c.loop-turn.found) c.loop-turn.tokens (chain c.args.depth (inside c.args.depth) c.args.tokens.now) c.loop-turn.invariant (expression_of c.in_ok-longer.longer) c.link.new.tokens c.loop-turn-test.true (sym c.at_no_link.ensures ∙ c.if-at_no_link.false) c.in_ok-longer.ensures

pub chain-returns : goal.chain-returns
chain-returns t c other = turns_end at_no_link (link c.args.depth (inside c.args.depth)) 257 c.loop-turn.turn (expression_of c.loop-turn.found) c.loop-turn.tokens (chain c.args.depth (inside c.args.depth) c.args.tokens.now) c.loop-turn.invariant c.loop-turn-test.false

-- operators of one level, one after another

pub levelled-returns-then-at_none_of : goal.levelled-returns-then-at_none_of
levelled-returns-then-at_none_of t c = turn_stops (at_none_of c.args.wanted) (binary (climb c.args.depth (inside c.args.depth) c.args.levels (c.args.wanted + 1))) 257 c.loop-turn.turn (expression_of c.loop-turn.found) c.loop-turn.tokens (levelled c.args.wanted (climb c.args.depth (inside c.args.depth) c.args.levels (c.args.wanted + 1)) c.args.tokens.now) c.loop-turn.invariant c.loop-turn-test.true (sym c.at_none_of.ensures ∙ c.if-at_none_of.true)

pub levelled-returns-in_err-longer : goal.levelled-returns-in_err-longer
levelled-returns-in_err-longer t c =
    let p = err_from_is_err_and c.from_residual-in_err-longer.result c.from_residual-in_err-longer.ensures.1 in
    rw (p.1, p.2) (λ other. turn_fails (at_none_of c.args.wanted) (binary (climb c.args.depth (inside c.args.depth) c.args.levels (c.args.wanted + 1))) 257 c.loop-turn.turn (expression_of c.loop-turn.found) c.loop-turn.tokens (levelled c.args.wanted (climb c.args.depth (inside c.args.depth) c.args.levels (c.args.wanted + 1)) c.args.tokens.now) c.loop-turn.invariant c.loop-turn-test.true (sym c.at_none_of.ensures ∙ c.if-at_none_of.false) (c.in_err-longer.ensures other))

pub levelled-loop-turn-preserved : goal.levelled-loop-turn-preserved
levelled-loop-turn-preserved t c = turn_goes (at_none_of c.args.wanted) (binary (climb c.args.depth (inside c.args.depth) c.args.levels (c.args.wanted + 1))) 257 c.loop-turn.turn (expression_of c.loop-turn.found) c.loop-turn.tokens (levelled c.args.wanted (climb c.args.depth (inside c.args.depth) c.args.levels (c.args.wanted + 1)) c.args.tokens.now) c.loop-turn.invariant (expression_of c.in_ok-longer.longer) c.binary.new.tokens c.loop-turn-test.true (sym c.at_none_of.ensures ∙ c.if-at_none_of.false) c.in_ok-longer.ensures

pub levelled-returns : goal.levelled-returns
levelled-returns t c other = turns_end (at_none_of c.args.wanted) (binary (climb c.args.depth (inside c.args.depth) c.args.levels (c.args.wanted + 1))) 257 c.loop-turn.turn (expression_of c.loop-turn.found) c.loop-turn.tokens (levelled c.args.wanted (climb c.args.depth (inside c.args.depth) c.args.levels (c.args.wanted + 1)) c.args.tokens.now) c.loop-turn.invariant c.loop-turn-test.false

-- no level is left, and one less is
pub climb-returns-then-levels-eq0 : goal.climb-returns-then-levels-eq0
climb-returns-then-levels-eq0 t c = subst (λ (p : Parser tree.Expression). Parses expression_of p c.args.tokens.now c.operand.result c.operand.new.tokens) (sym (climb_ends c.args.depth (inside c.args.depth) c.args.levels c.args.wanted (omega arith))) c.operand.ensures

pub climb-returns : goal.climb-returns
climb-returns t c = subst (λ (p : Parser tree.Expression). Parses expression_of p c.args.tokens.now c.levelled.result c.levelled.new.tokens) (sym (climb_deeper c.args.depth (inside c.args.depth) c.args.levels c.args.wanted (omega arith))) c.levelled.ensures

-- no bracket may be opened, and one less may
pub inside-returns-then-depth-eq0 : goal.inside-returns-then-depth-eq0
inside-returns-then-depth-eq0 t c other = inside_none c.args.depth c.args.tokens.now (omega arith)

pub inside-returns : goal.inside-returns
inside-returns t c = subst (λ (p : Parser tree.Expression). Parses expression_of p c.args.tokens.now c.expression.result c.expression.new.tokens) (sym (inside_deeper c.args.depth (omega arith))) c.expression.ensures
