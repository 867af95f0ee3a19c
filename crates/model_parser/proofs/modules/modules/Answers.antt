use Rattle.std.proofs.Common.{◌+◌, map, sym, ◌∙◌, ap}
use Rattle.std.proofs.lemmas.List.{map-append}
use Rattle.std.proofs.lemmas.Result.{err_from_is_err_and}
use Rattle.model_tree.specs.Views.{module_of}
use Rattle.parse_statements.proofs.ParseExpressions.Many.{many_stops, many_goes, many_fails, many_ends}
use Rattle.model_parser.specs.Parse.{module_text, at_no_module, modules}
use Rattle.model_parser.proofs.modules.modules.Goals as goal

pub returns-then-at_no_module : goal.returns-then-at_no_module
returns-then-at_no_module c = many_stops at_no_module (module_text c.args.depth) (c.left-turns.result + 1) c.loop-turn.turn (map module_of c.loop-turn.found.items) c.loop-turn.tokens (modules c.args.depth c.args.tokens.now) c.loop-turn.invariant c.loop-turn-test.true (sym c.at_no_module.ensures ∙ c.if-at_no_module.true)

pub returns-in_err-module : goal.returns-in_err-module
returns-in_err-module c =
    let p = err_from_is_err_and c.from_residual.result c.from_residual.ensures.1 in
    rw (p.1, p.2) (λ other. many_fails at_no_module (module_text c.args.depth) (c.left-turns.result + 1) c.loop-turn.turn (map module_of c.loop-turn.found.items) c.loop-turn.tokens (modules c.args.depth c.args.tokens.now) c.loop-turn.invariant c.loop-turn-test.true (sym c.at_no_module.ensures ∙ c.if-at_no_module.false) (c.in_err-module.ensures other))

pub loop-turn-preserved : goal.loop-turn-preserved
loop-turn-preserved c =
    rw (ap (map module_of) c.in_ok-push.ensures.ok, map-append module_of)
    (many_goes at_no_module (module_text c.args.depth) (c.left-turns.result + 1) c.loop-turn.turn (map module_of c.loop-turn.found.items) c.loop-turn.tokens (modules c.args.depth c.args.tokens.now) c.loop-turn.invariant (module_of c.in_ok-module.module) c.module_text.new.tokens c.loop-turn-test.true (sym c.at_no_module.ensures ∙ c.if-at_no_module.false) c.in_ok-module.ensures)

pub returns : goal.returns
returns c other = many_ends at_no_module (module_text c.args.depth) (c.left-turns.result + 1) c.loop-turn.turn (map module_of c.loop-turn.found.items) c.loop-turn.tokens (modules c.args.depth c.args.tokens.now) c.loop-turn.invariant c.loop-turn-test.false
