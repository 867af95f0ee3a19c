use Rattle.std.proofs.Common.{ap, ◌∙◌}
use Rattle.std.proofs.lemmas.Result.{err_from_is_err_and}
use Rattle.parse_statements.specs.ModelLexer.Laws.{with_lines}
use Rattle.parse_statements.specs.ModelLexer.Views.{lexemes}
use Rattle.parse_statements.proofs.ModelLexer.CutLaws.{language_cut}
use Rattle.model_parser.proofs.Stops.{left_stopped}
use Rattle.model_parser.proofs.parsing.read.Goals as goal

-- the tokens of a text keep their limits
pub new-cursor-requires : goal.new-cursor-requires
new-cursor-requires c = let (ts, cut, same) = c.in_ok-found.ensures.found in rw (c.as_slice.ensures, same) (language_cut c.args.text.now ts cut)

-- a token that is left behind a tree
pub returns-in_err-end-clause-stopped : goal.returns-in_err-end-clause-stopped
returns-in_err-end-clause-stopped c =
    let p = err_from_is_err_and c.from_residual-in_err-end.result c.from_residual-in_err-end.ensures.1 in
    rw p.1 (left_stopped p.0 c.args.text.now _ _ _ (λ ts cut. c.new-cursor.ensures ∙ (ap (λ xs. with_lines (lexemes xs)) c.as_slice.ensures ∙ c.in_ok-found.ensures.only ts cut)) c.in_ok-parts.ensures c.in_err-end.ensures.more)
