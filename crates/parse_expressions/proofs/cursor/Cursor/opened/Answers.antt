use Rattle.std.proofs.Common.{ℕ, sym, subst, arith}
use Rattle.parse_expressions.specs.Parse.{Parser, Parses}
use Rattle.parse_expressions.proofs.OneToken.{opened_none, opened_deeper}
use Rattle.parse_expressions.proofs.cursor.Cursor.opened.Goals as goal

-- no bracket may be opened
pub returns-then-depth-eq0 : goal.returns-then-depth-eq0
returns-then-depth-eq0 c other = opened_none c.args.depth c.args.symbol c.args.self.now (omega arith)

-- one may be opened
pub returns : goal.returns
returns c = subst (λ (p : Parser ℕ). Parses (λ (line : ℕ). line) p c.args.self.now c.symbol.result c.symbol.new.self) (sym (opened_deeper c.args.depth c.args.symbol (omega arith))) c.symbol.ensures
