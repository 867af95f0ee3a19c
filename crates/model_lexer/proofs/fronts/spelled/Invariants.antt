use Rattle.std.proofs.Common.{◌≡◌, drop}
use Rattle.std.specs.List.{find}
use Rattle.std.specs.Str.{bytes_eq}
use Rattle.model_tree.specs.Vocabulary.{symbol_text}
use Rattle.model_lexer.proofs.fronts.spelled.Given as goal

-- the symbols that are left give what all of them give
abbrev pub invariant-loop-symbol : goal.invariant-loop-symbol
invariant-loop-symbol l = find (λ s. bytes_eq (symbol_text s) l.bytes) (drop l.symbol-index l.symbols) ≡ find (λ s. bytes_eq (symbol_text s) l.bytes) l.symbols
