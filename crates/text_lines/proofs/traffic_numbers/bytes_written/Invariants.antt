use Rattle.std.proofs.Common.{◌≡◌, ◌++◌, true, length}
use Rattle.std.specs.List.{list_all}
use Rattle.model_lexer.specs.Forms.{is_hex_digit}
use Rattle.text_lines.specs.Words.{bytes_written}
use Rattle.text_lines.proofs.traffic_numbers.bytes_written.Given as goal

abbrev pub invariant-pairs : goal.invariant-pairs
invariant-pairs l = record {
  so_far : l.bytes ++ bytes_written l.rest ≡ bytes_written l.digits;
  digits : list_all is_hex_digit l.rest ≡ true;
}

abbrev pub decreases-pairs : goal.decreases-pairs
decreases-pairs l = length l.rest
