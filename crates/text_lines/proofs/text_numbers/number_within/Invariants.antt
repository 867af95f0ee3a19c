use Rattle.std.proofs.Common.{◌≡◌, ◌^◌, ◌<◌, drop}
use Rattle.std.specs.Str.Parse.{digits_value, digits_value_after}
use Rattle.text_lines.proofs.text_numbers.number_within.Given as goal

-- the digits that are left, behind those read, write the number of all
abbrev pub invariant-loop-digit : goal.invariant-loop-digit
invariant-loop-digit l = record {
  so_far : digits_value_after l.base l.value (drop l.digit-index l.digits) ≡ digits_value l.base l.digits;
  small : l.value < 2 ^ 64;
}
