use Rattle.std.proofs.Common.{◌≡◌, ◌∙◌, ◌&&◌, nat_lt, length, true, ap, sym, arith}
use Rattle.std.specs.Char.{is_ascii_digit}
use Rattle.std.specs.List.{list_all}
use Rattle.std.specs.Str.{all_ascii_digits}
use Rattle.std.proofs.lemmas.Bool.Decides.{nat_tests}
use Rattle.command_line.proofs.NumberLemmas.{all_digits}
use Rattle.command_line.proofs.numbers.is_decimal.Goals as goal

pub returns-then-not-is_empty : goal.returns-then-not-is_empty
returns-then-not-is_empty c =
    let some : nat_lt 0 (length c.args.text.now) ≡ true = grind (arith, nat_tests) in
    c.all_digits.ensures
    ∙ (ap (list_all is_ascii_digit) c.as_bytes.ensures.value
    ∙ (all_digits c.args.text.now ∙ sym (ap (λ b. b && all_ascii_digits c.args.text.now) some)))
