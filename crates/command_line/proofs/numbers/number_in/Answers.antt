use Rattle.std.proofs.Common.{◌≡◌, ◌<◌, ◌^◌, true, arith}
use Rattle.command_line.specs.Numbers.{is_decimal}
use Rattle.command_line.proofs.NumberLemmas.{number_not_parsed}
use Rattle.command_line.proofs.numbers.number_in.Goals as goal

pub returns-in_default : goal.returns-in_default
returns-in_default c =
    let decimal : is_decimal c.args.text.now ≡ true = first_of (cc, grind arith) in
    let fits : c.args.most < 2 ^ 64 = omega arith in
    number_not_parsed c.args.least c.args.most c.in_default.field-0 c.args.text.now decimal fits c.in_default.ensures.value.0
