use Rattle.std.proofs.Common.{◌≡◌, ◌%◌, ◌^◌, ◌++◌, ap, sym, ◌∙◌, arith}
use Rattle.std.specs.Prelude.{codes}
use Rattle.std.specs.Fmt.{decimal}
use Rattle.vcd_trace.proofs.Texts.{decimal_1, decimal_10, decimal_100}
use Rattle.vcd_trace.proofs.lines.scale_number.Goals as goal

pub returns-in-0 : goal.returns-in-0
returns-in-0 c = ap (λ ds. ds ++ codes " ") (sym decimal_1 ∙ ap (λ m. decimal (10 ^ m)) (sym c.in-0.is))

pub returns-in-1 : goal.returns-in-1
returns-in-1 c = ap (λ ds. ds ++ codes " ") (sym decimal_10 ∙ ap (λ m. decimal (10 ^ m)) (sym c.in-1.is))

pub returns-in_default : goal.returns-in_default
returns-in_default c =
    let other = c.in_default in
    let two : c.args.power % 3 ≡ 2 = grind (arith, other) in
    ap (λ ds. ds ++ codes " ") (sym decimal_100 ∙ ap (λ m. decimal (10 ^ m)) (sym two))
