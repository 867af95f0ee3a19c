use Rattle.std.proofs.Common.{ℕ, ◌+◌, ◌^◌, ◌<◌, ◌∙◌, sym, subst}
use Rattle.std.specs.Str.Parse.{digits_value}
use Rattle.model_lexer.proofs.Numbers.{past_product, past_sum, all_read}
use Rattle.text_lines.proofs.text_numbers.number_within.Goals as goal

pub returns-in_err-checked_mul : goal.returns-in_err-checked_mul
returns-in_err-checked_mul c =
    c.from_residual.ensures
    ∙ past_product c.args.base c.loop-digit.value (digits_value c.args.base c.args.digits.now) c.loop-digit.digit-index c.args.digits.now c.requires c.loop-digit-test.true c.loop-digit.invariant.so_far c.in_err-checked_mul.ensures

pub returns-in_err-value : goal.returns-in_err-value
returns-in_err-value c =
    c.from_residual-in_err-value.ensures
    ∙ past_sum c.args.base c.loop-digit.value c.in_ok-checked_mul.field-0 (digits_value c.args.base c.args.digits.now) c.loop-digit.digit-index c.args.digits.now c.requires c.loop-digit-test.true c.loop-digit.invariant.so_far (sym c.in_ok-checked_mul.ensures.1)
    (λ k. c.in_err-value.ensures (subst (λ (x : ℕ). c.in_ok-checked_mul.field-0 + x < 2 ^ 64) (sym c.digit_value.ensures) k))

pub returns : goal.returns
returns c = all_read c.args.base c.loop-digit.value (digits_value c.args.base c.args.digits.now) c.loop-digit.digit-index c.args.digits.now c.loop-digit-test.false c.loop-digit.invariant.so_far c.loop-digit.invariant.small
