use Rattle.std.proofs.Common.{◌≡◌, ℕ, ◌+◌, ◌<◌, List, [], ◌∷◌, ◌++◌, length, take, get_or, Some, ◌∙◌, sym, ap, arith}
use Rattle.std.proofs.Math.Seq.{take-length}
use Rattle.model_tree.specs.LogicValues.declared.kinds.Digit.{Digit}
use Rattle.model_tree.specs.LogicValues.Digits.{digits}
use Rattle.model_lexer.specs.Meanings.{logic_digit, logic_digits}
use Rattle.model_lexer.proofs.LogicDigits.{digits_more, digits_within, behind_within, behind_all, behind_at}
use Rattle.model_lexer.proofs.meanings.logic_within.Goals as goal

pub loop-byte-init : goal.loop-byte-init
loop-byte-init c = record {
  so_far = c.single-vector.ensures.each_digit ∙ (ap (λ (d : Digit). d ∷ []) c.logic_digit.ensures ∙ sym (digits_more c.args.bytes.now 0 c.in-len1-up.len_at_least));
  width = c.single-vector.ensures.width;
}

pub concat-vector-requires : goal.concat-vector-requires
concat-vector-requires c =
    let inside : c.loop-byte.byte-index + 1 < length c.args.bytes.now = behind_within c.args.bytes.now c.loop-byte.byte-index c.loop-byte-test.true in
    omega (arith, c.loop-byte.invariant.width, c.single.ensures.width)

pub loop-byte-preserved : goal.loop-byte-preserved
loop-byte-preserved c =
    let inside : c.loop-byte.byte-index + 1 < length c.args.bytes.now = behind_within c.args.bytes.now c.loop-byte.byte-index c.loop-byte-test.true in
    let digit : c.logic_digit-in-loop-byte.result ≡ logic_digit (get_or c.args.bytes.now (c.loop-byte.byte-index + 1) 0) = c.logic_digit-in-loop-byte.ensures ∙ ap logic_digit (behind_at c.args.bytes.now c.loop-byte.byte-index c.loop-byte-test.true) in
    record {
      so_far =
          c.concat-vector.ensures.each_digit
          ∙ (ap (λ (ds : List Digit). ds ++ digits c.loop-byte.vector) c.single.ensures.each_digit
          ∙ (ap (λ (d : Digit). d ∷ digits c.loop-byte.vector) digit
          ∙ (ap (λ (ds : List Digit). logic_digit (get_or c.args.bytes.now (c.loop-byte.byte-index + 1) 0) ∷ ds) c.loop-byte.invariant.so_far
          ∙ sym (digits_more c.args.bytes.now (c.loop-byte.byte-index + 1) inside))));
      width = omega (arith, c.concat-vector.ensures.width, c.single.ensures.width, c.loop-byte.invariant.width);
    }

pub returns : goal.returns
returns c =
    let all : c.loop-byte.byte-index + 1 ≡ length c.args.bytes.now = behind_all c.args.bytes.now c.loop-byte.byte-index c.in-len1-up.len_at_least c.loop-byte-test.false c.loop-byte.auto.byte-index-end in
    ap Some (c.loop-byte.invariant.so_far ∙ (ap (λ (n : ℕ). logic_digits (take n c.args.bytes.now)) all ∙ ap logic_digits (take-length c.args.bytes.now)))
    ∙ sym (digits_within c.args.bytes.now c.in-len1-up.len_at_least c.if-bytes-gt64.false)
