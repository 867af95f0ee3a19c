use Rattle.std.proofs.Common.{◌≡◌, ℕ, List, [], ◌∷◌, length, get_or, IfSome, refl, sym, subst, arith}
use Rattle.report_texts.specs.Rows.{Before}
use Rattle.report_texts.proofs.rows.bytes_before.Goals as goal

one_byte : (piece : List ℕ) → length piece ≡ 1 → piece ≡ get_or piece 0 0 ∷ []
one_byte [] one = absurd (omega (arith, one))
one_byte (x ∷ []) one = refl
one_byte (x ∷ y ∷ more) one = absurd (omega (arith, one))

pub returns-then-piece-eq1 : goal.returns-then-piece-eq1
returns-then-piece-eq1 c = subst (λ (bytes : List ℕ). IfSome c.byte_before.result (Before c.args.room.now c.args.end bytes c.byte_before.new.room)) (sym (one_byte c.args.piece.now c.if-piece-eq1.true)) c.byte_before.ensures
