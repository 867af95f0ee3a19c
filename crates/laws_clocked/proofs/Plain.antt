-- What stands around what is left, where that is no guard and no try that catches an exception.
use Rattle.std.proofs.Common.{◌≡◌, ◌||◌, ℕ, false, List, [], ◌∷◌, refl, sym, ap, ◌∙◌, subst}
use Rattle.laws_runs.specs.FlatDesign.Code.{Arena}
use Rattle.laws_runs.specs.SimModel.Residual.{Residual, Frame, skip, seq, frame, followed, statements, then_on, in_shell, settle, put, next_of, statement}
use Rattle.laws_runs.specs.SimModel.Unwinding.{unw, catches, handles}
use Rattle.laws_clocked.specs.Spots.{IsLeft, Shows, itself, followed_by, tried, called}
use Rattle.laws_clocked.specs.Again.{Around, trying, IsPlain, plain, plain_followed, plain_tried, plain_called}
use Rattle.laws_clocked.proofs.Showing.{next-left, shows-left, left_frame, left_then, left_try}
use Rattle.laws_clocked.proofs.Going.{GoesTo}

module _ (e : ℕ) where
  pub plain-shows : (x r : Residual) → IsPlain e x r → Shows x r
  plain-shows x _ plain = itself
  plain-shows x _ (plain_followed r ss h) = followed_by r ss (plain-shows x r h)
  plain-shows x _ (plain_tried r others none h) = tried r others (plain-shows x r h)
  plain-shows x _ (plain_called r y h) = called r y (plain-shows x r h)

  after_plain : (x r : Residual) (ss : List ℕ) → IsPlain e x r → IsPlain e x (followed r ss)
  after_plain x r [] h = h
  after_plain x r (s ∷ ss) h = plain_followed r (s ∷ ss) h

  plain_put : (x r n : Residual) (s : ℕ) → IsPlain e x r → next_of x ≡ statement s → IsPlain e (put x n) (put r n)
  plain_put x _ n s plain is = plain
  plain_put x _ n s (plain_followed r ss h) is = after_plain (put x n) (put r n) ss (plain_put x r n s h is)
  plain_put x _ n s (plain_tried r others none h) is = plain_tried (put r n) others none (plain_put x r n s h is)
  plain_put x _ n s (plain_called r y h) is =
      subst (IsPlain e (put x n)) (sym (left_frame r y n (put r n) (shows-left x r (plain-shows x r h) (next-left x s is)))) (plain_called (put r n) y (plain_put x r n s h is))

  module _ (a : Arena) (x : Residual) (l : IsLeft (settle a x)) where
    is_left : (r : Residual) → IsPlain e (settle a x) (settle a r) → IsLeft (settle a r)
    is_left r k = shows-left (settle a x) (settle a r) (plain-shows (settle a x) (settle a r) k) l

    plain_settled : (r : Residual) → IsPlain e x r → IsPlain e (settle a x) (settle a r)
    plain_settled _ plain = plain
    plain_settled _ (plain_followed r ss h) =
        let k = plain_settled r h in
        subst (IsPlain e (settle a x)) (sym (left_then (settle a r) ss (is_left r k))) (after_plain (settle a x) (settle a r) ss k)
    plain_settled _ (plain_tried r others none h) =
        let k = plain_settled r h in
        subst (IsPlain e (settle a x)) (sym (left_try (settle a r) others (is_left r k))) (plain_tried (settle a r) others none k)
    plain_settled _ (plain_called r y h) = plain_called (settle a r) y (plain_settled r h)

  -- as it goes on, what stands around it stays so
  pub plain-goes : (a : Arena) (x n y : Residual) (s : ℕ) → GoesTo a x n y s → (r : Residual) → IsPlain e x r → IsPlain e y (settle a (put r n))
  plain-goes a x n y s g r h =
      subst (λ z. IsPlain e z (settle a (put r n))) g.settles (plain_settled a (put x n) (subst IsLeft (sym g.settles) g.left) (put r n) (plain_put x r n s h g.next))

  -- nothing around it catches the exception, and it is all that has to be unwound
  pub plain-catches : (x r : Residual) → IsPlain e x r → catches x e ≡ false → catches r e ≡ false
  plain-catches x _ plain is = is
  plain-catches x _ (plain_followed r ss h) is = plain-catches x r h is
  plain-catches x _ (plain_tried r others none h) is = ap (λ b. b || handles others e) (plain-catches x r h is) ∙ none
  plain-catches x _ (plain_called r y h) is = plain-catches x r h is

  pub plain-bare : (a : Arena) (x r : Residual) → IsPlain e x r → settle a (unw x) ≡ skip → settle a (unw r) ≡ skip
  plain-bare a x _ plain is = is
  plain-bare a x _ (plain_followed r ss h) is = plain-bare a x r h is
  plain-bare a x _ (plain_tried r others none h) is = plain-bare a x r h is
  plain-bare a x _ (plain_called r y h) is = ap (λ z. in_shell z y) (plain-bare a x r h is)

-- ---- statements that come next have neither

pub none-catches : (e s : ℕ) (ss us : List ℕ) → catches (seq (statements (s ∷ ss)) us) e ≡ false
none-catches e s [] us = refl
none-catches e s (t ∷ ss) us = refl

pub none-bare : (a : Arena) (s : ℕ) (ss us : List ℕ) → settle a (unw (seq (statements (s ∷ ss)) us)) ≡ skip
none-bare a s [] us = refl
none-bare a s (t ∷ ss) us = refl

-- ---- inside the try of a clocked thread

pub put-trying : (a : Arena) (b : Around) (f : Frame) (r n : Residual) → IsLeft (settle a (put r n)) → settle a (put (trying b f r) n) ≡ trying b f (settle a (put r n))
put-trying a b f r n l = ap (λ z. frame (then_on z (b.loops ∷ [])) f) (left_try (settle a (put r n)) b.handlers l)
