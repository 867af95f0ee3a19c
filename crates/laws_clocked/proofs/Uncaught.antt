-- What stands around what is left, where that is no try that catches an exception: guards stand there too.
use Rattle.std.proofs.Common.{◌≡◌, ◌||◌, ℕ, Bool, true, false, List, [], ◌∷◌, refl, sym, ap, ◌∙◌, subst, true≢false}
use Rattle.laws_runs.specs.FlatDesign.Code.{Arena}
use Rattle.laws_runs.specs.FlatDesign.declared.code.Handler.{Handler}
use Rattle.laws_runs.specs.SimModel.Residual.{Residual, Frame, seq, guard, try_, frame, followed, statements, settle, put, next_of, statement}
use Rattle.laws_runs.specs.SimModel.Unwinding.{catches, handles}
use Rattle.laws_clocked.specs.Spots.{IsLeft, Shows, itself, followed_by, guarded, tried, called}
use Rattle.laws_clocked.specs.Again.{Around, trying}
use Rattle.laws_clocked.proofs.Showing.{next-left, shows-left, left_frame, left_then, left_guard, left_try}
use Rattle.laws_clocked.proofs.Going.{GoesTo}

both_false : (b c : Bool) → (b || c) ≡ false → (b ≡ false) × (c ≡ false)
both_false true c e = absurd (true≢false e)
both_false false c e = (refl, e)

module _ (e : ℕ) where
  pub data Uncaught (x : Residual) : Residual → Type 0 where
    bare : Uncaught x x
    bare_followed : (r : Residual) (ss : List ℕ) → Uncaught x r → Uncaught x (seq r ss)
    bare_guarded : (r : Residual) (g u : ℕ) → Uncaught x r → Uncaught x (guard r g u)
    bare_tried : (r : Residual) (others : List Handler) → handles others e ≡ false → Uncaught x r → Uncaught x (try_ r others)
    bare_called : (r : Residual) (y : Frame) → Uncaught x r → Uncaught x (frame r y)

  pub uncaught-by : (x r : Residual) → Shows x r → catches r e ≡ false → Uncaught x r
  uncaught-by x _ itself none = bare
  uncaught-by x _ (followed_by r ss h) none = bare_followed r ss (uncaught-by x r h none)
  uncaught-by x _ (guarded r g u h) none = bare_guarded r g u (uncaught-by x r h none)
  uncaught-by x _ (tried r handlers h) none = let k = both_false (catches r e) (handles handlers e) none in bare_tried r handlers k.1 (uncaught-by x r h k.0)
  uncaught-by x _ (called r y h) none = bare_called r y (uncaught-by x r h none)

  pub uncaught-shows : (x r : Residual) → Uncaught x r → Shows x r
  uncaught-shows x _ bare = itself
  uncaught-shows x _ (bare_followed r ss h) = followed_by r ss (uncaught-shows x r h)
  uncaught-shows x _ (bare_guarded r g u h) = guarded r g u (uncaught-shows x r h)
  uncaught-shows x _ (bare_tried r others none h) = tried r others (uncaught-shows x r h)
  uncaught-shows x _ (bare_called r y h) = called r y (uncaught-shows x r h)

  after_bare : (x r : Residual) (ss : List ℕ) → Uncaught x r → Uncaught x (followed r ss)
  after_bare x r [] h = h
  after_bare x r (s ∷ ss) h = bare_followed r (s ∷ ss) h

  bare_put : (x r n : Residual) (s : ℕ) → Uncaught x r → next_of x ≡ statement s → Uncaught (put x n) (put r n)
  bare_put x _ n s bare is = bare
  bare_put x _ n s (bare_followed r ss h) is = after_bare (put x n) (put r n) ss (bare_put x r n s h is)
  bare_put x _ n s (bare_guarded r g u h) is = bare_guarded (put r n) g u (bare_put x r n s h is)
  bare_put x _ n s (bare_tried r others none h) is = bare_tried (put r n) others none (bare_put x r n s h is)
  bare_put x _ n s (bare_called r y h) is =
      subst (Uncaught (put x n)) (sym (left_frame r y n (put r n) (shows-left x r (uncaught-shows x r h) (next-left x s is)))) (bare_called (put r n) y (bare_put x r n s h is))

  module _ (a : Arena) (x : Residual) (l : IsLeft (settle a x)) where
    is_left : (r : Residual) → Uncaught (settle a x) (settle a r) → IsLeft (settle a r)
    is_left r k = shows-left (settle a x) (settle a r) (uncaught-shows (settle a x) (settle a r) k) l

    bare_settled : (r : Residual) → Uncaught x r → Uncaught (settle a x) (settle a r)
    bare_settled _ bare = bare
    bare_settled _ (bare_followed r ss h) =
        let k = bare_settled r h in
        subst (Uncaught (settle a x)) (sym (left_then (settle a r) ss (is_left r k))) (after_bare (settle a x) (settle a r) ss k)
    bare_settled _ (bare_guarded r g u h) =
        let k = bare_settled r h in
        subst (Uncaught (settle a x)) (sym (left_guard (settle a r) g u (is_left r k))) (bare_guarded (settle a r) g u k)
    bare_settled _ (bare_tried r others none h) =
        let k = bare_settled r h in
        subst (Uncaught (settle a x)) (sym (left_try (settle a r) others (is_left r k))) (bare_tried (settle a r) others none k)
    bare_settled _ (bare_called r y h) = bare_called (settle a r) y (bare_settled r h)

  -- as it goes on, what stands around it stays so
  pub uncaught-goes : (a : Arena) (x n y : Residual) (s : ℕ) → GoesTo a x n y s → (r : Residual) → Uncaught x r → Uncaught y (settle a (put r n))
  uncaught-goes a x n y s g r h =
      subst (λ z. Uncaught z (settle a (put r n))) g.settles (bare_settled a (put x n) (subst IsLeft (sym g.settles) g.left) (put r n) (bare_put x r n s h g.next))

  pub uncaught-catches : (x r : Residual) → Uncaught x r → catches x e ≡ false → catches r e ≡ false
  uncaught-catches x _ bare is = is
  uncaught-catches x _ (bare_followed r ss h) is = uncaught-catches x r h is
  uncaught-catches x _ (bare_guarded r g u h) is = uncaught-catches x r h is
  uncaught-catches x _ (bare_tried r others none h) is = ap (λ b. b || handles others e) (uncaught-catches x r h is) ∙ none
  uncaught-catches x _ (bare_called r y h) is = uncaught-catches x r h is

-- ---- inside the try of a clocked thread

same_inner : (r q : Residual) (ss us : List ℕ) → seq r ss ≡ seq q us → r ≡ q
same_inner r q ss us e = cc

not_try : (ss : List ℕ) (r : Residual) (handlers : List Handler) → statements ss ≡ try_ r handlers → ⊥
not_try [] r handlers e = cc
not_try (s ∷ []) r handlers e = cc
not_try (s ∷ t ∷ ss) r handlers e = cc

module _ (xs us : List ℕ) where
  abbrev X : Residual
  X = seq (statements xs) us

  in_try : (q : Residual) → Shows X q → (r : Residual) (handlers : List Handler) → q ≡ try_ r handlers → Shows X r
  in_try _ itself r handlers e = absurd cc
  in_try _ (followed_by q ss h) r handlers e = absurd cc
  in_try _ (guarded q g u h) r handlers e = absurd cc
  in_try _ (tried q others h) r handlers e = subst (Shows X) (same q r others handlers e) h
    where
      same : (q r : Residual) (others handlers : List Handler) → try_ q others ≡ try_ r handlers → q ≡ r
      same q r others handlers e = cc
  in_try _ (called q y h) r handlers e = absurd cc

  in_loop : (q : Residual) → Shows X q → (r : Residual) (handlers : List Handler) (ss : List ℕ) → q ≡ seq (try_ r handlers) ss → Shows X r
  in_loop _ itself r handlers ss e = absurd (not_try xs r handlers (same_inner (statements xs) (try_ r handlers) us ss e))
  in_loop _ (followed_by q zs h) r handlers ss e = in_try q h r handlers (same_inner q (try_ r handlers) zs ss e)
  in_loop _ (guarded q g u h) r handlers ss e = absurd cc
  in_loop _ (tried q others h) r handlers ss e = absurd cc
  in_loop _ (called q y h) r handlers ss e = absurd cc

  in_body : (q : Residual) → Shows X q → (b : Around) (f : Frame) (r : Residual) → q ≡ trying b f r → Shows X r
  in_body _ itself b f r e = absurd cc
  in_body _ (followed_by q zs h) b f r e = absurd cc
  in_body _ (guarded q g u h) b f r e = absurd cc
  in_body _ (tried q others h) b f r e = absurd cc
  in_body _ (called q y h) b f r e = in_loop q h r b.handlers (b.loops ∷ []) (same q (seq (try_ r b.handlers) (b.loops ∷ [])) y f e)
    where
      same : (q r : Residual) (x y : Frame) → frame q x ≡ frame r y → q ≡ r
      same q r x y e = cc

  pub shows-in_try : (b : Around) (f : Frame) (r : Residual) → Shows X (trying b f r) → Shows X r
  shows-in_try b f r h = in_body (trying b f r) h b f r refl
