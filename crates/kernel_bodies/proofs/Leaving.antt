-- The transport calls that an unwinding leaves, the innermost transport call, and how many calls there are, frame by frame.
use Rattle.std.proofs.Common.{◌≡◌, ℕ, ◌+◌, ◌<◌, zero, suc, List, [], ◌∷◌, ◌++◌, Option, Some, None, length, take, drop, get_or, set, refl, sym, ap, ◌∙◌, subst, arith, append_assoc}
use Rattle.std.proofs.lemmas.List.{append-nil}
use Rattle.std.specs.Prelude.{slice_get}
use Rattle.sim_model.specs.Residual.{or_via, or_frame, counted_call}
use Rattle.sim_model.specs.Unwinding.{left_via}
use Rattle.sim_model.specs.declared.plain.Via.{Via}
use Rattle.kernel_bodies.specs.declared.layers.Saved.{Saved}
use Rattle.kernel_bodies.specs.Layers.{call_of}
use Rattle.kernel_bodies.specs.Sought.{last_call, last_via, many_calls}
use Rattle.kernel_bodies.specs.Unwound.{left_at, left_all, IsUnwound, AreUnwound}
use Rattle.kernel_bodies.proofs.Lands.{take_last}

left_append : (xs ys : List Saved) → left_all (xs ++ ys) ≡ left_all ys ++ left_all xs
left_append [] ys = sym (append-nil (left_all ys))
left_append (x ∷ xs) ys = ap (λ vs. vs ++ left_via (left_at x)) (left_append xs ys) ∙ append_assoc (left_all ys) (left_all xs) (left_via (left_at x))

left_one : (xs : List Saved) (x : Saved) → left_all (xs ++ x ∷ []) ≡ left_via (left_at x) ++ left_all xs
left_one xs x = left_append xs (x ∷ [])

later_at : (v : Via) (vs : List Via) (n m : ℕ) → suc m ≡ n → slice_get (v ∷ vs) n ≡ slice_get vs m
later_at v vs n m e = ap (slice_get (v ∷ vs)) (sym e)

module _ (xs : List Saved) (place n number more : ℕ) (x : Saved) (e : suc n ≡ place) (h : n < length xs) (is : x ≡ get_or xs n x)
    (inv : slice_get (left_all xs) number ≡ slice_get (left_all (take place xs)) more) where
  left_step : (o : Option Via) → o ≡ left_at x → slice_get (left_all xs) number ≡ slice_get (left_via o ++ left_all (take n xs)) more
  left_step o same = inv ∙ ap (λ vs. slice_get vs more) (ap left_all (take_last xs place n x e h is) ∙ left_one (take n xs) x ∙ ap (λ p. left_via p ++ left_all (take n xs)) (sym same))

  pub left_here : (v : Via) → Some v ≡ left_at x → more ≡ 0 → Some v ≡ slice_get (left_all xs) number
  left_here v same none = sym (left_step (Some v) same ∙ ap (λ k. slice_get (v ∷ left_all (take n xs)) k) none)

  pub left_later : (v : Via) (m : ℕ) → Some v ≡ left_at x → suc m ≡ more → slice_get (left_all xs) number ≡ slice_get (left_all (take n xs)) m
  left_later v m same next = left_step (Some v) same ∙ later_at v (left_all (take n xs)) more m next

  pub left_not : None ≡ left_at x → slice_get (left_all xs) number ≡ slice_get (left_all (take n xs)) more
  left_not same = left_step None same

-- the innermost transport call

via_one : (xs : List Saved) (x : Saved) → last_via (xs ++ x ∷ []) ≡ or_via x.frame.via (last_via xs)
via_one [] x = or_none x.frame.via
  where
    or_none : (o : Option Via) → or_via None o ≡ or_via o None
    or_none None = refl
    or_none (Some v) = refl
via_one (y ∷ xs) x = ap (λ o. or_via o y.frame.via) (via_one xs x) ∙ or_assoc x.frame.via (last_via xs) y.frame.via
  where
    or_assoc : (o p q : Option Via) → or_via (or_via o p) q ≡ or_via o (or_via p q)
    or_assoc None p q = refl
    or_assoc (Some v) p q = refl

module _ (xs : List Saved) (place n : ℕ) (x : Saved) (e : suc n ≡ place) (h : n < length xs) (is : x ≡ get_or xs n x) (inv : last_via xs ≡ last_via (take place xs)) where
  via_step : last_via xs ≡ or_via x.frame.via (last_via (take n xs))
  via_step = inv ∙ ap last_via (take_last xs place n x e h is) ∙ via_one (take n xs) x

  pub via_here : (v : Via) → x.frame.via ≡ Some v → Some v ≡ last_via xs
  via_here v same = sym (via_step ∙ ap (λ o. or_via o (last_via (take n xs))) same)

  pub via_not : x.frame.via ≡ None → last_via xs ≡ last_via (take n xs)
  via_not same = via_step ∙ ap (λ o. or_via o (last_via (take n xs))) same

-- the innermost call

pub last_call_at : (xs : List Saved) (n : ℕ) (d : Saved) → suc n ≡ length xs → last_call xs ≡ Some (call_of (get_or xs n d).frame)
last_call_at [] n d e = absurd (omega (arith, e))
last_call_at (x ∷ []) zero d e = refl
last_call_at (x ∷ []) (suc n) d e = absurd (omega (arith, e))
last_call_at (x ∷ y ∷ ys) zero d e = absurd (omega (arith, e))
last_call_at (x ∷ y ∷ ys) (suc n) d e = ap (λ o. or_frame o (call_of x.frame)) (last_call_at (y ∷ ys) n d (omega (arith, e)))

-- how many calls, from the outermost inwards
pub calls_from : (xs : List Saved) (i : ℕ) (d : Saved) → i < length xs → many_calls (drop i xs) ≡ many_calls (drop (suc i) xs) + counted_call (get_or xs i d).frame.call
calls_from [] i d h = absurd (omega (arith, h))
calls_from (x ∷ xs) zero d h = refl
calls_from (x ∷ xs) (suc i) d h = calls_from xs i d (omega (arith, h))

-- frames that are being unwound, one more

pub unwound_none : (xs : List Saved) (n : ℕ) → n ≡ length xs → AreUnwound n xs xs
unwound_none [] zero e = tt
unwound_none [] (suc n) e = tt
unwound_none (x ∷ xs) zero e = absurd (omega (arith, e))
unwound_none (x ∷ xs) (suc n) e = (refl, unwound_none xs n (omega (arith, e)))

pub unwound_more : (xs ys : List Saved) (place n : ℕ) (d y : Saved) → suc n ≡ place → n < length ys → AreUnwound place xs ys → IsUnwound (get_or ys n d) y → AreUnwound n xs (set ys n y)
unwound_more xs ys zero n d y e h u s = absurd (omega (arith, e))
unwound_more [] [] (suc p) n d y e h u s = absurd (omega (arith, h))
unwound_more [] (z ∷ ys) (suc p) n d y e h u s = absurd u
unwound_more (x ∷ xs) [] (suc p) n d y e h u s = absurd u
unwound_more (x ∷ xs) (z ∷ ys) (suc zero) zero d y e h u s = (subst (λ (w : Saved). IsUnwound w y) u.0 s, u.1)
unwound_more (x ∷ xs) (z ∷ ys) (suc (suc p)) zero d y e h u s = absurd (omega (arith, e))
unwound_more (x ∷ xs) (z ∷ ys) (suc zero) (suc n) d y e h u s = absurd (omega (arith, e))
unwound_more (x ∷ xs) (z ∷ ys) (suc (suc p)) (suc n) d y e h u s = (u.0, unwound_more xs ys (suc p) n d y (omega (arith, e)) (omega (arith, h)) u.1 s)
