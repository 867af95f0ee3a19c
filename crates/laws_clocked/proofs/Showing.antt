-- What shows of what is left of a body, as that goes on.
use Rattle.std.proofs.Common.{◌≡◌, ℕ, false, List, [], ◌∷◌, Option, Some, None, option_map, refl, sym, ap, ◌∙◌, subst}
use Rattle.laws_runs.specs.FlatDesign.Code.{Arena}
use Rattle.laws_runs.specs.FlatDesign.declared.code.Handler.{Handler}
use Rattle.laws_runs.specs.SimModel.Residual.{Residual, Frame, skip, one, batch, seq, owing, guard, try_, frame, shell, run, goal, followed, then_on, in_guard, in_try, settle, frame_or, put, next_of, has_goal, statement, in_frame, nothing, innermost, or_frame, changed_if, in_innermost, or_via, within}
use Rattle.laws_clocked.specs.Spots.{IsLeft, Shows, itself, followed_by, guarded, tried, called}

-- ---- what has a statement in place is left

pub next-left : (x : Residual) (s : ℕ) → next_of x ≡ statement s → IsLeft x
next-left skip s is = no is
  where
    no : nothing ≡ statement s → ⊥
    no e = cc
next-left (one t) s is = tt
next-left (batch t qs) s is = tt
next-left (seq r ss) s is = tt
next-left (owing r g u) s is = tt
next-left (guard r g u) s is = tt
next-left (try_ r handlers) s is = tt
next-left (frame r x) s is = tt
next-left (shell r x) s is = tt
next-left (run g r) s is = tt
next-left (goal r k) s is = tt

pub shows-left : (x r : Residual) → Shows x r → IsLeft x → IsLeft r
shows-left x _ itself l = l
shows-left x _ (followed_by r ss h) l = tt
shows-left x _ (guarded r g u h) l = tt
shows-left x _ (tried r handlers h) l = tt
shows-left x _ (called r y h) l = tt

pub shows-next : (x r : Residual) (s : ℕ) → Shows x r → next_of x ≡ statement s → next_of r ≡ statement s
shows-next x _ s itself is = is
shows-next x _ s (followed_by r ss h) is = shows-next x r s h is
shows-next x _ s (guarded r g u h) is = shows-next x r s h is
shows-next x _ s (tried r handlers h) is = shows-next x r s h is
shows-next x _ s (called r y h) is = ap (λ n. in_frame n y) (shows-next x r s h is)

-- nothing is being unwound around what shows
pub shows-goal : (x r : Residual) → Shows x r → has_goal x ≡ false → has_goal r ≡ false
shows-goal x _ itself none = none
shows-goal x _ (followed_by r ss h) none = shows-goal x r h none
shows-goal x _ (guarded r g u h) none = shows-goal x r h none
shows-goal x _ (tried r handlers h) none = shows-goal x r h none
shows-goal x _ (called r y h) none = shows-goal x r h none

-- ---- what takes the place of a statement

shows_followed : (x r : Residual) (ss : List ℕ) → Shows x r → Shows x (followed r ss)
shows_followed x r [] h = h
shows_followed x r (s ∷ ss) h = followed_by r (s ∷ ss) h

pub left_frame : (r : Residual) (y : Frame) (n inside : Residual) → IsLeft r → frame_or r y n inside ≡ frame inside y
left_frame skip y n inside l = absurd l
left_frame (one s) y n inside l = refl
left_frame (batch s qs) y n inside l = refl
left_frame (seq r ss) y n inside l = refl
left_frame (owing r g u) y n inside l = refl
left_frame (guard r g u) y n inside l = refl
left_frame (try_ r handlers) y n inside l = refl
left_frame (frame r x) y n inside l = refl
left_frame (shell r x) y n inside l = refl
left_frame (run g r) y n inside l = refl
left_frame (goal r k) y n inside l = refl

pub shows-put : (x r n : Residual) (s : ℕ) → Shows x r → next_of x ≡ statement s → Shows (put x n) (put r n)
shows-put x _ n s itself is = itself
shows-put x _ n s (followed_by r ss h) is = shows_followed (put x n) (put r n) ss (shows-put x r n s h is)
shows-put x _ n s (guarded r g u h) is = guarded (put r n) g u (shows-put x r n s h is)
shows-put x _ n s (tried r handlers h) is = tried (put r n) handlers (shows-put x r n s h is)
shows-put x _ n s (called r y h) is =
    subst (Shows (put x n)) (sym (left_frame r y n (put r n) (shows-left x r h (next-left x s is)))) (called (put r n) y (shows-put x r n s h is))

-- ---- finished parts fall away

pub left_then : (r : Residual) (ss : List ℕ) → IsLeft r → then_on r ss ≡ followed r ss
left_then skip ss l = absurd l
left_then (one s) ss l = refl
left_then (batch s qs) ss l = refl
left_then (seq r us) ss l = refl
left_then (owing r g u) ss l = refl
left_then (guard r g u) ss l = refl
left_then (try_ r handlers) ss l = refl
left_then (frame r x) ss l = refl
left_then (shell r x) ss l = refl
left_then (run g r) ss l = refl
left_then (goal r k) ss l = refl

pub left_guard : (r : Residual) (g u : ℕ) → IsLeft r → in_guard r g u ≡ guard r g u
left_guard skip g u l = absurd l
left_guard (one s) g u l = refl
left_guard (batch s qs) g u l = refl
left_guard (seq r us) g u l = refl
left_guard (owing r h v) g u l = refl
left_guard (guard r h v) g u l = refl
left_guard (try_ r handlers) g u l = refl
left_guard (frame r x) g u l = refl
left_guard (shell r x) g u l = refl
left_guard (run h r) g u l = refl
left_guard (goal r k) g u l = refl

pub left_try : (r : Residual) (hs : List Handler) → IsLeft r → in_try r hs ≡ try_ r hs
left_try skip hs l = absurd l
left_try (one s) hs l = refl
left_try (batch s qs) hs l = refl
left_try (seq r us) hs l = refl
left_try (owing r h v) hs l = refl
left_try (guard r h v) hs l = refl
left_try (try_ r handlers) hs l = refl
left_try (frame r x) hs l = refl
left_try (shell r x) hs l = refl
left_try (run h r) hs l = refl
left_try (goal r k) hs l = refl

module _ (a : Arena) (x : Residual) (l : IsLeft (settle a x)) where
  pub shows-settled : (r : Residual) → Shows x r → Shows (settle a x) (settle a r)
  shows-settled _ itself = itself
  shows-settled _ (followed_by r ss h) =
      let k = shows-settled r h in
      subst (Shows (settle a x)) (sym (left_then (settle a r) ss (shows-left (settle a x) (settle a r) k l))) (shows_followed (settle a x) (settle a r) ss k)
  shows-settled _ (guarded r g u h) =
      let k = shows-settled r h in
      subst (Shows (settle a x)) (sym (left_guard (settle a r) g u (shows-left (settle a x) (settle a r) k l))) (guarded (settle a r) g u k)
  shows-settled _ (tried r hs h) =
      let k = shows-settled r h in
      subst (Shows (settle a x)) (sym (left_try (settle a r) hs (shows-left (settle a x) (settle a r) k l))) (tried (settle a r) hs k)
  shows-settled _ (called r y h) = called (settle a r) y (shows-settled r h)

-- ---- the innermost call

some_frame : (o : Option Frame) (y : Frame) → or_frame o y ≡ None → ⊥
some_frame None y is = cc
some_frame (Some z) y is = cc

unframed : (f : Frame → Frame) (x : Residual) → innermost x ≡ None → in_innermost f x ≡ x
unframed f skip is = refl
unframed f (one s) is = refl
unframed f (batch s qs) is = refl
unframed f (seq r ss) is = ap (λ q. seq q ss) (unframed f r is)
unframed f (owing r g u) is = ap (λ q. owing q g u) (unframed f r is)
unframed f (guard r g u) is = ap (λ q. guard q g u) (unframed f r is)
unframed f (try_ r hs) is = ap (λ q. try_ q hs) (unframed f r is)
unframed f (frame r y) is = absurd (some_frame (innermost r) y is)
unframed f (shell r y) is = absurd (some_frame (innermost r) y is)
unframed f (run g r) is = ap (λ q. run g q) (unframed f r is)
unframed f (goal r k) is = ap (λ q. goal q k) (unframed f r is)

module _ (f : Frame → Frame) (x : Residual) (none : innermost x ≡ None) where
  pub shows-set : (r : Residual) → Shows x r → Shows x (in_innermost f r)
  shows-set _ itself = subst (Shows x) (sym (unframed f x none)) itself
  shows-set _ (followed_by r ss h) = followed_by (in_innermost f r) ss (shows-set r h)
  shows-set _ (guarded r g u h) = guarded (in_innermost f r) g u (shows-set r h)
  shows-set _ (tried r hs h) = tried (in_innermost f r) hs (shows-set r h)
  shows-set _ (called r y h) = called (in_innermost f r) (changed_if (innermost r) f y) (shows-set r h)

-- a call in which nothing is called is the innermost
pub innermost-set : (f : Frame → Frame) (r : Residual) → innermost (in_innermost f r) ≡ option_map f (innermost r)
innermost-set f skip = refl
innermost-set f (one s) = refl
innermost-set f (batch s qs) = refl
innermost-set f (seq r ss) = innermost-set f r
innermost-set f (owing r g u) = innermost-set f r
innermost-set f (guard r g u) = innermost-set f r
innermost-set f (try_ r hs) = innermost-set f r
innermost-set f (frame r y) = ap (λ o. or_frame o (changed_if (innermost r) f y)) (innermost-set f r) ∙ of_frame (innermost r) y
  where
    of_frame : (o : Option Frame) (y : Frame) → or_frame (option_map f o) (changed_if o f y) ≡ option_map f (or_frame o y)
    of_frame None y = refl
    of_frame (Some z) y = refl
innermost-set f (shell r y) = ap (λ o. or_frame o (changed_if (innermost r) f y)) (innermost-set f r) ∙ of_frame (innermost r) y
  where
    of_frame : (o : Option Frame) (y : Frame) → or_frame (option_map f o) (changed_if o f y) ≡ option_map f (or_frame o y)
    of_frame None y = refl
    of_frame (Some z) y = refl
innermost-set f (run g r) = innermost-set f r
innermost-set f (goal r k) = innermost-set f r

pub innermost-followed : (r : Residual) (ss : List ℕ) → innermost (followed r ss) ≡ innermost r
innermost-followed r [] = refl
innermost-followed r (s ∷ ss) = refl

-- what has no call inside changes no call around it
pub innermost-put : (x r n : Residual) (s : ℕ) → Shows x r → next_of x ≡ statement s → innermost (put x n) ≡ innermost x → innermost (put r n) ≡ innermost r
innermost-put x _ n s itself is same = same
innermost-put x _ n s (followed_by r ss h) is same = innermost-followed (put r n) ss ∙ innermost-put x r n s h is same
innermost-put x _ n s (guarded r g u h) is same = innermost-put x r n s h is same
innermost-put x _ n s (tried r hs h) is same = innermost-put x r n s h is same
innermost-put x _ n s (called r y h) is same = ap innermost (left_frame r y n (put r n) (shows-left x r h (next-left x s is))) ∙ ap (λ o. or_frame o y) (innermost-put x r n s h is same)

module _ (a : Arena) (x : Residual) (l : IsLeft (settle a x)) (same : innermost (settle a x) ≡ innermost x) where
  pub innermost-settled : (r : Residual) → Shows x r → innermost (settle a r) ≡ innermost r
  innermost-settled _ itself = same
  innermost-settled _ (followed_by r ss h) =
      ap innermost (left_then (settle a r) ss (shows-left (settle a x) (settle a r) (shows-settled a x l r h) l)) ∙ innermost-followed (settle a r) ss ∙ innermost-settled r h
  innermost-settled _ (guarded r g u h) = ap innermost (left_guard (settle a r) g u (shows-left (settle a x) (settle a r) (shows-settled a x l r h) l)) ∙ innermost-settled r h
  innermost-settled _ (tried r hs h) = ap innermost (left_try (settle a r) hs (shows-left (settle a x) (settle a r) (shows-settled a x l r h) l)) ∙ innermost-settled r h
  innermost-settled _ (called r y h) = ap (λ o. or_frame o y) (innermost-settled r h)

-- ---- the innermost transport call

pub within-followed : (r : Residual) (ss : List ℕ) → within (followed r ss) ≡ within r
within-followed r [] = refl
within-followed r (s ∷ ss) = refl

pub within-put : (x r n : Residual) (s : ℕ) → Shows x r → next_of x ≡ statement s → within (put x n) ≡ within x → within (put r n) ≡ within r
within-put x _ n s itself is same = same
within-put x _ n s (followed_by r ss h) is same = within-followed (put r n) ss ∙ within-put x r n s h is same
within-put x _ n s (guarded r g u h) is same = within-put x r n s h is same
within-put x _ n s (tried r hs h) is same = within-put x r n s h is same
within-put x _ n s (called r y h) is same = ap within (left_frame r y n (put r n) (shows-left x r h (next-left x s is))) ∙ ap (λ o. or_via o y.via) (within-put x r n s h is same)

module _ (a : Arena) (x : Residual) (l : IsLeft (settle a x)) (same : within (settle a x) ≡ within x) where
  pub within-settled : (r : Residual) → Shows x r → within (settle a r) ≡ within r
  within-settled _ itself = same
  within-settled _ (followed_by r ss h) =
      ap within (left_then (settle a r) ss (shows-left (settle a x) (settle a r) (shows-settled a x l r h) l)) ∙ within-followed (settle a r) ss ∙ within-settled r h
  within-settled _ (guarded r g u h) = ap within (left_guard (settle a r) g u (shows-left (settle a x) (settle a r) (shows-settled a x l r h) l)) ∙ within-settled r h
  within-settled _ (tried r hs h) = ap within (left_try (settle a r) hs (shows-left (settle a x) (settle a r) (shows-settled a x l r h) l)) ∙ within-settled r h
  within-settled _ (called r y h) = ap (λ o. or_via o y.via) (within-settled r h)
