-- A statement that is past leaves the goals, the tries and the guards of a residual as they are.
use Rattle.std.proofs.Common.{◌≡◌, ◌||◌, ℕ, false, cond, List, [], ◌∷◌, refl, ap, ◌∙◌, true≢false}
use Rattle.sim_model.specs.Residual.{Residual, Frame, skip, one, batch, seq, owing, guard, try_, frame, shell, run, goal, followed, frame_or, goal_or, put, taken_off, has_goal}
use Rattle.sim_model.specs.Unwinding.{catches, handles}
use Rattle.sim_model.specs.Clean.{guards_of}
use Rattle.sim_model.specs.declared.plain.Goal.{Goal}
use Rattle.laws_runs.specs.Shapes.{IsNormal}
use Rattle.laws_runs.proofs.GuardLemmas.{guards-past}
use Rattle.laws_runs.specs.Throws.{guards_in_try}

pub normal-goalless : (r : Residual) → IsNormal r → has_goal r ≡ false
normal-goalless skip h = refl
normal-goalless (one s) h = refl
normal-goalless (batch s qs) h = refl
normal-goalless (seq r ss) h = normal-goalless r h
normal-goalless (owing r g u) h = absurd h
normal-goalless (guard r g u) h = normal-goalless r h
normal-goalless (try_ r handlers) h = normal-goalless r h
normal-goalless (frame r x) h = normal-goalless r h
normal-goalless (shell r x) h = absurd h
normal-goalless (run g r) h = absurd h
normal-goalless (goal r k) h = absurd h

-- ---- goals

followed_goal : (r : Residual) (ss : List ℕ) → has_goal (followed r ss) ≡ has_goal r
followed_goal r [] = refl
followed_goal r (s ∷ ss) = refl

frame_goal : (r : Residual) (x : Frame) (inside : Residual) → has_goal inside ≡ false → has_goal (frame_or r x skip inside) ≡ false
frame_goal skip x inside h = refl
frame_goal other x inside h = h

pub goal-past : (r : Residual) → has_goal r ≡ false → has_goal (put r skip) ≡ false
goal-past skip h = refl
goal-past (one s) h = refl
goal-past (batch s qs) h = refl
goal-past (seq r ss) h = followed_goal (put r skip) ss ∙ goal-past r h
goal-past (owing r g u) h = goal-past r h
goal-past (guard r g u) h = goal-past r h
goal-past (try_ r handlers) h = goal-past r h
goal-past (frame r x) h = frame_goal r x (put r skip) (goal-past r h)
goal-past (shell r x) h = goal-past r h
goal-past (run g r) h = goal-past r h
goal-past (goal r k) h = absurd (true≢false h)

-- ---- tries

module _ (e : ℕ) where
  followed_catches : (r : Residual) (ss : List ℕ) → catches (followed r ss) e ≡ catches r e
  followed_catches r [] = refl
  followed_catches r (s ∷ ss) = refl

  frame_catches : (r : Residual) (x : Frame) (inside : Residual) → catches inside e ≡ catches r e → catches (frame_or r x skip inside) e ≡ catches r e
  frame_catches skip x inside h = refl
  frame_catches other x inside h = h

  goal_catches : (r : Residual) (k : Goal) (inside : Residual) → catches inside e ≡ catches r e → catches (goal_or r k skip inside) e ≡ catches r e
  goal_catches skip k inside h = refl
  goal_catches other k inside h = h

  pub catches-past : (r : Residual) → catches (put r skip) e ≡ catches r e
  catches-past skip = refl
  catches-past (one s) = refl
  catches-past (batch s qs) = refl
  catches-past (seq r ss) = followed_catches (put r skip) ss ∙ catches-past r
  catches-past (owing r g u) = catches-past r
  catches-past (guard r g u) = catches-past r
  catches-past (try_ r handlers) = ap (λ b. b || handles handlers e) (catches-past r)
  catches-past (frame r x) = frame_catches r x (put r skip) (catches-past r)
  catches-past (shell r x) = catches-past r
  catches-past (run g r) = catches-past r
  catches-past (goal r k) = goal_catches r k (put r skip) (catches-past r)

  -- ---- and the guards inside them

  followed_in : (r : Residual) (ss : List ℕ) → guards_in_try (followed r ss) e ≡ guards_in_try r e
  followed_in r [] = refl
  followed_in r (s ∷ ss) = refl

  frame_in : (r : Residual) (x : Frame) (inside : Residual) → guards_in_try inside e ≡ guards_in_try r e → guards_in_try (frame_or r x skip inside) e ≡ guards_in_try r e
  frame_in skip x inside h = refl
  frame_in other x inside h = h

  goal_in : (r : Residual) (k : Goal) (inside : Residual) → guards_in_try inside e ≡ guards_in_try r e → guards_in_try (goal_or r k skip inside) e ≡ guards_in_try r e
  goal_in skip k inside h = refl
  goal_in other k inside h = h

  pub in_try-past : (r : Residual) → guards_in_try (put r skip) e ≡ guards_in_try r e
  in_try-past skip = refl
  in_try-past (one s) = refl
  in_try-past (batch s qs) = refl
  in_try-past (seq r ss) = followed_in (put r skip) ss ∙ in_try-past r
  in_try-past (owing r g u) = in_try-past r
  in_try-past (guard r g u) = in_try-past r
  in_try-past (try_ r handlers) =
      ap (λ b. cond b (guards_in_try (put r skip) e) (cond (handles handlers e) (guards_of (put r skip)) [])) (catches-past r)
      ∙ ap (λ gs. cond (catches r e) gs (cond (handles handlers e) (guards_of (put r skip)) [])) (in_try-past r)
      ∙ ap (λ gs. cond (catches r e) (guards_in_try r e) (cond (handles handlers e) gs [])) (guards-past r)
  in_try-past (frame r x) = frame_in r x (put r skip) (in_try-past r)
  in_try-past (shell r x) = in_try-past r
  in_try-past (run g r) = in_try-past r
  in_try-past (goal r k) = goal_in r k (put r skip) (in_try-past r)

-- ---- and so does a call that is owed to one less

pub goal-taken : (r : Residual) → has_goal (taken_off r) ≡ has_goal r
goal-taken skip = refl
goal-taken (one s) = refl
goal-taken (batch s qs) = refl
goal-taken (seq r ss) = goal-taken r
goal-taken (owing r g u) = goal-taken r
goal-taken (guard r g u) = goal-taken r
goal-taken (try_ r handlers) = goal-taken r
goal-taken (frame r x) = goal-taken r
goal-taken (shell r x) = goal-taken r
goal-taken (run g r) = goal-taken r
goal-taken (goal r k) = refl

guards-taken : (r : Residual) → guards_of (taken_off r) ≡ guards_of r
guards-taken skip = refl
guards-taken (one s) = refl
guards-taken (batch s qs) = refl
guards-taken (seq r ss) = guards-taken r
guards-taken (owing r g u) = ap (λ gs. g ∷ gs) (guards-taken r)
guards-taken (guard r g u) = ap (λ gs. g ∷ gs) (guards-taken r)
guards-taken (try_ r handlers) = guards-taken r
guards-taken (frame r x) = guards-taken r
guards-taken (shell r x) = guards-taken r
guards-taken (run g r) = ap (λ gs. g ∷ gs) (guards-taken r)
guards-taken (goal r k) = guards-taken r

module _ (e : ℕ) where
  pub catches-taken : (r : Residual) → catches (taken_off r) e ≡ catches r e
  catches-taken skip = refl
  catches-taken (one s) = refl
  catches-taken (batch s qs) = refl
  catches-taken (seq r ss) = catches-taken r
  catches-taken (owing r g u) = catches-taken r
  catches-taken (guard r g u) = catches-taken r
  catches-taken (try_ r handlers) = ap (λ b. b || handles handlers e) (catches-taken r)
  catches-taken (frame r x) = catches-taken r
  catches-taken (shell r x) = catches-taken r
  catches-taken (run g r) = catches-taken r
  catches-taken (goal r k) = catches-taken r

  pub in_try-taken : (r : Residual) → guards_in_try (taken_off r) e ≡ guards_in_try r e
  in_try-taken skip = refl
  in_try-taken (one s) = refl
  in_try-taken (batch s qs) = refl
  in_try-taken (seq r ss) = in_try-taken r
  in_try-taken (owing r g u) = in_try-taken r
  in_try-taken (guard r g u) = in_try-taken r
  in_try-taken (try_ r handlers) =
      ap (λ b. cond b (guards_in_try (taken_off r) e) (cond (handles handlers e) (guards_of (taken_off r)) [])) (catches-taken r)
      ∙ ap (λ gs. cond (catches r e) gs (cond (handles handlers e) (guards_of (taken_off r)) [])) (in_try-taken r)
      ∙ ap (λ gs. cond (catches r e) (guards_in_try r e) (cond (handles handlers e) gs [])) (guards-taken r)
  in_try-taken (frame r x) = in_try-taken r
  in_try-taken (shell r x) = in_try-taken r
  in_try-taken (run g r) = in_try-taken r
  in_try-taken (goal r k) = in_try-taken r
