-- What an exception makes of a residual: the guards inside its try are below a goal then.
use Rattle.std.proofs.Common.{◌≡◌, ◌||◌, ℕ, Bool, true, false, cond, List, [], ◌∷◌, refl, sym, ◌∙◌, true≢false}
use Rattle.sim_model.specs.FlatDesign.Code.{Arena}
use Rattle.sim_model.specs.FlatDesign.declared.code.Handler.{Handler}
use Rattle.sim_model.specs.Residual.{Residual, skip, one, batch, seq, owing, guard, try_, frame, shell, run, goal, followed, has_goal}
use Rattle.sim_model.specs.Unwinding.{unw, catches, handles, handler_block, handler_of, handled, raise}
use Rattle.sim_model.specs.Clean.{guards_of}
use Rattle.sim_model.specs.declared.plain.Goal.{Goal}
use Rattle.laws_runs.proofs.ResidualLemmas.{guards-unwound}
use Rattle.laws_runs.specs.Once.{guards_below}
use Rattle.laws_runs.specs.Throws.{guards_in_try}

followed_below : (r : Residual) (ss : List ℕ) → guards_below (followed r ss) ≡ guards_below r
followed_below r [] = refl
followed_below r (s ∷ ss) = refl

followed_goal : (r : Residual) (ss : List ℕ) → has_goal (followed r ss) ≡ has_goal r
followed_goal r [] = refl
followed_goal r (s ∷ ss) = refl

module _ (a : Arena) (e : ℕ) (k : Goal) where
  try_below : (b c : Bool) (r : Residual) (handlers : List Handler) → (b ≡ true → guards_below (raise a r e k) ≡ guards_in_try r e) → (b || c) ≡ true
      → guards_below (cond b (try_ (raise a r e k) handlers) (cond c (handled a r handlers e k) (try_ r handlers))) ≡ cond b (guards_in_try r e) (cond c (guards_of r) [])
  try_below true c r handlers later caught = later refl
  try_below false true r handlers later caught = followed_below (goal (unw r) k) (handler_block a (handler_of handlers e)) ∙ guards-unwound r
  try_below false false r handlers later caught = absurd (true≢false (sym caught))

  pub raise-below : (r : Residual) → catches r e ≡ true → has_goal r ≡ false → guards_below (raise a r e k) ≡ guards_in_try r e
  raise-below skip caught none = refl
  raise-below (one s) caught none = refl
  raise-below (batch s qs) caught none = refl
  raise-below (seq r ss) caught none = raise-below r caught none
  raise-below (owing r g u) caught none = raise-below r caught none
  raise-below (guard r g u) caught none = raise-below r caught none
  raise-below (try_ r handlers) caught none = try_below (catches r e) (handles handlers e) r handlers (λ is. raise-below r is none) caught
  raise-below (frame r x) caught none = raise-below r caught none
  raise-below (shell r x) caught none = raise-below r caught none
  raise-below (run g r) caught none = raise-below r caught none
  raise-below (goal r j) caught none = absurd (true≢false none)

  try_goal : (b c : Bool) (r : Residual) (handlers : List Handler) → (b ≡ true → has_goal (raise a r e k) ≡ true) → (b || c) ≡ true
      → has_goal (cond b (try_ (raise a r e k) handlers) (cond c (handled a r handlers e k) (try_ r handlers))) ≡ true
  try_goal true c r handlers later caught = later refl
  try_goal false true r handlers later caught = followed_goal (goal (unw r) k) (handler_block a (handler_of handlers e))
  try_goal false false r handlers later caught = absurd (true≢false (sym caught))

  pub raise-goal : (r : Residual) → catches r e ≡ true → has_goal (raise a r e k) ≡ true
  raise-goal skip caught = absurd (true≢false (sym caught))
  raise-goal (one s) caught = absurd (true≢false (sym caught))
  raise-goal (batch s qs) caught = absurd (true≢false (sym caught))
  raise-goal (seq r ss) caught = raise-goal r caught
  raise-goal (owing r g u) caught = raise-goal r caught
  raise-goal (guard r g u) caught = raise-goal r caught
  raise-goal (try_ r handlers) caught = try_goal (catches r e) (handles handlers e) r handlers (λ is. raise-goal r is) caught
  raise-goal (frame r x) caught = raise-goal r caught
  raise-goal (shell r x) caught = raise-goal r caught
  raise-goal (run g r) caught = raise-goal r caught
  raise-goal (goal r j) caught = refl
