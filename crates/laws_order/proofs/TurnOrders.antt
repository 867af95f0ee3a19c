-- Two changes of one list, and two notifications of one event, in either order.
use Rattle.std.proofs.Common.{◌≡◌, ◌≢◌, ℕ, zero, suc, min, Bool, true, false, cond, nat_lt, List, [], ◌∷◌, slice_get, slice_set, refl, sym, ap, ◌∙◌, arith}
use Rattle.std.proofs.lemmas.Bool.{ltb-true, ltb-false}
use Rattle.sim_model.specs.EventCore.declared.notifications.When.{When}
use Rattle.sim_model.specs.EventCore.declared.notifications.When.TheVariants as when
use Rattle.sim_model.specs.EventCore.declared.notifications.Pending.{Pending}
use Rattle.sim_model.specs.EventCore.declared.notifications.Pending.TheVariants as pending
use Rattle.sim_model.specs.EventCore.Notifications.{notified}
use Rattle.sim_model.specs.SimTime.declared.moments.Time.{Time}
use Rattle.sim_model.specs.Configuration.{change}
use Rattle.laws_order.specs.Acts.{IsLater}
use Rattle.laws_order.proofs.Lists.{cons-changed}

pub sets-commute : {A : Type 0} (xs : List A) (n m : ℕ) (y z : A) → m ≢ n → slice_set (slice_set xs n y) m z ≡ slice_set (slice_set xs m z) n y
sets-commute [] n m y z apart = refl
sets-commute (x ∷ xs) zero zero y z apart = absurd (apart refl)
sets-commute (x ∷ xs) zero (suc m) y z apart = refl
sets-commute (x ∷ xs) (suc n) zero y z apart = refl
sets-commute (x ∷ xs) (suc n) (suc m) y z apart = ap (λ ys. x ∷ ys) (sets-commute xs n m y z (λ e. apart (ap suc e)))

change_cons : {A : Type 0} (x : A) (xs : List A) (n : ℕ) (f : A → A) → change (x ∷ xs) (suc n) f ≡ x ∷ change xs n f
change_cons x xs n f = cons-changed x xs n f (slice_get xs n)

-- where both are of one element, the changes have to go together
pub changes-commute : {A : Type 0} (f g : A → A) (xs : List A) (n m : ℕ) → ((x : A) → m ≡ n → g (f x) ≡ f (g x)) → change (change xs n f) m g ≡ change (change xs m g) n f
changes-commute f g [] n m together = refl
changes-commute f g (x ∷ xs) zero zero together = ap (λ y. y ∷ xs) (together x refl)
changes-commute f g (x ∷ xs) zero (suc m) together = change_cons (f x) xs m g ∙ sym (ap (λ ys. change ys zero f) (change_cons x xs m g))
changes-commute f g (x ∷ xs) (suc n) zero together = ap (λ ys. change ys zero g) (change_cons x xs n f) ∙ sym (change_cons (g x) xs n f)
changes-commute f g (x ∷ xs) (suc n) (suc m) together =
    ap (λ ys. change ys (suc m) g) (change_cons x xs n f) ∙ change_cons x (change xs n f) m g ∙ ap (λ ys. x ∷ ys) (changes-commute f g xs n m (λ y e. together y (ap suc e)))
    ∙ sym (ap (λ ys. change ys (suc n) f) (change_cons x xs m g) ∙ change_cons x (change xs m g) n f)

-- ---- notifications for later: the earliest survives

earliest_of : (t u : Time) → notified (when.At t) (pending.At u) ≡ pending.At (record { 0 = min t.0 u.0 })
earliest_of t u = by (nat_lt t.0 u.0) refl
  where
    by : (b : Bool) → nat_lt t.0 u.0 ≡ b → cond b (pending.At t) (pending.At u) ≡ pending.At (record { 0 = min t.0 u.0 })
    by true is = let below = ltb-true t.0 u.0 is in ap (λ (n : ℕ). pending.At (record { 0 = n })) (omega (arith, below))
    by false is = let above = ltb-false t.0 u.0 is in ap (λ (n : ℕ). pending.At (record { 0 = n })) (omega (arith, above))

delta_first : (u : Time) → notified when.Delta (pending.At u) ≡ pending.Delta
delta_first u = refl

at_and_delta : (t : Time) (x : Pending) → notified (when.At t) (notified when.Delta x) ≡ notified when.Delta (notified (when.At t) x)
at_and_delta t pending.Nothing = refl
at_and_delta t pending.Delta = refl
at_and_delta t (pending.At u) = sym (ap (notified when.Delta) (earliest_of t u))

at_and_at : (t s : Time) (x : Pending) → notified (when.At s) (notified (when.At t) x) ≡ notified (when.At t) (notified (when.At s) x)
at_and_at t s pending.Nothing = earliest_of s t ∙ ap (λ (n : ℕ). pending.At (record { 0 = n })) (omega arith) ∙ sym (earliest_of t s)
at_and_at t s pending.Delta = refl
at_and_at t s (pending.At u) =
    ap (notified (when.At s)) (earliest_of t u) ∙ earliest_of s (record { 0 = min t.0 u.0 }) ∙ ap (λ (n : ℕ). pending.At (record { 0 = n })) (omega arith)
    ∙ sym (ap (notified (when.At t)) (earliest_of s u) ∙ earliest_of t (record { 0 = min s.0 u.0 }))

pub notified-commute : (v w : When) → IsLater v → IsLater w → (x : Pending) → notified w (notified v x) ≡ notified v (notified w x)
notified-commute when.Immediate w one two x = absurd one
notified-commute when.Delta when.Immediate one two x = absurd two
notified-commute (when.At t) when.Immediate one two x = absurd two
notified-commute when.Delta when.Delta one two x = refl
notified-commute when.Delta (when.At t) one two x = at_and_delta t x
notified-commute (when.At t) when.Delta one two x = sym (at_and_delta t x)
notified-commute (when.At t) (when.At s) one two x = at_and_at t s x
