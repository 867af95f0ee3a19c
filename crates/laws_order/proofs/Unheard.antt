-- An event for which nobody waits changes nothing when it fires.
use Rattle.std.proofs.Common.{◌≡◌, ℕ, zero, suc, Bool, true, false, cond, List, [], ◌∷◌, slice_get, Option, Some, None, refl, sym, ap, ◌∙◌, subst}
use Rattle.std.proofs.lemmas.Option.{none-some, same_Some}
use Rattle.sim_model.specs.EventCore.declared.event.Ev.{Ev}
use Rattle.sim_model.specs.Configuration.{Config, Instance, Wait, waits_for_nothing, waits_statically, waits_for_any, waits_for_all, instance_at, change}
use Rattle.sim_model.specs.Waits.{is_among, struck, wake, left_of_all, reaches, reach_instance, fire_each, fire}
use Rattle.laws_order.specs.Alongside.{heard, IsUnheard}
use Rattle.laws_order.proofs.Lists.{seen_changed, change-get}

module _ (e : Ev) (c : Config) where
  waiting_same : (p : ℕ) (i : Instance) (w : Wait) → is_among e (heard i w) ≡ false → reaches c e p i w ≡ c
  waiting_same p i waits_for_nothing deaf = refl
  waiting_same p i waits_statically deaf = ap (λ b. cond b (wake c p) c) deaf
  waiting_same p i (waits_for_any es) deaf = ap (λ b. cond b (wake c p) c) deaf
  waiting_same p i (waits_for_all es) deaf = ap (λ b. cond b (left_of_all c p (struck e es)) c) deaf

  unless_disabled : (b : Bool) (d : Config) → d ≡ c → cond b c d ≡ c
  unless_disabled true d same = refl
  unless_disabled false d same = same

  module _ (unheard : IsUnheard e c) where
    reached_same : (p : ℕ) (o : Option Instance) → instance_at c p ≡ o → reach_instance c e p o ≡ c
    reached_same p None at = refl
    reached_same p (Some i) at = unless_disabled i.disabled (reaches c e p i i.wait) (waiting_same p i i.wait (unheard p i at))

    each_same : (p : ℕ) (is : List Instance) → fire_each e p is c ≡ c
    each_same p [] = refl
    each_same p (i ∷ is) = ap (fire_each e (suc p) is) (reached_same p (instance_at c p) refl) ∙ each_same (suc p) is

    pub fire-unheard : fire c e ≡ c
    fire-unheard = each_same 0 c.processes.instances

-- what holds of each element holds after a change of one that keeps it
module _ {A : Type 0} (P : A → Type 0) (g : A → A) (keeps : (x : A) → P x → P (g x)) where
  seen_each : (n m : ℕ) (o : Option A) → ((x : A) → o ≡ Some x → P x) → (y : A) → seen_changed n m g o ≡ Some y → P y
  seen_each zero zero None h y is = absurd (none-some y is)
  seen_each zero zero (Some x) h y is = subst P (same_Some (g x) y is) (keeps x (h x refl))
  seen_each zero (suc m) o h y is = h y is
  seen_each (suc n) zero o h y is = h y is
  seen_each (suc n) (suc m) o h y is = seen_each n m o h y is

  pub change-each : (xs : List A) (n : ℕ) → ((m : ℕ) (x : A) → slice_get xs m ≡ Some x → P x) → (m : ℕ) (y : A) → slice_get (change xs n g) m ≡ Some y → P y
  change-each xs n h m y is = seen_each n m (slice_get xs m) (h m) y (sym (change-get xs n m g) ∙ is)
