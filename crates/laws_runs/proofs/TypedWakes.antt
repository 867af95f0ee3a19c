-- Wakes and events keep what is kept by flags, waits and the runnable list.
use Rattle.std.proofs.Common.{◌≡◌, ◌||◌, ℕ, suc, Bool, true, false, cond, List, [], ◌∷◌, Option, Some, None, refl}
use Rattle.sim_model.specs.EventCore.declared.event.Ev.{Ev}
use Rattle.sim_model.specs.Configuration.{Config, Instance, Wait, waits_for_nothing, waits_statically, waits_for_any, waits_for_all, change_instance, with_runnable, instance_at}
use Rattle.sim_model.specs.Waits.{is_among, struck, joined, freed, is_active, woken, wake_instance, wake, left_of_all, reaches, reach_instance, fire_each, fire, fire_all, wake_all}

-- another instance of the same body, in the same instance of a module, of which the same is left
pub record Alike (i j : Instance) : Type 0 where
  pub home : j.home ≡ i.home
  pub code : j.code ≡ i.code
  pub arguments : j.arguments ≡ i.arguments
  pub residual : j.residual ≡ i.residual

pub alike-itself : (i : Instance) → Alike i i
alike-itself i = record { home = refl; code = refl; arguments = refl; residual = refl }

module _ (P : Config → Type 0) (same : (c : Config) (q : ℕ) (f : Instance → Instance) → ((i : Instance) → Alike i (f i)) → P c → P (change_instance c q f)) (runs : (c : Config) (rs : List ℕ) → P c → P (with_runnable c rs)) where
  pub either-keeps : (b : Bool) (c d : Config) → P c → P d → P (cond b c d)
  either-keeps true c d one two = one
  either-keeps false c d one two = two

  woken_keeps : (c : Config) (p : ℕ) (i : Instance) → P c → P (woken c p i)
  woken_keeps c p i h =
      either-keeps i.suspended (change_instance c p (λ j. record (freed j) { kept = true })) (with_runnable (change_instance c p freed) (joined c.processes.runnable p))
      (same c p (λ j. record (freed j) { kept = true }) (λ j. record { home = refl; code = refl; arguments = refl; residual = refl }) h)
      (runs (change_instance c p freed) (joined c.processes.runnable p) (same c p freed (λ j. record { home = refl; code = refl; arguments = refl; residual = refl }) h))

  wake_keeps : (c : Config) (p : ℕ) (o : Option Instance) → P c → P (wake_instance c p o)
  wake_keeps c p None h = h
  wake_keeps c p (Some i) h = either-keeps ((i.ended || is_active c p) || i.disabled) c (woken c p i) h (woken_keeps c p i h)

  pub wake-keeps : (c : Config) (p : ℕ) → P c → P (wake c p)
  wake-keeps c p h = wake_keeps c p (instance_at c p) h

  left_keeps : (c : Config) (p : ℕ) (left : List Ev) → P c → P (left_of_all c p left)
  left_keeps c p [] h = wake-keeps c p h
  left_keeps c p (e ∷ left) h = same c p (λ j. record j { wait = waits_for_all (e ∷ left) }) (λ j. record { home = refl; code = refl; arguments = refl; residual = refl }) h

  reaches_keeps : (c : Config) (e : Ev) (p : ℕ) (i : Instance) (w : Wait) → P c → P (reaches c e p i w)
  reaches_keeps c e p i waits_for_nothing h = h
  reaches_keeps c e p i waits_statically h = either-keeps (is_among e i.static) (wake c p) c (wake-keeps c p h) h
  reaches_keeps c e p i (waits_for_any es) h = either-keeps (is_among e es) (wake c p) c (wake-keeps c p h) h
  reaches_keeps c e p i (waits_for_all es) h = either-keeps (is_among e es) (left_of_all c p (struck e es)) c (left_keeps c p (struck e es) h) h

  reach_keeps : (c : Config) (e : Ev) (p : ℕ) (o : Option Instance) → P c → P (reach_instance c e p o)
  reach_keeps c e p None h = h
  reach_keeps c e p (Some i) h = either-keeps i.disabled c (reaches c e p i i.wait) h (reaches_keeps c e p i i.wait h)

  fire_each_keeps : (e : Ev) (p : ℕ) (is : List Instance) (c : Config) → P c → P (fire_each e p is c)
  fire_each_keeps e p [] c h = h
  fire_each_keeps e p (i ∷ is) c h = fire_each_keeps e (suc p) is (reach_instance c e p (instance_at c p)) (reach_keeps c e p (instance_at c p) h)

  pub fire-keeps : (c : Config) (e : Ev) → P c → P (fire c e)
  fire-keeps c e h = fire_each_keeps e 0 c.processes.instances c h

  pub fire_all-keeps : (es : List Ev) (c : Config) → P c → P (fire_all es c)
  fire_all-keeps [] c h = h
  fire_all-keeps (e ∷ es) c h = fire_all-keeps es (fire c e) (fire-keeps c e h)

  pub wake_all-keeps : (ps : List ℕ) (c : Config) → P c → P (wake_all ps c)
  wake_all-keeps [] c h = h
  wake_all-keeps (p ∷ ps) c h = wake_all-keeps ps (wake c p) (wake-keeps c p h)
