-- Events and time-outs are made of wakes: whatever three moves keep, an event keeps.
use Rattle.std.proofs.Common.{◌≡◌, ◌||◌, ℕ, suc, Bool, true, false, cond, List, [], ◌∷◌, slice_get, Option, Some, None, refl, ◌∙◌, subst, ⊎_elim}
use Rattle.std.proofs.lemmas.Bool.{cases_eq}
use Rattle.sim_model.specs.EventCore.declared.event.Ev.{Ev}
use Rattle.sim_model.specs.Configuration.{Config, Instance, Wait, waits_for_nothing, waits_statically, waits_for_any, waits_for_all, change, change_instance, with_runnable, instance_at}
use Rattle.sim_model.specs.Waits.{is_among, struck, joined, freed, is_active, woken, wake_instance, wake, left_of_all, reaches, reach_instance, fire_each, fire, fire_all, wake_all}
use Rattle.laws_runs.specs.Moves.{joining, keeping, striking, made, MayWake, Moves, then}
use Rattle.laws_runs.proofs.MoveLists.{change-at, change-apart}

pub record WakesKeep (Q : Config → Type 0) : Type 0 where
  pub joins : (c : Config) (p : ℕ) (i : Instance) → MayWake c p i → i.suspended ≡ false → Q c → Q (made c (joining p))
  pub keeps : (c : Config) (p : ℕ) (i : Instance) → MayWake c p i → i.suspended ≡ true → Q c → Q (made c (keeping p))
  pub strikes : (c : Config) (p : ℕ) (es : List Ev) (i : Instance) (all : List Ev) → instance_at c p ≡ Some i → i.wait ≡ waits_for_all all → Q c → Q (made c (striking p es))

module _ (Q : Config → Type 0) (k : WakesKeep Q) where
  q_if : (b : Bool) (c d : Config) → Q c → Q d → Q (cond b c d)
  q_if true c d one two = one
  q_if false c d one two = two

  woken_if : (c : Config) (p : ℕ) (i : Instance) → MayWake c p i → Q c → (b : Bool) → i.suspended ≡ b
      → Q (cond b (change_instance c p (λ j. record (freed j) { kept = true })) (with_runnable (change_instance c p freed) (joined c.processes.runnable p)))
  woken_if c p i may h true is = k.keeps c p i may is h
  woken_if c p i may h false is = k.joins c p i may is h

  woken_unless : (c : Config) (p : ℕ) (i : Instance) → instance_at c p ≡ Some i → Q c → (a b d : Bool) → i.ended ≡ a → is_active c p ≡ b → i.disabled ≡ d → Q (cond ((a || b) || d) c (woken c p i))
  woken_unless c p i at h true b d over on off = h
  woken_unless c p i at h false true d over on off = h
  woken_unless c p i at h false false true over on off = h
  woken_unless c p i at h false false false over on off = woken_if c p i (record { at = at; lives = over; inactive = on; enabled = off }) h i.suspended refl

  wake_at : (c : Config) (p : ℕ) (o : Option Instance) → instance_at c p ≡ o → Q c → Q (wake_instance c p o)
  wake_at c p None at h = h
  wake_at c p (Some i) at h = woken_unless c p i at h i.ended (is_active c p) i.disabled refl refl refl

  pub wake-keeps : (c : Config) (p : ℕ) → Q c → Q (wake c p)
  wake-keeps c p h = wake_at c p (instance_at c p) refl h

  left_keeps : (c : Config) (p : ℕ) (i : Instance) (all es : List Ev) → instance_at c p ≡ Some i → i.wait ≡ waits_for_all all → Q c → Q (left_of_all c p es)
  left_keeps c p i all [] at is h = wake-keeps c p h
  left_keeps c p i all (e ∷ es) at is h = k.strikes c p (e ∷ es) i all at is h

  reaches_keeps : (c : Config) (e : Ev) (p : ℕ) (i : Instance) (w : Wait) → instance_at c p ≡ Some i → i.wait ≡ w → Q c → Q (reaches c e p i w)
  reaches_keeps c e p i waits_for_nothing at is h = h
  reaches_keeps c e p i waits_statically at is h = q_if (is_among e i.static) (wake c p) c (wake-keeps c p h) h
  reaches_keeps c e p i (waits_for_any es) at is h = q_if (is_among e es) (wake c p) c (wake-keeps c p h) h
  reaches_keeps c e p i (waits_for_all es) at is h = q_if (is_among e es) (left_of_all c p (struck e es)) c (left_keeps c p i es (struck e es) at is h) h

  reach_keeps : (c : Config) (e : Ev) (p : ℕ) (o : Option Instance) → instance_at c p ≡ o → Q c → Q (reach_instance c e p o)
  reach_keeps c e p None at h = h
  reach_keeps c e p (Some i) at h = q_if i.disabled c (reaches c e p i i.wait) h (reaches_keeps c e p i i.wait at refl h)

  fire_each_keeps : (e : Ev) (p : ℕ) (is : List Instance) (c : Config) → Q c → Q (fire_each e p is c)
  fire_each_keeps e p [] c h = h
  fire_each_keeps e p (i ∷ is) c h = fire_each_keeps e (suc p) is (reach_instance c e p (instance_at c p)) (reach_keeps c e p (instance_at c p) refl h)

  pub fire-keeps : (c : Config) (e : Ev) → Q c → Q (fire c e)
  fire-keeps c e h = fire_each_keeps e 0 c.processes.instances c h

  pub fire_all-keeps : (es : List Ev) (c : Config) → Q c → Q (fire_all es c)
  fire_all-keeps [] c h = h
  fire_all-keeps (e ∷ es) c h = fire_all-keeps es (fire c e) (fire-keeps c e h)

  pub wake_all-keeps : (ps : List ℕ) (c : Config) → Q c → Q (wake_all ps c)
  wake_all-keeps [] c h = h
  wake_all-keeps (p ∷ ps) c h = wake_all-keeps ps (wake c p) (wake-keeps c p h)

pub moves-wakes : (who : Option ℕ) (o : Config) → WakesKeep (Moves who o)
moves-wakes who o = record {
  joins = λ c p i may is h. then c (joining p) h (i, may, is);
  keeps = λ c p i may is h. then c (keeping p) h (i, may, is);
  strikes = λ c p es i all at is h. then c (striking p es) h (i, all, at, is);
}

-- ---- wakes move no stack, and of an instance neither its body nor whether it is suspended

pub record Twin (i j : Instance) : Type 0 where
  pub code : j.code ≡ i.code
  pub arguments : j.arguments ≡ i.arguments
  pub residual : j.residual ≡ i.residual
  pub started : j.started ≡ i.started
  pub suspended : j.suspended ≡ i.suspended

pub record Twins (c d : Config) : Type 0 where
  pub stack : d.processes.stack ≡ c.processes.stack
  pub twin : (q : ℕ) (i : Instance) → instance_at c q ≡ Some i → (j : Instance) × (instance_at d q ≡ Some j) × Twin i j

twin_too : (i j k : Instance) → Twin i j → Twin j k → Twin i k
twin_too i j k a b = record { code = b.code ∙ a.code; arguments = b.arguments ∙ a.arguments; residual = b.residual ∙ a.residual; started = b.started ∙ a.started; suspended = b.suspended ∙ a.suspended }

twin_self : (i : Instance) → Twin i i
twin_self i = record { code = refl; arguments = refl; residual = refl; started = refl; suspended = refl }

twin_changed : (is : List Instance) (p : ℕ) (f : Instance → Instance) → ((i : Instance) → Twin i (f i)) → (q : ℕ) (i : Instance) → slice_get is q ≡ Some i → (j : Instance) × (slice_get (change is p f) q ≡ Some j) × Twin i j
twin_changed is p f alike q i at = ⊎_elim
    (λ same. (f i, subst (λ n. slice_get (change is n f) q ≡ Some (f i)) same (change-at is q f i at), alike i))
    (λ apart. (i, change-apart is p q f apart ∙ at, twin_self i))
    (cases_eq q p)

twins_changed : (c d : Config) (runnable : List ℕ) (p : ℕ) (f : Instance → Instance) → ((i : Instance) → Twin i (f i)) → Twins c d → Twins c (with_runnable (change_instance d p f) runnable)
twins_changed c d runnable p f alike t = record {
  stack = t.stack;
  twin = λ q i at. let u = t.twin q i at in let v = twin_changed d.processes.instances p f alike q u.0 u.1 in (v.0, v.1, twin_too i u.0 v.0 u.2 v.2);
}

twins_keep : (c : Config) → WakesKeep (Twins c)
twins_keep c = record {
  joins = λ d p i may is h. twins_changed c d _ p freed (λ j. record { code = refl; arguments = refl; residual = refl; started = refl; suspended = refl }) h;
  keeps = λ d p i may is h. twins_changed c d d.processes.runnable p _ (λ j. record { code = refl; arguments = refl; residual = refl; started = refl; suspended = refl }) h;
  strikes = λ d p es i all at is h. twins_changed c d d.processes.runnable p _ (λ j. record { code = refl; arguments = refl; residual = refl; started = refl; suspended = refl }) h;
}

pub fire-twins : (c : Config) (e : Ev) → Twins c (fire c e)
fire-twins c e = fire-keeps (Twins c) (twins_keep c) c e (record { stack = refl; twin = λ q i at. (i, at, twin_self i) })
