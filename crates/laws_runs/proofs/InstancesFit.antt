-- What one instance has to be, by how often it stands in the runnable list and on the stack; and that instances keep to it
-- while one of them moves.
use Rattle.std.proofs.Common.{◌≡◌, ◌≢◌, ◌+◌, ◌<◌, ◌≤◌, ℕ, zero, suc, Bool, true, false, length, slice_get, Option, Some, None, refl, sym, ◌∙◌, subst, arith, true≢false, ⊎_elim}
use Rattle.std.proofs.lemmas.Bool.{cases_eq}
use Rattle.sim_model.specs.Residual.{skip}
use Rattle.sim_model.specs.Configuration.{Instance, Processes, waits_for_nothing, no_deadline, change}
use Rattle.sim_model.specs.Clean.{times, places, IsLive, IsFree, CleanProcesses}
use Rattle.laws_runs.proofs.Changes.{change-here, change-other, change-none}

-- an instance that stands r times in the runnable list and s times on the stack
pub record Stands (i : Instance) (r s : ℕ) : Type 0 where
  pub once : r + s ≤ 1
  pub free : 0 < r + s → IsFree i
  pub lives : 0 < r + s → i.ended ≡ false
  pub over : i.ended ≡ true → IsFree i
  pub left : i.ended ≡ true → i.residual ≡ skip
  pub kept : i.kept ≡ true → i.suspended ≡ true
  pub no_wait : i.kept ≡ true → i.wait ≡ waits_for_nothing
  pub no_time : i.kept ≡ true → i.deadline ≡ no_deadline
  pub suspended : i.suspended ≡ true → r ≡ 0

-- one that was not made stands nowhere
abbrev pub Fits : Option Instance → ℕ → ℕ → Type 0
Fits None r s = r + s ≡ 0
Fits (Some i) r s = Stands i r s

abbrev pub AllFit : Processes → Type 0
AllFit ps = (p : ℕ) → Fits (slice_get ps.instances p) (times p ps.runnable) (times p ps.stack)

-- ---- from there to the parts of a clean configuration

made_at : (ps : Processes) (p : ℕ) (o : Option Instance) → slice_get ps.instances p ≡ o → Fits o (times p ps.runnable) (times p ps.stack) → 0 < places ps p → IsLive ps p
made_at ps p None at fits stands = absurd (omega (arith, fits, stands))
made_at ps p (Some i) at fits stands = record { instance = i; made = at; lives = fits.lives stands }

once_at : (o : Option Instance) (r s : ℕ) → Fits o r s → r + s ≤ 1
once_at None r s fits = omega (arith, fits)
once_at (Some i) r s fits = fits.once

pub stands-at : (ps : Processes) (p : ℕ) (i : Instance) → slice_get ps.instances p ≡ Some i → AllFit ps → Stands i (times p ps.runnable) (times p ps.stack)
stands-at ps p i at fits = subst (λ o. Fits o (times p ps.runnable) (times p ps.stack)) at (fits p)

pub clean-from_fits : (ps : Processes) → AllFit ps → (length ps.parents ≡ length ps.instances) → ((p q : ℕ) → slice_get ps.parents p ≡ Some (Some q) → q < p) → CleanProcesses ps
clean-from_fits ps fits counted parents = record {
  live = λ p stands. made_at ps p (slice_get ps.instances p) refl (fits p) stands;
  over = λ p i at e. (stands-at ps p i at fits).over e;
  once = λ p. once_at (slice_get ps.instances p) (times p ps.runnable) (times p ps.stack) (fits p);
  free = λ p i at stands. (stands-at ps p i at fits).free stands;
  kept = λ p i at e. (stands-at ps p i at fits).kept e;
  suspended = λ p i at e. (stands-at ps p i at fits).suspended e;
  counted = counted;
  parents = parents;
  nothing_left = λ p i at e. (stands-at ps p i at fits).left e;
}

-- ---- one instance

pub never : {A : Type 0} (b : Bool) → b ≡ false → b ≡ true → A
never b isnt is = absurd (true≢false (sym is ∙ isnt))

pub nowhere-if : (n : ℕ) → (0 < n → ⊥) → n ≡ 0
nowhere-if zero h = refl
nowhere-if (suc n) h = absurd (h (omega arith))

pub is-false : (b : Bool) → (b ≡ true → ⊥) → b ≡ false
is-false true h = absurd (h refl)
is-false false h = refl

-- it stands there less often
pub fewer : (o : Option Instance) (r s t u : ℕ) → t ≤ r → u ≤ s → Fits o r s → Fits o t u
fewer None r s t u less fall h = omega (arith, less, fall, h)
fewer (Some i) r s t u less fall h = record {
  once = let o = h.once in omega (arith, less, fall, o);
  free = λ n. h.free (omega (arith, less, fall, n));
  lives = λ n. h.lives (omega (arith, less, fall, n));
  over = h.over;
  left = h.left;
  kept = h.kept;
  no_wait = h.no_wait;
  no_time = h.no_time;
  suspended = λ e. let z = h.suspended e in omega (arith, less, z);
}

-- another one that waits alike, has the same flags, and of which nothing is left where it has ended
pub record Alike (i j : Instance) : Type 0 where
  pub wait : j.wait ≡ i.wait
  pub deadline : j.deadline ≡ i.deadline
  pub kept : j.kept ≡ i.kept
  pub suspended : j.suspended ≡ i.suspended
  pub ended : j.ended ≡ i.ended
  pub left : i.ended ≡ true → i.residual ≡ skip → j.residual ≡ skip

free_alike : (i j : Instance) → Alike i j → IsFree i → IsFree j
free_alike i j a f = record { wait = a.wait ∙ f.wait; deadline = a.deadline ∙ f.deadline; kept = a.kept ∙ f.kept }

pub stands-alike : (i j : Instance) (r s : ℕ) → Alike i j → Stands i r s → Stands j r s
stands-alike i j r s a h = record {
  once = h.once;
  free = λ n. free_alike i j a (h.free n);
  lives = λ n. a.ended ∙ h.lives n;
  over = λ e. free_alike i j a (h.over (sym a.ended ∙ e));
  left = λ e. a.left (sym a.ended ∙ e) (h.left (sym a.ended ∙ e));
  kept = λ e. a.suspended ∙ h.kept (sym a.kept ∙ e);
  no_wait = λ e. a.wait ∙ h.no_wait (sym a.kept ∙ e);
  no_time = λ e. a.deadline ∙ h.no_time (sym a.kept ∙ e);
  suspended = λ e. h.suspended (sym a.suspended ∙ e);
}

-- one that stands nowhere: it lives and is not kept; it is suspended and free but for that; or it has ended
pub stands-nowhere : (j : Instance) (r s : ℕ) → r + s ≡ 0 → j.ended ≡ false → j.kept ≡ false → Stands j r s
stands-nowhere j r s none lives kept = record {
  once = omega (arith, none);
  free = λ n. absurd (omega (arith, none, n));
  lives = λ n. lives;
  over = never j.ended lives;
  left = never j.ended lives;
  kept = never j.kept kept;
  no_wait = never j.kept kept;
  no_time = never j.kept kept;
  suspended = λ e. omega (arith, none);
}

pub stands-kept : (j : Instance) (r s : ℕ) → r + s ≡ 0 → j.ended ≡ false → j.suspended ≡ true → j.wait ≡ waits_for_nothing → j.deadline ≡ no_deadline → Stands j r s
stands-kept j r s none lives suspended wait time = record {
  once = omega (arith, none);
  free = λ n. absurd (omega (arith, none, n));
  lives = λ n. lives;
  over = never j.ended lives;
  left = never j.ended lives;
  kept = λ e. suspended;
  no_wait = λ e. wait;
  no_time = λ e. time;
  suspended = λ e. omega (arith, none);
}

pub stands-over : (j : Instance) (r s : ℕ) → r + s ≡ 0 → IsFree j → j.residual ≡ skip → Stands j r s
stands-over j r s none free left = record {
  once = omega (arith, none);
  free = λ n. free;
  lives = λ n. absurd (omega (arith, none, n));
  over = λ e. free;
  left = λ e. left;
  kept = never j.kept free.kept;
  no_wait = λ e. free.wait;
  no_time = λ e. free.deadline;
  suspended = λ e. omega (arith, none);
}

-- one that is free and lives
pub stands-free : (j : Instance) (r s : ℕ) → r + s ≤ 1 → IsFree j → j.ended ≡ false → (j.suspended ≡ true → r ≡ 0) → Stands j r s
stands-free j r s few free lives suspended = record {
  once = few;
  free = λ n. free;
  lives = λ n. lives;
  over = λ e. free;
  left = never j.ended lives;
  kept = never j.kept free.kept;
  no_wait = λ e. free.wait;
  no_time = λ e. free.deadline;
  suspended = suspended;
}

-- ---- all instances, while one moves

pub record Moved (q : ℕ) (old new : Processes) : Type 0 where
  pub others : (p : ℕ) → p ≢ q → slice_get new.instances p ≡ slice_get old.instances p
  pub runnable : (p : ℕ) → p ≢ q → times p new.runnable ≤ times p old.runnable
  pub active : (p : ℕ) → p ≢ q → times p new.stack ≤ times p old.stack

pub moved-fits : (q : ℕ) (old new : Processes) → Moved q old new → AllFit old → Fits (slice_get new.instances q) (times q new.runnable) (times q new.stack) → AllFit new
moved-fits q old new m fits here p = ⊎_elim same other (cases_eq p q)
  where
    same : p ≡ q → Fits (slice_get new.instances p) (times p new.runnable) (times p new.stack)
    same e = subst (λ n. Fits (slice_get new.instances n) (times n new.runnable) (times n new.stack)) (sym e) here

    other : p ≢ q → Fits (slice_get new.instances p) (times p new.runnable) (times p new.stack)
    other apart =
        subst (λ o. Fits o (times p new.runnable) (times p new.stack)) (sym (m.others p apart))
        (fewer (slice_get old.instances p) (times p old.runnable) (times p old.stack) (times p new.runnable) (times p new.stack) (m.runnable p apart) (m.active p apart) (fits p))

pub moved-to : (q : ℕ) (old new : Processes) (j : Instance) → Moved q old new → slice_get new.instances q ≡ Some j → AllFit old → Stands j (times q new.runnable) (times q new.stack) → AllFit new
moved-to q old new j m at fits here = moved-fits q old new m fits (subst (λ o. Fits o (times q new.runnable) (times q new.stack)) (sym at) here)

-- the instance alone changes
pub changed-move : (ps : Processes) (q : ℕ) (f : Instance → Instance) → Moved q ps (record ps { instances = change ps.instances q f })
changed-move ps q f = record {
  others = λ p apart. change-other ps.instances q p f apart;
  runnable = λ p apart. omega arith;
  active = λ p apart. omega arith;
}

alike_at : (ps : Processes) (q : ℕ) (f : Instance → Instance) (o : Option Instance) → slice_get ps.instances q ≡ o → ((i : Instance) → slice_get ps.instances q ≡ Some i → Alike i (f i)) → AllFit ps → AllFit (record ps { instances = change ps.instances q f })
alike_at ps q f None at alike fits = subst (λ is. AllFit (record ps { instances = is })) (sym (change-none ps.instances q f at)) fits
alike_at ps q f (Some i) at alike fits =
    moved-to q ps (record ps { instances = change ps.instances q f }) (f i) (changed-move ps q f) (change-here ps.instances q f i at) fits
    (stands-alike i (f i) (times q ps.runnable) (times q ps.stack) (alike i at) (stands-at ps q i at fits))

pub alike-fits : (ps : Processes) (q : ℕ) (f : Instance → Instance) → ((i : Instance) → slice_get ps.instances q ≡ Some i → Alike i (f i)) → AllFit ps → AllFit (record ps { instances = change ps.instances q f })
alike-fits ps q f alike fits = alike_at ps q f (slice_get ps.instances q) refl alike fits
