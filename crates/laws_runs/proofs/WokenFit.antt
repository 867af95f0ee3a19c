-- Wakes and events: who is woken fits again, and what has ended stays as it is.
use Rattle.std.proofs.Common.{◌≡◌, ◌≢◌, ◌+◌, ℕ, Bool, true, false, cond, List, Some, refl, sym, ap, ◌∙◌, subst, arith, true≢false}
use Rattle.std.proofs.lemmas.Option.{same_Some}
use Rattle.sim_model.specs.EventCore.declared.event.Ev.{Ev}
use Rattle.sim_model.specs.Configuration.{Config, Instance, Processes, Wait, waits_for_nothing, waits_statically, waits_for_any, waits_for_all, change, change_instance, with_runnable, instance_at}
use Rattle.sim_model.specs.Waits.{joined, freed, is_active, fire}
use Rattle.sim_model.specs.Clean.{times}
use Rattle.laws_runs.proofs.WakeMoves.{WakesKeep, fire-keeps}
use Rattle.laws_runs.proofs.Times.{times-lacks, times-joined_here, times-joined_other}
use Rattle.laws_runs.proofs.Changes.{change-here, change-other}
use Rattle.laws_runs.proofs.InstancesFit.{Stands, AllFit, Moved, stands-at, never, nowhere-if, is-false, stands-nowhere, stands-kept, stands-free, moved-to, changed-move}

-- ---- a wake

joined-move : (ps : Processes) (p : ℕ) (f : Instance → Instance) → Moved p ps (record { runnable = joined ps.runnable p; stack = ps.stack; instances = change ps.instances p f; parents = ps.parents })
joined-move ps p f = record {
  others = λ q apart. change-other ps.instances p q f apart;
  runnable = λ q apart. let same = times-joined_other p q ps.runnable apart in omega (arith, same);
  active = λ q apart. omega arith;
}

module _ (c : Config) (p : ℕ) (i : Instance) (at : instance_at c p ≡ Some i) (lives : i.ended ≡ false) (inactive : is_active c p ≡ false) (fits : AllFit c.processes) where
  here : Stands i (times p c.processes.runnable) (times p c.processes.stack)
  here = stands-at c.processes p i at fits

  off_stack : times p c.processes.stack ≡ 0
  off_stack = times-lacks p c.processes.stack inactive

  pub woken-fits : (b : Bool) → i.suspended ≡ b
      → AllFit (cond b (change_instance c p (λ j. record (freed j) { kept = true })) (with_runnable (change_instance c p freed) (joined c.processes.runnable p))).processes
  woken-fits true e =
      moved-to p c.processes _ (record (freed i) { kept = true }) (changed-move c.processes p (λ j. record (freed j) { kept = true })) (change-here c.processes.instances p _ i at) fits
      (stands-kept (record (freed i) { kept = true }) (times p c.processes.runnable) (times p c.processes.stack) (let r = here.suspended e in omega (arith, r, off_stack)) lives e refl refl)
  woken-fits false e =
      moved-to p c.processes _ (freed i) (joined-move c.processes p freed) (change-here c.processes.instances p freed i at) fits
      (stands-free (freed i) (times p (joined c.processes.runnable p)) (times p c.processes.stack)
      (let few = times-joined_here p c.processes.runnable (let o = here.once in omega (arith, o)) in omega (arith, few, off_stack))
      (record { wait = refl; deadline = refl; kept = is-false i.kept (λ k. never i.suspended e (here.kept k)) })
      lives (never i.suspended e))

-- ---- an event

abbrev is_nothing : Wait → Bool
is_nothing waits_for_nothing = true
is_nothing waits_statically = false
is_nothing (waits_for_any es) = false
is_nothing (waits_for_all es) = false

-- one that waits stands nowhere, lives and is not kept
stands-waiting : (i j : Instance) (r s : ℕ) → (i.wait ≡ waits_for_nothing → ⊥) → j.ended ≡ i.ended → j.kept ≡ i.kept → Stands i r s → Stands j r s
stands-waiting i j r s waits ended kept h =
    stands-nowhere j r s (nowhere-if (r + s) (λ n. waits (h.free n).wait)) (ended ∙ is-false i.ended (λ e. waits (h.over e).wait)) (kept ∙ is-false i.kept (λ e. waits (h.no_wait e)))

for_all : (es : List Ev) (w : Wait) → w ≡ waits_for_all es → w ≡ waits_for_nothing → ⊥
for_all es w is none = true≢false (sym (ap is_nothing none) ∙ ap is_nothing is)

pub struck-fits : (c : Config) (p : ℕ) (es : List Ev) (i : Instance) (all : List Ev) → instance_at c p ≡ Some i → i.wait ≡ waits_for_all all → AllFit c.processes
    → AllFit (change_instance c p (λ j. record j { wait = waits_for_all es })).processes
struck-fits c p es i all at is fits =
    moved-to p c.processes _ (record i { wait = waits_for_all es }) (changed-move c.processes p (λ j. record j { wait = waits_for_all es })) (change-here c.processes.instances p _ i at) fits
    (stands-waiting i (record i { wait = waits_for_all es }) (times p c.processes.runnable) (times p c.processes.stack) (for_all all i.wait is) refl refl (stands-at c.processes p i at fits))

fits-wakes : WakesKeep (λ (c : Config). AllFit c.processes)
fits-wakes = record {
  joins = λ c p i k is fits. woken-fits c p i k.at k.lives k.inactive fits false is;
  keeps = λ c p i k is fits. woken-fits c p i k.at k.lives k.inactive fits true is;
  strikes = struck-fits;
}

pub fire-fits : (c : Config) (e : Ev) → AllFit c.processes → AllFit (fire c e).processes
fire-fits c e fits = fire-keeps (λ (d : Config). AllFit d.processes) fits-wakes c e fits

-- ---- what has ended

module _ (q : ℕ) (i : Instance) (over : i.ended ≡ true) (bare : i.wait ≡ waits_for_nothing) where
  abbrev Stays : Config → Type 0
  Stays c = instance_at c q ≡ Some i

  apart_by : (c : Config) (p : ℕ) (j : Instance) → instance_at c p ≡ Some j → (j ≡ i → ⊥) → Stays c → q ≢ p
  apart_by c p j at not h same = not (same_Some j i (sym at ∙ subst (λ n. instance_at c n ≡ Some i) same h))

  not_over : (j : Instance) → j.ended ≡ false → j ≡ i → ⊥
  not_over j lives same = true≢false (sym over ∙ sym (ap (λ (k : Instance). k.ended) same) ∙ lives)

  stays-wakes : WakesKeep Stays
  stays-wakes = record {
    joins = λ c p j k is h. change-other c.processes.instances p q freed (apart_by c p j k.at (not_over j k.lives) h) ∙ h;
    keeps = λ c p j k is h. change-other c.processes.instances p q _ (apart_by c p j k.at (not_over j k.lives) h) ∙ h;
    strikes = λ c p es j all at is h. change-other c.processes.instances p q _ (apart_by c p j at (λ same. for_all all i.wait (sym (ap (λ (k : Instance). k.wait) same) ∙ is) bare) h) ∙ h;
  }

  pub fire-ended : (c : Config) (e : Ev) → instance_at c q ≡ Some i → instance_at (fire c e) q ≡ Some i
  fire-ended c e h = fire-keeps Stays stays-wakes c e h
