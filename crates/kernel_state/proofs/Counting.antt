-- How many instances live, and what of them stays where one more does.
use Rattle.std.proofs.Common.{◌≡◌, ◌≢◌, ◌≤◌, ◌<◌, ◌+◌, ◌-◌, ◌⊎◌, inl, inr, not, ℕ, zero, suc, Bool, true, false, cond, List, [], ◌∷◌, length, slice_get, slice_set, Option, Some, None, option_map, Result, Ok, Err, refl, sym, ap, ◌∙◌, ⊎_elim, arith, true≢false}
use Rattle.std.specs.Prelude.{filter, is_some, unwrap_or, nat_lt, if◌then◌else◌}
use Rattle.std.specs.Ordering.{nat_cmp}
use Rattle.std.specs.FinMap as map
use Rattle.std.proofs.lemmas.Bool.{cases_eq, cases_lt, lt-ltb, le-ltb}
use Rattle.kernel_processes.proofs.NumberedSlots.MapLemmas.{same_gets, is_updated, len-updated, get-remove_same, get-remove_other}
use Rattle.kernel_processes.specs.InstanceTable.declared.TheConstants.{MAX_LIVE}
use Rattle.kernel_processes.specs.InstanceTable.declared.SpawnStop.{SpawnStop}
use Rattle.kernel_processes.specs.InstanceTable.declared.SpawnStop.TheVariants as spawn_stop
use Rattle.kernel_processes.specs.InstanceTable.declared.instances.Instance.{Instance as Entry}
use Rattle.kernel_processes.specs.FlatDesign.declared.faults.RunFault.{RunFault}
use Rattle.kernel_processes.specs.FlatDesign.declared.faults.RunFault.TheVariants as fault
use Rattle.kernel_processes.specs.SimModel.Residual.{Residual, settle}
use Rattle.kernel_processes.specs.SimModel.Configuration.{Config, Instance, changed_at, arena}
use Rattle.kernel_processes.specs.SimModel.Statements.{settled_in}
use Rattle.kernel_processes.specs.SimModel.Calls.{is_alive, may_spawn}
use Rattle.kernel_processes.specs.InstanceViews.{seen, shown_at, as_instance}
use Rattle.kernel_processes.specs.InstanceViews.{body_at as kept_at}
use Rattle.kernel_processes.specs.declared.parts.Process.{Process}
use Rattle.kernel_processes.specs.declared.parts.Schedule.{Schedule}
use Rattle.kernel_state.specs.Processes.{TellsBy, Tells}
use Rattle.kernel_state.specs.Kernel.{IsSound, Shows, StandsFor, whole_design}
use Rattle.kernel_state.specs.Moves.{Lives}
use Rattle.kernel_state.specs.declared.kernel.Kept.{Kept}
use Rattle.kernel_state.specs.declared.kernel.Kernel.{Kernel}
use Rattle.kernel_state.specs.Spawned.{AnswersMay}

-- ---- a map that has, from k on, one for each of these instances that lives, and none below

abbrev lives_in : Option Instance → Bool
lives_in None = false
lives_in (Some i) = not i.ended

live_step : (b : Bool) (i : Instance) (is : List Instance) (n m : ℕ) → b ≡ not i.ended → m ≡ length (filter is_alive is) → n ≡ cond b 1 0 + m → n ≡ length (filter is_alive (i ∷ is))
live_step true i is n m alive rest all =
    let one : 1 + length (filter is_alive is) ≡ length (i ∷ filter is_alive is) = omega arith in
    all ∙ ap (λ k. 1 + k) rest ∙ one ∙ ap (λ b. length (cond b (i ∷ filter is_alive is) (filter is_alive is))) alive
live_step false i is n m alive rest all =
    let none : 0 + length (filter is_alive is) ≡ length (filter is_alive is) = omega arith in
    all ∙ ap (λ k. 0 + k) rest ∙ none ∙ ap (λ b. length (cond b (i ∷ filter is_alive is) (filter is_alive is))) alive

nothing_there : {A : Type 0} (o : Option A) → is_some o ≡ false → o ≡ None
nothing_there None is = refl
nothing_there (Some a) is = absurd (true≢false is)

live_from : {X : Type 0} (is : List Instance) (k : ℕ) (m : map.FinMap nat_cmp X) → ((t : ℕ) → is_some (map.get m (k + t)) ≡ lives_in (slice_get is t)) → ((t : ℕ) → t < k → map.get m t ≡ None)
    → map.len m ≡ length (filter is_alive is)
live_from {X} [] k m from below = ap map.len (same_gets map.empty m (λ q. nowhere q (cases_lt q k) ∙ sym (map.get-empty nat_cmp q))) ∙ map.len-empty nat_cmp X
  where
    nowhere : (q : ℕ) → (q < k) ⊎ (k ≤ q) → map.get m q ≡ None
    nowhere q (inl before) = below q before
    nowhere q (inr after) = ap (map.get m) (let e : q ≡ k + (q - k) = omega arith in e) ∙ nothing_there (map.get m (k + (q - k))) (from (q - k))
live_from (i ∷ is) k m from below = live_step (is_some (map.get m k)) i is (map.len m) (map.len (map.remove m k))
    (ap (λ q. is_some (map.get m q)) (let e : k ≡ k + 0 = omega arith in e) ∙ from 0)
    (live_from is (k + 1) (map.remove m k)
    (λ t. ap is_some (get-remove_other m k (k + 1 + t) (omega arith)) ∙ ap (λ q. is_some (map.get m q)) (let e : k + 1 + t ≡ k + suc t = omega arith in e) ∙ from (suc t))
    (λ t before. ⊎_elim (λ same. get-remove_same m k t same) (λ apart. get-remove_other m k t apart ∙ below t (omega arith)) (cases_eq t k)))
    (ap map.len (is_updated (map.remove m k) m k (map.get m k) refl (λ q apart. sym (get-remove_other m k q apart)))
    ∙ len-updated (map.remove m k) k (map.get m k) (get-remove_same m k k refl))

-- ---- the table of a kernel

there_as : {A B : Type 0} (f : A → B) (o : Option A) → is_some (option_map f o) ≡ is_some o
there_as f None = refl
there_as f (Some a) = refl

module _ (k : Kernel) (c : Config) (h : StandsFor k c) where
  as_shown : (q : ℕ) → is_some (map.get k.schedule.table.live q) ≡ is_some (shown_at k.schedule q)
  as_shown q = sym (there_as (λ (z : Entry (Process Kept)). as_instance z (seen k.schedule q).wait) (map.get k.schedule.table.live q))

  alive_by : (q : ℕ) (e : Bool) (i : Instance) → TellsBy (Shows (whole_design k) k.program.now) e (shown_at k.schedule q) (kept_at k.schedule q) i → is_some (map.get k.schedule.table.live q) ≡ not e
  alive_by q true i tells = as_shown q ∙ ap is_some tells.0
  alive_by q false i tells = as_shown q ∙ ap is_some tells.shown

  alive_at : (q : ℕ) (o : Option Instance) → Tells (Shows (whole_design k) k.program.now) (shown_at k.schedule q) (kept_at k.schedule q) o → is_some (map.get k.schedule.table.live q) ≡ lives_in o
  alive_at q None none = as_shown q ∙ ap is_some none
  alive_at q (Some i) tells = alive_by q i.ended i tells

  live_counted : map.len k.schedule.table.live ≡ length (filter is_alive c.processes.instances)
  live_counted = live_from c.processes.instances 0 k.schedule.table.live
      (λ t. ap (λ q. is_some (map.get k.schedule.table.live q)) (let e : 0 + t ≡ t = omega arith in e) ∙ alive_at t (slice_get c.processes.instances t) (h.processes.each t))
      (λ t below. absurd (let no : ⊥ = omega arith in no))

  abbrev verdict : Bool → Result Unit RunFault
  verdict b = if b then Ok tt else Err fault.TooManyInstances

  pub few_live : map.len k.schedule.table.live < MAX_LIVE → may_spawn c ≡ Ok tt
  few_live few = ap verdict (ap (λ n. nat_lt n 65536) (sym live_counted) ∙ lt-ltb (map.len k.schedule.table.live) 65536 few)

  pub too_many_live : map.len k.schedule.table.live ≡ MAX_LIVE → may_spawn c ≡ Err fault.TooManyInstances
  too_many_live full = ap verdict (ap (λ n. nat_lt n 65536) (sym live_counted) ∙ le-ltb (map.len k.schedule.table.live) 65536 (omega arith))

  pub answers_stop : (s : SpawnStop) → (s ≡ spawn_stop.TooMany → map.len k.schedule.table.live ≡ MAX_LIVE) → AnswersMay (Err s) (may_spawn c)
  answers_stop spawn_stop.TooMany many = too_many_live (many refl)
  answers_stop spawn_stop.NoMemory many = tt

-- ---- what is left of a body does not tell whether its instance lives

cond_other : (b : Bool) (x y : Instance) (xs : List Instance) → length (cond b (x ∷ xs) xs) ≡ length (cond b (y ∷ xs) xs)
cond_other true x y xs = refl
cond_other false x y xs = refl

cond_longer : (b : Bool) (x : Instance) (xs ys : List Instance) → length xs ≡ length ys → length (cond b (x ∷ xs) xs) ≡ length (cond b (x ∷ ys) ys)
cond_longer true x xs ys same = ap suc same
cond_longer false x xs ys same = same

set_counts : (xs : List Instance) (p : ℕ) (x y : Instance) → slice_get xs p ≡ Some x → y.ended ≡ x.ended → length (filter is_alive (slice_set xs p y)) ≡ length (filter is_alive xs)
set_counts [] p x y at same = refl
set_counts (z ∷ xs) zero x y at same =
    ap (λ b. length (cond (not b) (y ∷ filter is_alive xs) (filter is_alive xs))) (same ∙ sym (ap (λ (o : Option Instance). (unwrap_or o x).ended) at))
    ∙ cond_other (not z.ended) y z (filter is_alive xs)
set_counts (z ∷ xs) (suc p) x y at same = cond_longer (not z.ended) z (filter is_alive (slice_set xs p y)) (filter is_alive xs) (set_counts xs p x y at same)

changed_counts : (xs : List Instance) (p : ℕ) (r : Residual) (o : Option Instance) → slice_get xs p ≡ o → length (filter is_alive (changed_at xs p (λ i. record i { residual = r }) o)) ≡ length (filter is_alive xs)
changed_counts xs p r None at = refl
changed_counts xs p r (Some i) at = set_counts xs p i (record i { residual = r }) at refl

pub settled_may : (c : Config) (p : ℕ) (r : Residual) → may_spawn (settled_in c p r) ≡ may_spawn c
settled_may c p r = ap (λ n. let b = nat_lt n 65536 in if b then Ok tt else Err fault.TooManyInstances) (changed_counts c.processes.instances p (settle (arena c) r) (slice_get c.processes.instances p) refl)

-- what lives has a serial below the next
pub others_stay : (k : Kernel) → IsSound k → (s : Schedule Kept) (n : ℕ) → n ≡ k.schedule.table.next → ((q : ℕ) → q ≢ n → kept_at s q ≡ kept_at k.schedule q) → (q : ℕ) → Lives k q → kept_at s q ≡ kept_at k.schedule q
others_stay k sound s n number stay q lives = stay q (λ same. let below = sound.schedule.below q lives in absurd (omega (arith, below, same, number)))
