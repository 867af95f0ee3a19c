-- Instances of a list wake one after another, and a second wake of one is nothing new.
use Rattle.std.proofs.Common.{◌≡◌, ◌&&◌, ◌||◌, ℕ, Bool, true, false, List, [], ◌∷◌, slice_get, Option, Some, None, option_map, refl, sym, ap, ◌∙◌, subst, eq-eqb, ne_eqb, ⊎_elim}
use Rattle.std.specs.Prelude.{if◌then◌else◌}
use Rattle.std.proofs.lemmas.Bool.{cases_eq}
use Rattle.kernel_state.specs.SimModel.Configuration.{Config, Instance}
use Rattle.kernel_state.specs.SimModel.Waits.{freed, holds, is_active, wake, wake_all}
use Rattle.kernel_state.specs.KernelProcesses.Woken.{if_there, is_deaf, roused, after_wake, joins, at_only, joins_only, Rouses}
use Rattle.kernel_state.proofs.KernelProcesses.Wakes.{wake_rouses}
use Rattle.kernel_state.specs.KernelProcesses.InstanceViews.{bare, is_on}
use Rattle.kernel_state.specs.KernelProcesses.Times.{those_on, those_join}
use Rattle.kernel_state.specs.Processes.{Beside, beside, Rests}
use Rattle.kernel_state.proofs.ProcessFrames.{Rousing, rousing_wake}

-- ---- a second wake is nothing new

roused_as : (i : Instance) (b : Bool) → i.suspended ≡ b → roused i ≡ (if b then record (freed i) { kept = true } else freed i)
roused_as i b is = ap (λ c. if c then record (freed i) { kept = true } else freed i) is

roused_again : (i : Instance) (b : Bool) → i.suspended ≡ b → roused (roused i) ≡ roused i
roused_again i true is = ap roused (roused_as i true is) ∙ roused_as (record (freed i) { kept = true }) true is ∙ sym (roused_as i true is)
roused_again i false is = ap roused (roused_as i false is) ∙ roused_as (freed i) false is ∙ sym (roused_as i false is)

-- whoever is roused is as deaf, and as much suspended, as before
roused_still : {A : Type 0} (h : Instance → A) → ((j : Instance) → h (record (freed j) { kept = true }) ≡ h j) → ((j : Instance) → h (freed j) ≡ h j) → (i : Instance) (b : Bool) → i.suspended ≡ b → h (roused i) ≡ h i
roused_still h held free i true is = ap h (roused_as i true is) ∙ held i
roused_still h held free i false is = ap h (roused_as i false is) ∙ free i

wake_again : (a : Bool) (i : Instance) (b : Bool) → is_deaf a i ≡ b → after_wake a (after_wake a i) ≡ after_wake a i
wake_again a i true is = ap (λ c. after_wake a (if c then i else roused i)) is
wake_again a i false is = ap (λ c. after_wake a (if c then i else roused i)) is
    ∙ ap (λ c. if c then roused i else roused (roused i)) (roused_still (is_deaf a) (λ j. refl) (λ j. refl) i i.suspended refl ∙ is) ∙ roused_again i i.suspended refl
    ∙ sym (ap (λ c. if c then i else roused i) is)

joins_still : (a : Bool) (i : Instance) (b : Bool) → is_deaf a i ≡ b → joins a (after_wake a i) ≡ joins a i
joins_still a i true is = ap (λ c. joins a (if c then i else roused i)) is
joins_still a i false is = ap (λ c. joins a (if c then i else roused i)) is ∙ roused_still (joins a) (λ j. refl) (λ j. refl) i i.suspended refl

-- ---- one first, and then those of a list

and_once : (a j : Bool) → (j || (a && j)) ≡ j
and_once true true = refl
and_once true false = refl
and_once false true = refl
and_once false false = refl

again_if : (b a : Bool) (i : Instance) → (if b then after_wake a (after_wake a i) else after_wake a i) ≡ after_wake a i
again_if true a i = wake_again a i (is_deaf a i) refl
again_if false a i = refl

module _ (p q : ℕ) (ps : List ℕ) (a : Bool) (i : Instance) where
  first_on : those_on ps after_wake q a (at_only p after_wake q a i) ≡ those_on (p ∷ ps) after_wake q a i
  first_on = ⊎_elim
      (λ same. ap (λ b. those_on ps after_wake q a (if b then after_wake a i else i)) (eq-eqb q p (sym same)) ∙ again_if (is_on ps q) a i
      ∙ sym (ap (λ b. if b || is_on ps q then after_wake a i else i) (eq-eqb p q same)))
      (λ apart. ap (λ b. those_on ps after_wake q a (if b then after_wake a i else i)) (ne_eqb q p (λ same. apart (sym same)))
      ∙ sym (ap (λ b. if b || is_on ps q then after_wake a i else i) (ne_eqb p q apart)))
      (cases_eq p q)

  first_joins : (joins_only p joins q a i || those_join ps joins q a (at_only p after_wake q a i)) ≡ those_join (p ∷ ps) joins q a i
  first_joins = ⊎_elim
      (λ same. ap (λ b. (b && joins a i) || those_join ps joins q a (if b then after_wake a i else i)) (eq-eqb q p (sym same))
      ∙ ap (λ b. joins a i || (is_on ps q && b)) (joins_still a i (is_deaf a i) refl) ∙ and_once (is_on ps q) (joins a i)
      ∙ sym (ap (λ b. (b || is_on ps q) && joins a i) (eq-eqb p q same)))
      (λ apart. ap (λ b. (b && joins a i) || those_join ps joins q a (if b then after_wake a i else i)) (ne_eqb q p (λ same. apart (sym same)))
      ∙ sym (ap (λ b. (b || is_on ps q) && joins a i) (ne_eqb p q apart)))
      (cases_eq p q)

first_shown : (p q : ℕ) (ps : List ℕ) (a : Bool) (o : Option Instance) → option_map (those_on ps after_wake q a) (option_map (at_only p after_wake q a) o) ≡ option_map (those_on (p ∷ ps) after_wake q a) o
first_shown p q ps a None = refl
first_shown p q ps a (Some i) = ap Some (first_on p q ps a i)

first_runs : (p q : ℕ) (ps : List ℕ) (a r : Bool) (o : Option Instance)
    → ((r || if_there (joins_only p joins q a) o) || if_there (those_join ps joins q a) (option_map (at_only p after_wake q a) o)) ≡ (r || if_there (those_join (p ∷ ps) joins q a) o)
first_runs p q ps a true None = refl
first_runs p q ps a false None = refl
first_runs p q ps a true (Some i) = refl
first_runs p q ps a false (Some i) = first_joins p q ps a i

nobody_moves : (o : Option Instance) (q : ℕ) (a : Bool) → o ≡ option_map (those_on [] after_wake q a) o
nobody_moves None q a = refl
nobody_moves (Some i) q a = refl

nobody_runs : (r : Bool) (o : Option Instance) (q : ℕ) (a : Bool) → r ≡ (r || if_there (those_join [] joins q a) o)
nobody_runs true o q a = refl
nobody_runs false None q a = refl
nobody_runs false (Some i) q a = refl

-- all of them together
pub wakes_all : (ps : List ℕ) (c : Config) → Rouses (those_on ps after_wake) (those_join ps joins) c (wake_all ps c)
wakes_all [] c = record {
  instances = λ q. nobody_moves (slice_get c.processes.instances q) q (is_active c q);
  runnable = λ q. nobody_runs (holds c.processes.runnable q) (slice_get c.processes.instances q) q (is_active c q);
  others = refl;
  serials = refl;
}
wakes_all (p ∷ ps) c =
    let r = wake_rouses c p in
    let s = wakes_all ps (wake c p) in
    let onto : Config → Config = λ d. record d { processes = record d.processes { runnable = (wake_all ps (wake c p)).processes.runnable; instances = (wake_all ps (wake c p)).processes.instances } } in
    let active : (q : ℕ) → is_active (wake c p) q ≡ is_active c q = λ q. ap (λ d. holds d.processes.stack q) r.others in
    record {
      instances = λ q. s.instances q ∙ ap (λ a. option_map (those_on ps after_wake q a) (slice_get (wake c p).processes.instances q)) (active q)
          ∙ ap (option_map (those_on ps after_wake q (is_active c q))) (r.instances q) ∙ first_shown p q ps (is_active c q) (slice_get c.processes.instances q);
      runnable = λ q. s.runnable q ∙ ap (λ a. holds (wake c p).processes.runnable q || if_there (those_join ps joins q a) (slice_get (wake c p).processes.instances q)) (active q)
          ∙ ap (λ o. holds (wake c p).processes.runnable q || if_there (those_join ps joins q (is_active c q)) o) (r.instances q)
          ∙ ap (λ b. b || if_there (those_join ps joins q (is_active c q)) (option_map (at_only p after_wake q (is_active c q)) (slice_get c.processes.instances q))) (r.runnable q)
          ∙ first_runs p q ps (is_active c q) (holds c.processes.runnable q) (slice_get c.processes.instances q);
      others = s.others ∙ ap onto r.others;
      serials = s.serials ∙ r.serials;
    }

-- only who stands in the list matters
pub wakes_same : (ps qs : List ℕ) → ((q : ℕ) → is_on ps q ≡ is_on qs q) → (c : Config) → Rouses (those_on qs after_wake) (those_join qs joins) c (wake_all ps c)
wakes_same ps qs same c =
    let r = wakes_all ps c in
    record {
      instances = λ q. r.instances q ∙ ap (λ b. option_map (λ (i : Instance). if b then after_wake (is_active c q) i else i) (slice_get c.processes.instances q)) (same q);
      runnable = λ q. r.runnable q ∙ ap (λ b. holds c.processes.runnable q || if_there (λ i. b && joins (is_active c q) i) (slice_get c.processes.instances q)) (same q);
      others = r.others;
      serials = r.serials;
    }

-- ---- what the wakes of a list keep

module _ {B : Type 0} (Shows : B → Beside → Type 0) (ps : List ℕ) where
  hit : (q : ℕ) (a : Bool) (i : Instance) → at_only q after_wake q a i ≡ after_wake a i
  hit q a i = ap (λ b. if b then after_wake a i else i) (eq-eqb q q refl)

  hit_joins : (q : ℕ) (a : Bool) (i : Instance) → joins_only q joins q a i ≡ joins a i
  hit_joins q a i = ap (λ b. b && joins a i) (eq-eqb q q refl)

  same_by : {A : Type 0} (h : Instance → A) (b : Bool) (q : ℕ) (a : Bool) (i : Instance) → h (at_only q after_wake q a i) ≡ h i → h (if b then after_wake a i else i) ≡ h i
  same_by h true q a i is = ap h (sym (hit q a i)) ∙ is
  same_by h false q a i is = refl

  bare_by : (b : Bool) (q : ℕ) (a : Bool) (i : Instance) → bare (if b then after_wake a i else i) ≡ (if b then after_wake a (bare i) else bare i)
  bare_by true q a i = ap bare (sym (hit q a i)) ∙ (rousing_wake Shows q).bares q a i ∙ hit q a (bare i)
  bare_by false q a i = refl

  over_by : (b : Bool) (q : ℕ) (a : Bool) (i : Instance) → i.ended ≡ true → Rests i → Rests (if b then after_wake a i else i)
  over_by true q a i ended rests = subst Rests (hit q a i) ((rousing_wake Shows q).over q a i ended rests)
  over_by false q a i ended rests = rests

  none_joins : (b : Bool) (q : ℕ) (a : Bool) (i : Instance) → i.ended ≡ true → (b && joins a i) ≡ false
  none_joins true q a i is = sym (hit_joins q a i) ∙ (rousing_wake Shows q).joins_no_ended q a i is
  none_joins false q a i is = refl

  pub rousing_those : Rousing Shows (those_on ps after_wake) (those_join ps joins)
  rousing_those = record {
    bares = λ q a i. bare_by (is_on ps q) q a i;
    ends = λ q a i. same_by (λ j. j.ended) (is_on ps q) q a i ((rousing_wake Shows q).ends q a i);
    besides = λ q a i. same_by beside (is_on ps q) q a i ((rousing_wake Shows q).besides q a i);
    joins = λ q a i. refl;
    over = λ q a i ended rests. over_by (is_on ps q) q a i ended rests;
    joins_no_ended = λ q a i is. none_joins (is_on ps q) q a i is;
  }
