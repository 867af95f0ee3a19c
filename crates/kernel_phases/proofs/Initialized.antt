-- Each process that is not left out becomes runnable.
use Rattle.std.proofs.Common.{◌≡◌, ◌≢◌, ◌≤◌, ◌==◌, ◌||◌, ℕ, zero, suc, Bool, true, false, List, [], ◌∷◌, ◌++◌, drop, length, slice_get, Option, Some, None, option_map, refl, sym, ap, ◌∙◌, subst, arith, true≢false, eq-eqb, ne_eqb, ⊎_elim}
use Rattle.std.specs.Prelude.{is_some, if◌then◌else◌}
use Rattle.std.proofs.lemmas.Bool.{cases_eq}
use Rattle.std.specs.FinMap as map
use Rattle.kernel_state.specs.InstanceTable.declared.instances.Instance.{Instance as Entry}
use Rattle.kernel_state.specs.FlatDesign.declared.design.ProcessPart.{ProcessPart}
use Rattle.kernel_state.specs.SimModel.Configuration.{Config, Instance, change, change_instance, with_runnable}
use Rattle.kernel_state.specs.SimModel.Waits.{holds, freed}
use Rattle.kernel_state.specs.SimModel.Phases.{initialize_each}
use Rattle.kernel_state.specs.KernelProcesses.Woken.{if_there}
use Rattle.kernel_state.specs.KernelProcesses.InstanceViews.{seen, shown_at, as_instance}
use Rattle.kernel_state.specs.KernelProcesses.Sound as schedules
use Rattle.kernel_state.specs.KernelProcesses.Moves.{MovesOne}
use Rattle.kernel_state.specs.KernelProcesses.declared.parts.Process.{Process}
use Rattle.kernel_state.specs.KernelProcesses.declared.parts.Schedule.{Schedule}
use Rattle.kernel_state.specs.KernelProcesses.Moved.{same_stack, is_suspended}
use Rattle.kernel_state.specs.Kernel.{Shows, StandsFor, IsSound, whole_design}
use Rattle.kernel_state.specs.Moves.{Moves, Lives, KeepsBodies}
use Rattle.kernel_state.specs.declared.kernel.Kept.{Kept}
use Rattle.kernel_state.specs.declared.kernel.Kernel.{Kernel}
use Rattle.kernel_state.proofs.ProcessFrames.{moved_with, stack_same}
use Rattle.kernel_state.proofs.Frames.{processes_move, shown_where_lives, schedule_sound}
use Rattle.kernel_phases.specs.Fresh.{IsFresh}

-- ---- the list of the runnable ones

holds_last : (ps : List ℕ) (p : ℕ) → holds (ps ++ p ∷ []) p ≡ true
holds_last [] p = ap (λ b. b || false) (eq-eqb p p refl)
holds_last (x ∷ ps) p = ap (λ b. (x == p) || b) (holds_last ps p) ∙ or-all (x == p)
  where
    or-all : (b : Bool) → (b || true) ≡ true
    or-all true = refl
    or-all false = refl

holds_other : (ps : List ℕ) (p q : ℕ) → q ≢ p → holds (ps ++ p ∷ []) q ≡ holds ps q
holds_other [] p q apart = ap (λ b. b || false) (ne_eqb p q (λ same. apart (sym same)))
holds_other (x ∷ ps) p q apart = ap (λ b. (x == q) || b) (holds_other ps p q apart)

drop_at : {A : Type 0} (xs : List A) (n : ℕ) (x : A) → slice_get xs n ≡ Some x → drop n xs ≡ x ∷ drop (suc n) xs
drop_at [] n x at = absurd (true≢false (sym (ap is_some at)))
drop_at (y ∷ xs) zero x at = ap (λ z. z ∷ xs) (ap (λ o. unwrap o y) at)
  where
    unwrap : {A : Type 0} → Option A → A → A
    unwrap None a = a
    unwrap (Some b) a = b
drop_at (y ∷ xs) (suc n) x at = drop_at xs n x at

-- ---- one process

module _ (k : Kernel) (p : ℕ) (s : Schedule Kept) (m : MovesOne p freed true same_stack k.schedule s) (lives : Lives k p) where
  runs_moves : Moves k (record k { schedule = s }) (λ c. with_runnable (change_instance c p freed) (c.processes.runnable ++ p ∷ []))
  runs_moves c h = processes_move k c h s (record c.processes { instances = change c.processes.instances p freed; runnable = c.processes.runnable ++ p ∷ [] })
      (moved_with (Shows (whole_design k) k.program.now) k.schedule s c.processes h.processes p freed freed (record { bares = λ i. refl; ends = λ i. refl; shows = λ b i told. told }) true same_stack m (shown_where_lives k p lives)
      (record c.processes { instances = change c.processes.instances p freed; runnable = c.processes.runnable ++ p ∷ [] }) refl
      (holds_last c.processes.runnable p) (λ q apart. holds_other c.processes.runnable p q apart)
      (stack_same (Shows (whole_design k) k.program.now) k.schedule s c.processes h.processes m.stack))

  -- who is there, and who is suspended, stays
  there_shown : (z : Schedule Kept) (q : ℕ) → map.contains_key z.table.live q ≡ is_some (shown_at z q)
  there_shown z q = by (map.get z.table.live q)
    where
      by : (o : Option (Entry (Process Kept))) → is_some o ≡ is_some (option_map (λ (x : Entry (Process Kept)). as_instance x (seen z q).wait) o)
      by None = refl
      by (Some x) = refl

  suspended_shown : (z : Schedule Kept) (q : ℕ) → is_suspended (map.get z.table.live q) ≡ if_there (λ i. i.suspended) (shown_at z q)
  suspended_shown z q = by (map.get z.table.live q)
    where
      by : (o : Option (Entry (Process Kept))) → is_suspended o ≡ if_there (λ i. i.suspended) (option_map (λ (x : Entry (Process Kept)). as_instance x (seen z q).wait) o)
      by None = refl
      by (Some x) = refl

  freed_there : (o : Option Instance) → is_some (option_map freed o) ≡ is_some o
  freed_there None = refl
  freed_there (Some i) = refl

  freed_suspended : (o : Option Instance) → if_there (λ i. i.suspended) (option_map freed o) ≡ if_there (λ i. i.suspended) o
  freed_suspended None = refl
  freed_suspended (Some i) = refl

  same_of : {A : Type 0} (h : Option Instance → A) → ((o : Option Instance) → h (option_map freed o) ≡ h o) → (q : ℕ) → h (shown_at s q) ≡ h (shown_at k.schedule q)
  same_of h same q = ⊎_elim
      (λ here. ap (λ n. h (shown_at s n)) here ∙ ap h m.here ∙ same (shown_at k.schedule p) ∙ ap (λ n. h (shown_at k.schedule n)) (sym here))
      (λ apart. ap h (m.others q apart))
      (cases_eq q p)

  runs_fresh : IsFresh k → IsFresh (record k { schedule = s })
  runs_fresh fresh = record {
    lives = λ q lt. there_shown s q ∙ same_of is_some freed_there q ∙ sym (there_shown k.schedule q) ∙ fresh.lives q lt;
    goes = λ q lt. suspended_shown s q ∙ same_of (if_there (λ i. i.suspended)) freed_suspended q ∙ sym (suspended_shown k.schedule q) ∙ fresh.goes q lt;
    nobody = m.stack ∙ fresh.nobody;
  }

-- ---- one after another

-- the processes before a number are done
pub record Initializes (n : ℕ) (old new : Kernel) : Type 0 where
  pub moves : (c : Config) → StandsFor old c → (d : Config) × (StandsFor new d × (initialize_each n (drop n old.design.processes) d ≡ initialize_each 0 old.design.processes c))
  pub kept : KeepsBodies old new
  pub events : new.events ≡ old.events
  pub made : new.made ≡ old.made
  pub sound : IsSound new
  pub fresh : IsFresh new

pub none_initialized : (k : Kernel) → IsSound k → IsFresh k → Initializes 0 k k
none_initialized k sound fresh = record {
  moves = λ c h. (c, (h, refl));
  kept = record { bodies = λ q. refl; program = refl; design = refl };
  events = refl;
  made = refl;
  sound = sound;
  fresh = fresh;
}

module _ (n : ℕ) (old k : Kernel) (so : Initializes n old k) (x : ProcessPart) (at : slice_get old.design.processes n ≡ Some x) where
  pub left_out : x.dont_initialize ≡ true → Initializes (suc n) old k
  left_out is = record {
    moves = λ c h.
        let done = so.moves c h in (
          done.0,
          (
            done.1.0,
            ap (λ b. if b then initialize_each (suc n) (drop (suc n) old.design.processes) done.0 else initialize_each (suc n) (drop (suc n) old.design.processes) (with_runnable (change_instance done.0 n freed) (done.0.processes.runnable ++ n ∷ []))) (sym is)
                ∙ ap (λ xs. initialize_each n xs done.0) (sym (drop_at old.design.processes n x at)) ∙ done.1.1,
          ),
        );
    kept = so.kept;
    events = so.events;
    made = so.made;
    sound = so.sound;
    fresh = so.fresh;
  }

  pub one_initialized : x.dont_initialize ≡ false → (s : Schedule Kept) → schedules.IsSound s → MovesOne n freed true same_stack k.schedule s → Lives k n → Initializes (suc n) old (record k { schedule = s })
  one_initialized is s fine m lives = record {
    moves = λ c h.
        let done = so.moves c h in (
          with_runnable (change_instance done.0 n freed) (done.0.processes.runnable ++ n ∷ []),
          (
            runs_moves k n s m lives done.0 done.1.0,
            ap (λ b. if b then initialize_each (suc n) (drop (suc n) old.design.processes) done.0 else initialize_each (suc n) (drop (suc n) old.design.processes) (with_runnable (change_instance done.0 n freed) (done.0.processes.runnable ++ n ∷ []))) (sym is)
                ∙ ap (λ xs. initialize_each n xs done.0) (sym (drop_at old.design.processes n x at)) ∙ done.1.1,
          ),
        );
    kept = record { bodies = λ q. m.bodies q ∙ so.kept.bodies q; program = so.kept.program; design = so.kept.design };
    events = so.events;
    made = so.made;
    sound = schedule_sound k so.sound s fine m.bodies (ap (λ v. v.items) m.due) m.next;
    fresh = runs_fresh k n s m lives so.fresh;
  }

-- there are no more
drop_all : {A : Type 0} (xs : List A) (n : ℕ) → length xs ≤ n → drop n xs ≡ []
drop_all [] zero le = refl
drop_all [] (suc n) le = refl
drop_all (x ∷ xs) zero le = absurd (omega (arith, le))
drop_all (x ∷ xs) (suc n) le = drop_all xs n (omega (arith, le))

pub all_initialized : (n : ℕ) (old new : Kernel) → Initializes n old new → length old.design.processes ≤ n → Moves old new (λ c. initialize_each 0 c.design.processes c)
all_initialized n old new so le c h =
    let done = so.moves c h in
    subst (StandsFor new) (sym (ap (λ xs. initialize_each n xs done.0) (drop_all old.design.processes n le)) ∙ done.1.1 ∙ ap (λ d. initialize_each 0 d.processes c) (sym h.design)) done.1.0
