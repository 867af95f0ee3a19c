-- An instance is suspended; and who is on top.
use Rattle.std.proofs.Common.{◌≡◌, ◌≢◌, ◌==◌, ◌||◌, ℕ, Bool, true, false, [], ◌∷◌, drop, reverse, Option, Some, None, refl, sym, ap, ◌∙◌, subst, true≢false, eqb-true, eq-eqb, ne_eqb}
use Rattle.std.specs.Prelude.{is_some, if◌then◌else◌}
use Rattle.std.proofs.lemmas.List.{reverse-append}
use Rattle.std.specs.FinMap as map
use Rattle.std.specs.FinSet as set
use Rattle.exec_data.specs.InstanceTable.declared.instances.Instance.{Instance as Entry}
use Rattle.exec_data.specs.SimModel.Configuration.{Config, Instance, change, change_instance, instance_at}
use Rattle.exec_data.specs.SimModel.Waits.{holds, without}
use Rattle.exec_data.specs.SimModel.Control.{top_of, is_top, yields, suspends}
use Rattle.exec_data.specs.KernelProcesses.InstanceViews.{is_on, bare}
use Rattle.exec_data.specs.KernelProcesses.Sound as schedules
use Rattle.exec_data.specs.KernelProcesses.Moves.{MovesOne}
use Rattle.exec_data.specs.KernelProcesses.declared.parts.Process.{Process}
use Rattle.exec_data.specs.KernelProcesses.declared.parts.Schedule.{Schedule}
use Rattle.exec_data.proofs.KernelProcesses.Sounding.{on_top}
use Rattle.exec_data.specs.KernelProcesses.Moved.{IsTop, same_stack, leaves_top, leaves_if, suspended_as}
use Rattle.exec_data.specs.KernelState.Kernel.{Shows, StandsFor, IsSound, whole_design}
use Rattle.exec_data.specs.KernelState.Moves.{MovesAt, Lives}
use Rattle.exec_data.specs.KernelState.declared.kernel.Kept.{Kept}
use Rattle.exec_data.specs.KernelState.declared.kernel.Kernel.{Kernel}
use Rattle.exec_data.proofs.KernelState.ProcessFrames.{Agrees, moved_with, stack_same, stack_left}
use Rattle.exec_data.proofs.KernelState.Frames.{change-twice, processes_move, schedule_sound, shown_where_lives}
use Rattle.exec_data.proofs.KernelState.Pushing.{lacks_itself, has_others}
use Rattle.exec_data.proofs.KernelState.Stacks.{on_top_is}

-- ---- who is on top

module _ (k : Kernel) (c : Config) (h : StandsFor k c) (q : ℕ) where
  pub other_top : (p : ℕ) → IsTop p k.schedule.stack.items → p ≢ q → is_top c q ≡ false
  other_top p top apart = ap (λ xs. holds (top_of xs) q) (h.processes.stack ∙ ap reverse top.1 ∙ reverse-append top.0 (p ∷ [])) ∙ ap (λ b. b || false) (ne_eqb p q apart)

  pub nobody_on_top : k.schedule.stack.items ≡ [] → is_top c q ≡ false
  nobody_on_top none = ap (λ xs. holds (top_of xs) q) (h.processes.stack ∙ ap reverse none)

  pub top_as : (p : ℕ) → IsTop p k.schedule.stack.items → (p == q) ≡ is_top c q
  top_as p top = by (p == q) refl
    where
      by : (b : Bool) → (p == q) ≡ b → (p == q) ≡ is_top c q
      by true is = is ∙ sym (on_top_is k c h q (subst (λ n. IsTop n k.schedule.stack.items) (eqb-true p q is) top))
      by false is = is ∙ sym (other_top p top (λ same. true≢false (sym (eq-eqb p q same) ∙ is)))

-- ---- it is suspended

or-all : (b : Bool) → (b || true) ≡ true
or-all true = refl
or-all false = refl

abbrev marked : Instance → Instance
marked j = record j { suspended = true }

abbrev held : Instance → Instance
held j = record j { suspended = true; kept = true }

module _ (k : Kernel) (p : ℕ) (sound : IsSound k) (lives : Lives k p) (s : Schedule Kept) where
  abbrev ready : Bool
  ready = set.contains k.schedule.ready.members p

  not_ready : IsTop p k.schedule.stack.items → ready ≡ false
  not_ready top = by (map.get k.schedule.table.live p) refl lives
    where
      by : (o : Option (Entry (Process Kept))) → map.get k.schedule.table.live p ≡ o → is_some o ≡ true → ready ≡ false
      by None none is = absurd (true≢false (sym is))
      by (Some z) some is = (sound.schedule.busy p z (ap (λ xs. is_on xs p) top.1 ∙ on_top top.0 p) some).ready

  held_agrees : (now : Bool) → now ≡ true → Agrees (Shows (whole_design k) k.program.now) (suspended_as now) held
  held_agrees now is = record { bares = λ i. sym (ap (λ b. record (bare i) { suspended = true; kept = b || i.kept }) is); ends = λ i. refl; shows = λ b i told. told }

  marked_agrees : (now : Bool) → now ≡ false → Agrees (Shows (whole_design k) k.program.now) (suspended_as now) marked
  marked_agrees now is = record { bares = λ i. sym (ap (λ b. record (bare i) { suspended = true; kept = b || i.kept }) is); ends = λ i. refl; shows = λ b i told. told }

  -- by whether it is runnable and whether it leaves the stack
  abbrev suspended_by : Bool → Bool → Config → Config
  suspended_by true y c = record c { processes = record c.processes { instances = change (change c.processes.instances p marked) p (λ j. record j { kept = true }); runnable = without c.processes.runnable p } }
  suspended_by false true c = record c { processes = record c.processes { instances = change (change c.processes.instances p marked) p (λ j. record j { kept = true }); stack = drop 1 c.processes.stack } }
  suspended_by false false c = change_instance c p marked

  as_suspended : (r y : Bool) (c : Config) (i : Instance) → holds c.processes.runnable p ≡ r → yields c p i ≡ y → suspends c p i ≡ suspended_by r y c
  as_suspended true y c i runs leaves = ap (λ b. if b then suspended_by true y c else if yields c p i then suspended_by false true c else change_instance c p marked) runs
  as_suspended false true c i runs leaves = ap (λ b. if b then suspended_by true true c else if yields c p i then suspended_by false true c else change_instance c p marked) runs
      ∙ ap (λ b. if b then suspended_by false true c else change_instance c p marked) leaves
  as_suspended false false c i runs leaves = ap (λ b. if b then suspended_by true true c else if yields c p i then suspended_by false true c else change_instance c p marked) runs
      ∙ ap (λ b. if b then suspended_by false true c else change_instance c p marked) leaves

  leaving : MovesOne p (suspended_as (ready || true)) false (leaves_top p) k.schedule s → IsTop p k.schedule.stack.items → (c : Config) → StandsFor k c → StandsFor (record k { schedule = s }) (suspended_by false true c)
  leaving m top c h = processes_move k c h s (suspended_by false true c).processes
      (moved_with (Shows (whole_design k) k.program.now) k.schedule s c.processes h.processes p (suspended_as (ready || true)) held (held_agrees (ready || true) (or-all ready)) false (leaves_top p) m (shown_where_lives k p lives)
      (suspended_by false true c).processes (change-twice c.processes.instances p marked (λ j. record j { kept = true }))
      (sym (h.processes.ready p) ∙ not_ready top) (λ q apart. refl) (stack_left (Shows (whole_design k) k.program.now) k.schedule s c.processes h.processes p m.stack))

  staying : (r : Bool) → ready ≡ r → MovesOne p (suspended_as (ready || false)) false same_stack k.schedule s → (c : Config) → StandsFor k c → StandsFor (record k { schedule = s }) (suspended_by r false c)
  staying true is m c h = processes_move k c h s (suspended_by true false c).processes
      (moved_with (Shows (whole_design k) k.program.now) k.schedule s c.processes h.processes p (suspended_as (ready || false)) held (held_agrees (ready || false) (ap (λ b. b || false) is)) false same_stack m (shown_where_lives k p lives)
      (suspended_by true false c).processes (change-twice c.processes.instances p marked (λ j. record j { kept = true }))
      (lacks_itself c.processes.runnable p) (λ q apart. has_others c.processes.runnable p q apart) (stack_same (Shows (whole_design k) k.program.now) k.schedule s c.processes h.processes m.stack))
  staying false is m c h = processes_move k c h s (suspended_by false false c).processes
      (moved_with (Shows (whole_design k) k.program.now) k.schedule s c.processes h.processes p (suspended_as (ready || false)) marked (marked_agrees (ready || false) (ap (λ b. b || false) is)) false same_stack m (shown_where_lives k p lives)
      (suspended_by false false c).processes refl
      (sym (h.processes.ready p) ∙ is) (λ q apart. refl) (stack_same (Shows (whole_design k) k.program.now) k.schedule s c.processes h.processes m.stack))

  pub suspended_moves : (y : Bool) → (y ≡ true → IsTop p k.schedule.stack.items) → MovesOne p (suspended_as (ready || y)) false (leaves_if y p) k.schedule s
      → ((c : Config) (i : Instance) → StandsFor k c → instance_at c p ≡ Some i → y ≡ yields c p i) → MovesAt k (record k { schedule = s }) p (λ c i. suspends c p i)
  suspended_moves true top m shown c i h there = subst (StandsFor (record k { schedule = s })) (sym (as_suspended false true c i (sym (h.processes.ready p) ∙ not_ready (top refl)) (sym (shown c i h there)))) (leaving m (top refl) c h)
  suspended_moves false top m shown c i h there = subst (StandsFor (record k { schedule = s })) (sym (as_suspended ready false c i (sym (h.processes.ready p)) (sym (shown c i h there)))) (staying ready refl m c h)

  pub suspended_sound : (y : Bool) → MovesOne p (suspended_as (ready || y)) false (leaves_if y p) k.schedule s → schedules.IsSound s → IsSound (record k { schedule = s })
  suspended_sound y m fine = schedule_sound k sound s fine m.bodies (ap (λ v. v.items) m.due) m.next
