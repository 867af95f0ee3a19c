-- An instance is controlled unless it has ended: it is resumed, disabled or enabled.
use Rattle.std.proofs.Common.{◌≡◌, ◌||◌, ℕ, Bool, true, false, [], ◌∷◌, ◌++◌, Option, Some, None, refl, sym, ap, ◌∙◌, subst, true≢false, ne_eqb}
use Rattle.std.specs.Prelude.{is_some, if◌then◌else◌, Result, Ok}
use Rattle.std.specs.FinMap as map
use Rattle.std.specs.FinSet as set
use Rattle.exec_data.specs.InstanceTable.declared.instances.Instance.{Instance as Entry}
use Rattle.flat_design.specs.declared.faults.RunFault.{RunFault}
use Rattle.exec_data.specs.SimModel.Configuration.{Config, Instance, change, instance_at}
use Rattle.exec_data.specs.SimModel.Waits.{holds}
use Rattle.exec_data.specs.SimModel.Control.{resumes, unless_ended}
use Rattle.exec_data.specs.KernelProcesses.Sound as schedules
use Rattle.exec_data.specs.KernelProcesses.Moves.{MovesOne, is_kept}
use Rattle.exec_data.specs.KernelProcesses.declared.parts.Process.{Process}
use Rattle.exec_data.specs.KernelProcesses.declared.parts.Schedule.{Schedule}
use Rattle.exec_data.proofs.KernelProcesses.Sounding.{on_last, on_top}
use Rattle.exec_data.specs.KernelProcesses.Moved.{same_stack, resumed_as}
use Rattle.exec_data.specs.KernelState.Kernel.{Shows, StandsFor, IsSound, whole_design}
use Rattle.exec_data.specs.KernelState.Moves.{MovesAt, Follows, Lives}
use Rattle.exec_data.specs.KernelState.declared.kernel.Kept.{Kept}
use Rattle.exec_data.specs.KernelState.declared.kernel.Kernel.{Kernel}
use Rattle.exec_data.proofs.KernelState.ProcessFrames.{Agrees, moved_with, stack_same}
use Rattle.exec_data.proofs.KernelState.Frames.{processes_move, schedule_sound, shown_where_lives}
use Rattle.exec_data.proofs.KernelState.Ending.{alive_in, over_in, follows_as}
use Rattle.exec_control.proofs.OneInstance.{entry_at}

-- ---- unless it has ended

module _ (k : Kernel) (c : Config) (h : StandsFor k c) (q : ℕ) where
  pub follows_alive : Lives k q → (l : Kernel) (f : Instance → Config) → ((i : Instance) → instance_at c q ≡ Some i → StandsFor l (f i)) → Follows l (Ok tt) c (unless_ended c (instance_at c q) (λ i. Ok (f i)))
  follows_alive lives l f stands =
      let alive = alive_in k c h q lives in
      follows_as l c (Ok tt) (unless_ended c (instance_at c q) (λ i. Ok (f i))) (Ok (f alive.0))
      (ap (λ o. unless_ended c o (λ i. Ok (f i))) alive.1.0 ∙ ap (λ b. if b then Ok c else Ok (f alive.0)) alive.1.1) (stands alive.0 alive.1.0)

  pub follows_over : map.contains_key k.schedule.table.live q ≡ false → (f : Instance → Result Config RunFault) → Follows k (Ok tt) c (unless_ended c (instance_at c q) f)
  follows_over none f = follows_as k c (Ok tt) (unless_ended c (instance_at c q) f) (Ok c) (over_in k c h q none f) h

-- ---- it is resumed

or-nothing : (b : Bool) → (b || false) ≡ b
or-nothing true = refl
or-nothing false = refl

or-all : (b : Bool) → (b || true) ≡ true
or-all true = refl
or-all false = refl

module _ (k : Kernel) (p : ℕ) (lives : Lives k p) where
  kept_is : (c : Config) (i : Instance) → StandsFor k c → instance_at c p ≡ Some i → is_kept (map.get k.schedule.table.live p) ≡ i.kept
  kept_is c i h there = by (map.get k.schedule.table.live p) refl lives
    where
      by : (o : Option (Entry (Process Kept))) → map.get k.schedule.table.live p ≡ o → is_some o ≡ true → is_kept (map.get k.schedule.table.live p) ≡ i.kept
      by None none is = absurd (true≢false (sym is))
      by (Some x) at is = ap is_kept at ∙ ap (λ j. j.kept) (entry_at k p x at c i h there)

  module _ (s : Schedule Kept) (m : MovesOne p resumed_as (set.contains k.schedule.ready.members p || is_kept (map.get k.schedule.table.live p)) same_stack k.schedule s) where
    pub resumed_sound : IsSound k → schedules.IsSound s → IsSound (record k { schedule = s })
    resumed_sound sound fine = schedule_sound k sound s fine m.bodies (ap (λ v. v.items) m.due) m.next

    agrees : Agrees (Shows (whole_design k) k.program.now) resumed_as resumed_as
    agrees = record { bares = λ i. refl; ends = λ i. refl; shows = λ b i told. told }

    resumed_by : (kept : Bool) (c : Config) (i : Instance) → StandsFor k c → is_kept (map.get k.schedule.table.live p) ≡ kept → i.kept ≡ kept → StandsFor (record k { schedule = s }) (resumes c p i)
    resumed_by true c i h was is =
        subst (λ b. StandsFor (record k { schedule = s }) (if b then record c { processes = record c.processes { instances = change c.processes.instances p resumed_as; runnable = c.processes.runnable ++ p ∷ [] } } else record c { processes = record c.processes { instances = change c.processes.instances p resumed_as } })) (sym is)
        (processes_move k c h s (record c.processes { instances = change c.processes.instances p resumed_as; runnable = c.processes.runnable ++ p ∷ [] })
        (moved_with (Shows (whole_design k) k.program.now) k.schedule s c.processes h.processes p resumed_as resumed_as agrees
        (set.contains k.schedule.ready.members p || is_kept (map.get k.schedule.table.live p)) same_stack m (shown_where_lives k p lives)
        (record c.processes { instances = change c.processes.instances p resumed_as; runnable = c.processes.runnable ++ p ∷ [] }) refl
        (on_top c.processes.runnable p ∙ sym (ap (λ b. set.contains k.schedule.ready.members p || b) was ∙ or-all (set.contains k.schedule.ready.members p)))
        (λ q apart. on_last c.processes.runnable p q ∙ ap (λ b. holds c.processes.runnable q || b) (ne_eqb p q (λ same. apart (sym same))) ∙ or-nothing (holds c.processes.runnable q))
        (stack_same (Shows (whole_design k) k.program.now) k.schedule s c.processes h.processes m.stack)))
    resumed_by false c i h was is =
        subst (λ b. StandsFor (record k { schedule = s }) (if b then record c { processes = record c.processes { instances = change c.processes.instances p resumed_as; runnable = c.processes.runnable ++ p ∷ [] } } else record c { processes = record c.processes { instances = change c.processes.instances p resumed_as } })) (sym is)
        (processes_move k c h s (record c.processes { instances = change c.processes.instances p resumed_as })
        (moved_with (Shows (whole_design k) k.program.now) k.schedule s c.processes h.processes p resumed_as resumed_as agrees
        (set.contains k.schedule.ready.members p || is_kept (map.get k.schedule.table.live p)) same_stack m (shown_where_lives k p lives)
        (record c.processes { instances = change c.processes.instances p resumed_as }) refl
        (sym (h.processes.ready p) ∙ sym (ap (λ b. set.contains k.schedule.ready.members p || b) was ∙ or-nothing (set.contains k.schedule.ready.members p))) (λ q apart. refl)
        (stack_same (Shows (whole_design k) k.program.now) k.schedule s c.processes h.processes m.stack)))

    pub resumed_moves : MovesAt k (record k { schedule = s }) p (λ c i. resumes c p i)
    resumed_moves c i h there = resumed_by i.kept c i h (kept_is c i h there) refl
