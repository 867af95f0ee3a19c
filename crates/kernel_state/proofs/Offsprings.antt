-- A new instance, and what the kernel stands for with it.
use Rattle.std.proofs.Common.{◌≡◌, ◌≢◌, ◌≤◌, ◌<◌, ◌+◌, ◌^◌, ◌==◌, ◌||◌, not, ℕ, Bool, true, false, List, [], ◌∷◌, ◌++◌, length, slice_get, Option, Some, None, option_map, refl, sym, ap, ◌∙◌, subst, arith, true≢false, ⊎_elim, ne_eqb}
use Rattle.std.specs.Prelude.{is_some, if◌then◌else◌}
use Rattle.std.proofs.lemmas.Bool.{cases_eq}
use Rattle.std.specs.Global.{Vec}
use Rattle.std.specs.FinMap as map
use Rattle.std.specs.FinSet as set
use Rattle.kernel_processes.specs.InstanceTable.declared.instances.Instance.{Instance as Entry}
use Rattle.kernel_processes.specs.SimModel.Residual.{skip}
use Rattle.kernel_processes.specs.SimModel.Configuration.{Config, Instance, Processes}
use Rattle.kernel_processes.specs.SimModel.Waits.{holds}
use Rattle.kernel_processes.specs.SimModel.Calls.{added, runnable_unless}
use Rattle.process_bodies.specs.Bodies as bodies
use Rattle.process_bodies.specs.Bodies.{left_in}
use Rattle.process_bodies.specs.declared.body.Body.{Body}
use Rattle.kernel_processes.specs.InstanceViews.{seen, is_on, shown_at, as_instance}
use Rattle.kernel_processes.specs.InstanceViews.{body_at as kept_at}
use Rattle.kernel_processes.specs.Sound as schedules
use Rattle.kernel_processes.specs.declared.parts.Process.{Process}
use Rattle.kernel_processes.specs.declared.parts.Schedule.{Schedule}
use Rattle.kernel_processes.proofs.Sounding.{on_last, on_top}
use Rattle.kernel_processes.specs.Moved.{Spawns, Stays, spawned_as}
use Rattle.kernel_state.specs.Processes.{beside, StandsForProcesses}
use Rattle.kernel_state.specs.Kernel.{Shows, StandsFor, IsSound, whole_design, path_in}
use Rattle.kernel_state.specs.Moves.{Moves}
use Rattle.kernel_state.specs.Spawned.{offspring_in, with_offspring}
use Rattle.kernel_state.specs.declared.kernel.PathOf.TheVariants as path_by
use Rattle.kernel_state.specs.declared.kernel.Kept.{Kept}
use Rattle.kernel_state.specs.declared.kernel.Kernel.{Kernel}
use Rattle.kernel_state.specs.declared.kernel.Offspring.{Offspring}
use Rattle.kernel_state.proofs.ProcessFrames.{spawned_stands, stays}
use Rattle.kernel_state.proofs.Frames.{processes_move, parents_move, within_more}

or-nothing : (b : Bool) → (b || false) ≡ b
or-nothing true = refl
or-nothing false = refl

-- a kernel that made one number more stands for the same
pub made_moves : (k : Kernel) (n : ℕ) (c : Config) → StandsFor k c → StandsFor (record k { made = n }) c
made_moves k n c h = record {
  design = h.design;
  cycle = h.cycle;
  processes = h.processes;
  parents = h.parents;
  events = h.events;
  channels = h.channels;
  transactions = h.transactions;
  quantum = h.quantum;
  variables = h.variables;
  memories = h.memories;
}

abbrev given : Option Kept → Kept → Kept
given None x = x
given (Some x) y = x

-- the runnable list with the new one, or without
abbrev with_runs_of : ℕ → Bool → List ℕ → List ℕ
with_runs_of n true rs = rs
with_runs_of n false rs = rs ++ n ∷ []

module _ (k : Kernel) (sound : IsSound k) (o : Offspring) (n : ℕ) (b : Body) (s : Schedule Kept) (fine : schedules.IsSound s)
    (same_code : b.calls.code ≡ o.code) (same_arguments : b.calls.arguments.items ≡ o.arguments.items) (nothing_left : left_in k.program.now b ≡ skip) (body_fine : bodies.IsSound k.program.now b)
    (spawns : Spawns n (spawned_as o.kind o.sensitive o.waits) (record { home = o.home; path = path_by.Spawned n; body = b; trigger = None }) (not o.waits) k.schedule s) where
  nobody_ready : set.contains k.schedule.ready.members n ≡ false
  nobody_ready = by (map.get k.schedule.table.live n) refl
    where
      by : (e : Option (Entry (Process Kept))) → map.get k.schedule.table.live n ≡ e → set.contains k.schedule.ready.members n ≡ false
      by None none = (subst (λ e. schedules.FitsAs e (seen k.schedule n)) none (sound.schedule.each n)).ready
      by (Some x) some = absurd (let lt = sound.schedule.below n (ap is_some some) in let same = spawns.number in omega (arith, lt, same))

  pub number_is : (c : Config) → StandsFor k c → n ≡ length c.processes.instances
  number_is c h = spawns.number ∙ h.processes.next

  shows : Shows (whole_design k) k.program.now (record { home = o.home; path = path_by.Spawned n; body = b; trigger = None }) (beside (offspring_in (whole_design k) n o))
  shows = record {
    home = refl;
    path = ap (λ f. path_in (whole_design k) o.home f (path_by.Spawned n)) (sym same_code);
    code = sym same_code;
    arguments = sym same_arguments;
    residual = sym nothing_left;
    trigger = refl;
  }

  runs_by : (w : Bool) (c : Config) → set.contains k.schedule.ready.members n ≡ holds c.processes.runnable n → holds (with_runs_of n w c.processes.runnable) n ≡ not w
  runs_by true c same = sym same ∙ nobody_ready
  runs_by false c same = on_top c.processes.runnable n

  others_by : (w : Bool) (c : Config) (q : ℕ) → q ≢ n → holds (with_runs_of n w c.processes.runnable) q ≡ holds c.processes.runnable q
  others_by true c q apart = refl
  others_by false c q apart = on_last c.processes.runnable n q ∙ ap (λ x. holds c.processes.runnable q || x) (ne_eqb n q (λ same. apart (sym same))) ∙ or-nothing (holds c.processes.runnable q)

  -- the configuration with the new instance, by whether it is runnable
  offspring_as : (w : Bool) (c : Config) → o.waits ≡ w → with_offspring c n o ≡ record c { processes = record c.processes { runnable = with_runs_of n w c.processes.runnable; instances = c.processes.instances ++ offspring_in c.design n o ∷ []; parents = c.processes.parents ++ slice_get c.processes.stack 0 ∷ [] } }
  offspring_as true c is = ap (λ w. runnable_unless w n (added c (offspring_in c.design n o))) is
  offspring_as false c is = ap (λ w. runnable_unless w n (added c (offspring_in c.design n o))) is

  -- the parents have the new one's at their end
  module _ (ps : Vec (Option ℕ)) (parent : Option ℕ) (more : ps.items ≡ k.parents.items ++ parent ∷ []) (top : (c : Config) → StandsFor k c → parent ≡ slice_get c.processes.stack 0) where
    abbrev pub more_parents : Kernel
    more_parents = record k { schedule = s; parents = ps }

    parents_are : (c : Config) → StandsFor k c → ps.items ≡ c.processes.parents ++ slice_get c.processes.stack 0 ∷ []
    parents_are c h = more ∙ ap (λ xs. xs ++ parent ∷ []) (sym h.parents) ∙ ap (λ x. c.processes.parents ++ x ∷ []) (top c h)

    pub spawned_moves : Moves k more_parents (λ c. with_offspring c n o)
    spawned_moves c h = subst (StandsFor more_parents) (sym (offspring_as o.waits c refl))
        (subst (λ xs. StandsFor more_parents (record c { processes = record c.processes { runnable = with_runs_of n o.waits c.processes.runnable; instances = c.processes.instances ++ offspring_in c.design n o ∷ []; parents = xs } })) (parents_are c h)
        (parents_move (record k { schedule = s }) (record c { processes = record c.processes { runnable = with_runs_of n o.waits c.processes.runnable; instances = c.processes.instances ++ offspring_in c.design n o ∷ [] } })
        (processes_move k c h s (record c.processes { runnable = with_runs_of n o.waits c.processes.runnable; instances = c.processes.instances ++ offspring_in c.design n o ∷ [] })
        (subst (λ d. StandsForProcesses (Shows (whole_design k) k.program.now) s (record c.processes { runnable = with_runs_of n o.waits c.processes.runnable; instances = c.processes.instances ++ offspring_in d n o ∷ [] })) (sym h.design)
        (spawned_stands (Shows (whole_design k) k.program.now) k.schedule s c.processes h.processes n (spawned_as o.kind o.sensitive o.waits) (offspring_in (whole_design k) n o)
        (record { home = o.home; path = path_by.Spawned n; body = b; trigger = None }) (not o.waits) spawns refl refl shows
        (record c.processes { runnable = with_runs_of n o.waits c.processes.runnable; instances = c.processes.instances ++ offspring_in (whole_design k) n o ∷ [] })
        refl (runs_by o.waits c (h.processes.ready n)) (others_by o.waits c) refl))) ps))

  pub spawned_sound : (ps : Vec (Option ℕ)) → IsSound (record k { schedule = s; parents = ps; made = k.made + 1 })
  spawned_sound ps = record {
    schedule = fine;
    bodies = λ q other found. ⊎_elim
        (λ same. subst (λ v. bodies.IsSound k.program.now v.body) (ap (λ e. given e (record { home = o.home; path = path_by.Spawned n; body = b; trigger = None })) (sym spawns.body ∙ ap (kept_at s) (sym same) ∙ found)) body_fine)
        (λ apart. sound.bodies q other (sym (spawns.bodies q apart) ∙ found))
        (cases_eq q n);
    nobody_due = spawns.due ∙ sound.nobody_due;
    serials = let next = spawns.next in let old = sound.serials in omega (arith, next, old);
    payloads = within_more k.made (k.made + 1) k.transactions (omega arith) sound.payloads;
  }

-- ---- room for one more parent, where nobody is spawned

module _ (k : Kernel) (ps : Vec (Option ℕ)) where
  pub room_sound : IsSound k → IsSound (record k { parents = ps })
  room_sound sound = record {
    schedule = sound.schedule;
    bodies = sound.bodies;
    nobody_due = sound.nobody_due;
    serials = sound.serials;
    payloads = sound.payloads;
  }

  module _ (same : ps.items ≡ k.parents.items) where
    pub room_stays : Moves k (record k { parents = ps }) (λ c. c)
    room_stays c h = record {
      design = h.design;
      cycle = h.cycle;
      processes = h.processes;
      parents = h.parents ∙ sym same;
      events = h.events;
      channels = h.channels;
      transactions = h.transactions;
      quantum = h.quantum;
      variables = h.variables;
      memories = h.memories;
    }

    pub nobody_spawned : (s : Schedule Kept) → Stays k.schedule s → Moves k (record k { schedule = s; parents = ps }) (λ c. c)
    nobody_spawned s st c h = processes_move (record k { parents = ps }) c (room_stays c h) s c.processes (stays (Shows (whole_design k) k.program.now) k.schedule s c.processes h.processes st)
