-- Events fire and those that are due wake: the kernel stands for what that makes of a configuration.
use Rattle.std.proofs.Common.{◌≡◌, ◌≤◌, ◌+◌, ◌^◌, ℕ, Bool, false, List, [], ◌∷◌, map, refl, sym, ap, ◌∙◌, subst}
use Rattle.kernel_state.specs.EventCore.declared.event.Ev.TheVariants as ev
use Rattle.kernel_state.specs.EventCore.declared.notifications.Pending.{Pending}
use Rattle.kernel_state.specs.KernelEvents.Numbered.{fixed}
use Rattle.kernel_state.specs.SimModel.Configuration.{Config, Instance, Deadline, no_deadline}
use Rattle.kernel_state.specs.SimModel.Waits.{fire, fire_all, wake_all}
use Rattle.kernel_state.specs.SimModel.Phases.{due_events, due_instances, without_pending, without_deadline, fire_due}
use Rattle.kernel_state.specs.KernelProcesses.Woken as woken
use Rattle.kernel_state.specs.KernelProcesses.Woken.{after_event, joins_by, after_wake, joins}
use Rattle.kernel_state.proofs.KernelProcesses.Wakes.{fire_rouses}
use Rattle.kernel_state.specs.KernelProcesses.InstanceViews.{is_on}
use Rattle.kernel_state.specs.KernelProcesses.InstanceViews.{body_at as kept_at}
use Rattle.kernel_state.specs.KernelProcesses.Sound as schedules
use Rattle.kernel_state.specs.KernelProcesses.Moves.{Rouses}
use Rattle.kernel_state.specs.KernelProcesses.declared.parts.Schedule.{Schedule}
use Rattle.kernel_state.specs.KernelProcesses.Times.{TakesDue, WakesThose, those_on, those_join}
use Rattle.kernel_state.specs.Processes.{StandsForProcesses}
use Rattle.kernel_state.specs.Kernel.{Shows, StandsFor, IsSound, whole_design}
use Rattle.kernel_state.specs.Moves.{Moves, KeepsBodies}
use Rattle.kernel_state.specs.declared.kernel.Kept.{Kept}
use Rattle.kernel_state.specs.declared.kernel.Kernel.{Kernel}
use Rattle.kernel_state.proofs.ProcessFrames.{Rousing, roused_stands, rousing_event}
use Rattle.kernel_state.proofs.Frames.{processes_move}
use Rattle.kernel_phases.specs.Due.{IsBetween, SetsOff}
use Rattle.kernel_phases.proofs.Waking.{wakes_same, rousing_those}
use Rattle.kernel_phases.proofs.Taking.{taken_stands, due_same}

-- ---- soundness

pub between_sound : (k : Kernel) → IsSound k → IsBetween k
between_sound k sound = record { schedule = sound.schedule; bodies = sound.bodies; serials = sound.serials; payloads = sound.payloads }

module _ (k : Kernel) (between : IsBetween k) (s : Schedule Kept) (fine : schedules.IsSound s) (same : (q : ℕ) → kept_at s q ≡ kept_at k.schedule q) (next : s.table.next ≡ k.schedule.table.next) where
  pub between_schedule : IsBetween (record k { schedule = s })
  between_schedule = record {
    schedule = fine;
    bodies = λ p kept at. between.bodies p kept (sym (same p) ∙ at);
    serials = subst (λ n. n ≤ 2 ^ 16 + k.made) (sym next) between.serials;
    payloads = between.payloads;
  }

  pub sound_schedule : s.due.items ≡ [] → IsSound (record k { schedule = s })
  sound_schedule nobody = record {
    schedule = fine;
    bodies = between_schedule.bodies;
    nobody_due = nobody;
    serials = between_schedule.serials;
    payloads = between.payloads;
  }

-- ---- instances are roused

module _ (k : Kernel) (s : Schedule Kept) (f : ℕ → Bool → Instance → Instance) (joining : ℕ → Bool → Instance → Bool) (rousing : Rousing (Shows (whole_design k) k.program.now) f joining) where
  pub roused_moves : (F : Config → Config) → ((c : Config) → woken.Rouses f joining c (F c)) → Rouses f joining k.schedule s → Moves k (record k { schedule = s }) F
  roused_moves F does r c h = subst (StandsFor (record k { schedule = s })) (sym (does c).others)
      (processes_move k c h s (record c.processes { runnable = (F c).processes.runnable; instances = (F c).processes.instances })
      (subst (StandsForProcesses (Shows (whole_design k) k.program.now) s) (ap (λ d. d.processes) (does c).others)
      (roused_stands (Shows (whole_design k) k.program.now) f joining rousing k.schedule s c (F c) r (does c) h.processes)))

-- ---- events fire

-- some events have fired, and these are left
pub record Fires (left all : List ℕ) (old new : Kernel) : Type 0 where
  pub moves : (c : Config) → StandsFor old c → (d : Config) × (StandsFor new d × (fire_all (fixed left) d ≡ fire_all (fixed all) c))
  pub due : new.schedule.due ≡ old.schedule.due
  pub kept : KeepsBodies old new
  pub events : new.events ≡ old.events
  pub made : new.made ≡ old.made
  pub between : IsBetween new

pub none_fired : (all : List ℕ) (k : Kernel) → IsBetween k → Fires all all k k
none_fired all k between = record {
  moves = λ c h. (c, (h, refl));
  due = refl;
  kept = record { bodies = λ q. refl; program = refl; design = refl };
  events = refl;
  made = refl;
  between = between;
}

pub one_fired : (e : ℕ) (left all : List ℕ) (old k : Kernel) (s : Schedule Kept) → Fires (e ∷ left) all old k → schedules.IsSound s → Rouses (λ q. after_event (ev.Fixed e)) (λ q. joins_by (ev.Fixed e)) k.schedule s → Fires left all old (record k { schedule = s })
one_fired e left all old k s fired fine r = record {
  moves = λ c h.
      let so = fired.moves c h in (
        fire so.0 (ev.Fixed e),
        (
          roused_moves k s (λ q. after_event (ev.Fixed e)) (λ q. joins_by (ev.Fixed e)) (rousing_event (Shows (whole_design k) k.program.now) (ev.Fixed e)) (λ d. fire d (ev.Fixed e)) (λ d. fire_rouses d (ev.Fixed e)) r so.0 so.1.0,
          so.1.1,
        ),
      );
  due = r.due ∙ fired.due;
  kept = record { bodies = λ q. r.bodies q ∙ fired.kept.bodies q; program = fired.kept.program; design = fired.kept.design };
  events = fired.events;
  made = fired.made;
  between = between_schedule k fired.between s fine r.bodies r.next;
}

pub all_fired : (all : List ℕ) (old new : Kernel) → Fires [] all old new → Moves old new (fire_all (fixed all))
all_fired all old new fired c h = let so = fired.moves c h in subst (StandsFor new) so.1.1 so.1.0

-- ---- those that are due wake

module _ (k : Kernel) (s : Schedule Kept) (ds : List ℕ) (w : WakesThose ds k.schedule s) where
  abbrev not_due : Schedule Kept
  not_due = record s { due = k.schedule.due }

  rouses : Rouses (those_on ds after_wake) (those_join ds joins) k.schedule not_due
  rouses = record {
    due = refl;
    shown = w.shown;
    ready = w.ready;
    bodies = w.bodies;
    stack = w.stack;
    next = w.next;
  }

  pub due_wake : (due : List ℕ) → ((q : ℕ) → is_on due q ≡ is_on ds q) → Moves k (record k { schedule = s }) (wake_all due)
  due_wake due same c h =
      let so = roused_moves k not_due (those_on ds after_wake) (those_join ds joins) (rousing_those (Shows (whole_design k) k.program.now) ds) (wake_all due) (wakes_same due ds same) rouses c h in
      record {
        design = so.design;
        cycle = so.cycle;
        processes = record { each = so.processes.each; ready = so.processes.ready; stack = so.processes.stack; next = so.processes.next };
        parents = so.parents;
        events = so.events;
        channels = so.channels;
        transactions = so.transactions;
        quantum = so.quantum;
        variables = so.variables;
        memories = so.memories;
      }

-- events fire, and then those that are due wake
pub sets_off : (events : List ℕ) (old k : Kernel) (s : Schedule Kept) → Moves old k (fire_all (fixed events)) → k.schedule.due ≡ old.schedule.due → WakesThose k.schedule.due.items k.schedule s → SetsOff events old (record k { schedule = s })
sets_off events old k s fired due w c ds h same = due_wake k s k.schedule.due.items w ds (λ q. same q ∙ ap (λ v. is_on v.items q) (sym due)) (fire_all (fixed events) c) (fired c h)

-- ---- all of it

-- what is due is taken out first
module _ (k : Kernel) (test : Pending → Bool) (time : Deadline → Bool) (none : time no_deadline ≡ false) (es : List Pending) (left : es ≡ map (without_pending test) k.events) (s : Schedule Kept) (takes : TakesDue time k.schedule s) where
  abbrev pub taken : Kernel
  taken = record k { events = es; schedule = s }

  pub taken_between : IsSound k → schedules.IsSound s → IsBetween taken
  taken_between sound fine =
      let b = between_schedule k (between_sound k sound) s fine takes.bodies takes.next in
      record { schedule = b.schedule; bodies = b.bodies; serials = b.serials; payloads = b.payloads }

  abbrev without : Config → Config
  without c = record c { events = map (without_pending test) c.events; processes = record c.processes { instances = map (without_deadline time) c.processes.instances } }

  taken_moves : Moves k taken without
  taken_moves c h = record {
    design = h.design;
    cycle = h.cycle;
    processes = taken_stands (Shows (whole_design k) k.program.now) time none k.schedule s takes c.processes h.processes;
    parents = h.parents;
    events = ap (map (without_pending test)) h.events ∙ sym left;
    channels = h.channels;
    transactions = h.transactions;
    quantum = h.quantum;
    variables = h.variables;
    memories = h.memories;
  }

  -- and then set off
  pub all_set_off : (events : List ℕ) (new : Kernel) → fixed events ≡ due_events test 0 k.events → SetsOff events taken new → Moves k new (fire_due test time)
  all_set_off events new are off c h =
      subst (λ es. StandsFor new (wake_all (due_instances time 0 c.processes.instances) (fire_all es (without c)))) (are ∙ ap (due_events test 0) (sym h.events))
      (off (without c) (due_instances time 0 c.processes.instances) (taken_moves c h) (due_same (Shows (whole_design k) k.program.now) time none k.schedule s takes c.processes h.processes))
