-- What is kept of an instance, and what the kernel stands for once a part of it is another.
use Rattle.std.proofs.Common.{◌≡◌, ℕ, zero, suc, Bool, true, false, List, [], ◌∷◌, drop, slice_get, slice_set, Option, Some, None, option_map, refl, sym, ap, ◌∙◌, subst, true≢false}
use Rattle.std.specs.Prelude.{is_some, unwrap_or}
use Rattle.std.specs.FinMap as map
use Rattle.std.specs.FinSet as set
use Rattle.exec_data.specs.InstanceTable.declared.instances.Instance.{Instance as Entry}
use Rattle.exec_data.specs.NumberedSlots.Numbered.{with_value}
use Rattle.flat_design.specs.Code.{arena_of}
use Rattle.exec_data.specs.KernelBodies.Strip.{strip}
use Rattle.exec_data.proofs.KernelBodies.Strips.{strip-entered}
use Rattle.exec_data.specs.SimModel.Residual.{Residual, skip, settle, begun}
use Rattle.exec_data.specs.SimModel.Configuration.{Config, Instance, changed_at, change, change_instance, instance_at, with_residual, arena}
use Rattle.exec_data.specs.SimModel.Waits.{leaves_stack}
use Rattle.exec_data.specs.SimModel.Statements.{settled_in}
use Rattle.exec_data.specs.ProcessBodies.Bodies as bodies
use Rattle.exec_data.specs.ProcessBodies.Bodies.{left_in}
use Rattle.exec_data.specs.ProcessBodies.declared.body.Body.{Body}
use Rattle.exec_data.specs.KernelProcesses.InstanceViews.{seen, shown_at, is_on, bare, as_instance}
use Rattle.exec_data.specs.KernelProcesses.InstanceViews.{body_at as kept_at}
use Rattle.exec_data.specs.KernelProcesses.Sound as schedules
use Rattle.exec_data.specs.KernelProcesses.Moves.{MovesOne}
use Rattle.exec_data.specs.KernelProcesses.declared.parts.Process.{Process}
use Rattle.exec_data.specs.KernelProcesses.declared.parts.Schedule.{Schedule}
use Rattle.exec_data.specs.KernelProcesses.declared.parts.Trigger.{Trigger}
use Rattle.exec_data.proofs.KernelProcesses.Sounding.{on_top}
use Rattle.exec_data.specs.KernelProcesses.Moved.{IsTop, PutsBody, leaves_top, same_stack}
use Rattle.exec_data.proofs.KernelProcesses.OtherBody.{puts_body, puts_room, puts_sound}
use Rattle.exec_data.specs.KernelState.Processes.{beside, TellsBy, Tells}
use Rattle.exec_data.specs.KernelState.Kernel.{Shows, StandsFor, IsSound, whole_design, trigger_of}
use Rattle.exec_data.specs.KernelState.Moves.{Moves, MovesAt, KeptAt, Lives}
use Rattle.exec_data.specs.KernelState.declared.kernel.Kept.{Kept}
use Rattle.exec_data.specs.KernelState.declared.kernel.Kernel.{Kernel}
use Rattle.exec_data.proofs.KernelState.ProcessFrames.{Agrees, moved_with, stack_same, stack_left, put_stands}
use Rattle.exec_data.proofs.KernelState.Frames.{change-twice, processes_move, trace_moves, schedule_sound, kept_sound, shown_where_lives, lives_on_top, lives_still, keeps_bodies, residual_moves, with_body, lives_by_kept}
use Rattle.exec_control.specs.Others.{KeepsOthers}
use Rattle.exec_control.specs.Resting.{CanRest, rest_of}

-- ---- what is shown of a live instance

module _ (k : Kernel) (p : ℕ) (x : Entry (Process Kept)) (at : map.get k.schedule.table.live p ≡ Some x) where
  shown : shown_at k.schedule p ≡ Some (as_instance x (seen k.schedule p).wait)
  shown = ap (option_map (λ (z : Entry (Process Kept)). as_instance z (seen k.schedule p).wait)) at

  pub was : kept_at k.schedule p ≡ Some x.body.body
  was = ap (option_map (λ (z : Entry (Process Kept)). z.body.body)) at

  shows_by : (i : Instance) (e : Bool) → TellsBy (Shows (whole_design k) k.program.now) e (shown_at k.schedule p) (kept_at k.schedule p) i → Shows (whole_design k) k.program.now x.body.body (beside i)
  shows_by i true gone = absurd (true≢false (sym (ap is_some shown) ∙ ap is_some gone.0))
  shows_by i false lives = subst (λ v. Shows (whole_design k) k.program.now v (beside i)) (ap (λ o. unwrap_or o x.body.body) (sym lives.kept.1.0 ∙ was)) lives.kept.1.1

  entry_by : (i : Instance) (e : Bool) → TellsBy (Shows (whole_design k) k.program.now) e (shown_at k.schedule p) (kept_at k.schedule p) i → as_instance x (seen k.schedule p).wait ≡ bare i
  entry_by i true gone = absurd (true≢false (sym (ap is_some shown) ∙ ap is_some gone.0))
  entry_by i false lives = ap (λ o. unwrap_or o (bare i)) (sym shown ∙ lives.shown)

  module _ (c : Config) (i : Instance) (h : StandsFor k c) (there : instance_at c p ≡ Some i) where
    tells : TellsBy (Shows (whole_design k) k.program.now) i.ended (shown_at k.schedule p) (kept_at k.schedule p) i
    tells = subst (Tells (Shows (whole_design k) k.program.now) (shown_at k.schedule p) (kept_at k.schedule p)) there (h.processes.each p)

    pub shows_at : Shows (whole_design k) k.program.now x.body.body (beside i)
    shows_at = shows_by i i.ended tells

    pub entry_at : as_instance x (seen k.schedule p).wait ≡ bare i
    entry_at = entry_by i i.ended tells

-- ---- another body

module _ (k : Kernel) (p : ℕ) (x : Entry (Process Kept)) (b : Body) (at : map.get k.schedule.table.live p ≡ Some x) (keeps : bodies.Keeps x.body.body.body b) where
  puts : PutsBody p (record x.body.body { body = b }) k.schedule (with_body k p x b at keeps)
  puts = puts_body k.schedule p x (record x.body.body { body = b }) at

  -- what it stands for is known of each instance
  pub body_moves : (f : Config → Instance → Residual) → ((c : Config) (i : Instance) → StandsFor k c → instance_at c p ≡ Some i → strip (f c i) ≡ left_in k.program.now b)
      → MovesAt k (record k { schedule = with_body k p x b at keeps }) p (λ c i. with_residual c p (f c i))
  body_moves f is c i h there = residual_moves k p x.body.body b (was k p x at) (with_body k p x b at keeps) puts keeps c h (f c i) (is c i h there)

  -- nothing is left
  pub body_cleared : left_in k.program.now b ≡ skip → Moves k (record k { schedule = with_body k p x b at keeps }) (λ c. with_residual c p skip)
  body_cleared left c h = residual_moves k p x.body.body b (was k p x at) (with_body k p x b at keeps) puts keeps c h skip (sym left)

  -- it is at its first statement
  pub body_begun : left_in k.program.now b ≡ begun (arena_of k.program.now.code) x.body.body.body.calls.code x.body.body.body.calls.arguments.items
      → MovesAt k (record k { schedule = with_body k p x b at keeps }) p (λ c i. with_residual c p (begun (arena c) i.code i.arguments))
  body_begun left = body_moves (λ c i. begun (arena c) i.code i.arguments) (λ c i h there.
      let s = shows_at k p x at c i h there in
      strip-entered (arena c) i.code i.arguments None None ∙ ap (λ d. begun (arena_of d.code) i.code i.arguments) h.design ∙ ap (λ n. begun (arena_of k.program.now.code) n i.arguments) s.code
      ∙ ap (begun (arena_of k.program.now.code) x.body.body.body.calls.code) s.arguments ∙ sym left)

  pub others_kept : KeepsOthers p k (record k { schedule = with_body k p x b at keeps })
  others_kept = record { bodies = puts.bodies; program = refl }

  pub kept_now : (P : Kept → Type 0) → P (record x.body.body { body = b }) → KeptAt (record k { schedule = with_body k p x b at keeps }) p P
  kept_now P holds kept found = subst P (ap (λ o. unwrap_or o kept) (sym puts.body ∙ found)) holds

-- ---- another next trigger

module _ (k : Kernel) (p : ℕ) (x : Entry (Process Kept)) (t : Option Trigger) (at : map.get k.schedule.table.live p ≡ Some x) where
  abbrev pub with_trigger : Schedule Kept
  with_trigger = record k.schedule { table = with_value k.schedule.table p (record x { body = record x.body { body = record x.body.body { trigger = t } } }) }

  puts_trigger : PutsBody p (record x.body.body { trigger = t }) k.schedule with_trigger
  puts_trigger = puts_body k.schedule p x (record x.body.body { trigger = t }) at

  pub trigger_there : Lives (record k { schedule = with_trigger }) p
  trigger_there = lives_by_kept with_trigger p (record x.body.body { trigger = t }) puts_trigger.body

  pub trigger_sound : IsSound k → IsSound (record k { schedule = with_trigger })
  trigger_sound sound = kept_sound k p (record x.body.body { trigger = t }) with_trigger puts_trigger sound (puts_sound k.schedule p x (record x.body.body { trigger = t }) at sound.schedule) (sound.bodies p x.body.body (was k p x at))

  -- where there was room to rest there still is
  pub trigger_rests : (u : Option Trigger) → CanRest k p u → CanRest (record k { schedule = with_trigger }) p u
  trigger_rests u room = puts_room k.schedule p x (record x.body.body { trigger = t }) at (rest_of u).wait room

  pub trigger_moves : Moves k (record k { schedule = with_trigger }) (λ c. change_instance c p (λ i. record i { trigger = option_map trigger_of t }))
  trigger_moves c h = processes_move k c h with_trigger (record c.processes { instances = change c.processes.instances p (λ i. record i { trigger = option_map trigger_of t }) })
      (put_stands (Shows (whole_design k) k.program.now) k.schedule with_trigger c.processes h.processes p (record x.body.body { trigger = t }) (λ i. record i { trigger = option_map trigger_of t }) puts_trigger (λ i. refl) (λ i. refl) (λ i none. none)
      (λ a i found there old.
      let o = subst (λ w. Shows (whole_design k) k.program.now w (beside i)) (ap (λ o. unwrap_or o x.body.body) (sym found ∙ was k p x at)) old in
      record {
        home = o.home;
        path = o.path;
        code = o.code;
        arguments = o.arguments;
        residual = o.residual;
        trigger = refl;
      }))

-- ---- a mark of an instance

module _ (k : Kernel) (p : ℕ) (lives : Lives k p) (s : Schedule Kept) (f : Instance → Instance) (agrees : Agrees (Shows (whole_design k) k.program.now) f f)
    (m : MovesOne p f (set.contains k.schedule.ready.members p) same_stack k.schedule s) where
  pub marked_moves : Moves k (record k { schedule = s }) (λ c. change_instance c p f)
  marked_moves c h = processes_move k c h s (record c.processes { instances = change c.processes.instances p f })
      (moved_with (Shows (whole_design k) k.program.now) k.schedule s c.processes h.processes p f f agrees
      (set.contains k.schedule.ready.members p) same_stack m (shown_where_lives k p lives)
      (record c.processes { instances = change c.processes.instances p f }) refl (sym (h.processes.ready p)) (λ q apart. refl)
      (stack_same (Shows (whole_design k) k.program.now) k.schedule s c.processes h.processes m.stack))

  pub marked_sound : IsSound k → schedules.IsSound s → IsSound (record k { schedule = s })
  marked_sound sound fine = schedule_sound k sound s fine m.bodies (ap (λ v. v.items) m.due) m.next

-- ---- the instance on top leaves the stack

module _ (k : Kernel) (p : ℕ) (sound : IsSound k) (top : IsTop p k.schedule.stack.items) where
  not_ready : set.contains k.schedule.ready.members p ≡ false
  not_ready = by (map.get k.schedule.table.live p) refl (lives_on_top k p sound top)
    where
      by : (o : Option (Entry (Process Kept))) → map.get k.schedule.table.live p ≡ o → is_some o ≡ true → set.contains k.schedule.ready.members p ≡ false
      by None none is = absurd (true≢false (sym is))
      by (Some z) some is = (sound.schedule.busy p z (ap (λ xs. is_on xs p) top.1 ∙ on_top top.0 p) some).ready

  module _ (s : Schedule Kept) (f : Instance → Instance) (agrees : Agrees (Shows (whole_design k) k.program.now) f f) (m : MovesOne p f false (leaves_top p) k.schedule s) where
    pub leaving_moves : Moves k (record k { schedule = s }) (λ c. leaves_stack (change_instance c p f))
    leaving_moves c h = processes_move k c h s (record c.processes { instances = change c.processes.instances p f; stack = drop 1 c.processes.stack })
        (moved_with (Shows (whole_design k) k.program.now) k.schedule s c.processes h.processes p f f agrees false (leaves_top p) m (shown_where_lives k p (lives_on_top k p sound top))
        (record c.processes { instances = change c.processes.instances p f; stack = drop 1 c.processes.stack })
        refl (sym (h.processes.ready p) ∙ not_ready) (λ q apart. refl) (stack_left (Shows (whole_design k) k.program.now) k.schedule s c.processes h.processes p m.stack))

    pub leaving_sound : schedules.IsSound s → IsSound (record k { schedule = s })
    leaving_sound fine = schedule_sound k sound s fine m.bodies (ap (λ v. v.items) m.due) m.next

    pub leaving_lives : Lives (record k { schedule = s }) p
    leaving_lives = lives_still k (record k { schedule = s }) p (keeps_bodies k s m.bodies) (lives_on_top k p sound top)

-- ---- lists that are changed in one place

set_same : {A : Type 0} (xs : List A) (n : ℕ) (x : A) → slice_get xs n ≡ Some x → slice_set xs n x ≡ xs
set_same [] n x at = refl
set_same (y ∷ xs) zero x at = ap (λ o. unwrap_or o y ∷ xs) (sym at)
set_same (y ∷ xs) (suc n) x at = ap (λ ys. y ∷ ys) (set_same xs n x at)

pub change_same : {A : Type 0} (xs : List A) (n : ℕ) (f : A → A) (x : A) → slice_get xs n ≡ Some x → f x ≡ x → change xs n f ≡ xs
change_same xs n f x at same = ap (changed_at xs n f) at ∙ ap (slice_set xs n) same ∙ set_same xs n x at

-- the first move of a step and another change of the instance
pub changed_first : (l : Kernel) (c : Config) (p : ℕ) (i : Instance) (g : Instance → Instance) → StandsFor l (change_instance c p (λ j. g (record j { residual = settle (arena c) i.residual })))
    → StandsFor l (change_instance (settled_in c p i.residual) p g)
changed_first l c p i g h =
    subst (λ is. StandsFor l (record c { processes = record c.processes { instances = is }; trace = (settled_in c p i.residual).trace }))
    (sym (change-twice c.processes.instances p (λ j. record j { residual = settle (arena c) i.residual }) g))
    (trace_moves l (change_instance c p (λ j. g (record j { residual = settle (arena c) i.residual }))) h (settled_in c p i.residual).trace)
