-- A runnable instance is taken, and its body begins.
use Rattle.std.proofs.Common.{◌≡◌, ◌≢◌, cond, ℕ, zero, suc, Bool, true, false, List, [], ◌∷◌, slice_get, slice_set, Option, Some, None, option_map, refl, sym, ap, ◌∙◌, subst, true≢false, eq-eqb, ne_eqb, ⊎_elim, ◌+◌}
use Rattle.std.specs.Prelude.{is_some, reverse, unwrap_or, if◌then◌else◌}
use Rattle.std.specs.Ordering.{nat_cmp}
use Rattle.std.specs.Cmp.{nat_cmp_total, unsigned_tied}
use Rattle.std.proofs.lemmas.Bool.{cases_eq}
use Rattle.std.specs.FinMap as map
use Rattle.std.specs.FinSet as set
use Rattle.kernel_state.specs.InstanceTable.declared.instances.Instance.{Instance as Entry}
use Rattle.kernel_state.specs.KernelBodies.Strip.{strip}
use Rattle.kernel_state.specs.FlatDesign.Code.{arena_of}
use Rattle.kernel_state.specs.SimModel.Residual.{begun}
use Rattle.kernel_state.specs.SimModel.Configuration.{Config, Instance, turn, change, changed_at, change_instance, instance_at, with_stack, with_runnable, with_told, arena}
use Rattle.kernel_state.specs.SimModel.Waits.{without}
use Rattle.kernel_state.specs.SimModel.Control.{begins}
use Rattle.kernel_state.specs.SimModel.Steps.{turn_line, instance_taken}
use Rattle.kernel_state.proofs.KernelBodies.Strips.{strip-entered}
use Rattle.kernel_state.specs.ProcessBodies.Bodies as bodies
use Rattle.kernel_state.specs.ProcessBodies.Bodies.{left_in}
use Rattle.kernel_state.specs.ProcessBodies.declared.body.Body.{Body}
use Rattle.kernel_state.specs.KernelProcesses.InstanceViews.{Seen, seen, shown_at, as_instance}
use Rattle.kernel_state.specs.KernelProcesses.InstanceViews.{body_at as kept_at}
use Rattle.kernel_state.specs.KernelProcesses.Sound as schedules
use Rattle.kernel_state.specs.KernelProcesses.Moves.{with_entry, Changes, MovesOne}
use Rattle.kernel_state.specs.KernelProcesses.declared.parts.Process.{Process}
use Rattle.kernel_state.specs.KernelProcesses.declared.parts.Schedule.{Schedule}
use Rattle.kernel_state.specs.KernelProcesses.declared.parts.Trigger.{Trigger}
use Rattle.kernel_state.specs.KernelProcesses.Moved.{PutsBody, joins_top, same_stack, started_as}
use Rattle.kernel_state.proofs.KernelProcesses.OtherBody.{puts_body, puts_sound}
use Rattle.kernel_state.proofs.KernelProcesses.Sounding.{moves_one, sound_still}
use Rattle.kernel_state.specs.Processes.{beside, TellsBy, Tells}
use Rattle.kernel_state.specs.Kernel.{Shows, StandsFor, IsSound, whole_design, path_in, trigger_of}
use Rattle.kernel_state.specs.Moves.{Moves, MovesAt, Lives}
use Rattle.kernel_state.specs.declared.kernel.Kept.{Kept}
use Rattle.kernel_state.specs.declared.kernel.Kernel.{Kernel}
use Rattle.kernel_state.proofs.ProcessFrames.{moved_with, stack_same, stack_joined, put_stands}
use Rattle.kernel_state.proofs.Frames.{change-twice, processes_move, trace_moves, schedule_sound, shown_where_lives, kept_sound, lives_by_kept}
use Rattle.kernel_state.proofs.Pushing.{lacks_itself, has_others}
use Rattle.kernel_phases.specs.Turns.{is_begun, restarted, begins_first}

-- ---- what is shown of a live instance

module _ (k : Kernel) (p : ℕ) (x : Entry (Process Kept)) (at : map.get k.schedule.table.live p ≡ Some x) where
  shown : shown_at k.schedule p ≡ Some (as_instance x (seen k.schedule p).wait)
  shown = ap (option_map (λ (z : Entry (Process Kept)). as_instance z (seen k.schedule p).wait)) at

  kept : kept_at k.schedule p ≡ Some x.body.body
  kept = ap (option_map (λ (z : Entry (Process Kept)). z.body.body)) at

  shows_by : (i : Instance) (e : Bool) → TellsBy (Shows (whole_design k) k.program.now) e (shown_at k.schedule p) (kept_at k.schedule p) i → Shows (whole_design k) k.program.now x.body.body (beside i)
  shows_by i true gone = absurd (true≢false (sym (ap is_some shown) ∙ ap is_some gone.0))
  shows_by i false lives = subst (λ v. Shows (whole_design k) k.program.now v (beside i)) (ap (λ o. unwrap_or o x.body.body) (sym lives.kept.1.0 ∙ kept)) lives.kept.1.1

  started_by : (i : Instance) (e : Bool) → TellsBy (Shows (whole_design k) k.program.now) e (shown_at k.schedule p) (kept_at k.schedule p) i → i.started ≡ x.started
  started_by i true gone = absurd (true≢false (sym (ap is_some shown) ∙ ap is_some gone.0))
  started_by i false lives = ap (λ o. (unwrap_or o i).started) (sym lives.shown ∙ shown)

  module _ (c : Config) (h : StandsFor k c) (i : Instance) (there : instance_at c p ≡ Some i) where
    tells : TellsBy (Shows (whole_design k) k.program.now) i.ended (shown_at k.schedule p) (kept_at k.schedule p) i
    tells = subst (Tells (Shows (whole_design k) k.program.now) (shown_at k.schedule p) (kept_at k.schedule p)) there (h.processes.each p)

    pub shows_at : Shows (whole_design k) k.program.now x.body.body (beside i)
    shows_at = shows_by i i.ended tells

    pub started_at : i.started ≡ x.started
    started_at = started_by i i.ended tells

-- ---- the entry of an instance, written at once

module _ {X : Type 0} (m : map.FinMap nat_cmp X) (p : ℕ) (v : X) where
  get_here : (q : ℕ) → q ≡ p → map.get (map.insert m p v) q ≡ Some v
  get_here q same = map.get-insert nat_cmp_total m p v q ∙ ap (λ b. cond b (Some v) (map.get m q)) (unsigned_tied q p ∙ eq-eqb q p same)

  get_there : (q : ℕ) → q ≢ p → map.get (map.insert m p v) q ≡ map.get m q
  get_there q apart = map.get-insert nat_cmp_total m p v q ∙ ap (λ b. cond b (Some v) (map.get m q)) (unsigned_tied q p ∙ ne_eqb q p apart)

  count_same : is_some (map.get m p) ≡ true → map.len (map.insert m p v) ≡ map.len m
  count_same there = map.len-insert nat_cmp_total m p v ∙ ap (λ b. cond b (map.len m) (map.len m + 1)) there

  -- what stood there is written again
  insert_same : map.get m p ≡ Some v → map.insert m p v ≡ m
  insert_same at = map.same_map nat_cmp_total map.nat_cmp-IsAntisymmetric (map.insert m p v) m
      (λ q. ⊎_elim (λ same. get_here q same ∙ sym at ∙ ap (map.get m) (sym same)) (λ apart. get_there q apart) (cases_eq q p))

abbrev begun_mark : Entry (Process Kept) → Entry (Process Kept)
begun_mark e = record e { started = true }

abbrev marked : Seen Kept → Seen Kept
marked = with_entry begun_mark

free_marked : (z : Entry (Process Kept)) → schedules.IsFree z → schedules.IsFree (begun_mark z)
free_marked z free = record { wait = free.wait; deadline = free.deadline }

fits_marked : (o : Option (Entry (Process Kept))) (v : Seen Kept) → schedules.FitsAs o v → schedules.FitsAs (option_map begun_mark o) (marked v)
fits_marked None v nobody = record { wait = nobody.wait; muted = nobody.muted; has_room = nobody.has_room; time = nobody.time; zero = nobody.zero; ready = nobody.ready }
fits_marked (Some z) v kept = record {
  wait = kept.wait;
  muted = kept.muted;
  has_room = kept.has_room;
  time = kept.time;
  zero = kept.zero;
  runs = λ is. (free_marked z (kept.runs is).0, (kept.runs is).1);
  kept = λ is. (free_marked z (kept.kept is).0, (kept.kept is).1);
}

busy_marked : (z : Entry (Process Kept)) (v : Seen Kept) → schedules.IsBusy z v → schedules.IsBusy (begun_mark z) (marked v)
busy_marked z v busy = record { free = free_marked z busy.free; ready = busy.ready; kept = busy.kept }

there_marked : (o : Option (Entry (Process Kept))) → is_some (option_map begun_mark o) ≡ is_some o
there_marked None = refl
there_marked (Some z) = refl

body_marked : (o : Option (Entry (Process Kept))) → option_map (λ (z : Entry (Process Kept)). z.body.body) (option_map begun_mark o) ≡ option_map (λ (z : Entry (Process Kept)). z.body.body) o
body_marked None = refl
body_marked (Some z) = refl

shown_marked : (o : Option (Entry (Process Kept))) (v : Seen Kept) → option_map (λ (z : Entry (Process Kept)). as_instance z v.wait) (option_map begun_mark o) ≡ option_map (started_as true) (option_map (λ (z : Entry (Process Kept)). as_instance z v.wait) o)
shown_marked None v = refl
shown_marked (Some z) v = refl

same_entry : (y z : Entry (Process Kept)) (o : Option (Entry (Process Kept))) → o ≡ Some y → option_map begun_mark o ≡ Some z → begun_mark y ≡ z
same_entry y z o is marked_is = ap (λ o. unwrap_or o (begun_mark y)) (sym (ap (option_map begun_mark) is) ∙ marked_is)

-- the entry y in place of another, and that its body has begun
module _ (s : Schedule Kept) (p : ℕ) (x y : Entry (Process Kept)) (at : map.get s.table.live p ≡ Some x) where
  abbrev pub with_it : Entry (Process Kept) → Schedule Kept
  with_it z = record s { table = record s.table { live = map.insert s.table.live p z } }

  marks : Changes p marked (with_it y) (with_it (begun_mark y))
  marks = record {
    here = ap (λ o. record (seen s p) { entry = o }) (get_here s.table.live p (begun_mark y) p refl ∙ sym (ap (option_map begun_mark) (get_here s.table.live p y p refl)));
    others = λ q apart. ap (λ o. record (seen s q) { entry = o }) (get_there s.table.live p (begun_mark y) q apart ∙ sym (get_there s.table.live p y q apart));
    stack = refl;
    woken = refl;
    due = refl;
    next = refl;
    count = count_same s.table.live p (begun_mark y) (ap is_some at) ∙ sym (count_same s.table.live p y (ap is_some at));
    places = refl;
  }

  pub marks_one : MovesOne p (started_as true) (set.contains s.ready.members p) same_stack (with_it y) (with_it (begun_mark y))
  marks_one = moves_one (with_it y) (with_it (begun_mark y)) p marked marks (started_as true) (set.contains s.ready.members p)
      (shown_marked (seen (with_it y) p).entry (seen (with_it y) p)) refl (body_marked (seen (with_it y) p).entry)

  pub marks_sound : schedules.IsSound (with_it y) → schedules.IsSound (with_it (begun_mark y))
  marks_sound sound = sound_still (with_it y) (with_it (begun_mark y)) p marked marks sound
      (fits_marked (seen (with_it y) p).entry (seen (with_it y) p) (sound.each p))
      (there_marked (seen (with_it y) p).entry)
      (λ z on some. subst (λ e. schedules.IsBusy e (marked (seen (with_it y) p))) (same_entry y z (seen (with_it y) p).entry (get_here s.table.live p y p refl) some)
      (busy_marked y (seen (with_it y) p) (sound.busy p y on (get_here s.table.live p y p refl))))

-- an entry that is written as it was
module _ (k : Kernel) (p : ℕ) (x : Entry (Process Kept)) (at : map.get k.schedule.table.live p ≡ Some x) where
  abbrev pub with_same : Kernel
  with_same = record k { schedule = record k.schedule { table = record k.schedule.table { live = map.insert k.schedule.table.live p x } } }

  as_it_was : with_same ≡ k
  as_it_was = ap (λ m. record k { schedule = record k.schedule { table = record k.schedule.table { live = m } } }) (insert_same k.schedule.table.live p x at)

  pub same_moves : Moves k with_same (λ c. c)
  same_moves c h = subst (λ j. StandsFor j c) (sym as_it_was) h

  pub same_sound : IsSound k → IsSound with_same
  same_sound sound = subst (λ j. IsSound j) (sym as_it_was) sound

-- ---- the body

module _ (k : Kernel) (p : ℕ) (x : Entry (Process Kept)) (b : Body) (t : Option Trigger) (at : map.get k.schedule.table.live p ≡ Some x) (keeps : bodies.Keeps x.body.body.body b) where
  abbrev first : Kept
  first = record x.body.body { body = b; trigger = t }

  abbrev pub with_first : Schedule Kept
  with_first = record k.schedule { table = record k.schedule.table { live = map.insert k.schedule.table.live p (record x { body = record x.body { body = first } }) } }

  puts_first : PutsBody p first k.schedule with_first
  puts_first = puts_body k.schedule p x first at

  pub first_there : Lives (record k { schedule = with_first }) p
  first_there = lives_by_kept with_first p first puts_first.body

  pub first_sound : IsSound k → bodies.IsSound k.program.now b → IsSound (record k { schedule = with_first })
  first_sound sound fine = kept_sound k p first with_first puts_first sound (puts_sound k.schedule p x first at sound.schedule) fine

  pub restarts_at : left_in k.program.now b ≡ begun (arena_of k.program.now.code) x.body.body.body.calls.code x.body.body.body.calls.arguments.items → t ≡ None → MovesAt k (record k { schedule = with_first }) p (λ c i. restarted c p i)
  restarts_at left none c i h there =
      let s = shows_at k p x at c h i there in
      let is : strip (begun (arena c) i.code i.arguments) ≡ left_in k.program.now b =
      strip-entered (arena c) i.code i.arguments None None ∙ ap (λ d. begun (arena_of d.code) i.code i.arguments) h.design ∙ ap (λ n. begun (arena_of k.program.now.code) n i.arguments) s.code ∙ ap (begun (arena_of k.program.now.code) x.body.body.body.calls.code) s.arguments ∙ sym left in
      processes_move k c h with_first (record c.processes { instances = change c.processes.instances p (λ j. record j { residual = begun (arena c) i.code i.arguments; trigger = None }) })
      (put_stands (Shows (whole_design k) k.program.now) k.schedule with_first c.processes h.processes p first (λ j. record j { residual = begun (arena c) i.code i.arguments; trigger = None }) puts_first (λ j. refl) (λ j. refl) (λ j none. none)
      (λ a j found here old.
      let o = subst (λ w. Shows (whole_design k) k.program.now w (beside j)) (ap (λ o. unwrap_or o x.body.body) (sym found ∙ kept k p x at)) old in
      record {
        home = o.home;
        path = subst (λ f. j.path ≡ path_in (whole_design k) x.body.body.home f x.body.body.path) (sym keeps.code) o.path;
        code = o.code ∙ sym keeps.code;
        arguments = o.arguments ∙ sym keeps.arguments;
        residual = is;
        trigger = ap (option_map trigger_of) (sym none);
      }))

-- and it has begun
module _ (k : Kernel) (p : ℕ) (s : Schedule Kept) (m : MovesOne p (started_as true) (set.contains k.schedule.ready.members p) same_stack k.schedule s) (lives : Lives k p) where
  pub starts : Moves k (record k { schedule = s }) (λ c. change_instance c p (λ j. record j { started = true }))
  starts c h = processes_move k c h s (record c.processes { instances = change c.processes.instances p (started_as true) })
      (moved_with (Shows (whole_design k) k.program.now) k.schedule s c.processes h.processes p (started_as true) (started_as true) (record { bares = λ i. refl; ends = λ i. refl; shows = λ b i told. told })
      (set.contains k.schedule.ready.members p) same_stack m (shown_where_lives k p lives)
      (record c.processes { instances = change c.processes.instances p (started_as true) }) refl (sym (h.processes.ready p)) (λ q apart. refl)
      (stack_same (Shows (whole_design k) k.program.now) k.schedule s c.processes h.processes m.stack))

pub begins_at : (k j l : Kernel) (p : ℕ) → MovesAt k j p (λ c i. restarted c p i) → Moves j l (λ c. change_instance c p (λ i. record i { started = true })) → MovesAt k l p (λ c i. begins_first c p i)
begins_at k j l p first next c i h there = subst (λ is. StandsFor l (record c { processes = record c.processes { instances = is } }))
    (change-twice c.processes.instances p (λ z. record z { residual = begun (arena c) i.code i.arguments; trigger = None }) (λ z. record z { started = true })
    ∙ sym (change-twice c.processes.instances p (λ z. record z { trigger = None }) (λ z. record z { residual = begun (arena c) i.code i.arguments; started = true })))
    (next (restarted c p i) (first c i h there))

-- both at once
module _ (k : Kernel) (p : ℕ) (x : Entry (Process Kept)) (b : Body) (t : Option Trigger) (at : map.get k.schedule.table.live p ≡ Some x) (keeps : bodies.Keeps x.body.body.body b) where
  abbrev restarted_entry : Entry (Process Kept)
  restarted_entry = record x { body = record x.body { body = record x.body.body { body = b; trigger = t } } }

  abbrev pub with_begun : Schedule Kept
  with_begun = record k.schedule { table = record k.schedule.table { live = map.insert k.schedule.table.live p (record restarted_entry { started = true }) } }

  pub begun_moves : left_in k.program.now b ≡ begun (arena_of k.program.now.code) x.body.body.body.calls.code x.body.body.body.calls.arguments.items → t ≡ None → MovesAt k (record k { schedule = with_begun }) p (λ c i. begins_first c p i)
  begun_moves left none = begins_at k (record k { schedule = with_first k p x b t at keeps }) (record k { schedule = with_begun }) p (restarts_at k p x b t at keeps left none)
      (starts (record k { schedule = with_first k p x b t at keeps }) p with_begun (marks_one k.schedule p x restarted_entry at) (first_there k p x b t at keeps))

  pub begun_sound : IsSound k → bodies.IsSound k.program.now b → IsSound (record k { schedule = with_begun })
  begun_sound sound fine =
      let first = first_sound k p x b t at keeps sound fine in
      let m = marks_one k.schedule p x restarted_entry at in
      schedule_sound (record k { schedule = with_first k p x b t at keeps }) first with_begun (marks_sound k.schedule p x restarted_entry at first.schedule) m.bodies (ap (λ v. v.items) m.due) m.next

-- ---- the taking

set_same : {A : Type 0} (xs : List A) (n : ℕ) (x : A) → slice_get xs n ≡ Some x → slice_set xs n x ≡ xs
set_same [] n x at = refl
set_same (y ∷ xs) zero x at = ap (λ o. unwrap_or o y ∷ xs) (sym at)
set_same (y ∷ xs) (suc n) x at = ap (λ ys. y ∷ ys) (set_same xs n x at)

option_same : (o : Option Instance) → option_map (λ i. i) o ≡ o
option_same None = refl
option_same (Some i) = refl

-- who is runnable is there
pub runnable_lives : (k : Kernel) (p : ℕ) → IsSound k → set.contains k.schedule.ready.members p ≡ true → Lives k p
runnable_lives k p sound runs = by (map.get k.schedule.table.live p) refl (sound.schedule.each p)
  where
    by : (o : Option (Entry (Process Kept))) → map.get k.schedule.table.live p ≡ o → schedules.FitsAs o (seen k.schedule p) → is_some (map.get k.schedule.table.live p) ≡ true
    by None none nobody = absurd (true≢false (sym runs ∙ nobody.ready))
    by (Some x) some fits = ap is_some some

there_shown : (z : Schedule Kept) (q : ℕ) → map.contains_key z.table.live q ≡ is_some (shown_at z q)
there_shown z q = by (map.get z.table.live q)
  where
    by : (o : Option (Entry (Process Kept))) → is_some o ≡ is_some (option_map (λ (x : Entry (Process Kept)). as_instance x (seen z q).wait) o)
    by None = refl
    by (Some x) = refl

module _ (k : Kernel) (p : ℕ) (sound : IsSound k) (runs : set.contains k.schedule.ready.members p ≡ true) (nobody : k.schedule.stack.items ≡ [])
    (s : Schedule Kept) (fine : schedules.IsSound s) (m : MovesOne p (λ i. i) false (joins_top p) k.schedule s) where
  pub taken_sound : IsSound (record k { schedule = s })
  taken_sound = schedule_sound k sound s fine m.bodies (ap (λ v. v.items) m.due) m.next

  pub taken_lives : Lives (record k { schedule = s }) p
  taken_lives = there_shown s p ∙ ap is_some (m.here ∙ option_same (shown_at k.schedule p)) ∙ sym (there_shown k.schedule p) ∙ runnable_lives k p sound runs

  same_change : (is : List Instance) → change is p (λ i. i) ≡ is
  same_change is = by (slice_get is p) refl
    where
      by : (o : Option Instance) → slice_get is p ≡ o → changed_at is p (λ i. i) (slice_get is p) ≡ is
      by None at = ap (changed_at is p (λ i. i)) at
      by (Some i) at = ap (changed_at is p (λ i. i)) at ∙ set_same is p i at

  pub takes_moves : Moves k (record k { schedule = s }) (λ c. with_stack (with_runnable c (without c.processes.runnable p)) (p ∷ []))
  takes_moves c h = processes_move k c h s (record c.processes { runnable = without c.processes.runnable p; stack = p ∷ [] })
      (moved_with (Shows (whole_design k) k.program.now) k.schedule s c.processes h.processes p (λ i. i) (λ i. i) (record { bares = λ i. refl; ends = λ i. refl; shows = λ b i told. told })
      false (joins_top p) m (shown_where_lives k p (runnable_lives k p sound runs))
      (record c.processes { runnable = without c.processes.runnable p; stack = p ∷ [] }) (sym (same_change c.processes.instances)) (lacks_itself c.processes.runnable p) (λ q apart. has_others c.processes.runnable p q apart)
      (ap (λ xs. p ∷ xs) (sym (h.processes.stack ∙ ap reverse nobody)) ∙ stack_joined (Shows (whole_design k) k.program.now) k.schedule s c.processes h.processes p m.stack))

-- ---- all of a turn

-- a live instance is in the configuration
pub instance_there : (k : Kernel) (c : Config) → StandsFor k c → (p : ℕ) → Lives k p → (i : Instance) × (instance_at c p ≡ Some i)
instance_there k c h p lives = by (slice_get c.processes.instances p) refl (h.processes.each p)
  where
    by : (o : Option Instance) → slice_get c.processes.instances p ≡ o → Tells (Shows (whole_design k) k.program.now) (shown_at k.schedule p) (kept_at k.schedule p) o → (i : Instance) × (instance_at c p ≡ Some i)
    by None at none = absurd (true≢false (sym lives ∙ there_shown k.schedule p ∙ ap is_some none))
    by (Some i) at _ = (i, at)

abbrev told_turn : Config → ℕ → Instance → Config
told_turn c p i = with_told (with_stack (with_runnable c (without c.processes.runnable p)) (p ∷ [])) (turn (turn_line c.cycle.now i.path p))

module _ (k j : Kernel) (p : ℕ) (taken : Moves k j (λ c. with_stack (with_runnable c (without c.processes.runnable p)) (p ∷ []))) where
  told : (c : Config) (i : Instance) → StandsFor k c → StandsFor j (told_turn c p i)
  told c i h = let so = taken c h in trace_moves j (with_stack (with_runnable c (without c.processes.runnable p)) (p ∷ [])) so (told_turn c p i).trace

  module _ (lives : Lives j p) where
    in_place : (c : Config) → StandsFor k c → (i : Instance) × (instance_at c p ≡ Some i)
    in_place c h = instance_there j (with_stack (with_runnable c (without c.processes.runnable p)) (p ∷ [])) (taken c h) p lives

    -- whether it has begun is as the kernel keeps it
    begun_as : (c : Config) (h : StandsFor k c) → (in_place c h).0.started ≡ is_begun (map.get j.schedule.table.live p)
    begun_as c h = by (map.get j.schedule.table.live p) refl lives
      where
        by : (o : Option (Entry (Process Kept))) → map.get j.schedule.table.live p ≡ o → is_some o ≡ true → (in_place c h).0.started ≡ is_begun (map.get j.schedule.table.live p)
        by None none no_one = absurd (true≢false (sym no_one))
        by (Some x) some there = started_at j p x some (told_turn c p (in_place c h).0) (told c (in_place c h).0 h) (in_place c h).0 (in_place c h).1 ∙ sym (ap is_begun some)

    -- its body has begun before
    pub goes_on : is_begun (map.get j.schedule.table.live p) ≡ true → Moves k j (λ c. instance_taken c p (instance_at c p))
    goes_on is c h =
        let i = in_place c h in
        subst (λ o. StandsFor j (instance_taken c p o)) (sym i.1)
        (subst (λ b. StandsFor j (if b then told_turn c p i.0 else begins (change_instance (told_turn c p i.0) p (λ z. record z { trigger = None })) p i.0))
        (sym (begun_as c h ∙ is)) (told c i.0 h))

    -- or begins now
    pub goes_first : is_begun (map.get j.schedule.table.live p) ≡ false → (n : Kernel) → MovesAt j n p (λ c i. begins_first c p i) → Moves k n (λ c. instance_taken c p (instance_at c p))
    goes_first is n begun c h =
        let i = in_place c h in
        subst (λ o. StandsFor n (instance_taken c p o)) (sym i.1)
        (subst (λ b. StandsFor n (if b then told_turn c p i.0 else begins_first (told_turn c p i.0) p i.0))
        (sym (begun_as c h ∙ is))
        (begun (told_turn c p i.0) i.0 (told c i.0 h) i.1))
