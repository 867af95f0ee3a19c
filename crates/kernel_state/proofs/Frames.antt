-- A part moves, and the kernel stands for the configuration in which that part moved.
use Rattle.std.proofs.Common.{◌≡◌, ◌≢◌, ◌≤◌, ◌+◌, ◌^◌, ◌==◌, ◌||◌, ℕ, zero, suc, Bool, true, false, List, [], ◌∷◌, ◌++◌, drop, length, slice_get, slice_set, Option, Some, None, option_map, refl, sym, ap, ◌∙◌, subst, arith, true≢false, ⊎_elim}
use Rattle.std.specs.Global.{Vec}
use Rattle.std.specs.Prelude.{is_some}
use Rattle.std.proofs.lemmas.Bool.{cases_eq}
use Rattle.std.specs.FinMap as map
use Rattle.std.specs.FinSet as set
use Rattle.kernel_processes.specs.EventCore.declared.event.Ev.{Ev}
use Rattle.kernel_processes.specs.EventCore.declared.notifications.Pending.{Pending}
use Rattle.kernel_processes.specs.LogicValues.declared.kinds.Value.{Value}
use Rattle.kernel_processes.specs.InstanceTable.declared.instances.Instance.{Instance as Entry}
use Rattle.kernel_processes.specs.FlatDesign.Code.{Arena, arena_of}
use Rattle.kernel_processes.specs.SimModel.Residual.{Residual, settle, in_innermost, goal}
use Rattle.kernel_processes.specs.SimModel.Unwinding.{unw}
use Rattle.kernel_processes.specs.SimModel.declared.plain.Goal.{Goal}
use Rattle.kernel_processes.specs.SimModel.Configuration as model
use Rattle.kernel_processes.specs.SimModel.Configuration.{Config, Instance, Processes, Channels, Transactions, Trace, changed_at, change, change_instance, instance_at, with_residual, with_marks, arena}
use Rattle.kernel_processes.specs.SimModel.Waits.{holds, fire, waits, leaves_stack}
use Rattle.kernel_processes.specs.SimModel.Statements.{settled_in}
use Rattle.kernel_processes.specs.SimModel.Storing.{with_local, set_local}
use Rattle.process_bodies.specs.KernelBodies.Strip.{strip}
use Rattle.process_bodies.proofs.KernelBodies.Strips.{strip-settle, strip-in_innermost, strip-unw}
use Rattle.kernel_processes.specs.NumberedSlots.Numbered.{with_value}
use Rattle.kernel_processes.specs.Woken.{after_event, joins_by}
use Rattle.kernel_processes.proofs.OtherBody.{puts_body, puts_sound}
use Rattle.kernel_processes.proofs.Sounding.{on_top}
use Rattle.kernel_processes.proofs.Wakes.{set-here, change-here, change-other, fire_rouses}
use Rattle.process_bodies.specs.Bodies as bodies
use Rattle.process_bodies.specs.Bodies.{left_in}
use Rattle.process_bodies.specs.declared.body.Body.{Body}
use Rattle.kernel_processes.specs.InstanceViews.{seen, shown_at, is_on, as_instance, deadline_of}
use Rattle.kernel_processes.specs.InstanceViews.{body_at as kept_at}
use Rattle.kernel_processes.specs.Sound as schedules
use Rattle.kernel_processes.specs.Moves.{MovesOne, Rouses}
use Rattle.kernel_processes.specs.declared.parts.Process.{Process}
use Rattle.kernel_processes.specs.declared.parts.Schedule.{Schedule}
use Rattle.kernel_processes.specs.declared.parts.Trigger.{Trigger}
use Rattle.kernel_processes.specs.Moved.{IsTop, same_stack, leaves_top, joins_top, Stays, Ends, Spawns, PutsBody, wait_as, waits_as}
use Rattle.kernel_transactions.specs.Board.{StandsForTransactions, SameQuantum, IsWithin}
use Rattle.kernel_transactions.specs.declared.TransactionBoard.{TransactionBoard}
use Rattle.kernel_state.specs.Processes.{Beside, beside, TellsBy, Tells, StandsForProcesses}
use Rattle.kernel_state.specs.Kernel.{Shows, StandsFor, IsSound, whole_design, path_in}
use Rattle.kernel_state.specs.Moves.{Moves, MovesAt, Steps, stepped, Lives, HasStatement, KeepsBodies}
use Rattle.kernel_state.specs.declared.kernel.Kept.{Kept}
use Rattle.kernel_state.specs.declared.kernel.Kernel.{Kernel}
use Rattle.kernel_state.proofs.ProcessFrames.{Agrees, stays, moved_with, stack_same, stack_left, stack_joined, put_stands, roused_stands, rousing_event}

abbrev unwrap : Option Kept → Kept → Kept
unwrap None x = x
unwrap (Some x) y = x

-- what is kept for an instance is kept for one that has not ended
there_as : {A B : Type 0} (f : A → B) (o : Option A) → is_some (option_map f o) ≡ is_some o
there_as f None = refl
there_as f (Some a) = refl

pub lives_by_kept : (s : Schedule Kept) (p : ℕ) (kept : Kept) → kept_at s p ≡ Some kept → map.contains_key s.table.live p ≡ true
lives_by_kept s p kept at = sym (there_as (λ (z : Entry (Process Kept)). z.body.body) (map.get s.table.live p)) ∙ ap is_some at

-- an element changed twice
set-twice : {A : Type 0} (xs : List A) (n : ℕ) (a b : A) → slice_set (slice_set xs n a) n b ≡ slice_set xs n b
set-twice [] n a b = refl
set-twice (x ∷ xs) zero a b = refl
set-twice (x ∷ xs) (suc n) a b = ap (λ ys. x ∷ ys) (set-twice xs n a b)

change-twice_by : {A : Type 0} (xs : List A) (n : ℕ) (f g : A → A) (o : Option A) → slice_get xs n ≡ o → change (change xs n f) n g ≡ change xs n (λ a. g (f a))
change-twice_by xs n f g None none = ap (λ o. change (changed_at xs n f o) n g) none ∙ ap (changed_at xs n g) none ∙ sym (ap (changed_at xs n (λ a. g (f a))) none)
change-twice_by xs n f g (Some a) some = ap (λ o. change (changed_at xs n f o) n g) some
    ∙ ap (changed_at (slice_set xs n (f a)) n g) (set-here xs n a (f a) some) ∙ set-twice xs n (f a) (g (f a)) ∙ sym (ap (changed_at xs n (λ a. g (f a))) some)

pub change-twice : {A : Type 0} (xs : List A) (n : ℕ) (f g : A → A) → change (change xs n f) n g ≡ change xs n (λ a. g (f a))
change-twice xs n f g = change-twice_by xs n f g (slice_get xs n) refl

-- ---- one part

module _ (k : Kernel) (c : Config) (h : StandsFor k c) where
  -- the parents stay
  pub processes_move : (s : Schedule Kept) (x : Processes) → StandsForProcesses (Shows (whole_design k) k.program.now) s x → StandsFor (record k { schedule = s }) (record c { processes = record x { parents = c.processes.parents } })
  processes_move s x stands = record {
    design = h.design;
    cycle = h.cycle;
    processes = record { each = stands.each; ready = stands.ready; stack = stands.stack; next = stands.next };
    parents = h.parents;
    events = h.events;
    channels = h.channels;
    transactions = h.transactions;
    quantum = h.quantum;
    variables = h.variables;
    memories = h.memories;
  }

  -- the parents alone move
  pub parents_move : (ps : Vec (Option ℕ)) → StandsFor (record k { parents = ps }) (record c { processes = record c.processes { parents = ps.items } })
  parents_move ps = record {
    design = h.design;
    cycle = h.cycle;
    processes = record { each = h.processes.each; ready = h.processes.ready; stack = h.processes.stack; next = h.processes.next };
    parents = refl;
    events = h.events;
    channels = h.channels;
    transactions = h.transactions;
    quantum = h.quantum;
    variables = h.variables;
    memories = h.memories;
  }

  -- what was seen of the run is not kept
  pub trace_moves : (t : Trace) → StandsFor k (record c { trace = t })
  trace_moves t = record {
    design = h.design;
    cycle = h.cycle;
    processes = h.processes;
    parents = h.parents;
    events = h.events;
    channels = h.channels;
    transactions = h.transactions;
    quantum = h.quantum;
    variables = h.variables;
    memories = h.memories;
  }

module _ (k : Kernel) (c : Config) (h : StandsFor k c) where
  pub channels_move : (x : Channels) → StandsFor (record k { channels = x }) (record c { channels = x })
  channels_move x = record {
    design = h.design;
    cycle = h.cycle;
    processes = h.processes;
    parents = h.parents;
    events = h.events;
    channels = refl;
    transactions = h.transactions;
    quantum = h.quantum;
    variables = h.variables;
    memories = h.memories;
  }

module _ (k : Kernel) (c : Config) (h : StandsFor k c) where
  pub transactions_move : (b : TransactionBoard) (x : Transactions) → StandsForTransactions b x → SameQuantum k.transactions b → StandsFor (record k { transactions = b }) (record c { transactions = x })
  transactions_move b x stands same = record {
    design = h.design;
    cycle = h.cycle;
    processes = h.processes;
    parents = h.parents;
    events = h.events;
    channels = h.channels;
    transactions = stands;
    quantum = same ∙ h.quantum;
    variables = h.variables;
    memories = h.memories;
  }

-- what was made, and how many hold it, stays below more
pub within_more : (n m : ℕ) (b : TransactionBoard) → n ≤ m → IsWithin n b → IsWithin m b
within_more n m b le within = record {
  numbers = let few = within.numbers in omega (arith, few, le);
  counts = λ t x is. let few = within.counts t x is in omega (arith, few, le);
  live = within.live;
}

-- the schedule moves, and the bodies stay
pub keeps_bodies : (k : Kernel) (s : Schedule Kept) → ((q : ℕ) → kept_at s q ≡ kept_at k.schedule q) → KeepsBodies k (record k { schedule = s })
keeps_bodies k s same = record { bodies = same; program = refl; design = refl }

-- ---- soundness

module _ (k : Kernel) (sound : IsSound k) where
  pub schedule_sound : (s : Schedule Kept) → schedules.IsSound s → ((q : ℕ) → kept_at s q ≡ kept_at k.schedule q) → s.due.items ≡ k.schedule.due.items → s.table.next ≡ k.schedule.table.next → IsSound (record k { schedule = s })
  schedule_sound s fine same due next = record {
    schedule = fine;
    bodies = λ p kept at. sound.bodies p kept (sym (same p) ∙ at);
    nobody_due = due ∙ sound.nobody_due;
    serials = subst (λ n. n ≤ 2 ^ 16 + k.made) (sym next) sound.serials;
    payloads = sound.payloads;
  }

-- ---- what is kept for an instance

module _ (k : Kernel) (p : ℕ) (new : Kept) (s : Schedule Kept) (puts : PutsBody p new k.schedule s) where
  pub kept_sound : IsSound k → schedules.IsSound s → bodies.IsSound k.program.now new.body → IsSound (record k { schedule = s })
  kept_sound sound fine body_fine = record {
    schedule = fine;
    bodies = λ q other found. ⊎_elim
        (λ same. subst (λ v. bodies.IsSound k.program.now v.body) (ap (λ o. unwrap o new) (sym (puts.body) ∙ ap (kept_at s) (sym same) ∙ found)) body_fine)
        (λ apart. sound.bodies q other (sym (puts.bodies q apart) ∙ found))
        (cases_eq q p);
    nobody_due = ap (λ v. v.items) puts.due ∙ sound.nobody_due;
    serials = subst (λ n. n ≤ 2 ^ 16 + k.made) (sym puts.next) sound.serials;
    payloads = sound.payloads;
  }

-- ---- the body of an instance

module _ (k : Kernel) (p : ℕ) (kept : Kept) (b : Body) (at : kept_at k.schedule p ≡ Some kept) (s : Schedule Kept) (puts : PutsBody p (record kept { body = b }) k.schedule s) (keeps : bodies.Keeps kept.body b) where
  -- the residual of the instance becomes what its body stands for
  pub residual_moves : (c : Config) → StandsFor k c → (n : Residual) → strip n ≡ left_in k.program.now b → StandsFor (record k { schedule = s }) (with_residual c p n)
  residual_moves c h n is = processes_move k c h s (record c.processes { instances = change c.processes.instances p (λ i. record i { residual = n }) })
      (put_stands (Shows (whole_design k) k.program.now) k.schedule s c.processes h.processes p (record kept { body = b }) (λ i. record i { residual = n }) puts (λ i. refl) (λ i. refl) (λ i none. none) shows)
    where
      shows : (a : Kept) (i : Instance) → kept_at k.schedule p ≡ Some a → slice_get c.processes.instances p ≡ Some i → Shows (whole_design k) k.program.now a (beside i)
          → Shows (whole_design k) k.program.now (record kept { body = b }) (beside (record i { residual = n }))
      shows a i found there old =
          let same : a ≡ kept = ap (λ o. unwrap o kept) (sym found ∙ at) in
          let o = subst (λ v. Shows (whole_design k) k.program.now v (beside i)) same old in
          record {
            home = o.home;
            path = subst (λ f. i.path ≡ path_in (whole_design k) kept.home f kept.path) (sym keeps.code) o.path;
            code = o.code ∙ sym keeps.code;
            arguments = o.arguments ∙ sym keeps.arguments;
            residual = is;
            trigger = o.trigger;
          }

-- ---- what a body stood for

module _ (k : Kernel) (p : ℕ) (x : Entry (Process Kept)) (at : map.get k.schedule.table.live p ≡ Some x) where
  pub was : kept_at k.schedule p ≡ Some x.body.body
  was = ap (option_map (λ (z : Entry (Process Kept)). z.body.body)) at

  pub old_body_sound : IsSound k → bodies.IsSound k.program.now x.body.body.body
  old_body_sound sound = sound.bodies p x.body.body was

  -- what the body stood for
  pub left_before : (c : Config) (i : Instance) → StandsFor k c → instance_at c p ≡ Some i → strip i.residual ≡ left_in k.program.now x.body.body.body
  left_before c i h there = (shown_before c i h there).residual
    where
      shown_before : (c : Config) (i : Instance) → StandsFor k c → instance_at c p ≡ Some i → Shows (whole_design k) k.program.now x.body.body (beside i)
      shown_before c i h there = by i.ended refl (subst (Tells (Shows (whole_design k) k.program.now) (shown_at k.schedule p) (kept_at k.schedule p)) there (h.processes.each p))
        where
          by : (e : Bool) → i.ended ≡ e → TellsBy (Shows (whole_design k) k.program.now) i.ended (shown_at k.schedule p) (kept_at k.schedule p) i → Shows (whole_design k) k.program.now x.body.body (beside i)
          by e is tells = live_shows e (subst (λ b. TellsBy (Shows (whole_design k) k.program.now) b (shown_at k.schedule p) (kept_at k.schedule p) i) is tells)
            where
              live_shows : (e : Bool) → TellsBy (Shows (whole_design k) k.program.now) e (shown_at k.schedule p) (kept_at k.schedule p) i → Shows (whole_design k) k.program.now x.body.body (beside i)
              live_shows true none = absurd (true≢false (ap is_some (sym (ap (option_map (λ (z : Entry (Process Kept)). as_instance z (seen k.schedule p).wait)) at) ∙ none.0)))
              live_shows false lives = subst (λ v. Shows (whole_design k) k.program.now v (beside i)) (ap (λ o. unwrap o x.body.body) (sym lives.kept.1.0 ∙ was)) lives.kept.1.1

  -- and what it stands for settled, in the words of the configuration
  pub settled_before : (c : Config) (i : Instance) → StandsFor k c → instance_at c p ≡ Some i → strip (settle (arena c) i.residual) ≡ bodies.settled_in k.program.now x.body.body.body
  settled_before c i h there = strip-settle (arena c) i.residual ∙ ap (settle (arena c)) (left_before c i h there) ∙ ap (λ d. settle (arena_of d.code) (left_in k.program.now x.body.body.body)) h.design

-- ---- the first move of a step: another residual in place of the settled one

module _ (k : Kernel) (p : ℕ) (x : Entry (Process Kept)) (b : Body) (at : map.get k.schedule.table.live p ≡ Some x) (keeps : bodies.Keeps x.body.body.body b) where
  abbrev pub with_body : Schedule Kept
  with_body = record k.schedule { table = with_value k.schedule.table p (record x { body = record x.body { body = record x.body.body { body = b } } }) }

  puts : PutsBody p (record x.body.body { body = b }) k.schedule with_body
  puts = puts_body k.schedule p x (record x.body.body { body = b }) at

  pub one_body_sound : IsSound k → bodies.IsSound k.program.now b → IsSound (record k { schedule = with_body })
  one_body_sound sound fine = kept_sound k p (record x.body.body { body = b }) with_body puts sound (puts_sound k.schedule p x (record x.body.body { body = b }) at sound.schedule) fine

  -- over the configuration in which finished parts fell away
  pub steps_to : (c : Config) (i : Instance) → StandsFor k c → instance_at c p ≡ Some i → (n : Residual) → strip n ≡ left_in k.program.now b
      → StandsFor (record k { schedule = with_body }) (with_residual (settled_in c p i.residual) p n)
  steps_to c i h there n is =
      subst (λ is. StandsFor (record k { schedule = with_body }) (record (with_residual c p n) { processes = record c.processes { instances = is }; trace = (settled_in c p i.residual).trace }))
      (sym (change-twice c.processes.instances p (λ j. record j { residual = settle (arena c) i.residual }) (λ j. record j { residual = n })))
      (trace_moves (record k { schedule = with_body }) (with_residual c p n) (residual_moves k p x.body.body b (was k p x at) with_body puts keeps c h n is) (settled_in c p i.residual).trace)

  -- the residual becomes what a function makes of it
  pub local_moves : (n : ℕ) (v : Value) → ((a : Arena) → bodies.left_of a b ≡ in_innermost (with_local n v) (bodies.left_of a x.body.body.body)) → Moves k (record k { schedule = with_body }) (λ c. set_local c p n v)
  local_moves n v left c h = processes_move k c h with_body (record c.processes { instances = change c.processes.instances p (λ i. record i { residual = in_innermost (with_local n v) i.residual }) })
      (put_stands (Shows (whole_design k) k.program.now) k.schedule with_body c.processes h.processes p (record x.body.body { body = b }) (λ i. record i { residual = in_innermost (with_local n v) i.residual }) puts (λ i. refl) (λ i. refl) (λ i none. none)
      (λ a i found there old.
      let o = subst (λ w. Shows (whole_design k) k.program.now w (beside i)) (ap (λ o. unwrap o x.body.body) (sym found ∙ was k p x at)) old in
      record {
        home = o.home;
        path = subst (λ f. i.path ≡ path_in (whole_design k) x.body.body.home f x.body.body.path) (sym keeps.code) o.path;
        code = o.code ∙ sym keeps.code;
        arguments = o.arguments ∙ sym keeps.arguments;
        residual = strip-in_innermost (with_local n v) i.residual ∙ ap (in_innermost (with_local n v)) o.residual ∙ sym (left (arena_of k.program.now.code));
        trigger = o.trigger;
      }))

  -- the instance is there still
  pub there_still : map.contains_key with_body.table.live p ≡ true
  there_still = lives_by_kept with_body p (record x.body.body { body = b }) puts.body

  -- what is left is unwound
  pub unwound_moves : (end : Goal) → ((a : Arena) → bodies.left_of a b ≡ goal (unw (bodies.left_of a x.body.body.body)) end) → MovesAt k (record k { schedule = with_body }) p (λ c i. with_residual c p (goal (unw i.residual) end))
  unwound_moves end left c i h there = residual_moves k p x.body.body b (was k p x at) with_body puts keeps c h (goal (unw i.residual) end)
      (ap (λ r. goal r end) (strip-unw i.residual ∙ ap unw (left_before k p x at c i h there)) ∙ sym (left (arena_of k.program.now.code)))

-- ---- the next trigger of an instance is gone

module _ (k : Kernel) (p : ℕ) (x : Entry (Process Kept)) (at : map.get k.schedule.table.live p ≡ Some x) where
  abbrev pub without_trigger : Schedule Kept
  without_trigger = record k.schedule { table = with_value k.schedule.table p (record x { body = record x.body { body = record x.body.body { trigger = None } } }) }

  puts_untriggered : PutsBody p (record x.body.body { trigger = None }) k.schedule without_trigger
  puts_untriggered = puts_body k.schedule p x (record x.body.body { trigger = None }) at

  pub untriggered_there : map.contains_key without_trigger.table.live p ≡ true
  untriggered_there = lives_by_kept without_trigger p (record x.body.body { trigger = None }) puts_untriggered.body

  pub untriggered_sound : IsSound k → IsSound (record k { schedule = without_trigger })
  untriggered_sound sound = kept_sound k p (record x.body.body { trigger = None }) without_trigger puts_untriggered sound (puts_sound k.schedule p x (record x.body.body { trigger = None }) at sound.schedule) (old_body_sound k p x at sound)

  pub untriggered_moves : Moves k (record k { schedule = without_trigger }) (λ c. change_instance c p (λ i. record i { trigger = None }))
  untriggered_moves c h = processes_move k c h without_trigger (record c.processes { instances = change c.processes.instances p (λ i. record i { trigger = None }) })
      (put_stands (Shows (whole_design k) k.program.now) k.schedule without_trigger c.processes h.processes p (record x.body.body { trigger = None }) (λ i. record i { trigger = None }) puts_untriggered (λ i. refl) (λ i. refl) (λ i none. none)
      (λ a i found there old.
      let o = subst (λ w. Shows (whole_design k) k.program.now w (beside i)) (ap (λ o. unwrap o x.body.body) (sym found ∙ was k p x at)) old in
      record {
        home = o.home;
        path = o.path;
        code = o.code;
        arguments = o.arguments;
        residual = o.residual;
        trigger = refl;
      }))

-- ---- events

module _ (k : Kernel) (sound : IsSound k) (s : Schedule Kept) (fine : schedules.IsSound s) where
  module _ (e : Ev) (r : Rouses (λ q. after_event e) (λ q. joins_by e) k.schedule s) where
    pub fired_sound : IsSound (record k { schedule = s })
    fired_sound = schedule_sound k sound s fine r.bodies (ap (λ v. v.items) r.due) r.next

    pub fired_moves : Moves k (record k { schedule = s }) (λ c. fire c e)
    fired_moves c h = subst (StandsFor (record k { schedule = s })) (sym (fire_rouses c e).others)
        (processes_move k c h s (record c.processes { runnable = (fire c e).processes.runnable; instances = (fire c e).processes.instances })
        (subst (StandsForProcesses (Shows (whole_design k) k.program.now) s) (ap (λ d. d.processes) (fire_rouses c e).others)
        (roused_stands (Shows (whole_design k) k.program.now) (λ q. after_event e) (λ q. joins_by e) (rousing_event (Shows (whole_design k) k.program.now) e) k.schedule s c (fire c e) r (fire_rouses c e) h.processes)))

-- ---- an instance that has not ended is shown

pub shown_where_lives : (k : Kernel) (p : ℕ) → Lives k p → is_some (shown_at k.schedule p) ≡ true
shown_where_lives k p lives = by (map.get k.schedule.table.live p) refl lives
  where
    by : (o : Option (Entry (Process Kept))) → map.get k.schedule.table.live p ≡ o → is_some o ≡ true → is_some (shown_at k.schedule p) ≡ true
    by None none is = absurd (true≢false (sym is))
    by (Some z) some is = ap (λ o. is_some (option_map (λ (x : Entry (Process Kept)). as_instance x (seen k.schedule p).wait) o)) some

-- ---- a wait of the instance on top

module _ (k : Kernel) (p : ℕ) (sound : IsSound k) (top : IsTop p k.schedule.stack.items) where
  on_now : is_on k.schedule.stack.items p ≡ true
  on_now = ap (λ xs. is_on xs p) top.1 ∙ on_top top.0 p

  pub lives_on_top : map.contains_key k.schedule.table.live p ≡ true
  lives_on_top = sound.schedule.active p on_now

  shows_on_top : is_some (shown_at k.schedule p) ≡ true
  shows_on_top = shown_where_lives k p lives_on_top

  not_ready : set.contains k.schedule.ready.members p ≡ false
  not_ready = by (map.get k.schedule.table.live p) refl lives_on_top
    where
      by : (o : Option (Entry (Process Kept))) → map.get k.schedule.table.live p ≡ o → is_some o ≡ true → set.contains k.schedule.ready.members p ≡ false
      by None none is = absurd (true≢false (sym is))
      by (Some z) some is = (sound.schedule.busy p z on_now some).ready

  module _ (s : Schedule Kept) (fine : schedules.IsSound s) where
    pub stays_sound : Stays k.schedule s → IsSound (record k { schedule = s })
    stays_sound st = schedule_sound k sound s fine st.bodies st.due st.next

    pub stays_moves : Stays k.schedule s → Moves k (record k { schedule = s }) (λ c. c)
    stays_moves st c h = processes_move k c h s c.processes (stays (Shows (whole_design k) k.program.now) k.schedule s c.processes h.processes st)

    module _ (t : Trigger) (m : MovesOne p (waits_as t) false (leaves_top p) k.schedule s) where
      pub waits_sound : IsSound (record k { schedule = s })
      waits_sound = schedule_sound k sound s fine m.bodies (ap (λ v. v.items) m.due) m.next

      pub waits_moves : Moves k (record k { schedule = s }) (λ c. waits c p (wait_as t.wait) (deadline_of t.deadline))
      waits_moves c h = processes_move k c h s (record c.processes { instances = change c.processes.instances p (λ i. record i { wait = wait_as t.wait; deadline = deadline_of t.deadline }); stack = drop 1 c.processes.stack })
          (moved_with (Shows (whole_design k) k.program.now) k.schedule s c.processes h.processes p (waits_as t) (λ i. record i { wait = wait_as t.wait; deadline = deadline_of t.deadline })
          (record { bares = λ i. refl; ends = λ i. refl; shows = λ b i told. told }) false (leaves_top p) m shows_on_top
          (record c.processes { instances = change c.processes.instances p (λ i. record i { wait = wait_as t.wait; deadline = deadline_of t.deadline }); stack = drop 1 c.processes.stack })
          refl (sym (h.processes.ready p) ∙ not_ready) (λ q apart. refl) (stack_left (Shows (whole_design k) k.program.now) k.schedule s c.processes h.processes p m.stack))

-- ---- what stays with the bodies

module _ (old new : Kernel) (p : ℕ) (keeps : KeepsBodies old new) where
  pub lives_still : Lives old p → Lives new p
  lives_still lives = sym (there_as (λ (z : Entry (Process Kept)). z.body.body) (map.get new.schedule.table.live p)) ∙ ap is_some (keeps.bodies p) ∙ there_as (λ (z : Entry (Process Kept)). z.body.body) (map.get old.schedule.table.live p) ∙ lives

  pub statement_still : HasStatement old p → HasStatement new p
  statement_still shows kept at = subst (λ q. bodies.IsStatement (bodies.next_in q kept.body)) (sym keeps.program) (shows kept (sym (keeps.bodies p) ∙ at))

-- ---- a wait of which the body is seen to afterwards

module _ (c : Config) (p : ℕ) (i : Instance) (w : model.Wait) (d : model.Deadline) (there : instance_at c p ≡ Some i) where
  waiting_there : instance_at (waits c p w d) p ≡ Some (record i { wait = w; deadline = d })
  waiting_there = change-here c.processes.instances p (λ j. record j { wait = w; deadline = d }) ∙ ap (option_map (λ (j : Instance). record j { wait = w; deadline = d })) there

  -- both ways round the instance is the same
  waits_last : (r n : Residual) → change (change (change c.processes.instances p (λ j. record j { wait = w; deadline = d })) p (λ j. record j { residual = r })) p (λ j. record j { residual = n })
      ≡ change (change (change c.processes.instances p (λ j. record j { residual = r })) p (λ j. record j { residual = n })) p (λ j. record j { wait = w; deadline = d })
  waits_last r n = ap (λ is. change is p (λ j. record j { residual = n })) (change-twice c.processes.instances p (λ j. record j { wait = w; deadline = d }) (λ j. record j { residual = r }))
      ∙ change-twice c.processes.instances p (λ j. record j { wait = w; deadline = d; residual = r }) (λ j. record j { residual = n })
      ∙ sym (ap (λ is. change is p (λ j. record j { wait = w; deadline = d })) (change-twice c.processes.instances p (λ j. record j { residual = r }) (λ j. record j { residual = n }))
      ∙ change-twice c.processes.instances p (λ j. record j { residual = n }) (λ j. record j { wait = w; deadline = d }))

  pub waits_then : (k : Kernel) (n : Residual) → StandsFor k (with_residual (settled_in (waits c p w d) p i.residual) p n) → StandsFor k (waits (with_residual (settled_in c p i.residual) p n) p w d)
  waits_then k n h = subst (λ is. StandsFor k (record (waits (with_residual (settled_in c p i.residual) p n) p w d) { processes = record c.processes { instances = is; stack = drop 1 c.processes.stack } })) (waits_last (settle (arena c) i.residual) n) h

  pub steps_after : (k j : Kernel) (f : Residual → Residual) → Moves k j (λ c. waits c p w d) → (l : Kernel) → Steps j l p (λ c q i r. with_residual c q (f r)) → StandsFor k c → StandsFor l (waits (with_residual (settled_in c p i.residual) p (f (settle (arena c) i.residual))) p w d)
  steps_after k j f first l next h = waits_then l (f (settle (arena c) i.residual)) (next (waits c p w d) (record i { wait = w; deadline = d }) (first c h) waiting_there)
