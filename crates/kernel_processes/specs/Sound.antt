-- What holds of a schedule: its parts agree.
use Rattle.std.specs.Prelude.{◌≡◌, ◌≤◌, ◌<◌, ◌+◌, ◌-◌, ◌^◌, ℕ, Bool, true, false, List, [], ◌∷◌, Option, Some, None, vec_capacity, ⊤}
use Rattle.std.specs.FinMap as map
use Rattle.std.specs.FinSet as set
use Rattle.timed_queue.specs.SimTime.declared.moments.Time.{Time}
use Rattle.wait_lists.specs.EventCore.declared.event.Ev.{Ev}
use Rattle.instance_table.specs.declared.instances.Instance.{Instance as Entry}
use Rattle.instance_table.specs.declared.instances.Waiting.{Waiting}
use Rattle.instance_table.specs.declared.instances.Waiting.TheVariants as waiting
use Rattle.instance_table.specs.declared.instances.Deadline.{Deadline as Kept}
use Rattle.instance_table.specs.declared.instances.Deadline.TheVariants as due
use Rattle.instance_table.specs.declared.TheConstants.{MAX_LIVE}
use Rattle.wait_lists.specs.Waits as lists
use Rattle.kernel_processes.specs.InstanceViews.{Seen, seen, listed, is_on}
use Rattle.kernel_processes.specs.declared.parts.Process.{Process}
use Rattle.kernel_processes.specs.declared.parts.Schedule.{Schedule}

-- the wait lists have what the entry says
abbrev pub Agrees : Waiting → List Ev → Option lists.Wait → Type 0
Agrees waiting.None static w = w ≡ None
Agrees waiting.Static static w = w ≡ lists.any_of static
Agrees waiting.Any static w = w ≡ lists.any_of (listed w)
Agrees waiting.All static w = w ≡ lists.all_of (listed w)

abbrev pub time_of : Kept → Option Time
time_of due.None = None
time_of due.Delta = None
time_of (due.At t) = Some (record { 0 = t })

abbrev pub is_zero : Kept → Bool
is_zero due.None = false
is_zero due.Delta = true
is_zero (due.At t) = false

-- no doubles
abbrev pub IsOnce : List ℕ → Type 0
IsOnce [] = ⊤
IsOnce (p ∷ ps) = (is_on ps p ≡ false) × IsOnce ps

module _ {B : Type 0} where
  -- it waits for nothing
  pub record IsFree (x : Entry (Process B)) : Type 0 where
    pub wait : x.wait ≡ waiting.None
    pub deadline : x.deadline ≡ due.None

  -- of a live instance: what is runnable, or kept till it is resumed, waits for nothing; the former is not suspended, the
  -- latter is
  pub record IsKept (x : Entry (Process B)) (s : Seen B) : Type 0 where
    pub wait : Agrees x.wait x.body.sensitive s.wait
    pub muted : s.muted ≡ x.disabled
    pub has_room : s.has_room ≡ true
    pub time : s.time ≡ time_of x.deadline
    pub zero : s.zero ≡ is_zero x.deadline
    pub runs : s.ready ≡ true → IsFree x × (x.suspended ≡ false)
    pub kept : x.kept ≡ true → IsFree x × (x.suspended ≡ true)

  -- of an active instance: it waits for nothing, and is neither runnable nor kept
  pub record IsBusy (x : Entry (Process B)) (s : Seen B) : Type 0 where
    pub free : IsFree x
    pub ready : s.ready ≡ false
    pub kept : x.kept ≡ false

  -- of a serial that no live instance has
  pub record IsNobody (s : Seen B) : Type 0 where
    pub wait : s.wait ≡ None
    pub muted : s.muted ≡ false
    pub has_room : s.has_room ≡ false
    pub time : s.time ≡ None
    pub zero : s.zero ≡ false
    pub ready : s.ready ≡ false

  abbrev pub FitsAs : Option (Entry (Process B)) → Seen B → Type 0
  FitsAs None s = IsNobody s
  FitsAs (Some x) s = IsKept x s

  abbrev pub Fits : Seen B → Type 0
  Fits s = FitsAs s.entry s

  pub record IsSound (s : Schedule B) : Type 0 where
    pub each : (p : ℕ) → Fits (seen s p)
    pub active : (p : ℕ) → is_on s.stack.items p ≡ true → map.contains_key s.table.live p ≡ true
    pub once : IsOnce s.stack.items
    pub busy : (p : ℕ) (x : Entry (Process B)) → is_on s.stack.items p ≡ true → map.get s.table.live p ≡ Some x → IsBusy x (seen s p)
    -- there is room for every live instance on the stack, among the runnable ones, among those that one event wakes, and among
    -- those whose time is over
    pub stack_room : map.len s.table.live ≤ vec_capacity s.stack
    pub ready_room : map.len s.table.live ≤ set.len s.ready.members + s.ready.spare
    pub woken_room : map.len s.table.live ≤ vec_capacity s.woken
    pub due_room : map.len s.table.live ≤ vec_capacity s.due
    pub nobody_woken : s.woken.items ≡ []
    -- no more are live than may be
    pub few : map.len s.table.live ≤ MAX_LIVE
    -- serials are below the next one, and fit
    pub below : (p : ℕ) → map.contains_key s.table.live p ≡ true → p < s.table.next
    pub serials : s.table.next < 2 ^ 32 - 1
