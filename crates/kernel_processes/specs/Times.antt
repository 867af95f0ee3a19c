-- Waits that end by time.
use Rattle.std.specs.Prelude.{◌≡◌, ◌≤◌, ◌+◌, ℕ, Bool, true, false, ◌&&◌, ◌||◌, List, take, length, vec_capacity, Some, None, option_map, if◌then◌else◌}
use Rattle.std.specs.FinMap as map
use Rattle.std.specs.FinSet as set
use Rattle.instance_table.specs.declared.instances.Instance.{Instance as Entry}
use Rattle.instance_table.specs.declared.instances.Deadline.TheVariants as due
use Rattle.sim_model.specs.Configuration.{Instance, Deadline, at_time}
use Rattle.sim_model.specs.Phases.{without_deadline}
use Rattle.kernel_processes.specs.Woken.{if_there, after_wake, joins}
use Rattle.kernel_processes.specs.InstanceViews.{Seen, seen, is_on, shown_at, body_at}
use Rattle.kernel_processes.specs.Sound.{IsOnce, IsSound}
use Rattle.kernel_processes.specs.declared.parts.Process.{Process}
use Rattle.kernel_processes.specs.declared.parts.Schedule.{Schedule}

-- those that stand in a list move, and those of them join that pass the test
abbrev pub those_on : List ℕ → (Bool → Instance → Instance) → ℕ → Bool → Instance → Instance
those_on ps f q active i = if is_on ps q then f active i else i

abbrev pub those_join : List ℕ → (Bool → Instance → Bool) → ℕ → Bool → Instance → Bool
those_join ps f q active i = is_on ps q && f active i

module _ {B : Type 0} where
  abbrev pub over_entry : Entry (Process B) → Entry (Process B)
  over_entry x = record x { deadline = due.None }

  -- what becomes of an instance for whose wait there is no time any more
  abbrev pub over : Seen B → Seen B
  over x = record x { entry = option_map over_entry x.entry; time = None; zero = false }

  abbrev pub over_if : Bool → Seen B → Seen B
  over_if true x = over x
  over_if false x = x

  -- it becomes that of those that are due
  pub record PutsAllOver (s t : Schedule B) : Type 0 where
    pub each : (q : ℕ) → seen t q ≡ over_if (is_on s.due.items q) (seen s q)
    pub stack : t.stack ≡ s.stack
    pub woken : t.woken ≡ s.woken
    pub due : t.due ≡ s.due
    pub next : t.table.next ≡ s.table.next
    pub count : map.len t.table.live ≡ map.len s.table.live
    pub places : set.len t.ready.members + t.ready.spare ≡ set.len s.ready.members + s.ready.spare

  -- the first of those that are due
  pub record PutsSomeOver (n : ℕ) (s t : Schedule B) : Type 0 where
    pub each : (q : ℕ) → seen t q ≡ over_if (is_on (take n s.due.items) q) (seen s q)
    pub within : n ≤ length s.due.items
    pub stack : t.stack ≡ s.stack
    pub woken : t.woken ≡ s.woken
    pub due : t.due ≡ s.due
    pub next : t.table.next ≡ s.table.next
    pub count : map.len t.table.live ≡ map.len s.table.live
    pub places : set.len t.ready.members + t.ready.spare ≡ set.len s.ready.members + s.ready.spare

  -- some of those that a test picks are due
  pub record TakesSome (pick : Seen B → Bool) (s t : Schedule B) : Type 0 where
    pub each : (q : ℕ) → seen t q ≡ over_if (is_on t.due.items q) (seen s q)
    pub was : (q : ℕ) → is_on t.due.items q ≡ true → pick (seen s q) ≡ true
    pub once : IsOnce t.due.items
    pub stack : t.stack ≡ s.stack
    pub woken : t.woken ≡ s.woken
    pub next : t.table.next ≡ s.table.next
    pub capacity : vec_capacity t.due ≡ vec_capacity s.due
    pub count : map.len t.table.live ≡ map.len s.table.live
    pub places : set.len t.ready.members + t.ready.spare ≡ set.len s.ready.members + s.ready.spare
    pub sound : IsSound s

  -- the instances whose waits end so are due, and their waits end by no time any more
  pub record TakesDue (test : Deadline → Bool) (s t : Schedule B) : Type 0 where
    pub shown : (q : ℕ) → shown_at t q ≡ option_map (without_deadline test) (shown_at s q)
    pub due : (q : ℕ) → is_on t.due.items q ≡ if_there (λ i. test i.deadline) (shown_at s q)
    pub ready : (q : ℕ) → set.contains t.ready.members q ≡ set.contains s.ready.members q
    pub bodies : (q : ℕ) → body_at t q ≡ body_at s q
    pub stack : t.stack ≡ s.stack
    pub next : t.table.next ≡ s.table.next

  -- no wait ends by time; none does before this time; and this is the earliest time at which one does
  pub record HasNoTime (s : Schedule B) : Type 0 where
    pub none : (q : ℕ) (i : Instance) (t : ℕ) → shown_at s q ≡ Some i → i.deadline ≡ at_time t → ⊥

  pub record HasNoTimeBefore (s : Schedule B) (t : ℕ) : Type 0 where
    pub least : (q : ℕ) (i : Instance) (u : ℕ) → shown_at s q ≡ Some i → i.deadline ≡ at_time u → t ≤ u

  pub record IsEarliestTime (s : Schedule B) (t : ℕ) : Type 0 where
    pub held : (q : ℕ) × (i : Instance) × (shown_at s q ≡ Some i) × (i.deadline ≡ at_time t)
    pub least : (q : ℕ) (i : Instance) (u : ℕ) → shown_at s q ≡ Some i → i.deadline ≡ at_time u → t ≤ u

  -- those of a list met wakes
  pub record WakesThose (done : List ℕ) (s t : Schedule B) : Type 0 where
    pub shown : (q : ℕ) → shown_at t q ≡ option_map (those_on done after_wake q (is_on s.stack.items q)) (shown_at s q)
    pub ready : (q : ℕ) → set.contains t.ready.members q ≡ (set.contains s.ready.members q || if_there (those_join done joins q (is_on s.stack.items q)) (shown_at s q))
    pub bodies : (q : ℕ) → body_at t q ≡ body_at s q
    pub stack : t.stack ≡ s.stack
    pub next : t.table.next ≡ s.table.next
