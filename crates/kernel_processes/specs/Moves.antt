-- What a call changes of a schedule.
use Rattle.std.specs.Prelude.{◌≡◌, ◌≢◌, ◌≤◌, ◌<◌, ◌+◌, ◌-◌, ◌^◌, ℕ, Bool, true, false, not, ◌&&◌, ◌||◌, List, [], Option, Some, None, option_map, is_some, is_none, if◌then◌else◌, vec_capacity}
use Rattle.std.specs.FinMap as map
use Rattle.std.specs.FinSet as set
use Rattle.wait_lists.specs.EventCore.declared.event.Ev.{Ev}
use Rattle.instance_table.specs.declared.instances.Instance.{Instance as Entry}
use Rattle.instance_table.specs.declared.instances.Waiting.{Waiting}
use Rattle.instance_table.specs.declared.instances.Waiting.TheVariants as waiting
use Rattle.instance_table.specs.declared.instances.Deadline.{Deadline}
use Rattle.instance_table.specs.declared.instances.Deadline.TheVariants as due
use Rattle.wait_lists.specs.Waits as lists
use Rattle.sim_model.specs.Configuration.{Instance}
use Rattle.kernel_processes.specs.Woken.{if_there}
use Rattle.kernel_processes.specs.InstanceViews.{Seen, seen, is_on, shown_at, body_at}
use Rattle.kernel_processes.specs.declared.parts.Process.{Process}
use Rattle.kernel_processes.specs.declared.parts.Wait.{Wait}
use Rattle.kernel_processes.specs.declared.parts.Wait.TheVariants as how
use Rattle.kernel_processes.specs.declared.parts.Schedule.{Schedule}
use Rattle.kernel_processes.specs.declared.moves.Heard.{Heard}
use Rattle.kernel_processes.specs.declared.moves.Heard.TheVariants as hears

-- the events of a wait, where this is the static sensitivity; how they stand in the wait lists; and how that is noted
abbrev pub events_of : Wait → List Ev → List Ev
events_of how.Static static = static
events_of (how.Any es) static = es
events_of (how.All es) static = es

abbrev pub listed_as : Wait → List Ev → Option lists.Wait
listed_as how.Static static = lists.any_of static
listed_as (how.Any es) static = lists.any_of es
listed_as (how.All es) static = lists.all_of es

abbrev pub waiting_by : Wait → Waiting
waiting_by how.Static = waiting.Static
waiting_by (how.Any es) = waiting.Any
waiting_by (how.All es) = waiting.All

-- whether the body has begun of one that waits: of one that rests it has not
abbrev pub begun_still : Bool → Bool → Bool
begun_still true begun = false
begun_still false begun = begun

-- whether a wait is to end by time
abbrev pub has_end : Deadline → Bool
has_end due.None = false
has_end due.Delta = true
has_end (due.At t) = true

module _ {B : Type 0} where
  -- the entry of an instance that hears a wake: its wait is over, and it is kept where it is suspended
  abbrev pub heard : Entry (Process B) → Entry (Process B)
  heard x = if x.disabled then x else record x { wait = waiting.None; deadline = due.None; kept = x.suspended || x.kept }

  abbrev pub heard_as : Entry (Process B) → Heard
  heard_as x = if x.disabled then hears.Nothing else if x.suspended then hears.Kept else hears.Joins

  abbrev pub hears_at : Option (Entry (Process B)) → Heard
  hears_at None = hears.Nothing
  hears_at (Some x) = heard_as x

  abbrev pub heard_seen : Seen B → Seen B
  heard_seen s = record s { entry = option_map heard s.entry }

  -- whether it hears one at all
  abbrev pub is_heard : Option (Entry (Process B)) → Bool
  is_heard None = false
  is_heard (Some x) = not x.disabled

  -- whether a time is to end its wait
  abbrev pub is_timed : Option (Entry (Process B)) → Bool
  is_timed None = false
  is_timed (Some x) = has_end x.deadline

  -- it has a time-out only where one is to
  abbrev pub IsTimedSo : Seen B → Type 0
  IsTimedSo x = is_timed x.entry ≡ false → (x.time ≡ None) × (x.zero ≡ false)

  -- and what is seen of it once it heard a wake
  abbrev pub met_by : Option (Entry (Process B)) → Seen B → Seen B
  met_by None s = s
  met_by (Some x) s = if x.disabled then s else record s { entry = Some (heard x); time = None; zero = false; ready = s.ready || not x.suspended }

  abbrev pub met : Seen B → Seen B
  met s = met_by s.entry s

  abbrev pub met_if : Bool → Seen B → Seen B
  met_if true s = met s
  met_if false s = s

  -- what an event leaves in the wait lists; whether it ends the wait there; and what is seen once who was woken met the wake
  abbrev pub struck_by : Ev → Seen B → Seen B
  struck_by e x = record x { wait = lists.after x.muted e x.wait }

  abbrev pub is_woken : Ev → Seen B → Bool
  is_woken e x = is_some x.wait && is_none (lists.after x.muted e x.wait)

  abbrev pub fired : Ev → Seen B → Seen B
  fired e x = met_if (is_woken e x) (struck_by e x)

  -- where there is room for all live instances among the runnable ones, and only live ones are runnable
  pub record HasPlaces (s : Schedule B) : Type 0 where
    pub live : (p : ℕ) → set.contains s.ready.members p ≡ true → map.contains_key s.table.live p ≡ true
    pub room : map.len s.table.live ≤ set.len s.ready.members + s.ready.spare
    pub serials : (p : ℕ) → map.contains_key s.table.live p ≡ true → p < 2 ^ 32 - 1

  -- ---- waits

  abbrev pub sensitive_of : Option (Entry (Process B)) → List Ev
  sensitive_of None = []
  sensitive_of (Some x) = x.body.sensitive

  abbrev pub is_kept : Option (Entry (Process B)) → Bool
  is_kept None = false
  is_kept (Some x) = x.kept

  abbrev pub with_entry : (Entry (Process B) → Entry (Process B)) → Seen B → Seen B
  with_entry f x = record x { entry = option_map f x.entry }

  -- how one waits, or rests, and how it does in the lists
  abbrev pub waiting_as : Bool → Wait → Deadline → Entry (Process B) → Entry (Process B)
  waiting_as rests w d e = record e { wait = waiting_by w; deadline = d; started = begun_still rests e.started }

  abbrev pub waits_in : Bool → Wait → Deadline → Seen B → Seen B
  waits_in rests w d v = with_entry (waiting_as rests w d) (record v { wait = listed_as w (sensitive_of v.entry) })

  -- no time ends its wait
  pub record HasNoTimeOut (p : ℕ) (s : Schedule B) : Type 0 where
    pub time : map.get s.deadlines.times p ≡ None
    pub zero : set.contains s.zero.members p ≡ false

  -- ---- changes

  -- at one serial alone something changes, as f says; the stack, the serials and the room in all stay
  pub record Changes (p : ℕ) (f : Seen B → Seen B) (s t : Schedule B) : Type 0 where
    pub here : seen t p ≡ f (seen s p)
    pub others : (q : ℕ) → q ≢ p → seen t q ≡ seen s q
    pub stack : t.stack ≡ s.stack
    pub woken : t.woken ≡ s.woken
    pub due : t.due ≡ s.due
    pub next : t.table.next ≡ s.table.next
    pub count : map.len t.table.live ≡ map.len s.table.live
    pub places : set.len t.ready.members + t.ready.spare ≡ set.len s.ready.members + s.ready.spare

  -- at one serial alone: the instance there becomes what f makes of it, and is runnable or not; the stack goes on as told
  pub record MovesOne (p : ℕ) (f : Instance → Instance) (runs : Bool) (how_stack : List ℕ → List ℕ → Type 0) (s t : Schedule B) : Type 0 where
    pub here : shown_at t p ≡ option_map f (shown_at s p)
    pub others : (q : ℕ) → q ≢ p → shown_at t q ≡ shown_at s q
    pub ready : set.contains t.ready.members p ≡ runs
    pub others_ready : (q : ℕ) → q ≢ p → set.contains t.ready.members q ≡ set.contains s.ready.members q
    pub bodies : (q : ℕ) → body_at t q ≡ body_at s q
    pub stack : how_stack s.stack.items t.stack.items
    pub due : t.due ≡ s.due
    pub next : t.table.next ≡ s.table.next

  -- each instance becomes what f makes of it, and those join the runnable ones that pass the test; what the caller keeps, the
  -- stack and the serials stay
  pub record Rouses (f : ℕ → Bool → Instance → Instance) (joining : ℕ → Bool → Instance → Bool) (s t : Schedule B) : Type 0 where
    pub due : t.due ≡ s.due
    pub shown : (q : ℕ) → shown_at t q ≡ option_map (f q (is_on s.stack.items q)) (shown_at s q)
    pub ready : (q : ℕ) → set.contains t.ready.members q ≡ (set.contains s.ready.members q || if_there (joining q (is_on s.stack.items q)) (shown_at s q))
    pub bodies : (q : ℕ) → body_at t q ≡ body_at s q
    pub stack : t.stack ≡ s.stack
    pub next : t.table.next ≡ s.table.next

  -- those that stand in the list of the woken met their wakes, and the list is empty now
  pub record MeetsAll (s t : Schedule B) : Type 0 where
    pub each : (q : ℕ) → seen t q ≡ met_if (is_on s.woken.items q) (seen s q)
    pub stack : t.stack ≡ s.stack
    pub due : t.due ≡ s.due
    pub next : t.table.next ≡ s.table.next
    pub count : map.len t.table.live ≡ map.len s.table.live
    pub places : set.len t.ready.members + t.ready.spare ≡ set.len s.ready.members + s.ready.spare
    pub nobody : t.woken.items ≡ []
    pub room : vec_capacity t.woken ≡ vec_capacity s.woken

  -- some of them did, and the others still stand there
  pub record MeetsSome (s t : Schedule B) : Type 0 where
    pub each : (q : ℕ) → met_if (is_on t.woken.items q) (seen t q) ≡ met_if (is_on s.woken.items q) (seen s q)
    pub stack : t.stack ≡ s.stack
    pub due : t.due ≡ s.due
    pub next : t.table.next ≡ s.table.next
    pub count : map.len t.table.live ≡ map.len s.table.live
    pub places : set.len t.ready.members + t.ready.spare ≡ set.len s.ready.members + s.ready.spare
    pub room : vec_capacity t.woken ≡ vec_capacity s.woken
    pub still : HasPlaces t
    pub timed : (q : ℕ) → IsTimedSo (seen t q)
