-- What the moves of processes make of the instance that moves.
use Rattle.std.specs.Prelude.{◌≡◌, ◌≢◌, ◌≤◌, ◌<◌, ◌+◌, ℕ, Bool, true, false, ◌||◌, List, ◌∷◌, [], ◌++◌, Option, Some, None, option_map, if◌then◌else◌, length, vec_capacity}
use Rattle.std.specs.FinMap as map
use Rattle.std.specs.FinSet as set
use Rattle.instance_table.specs.declared.instances.Instance.{Instance as Entry}
use Rattle.instance_table.specs.declared.instances.Waiting.TheVariants as waiting
use Rattle.instance_table.specs.declared.instances.Deadline.TheVariants as due
use Rattle.instance_table.specs.declared.instances.ProcessKind.{ProcessKind}
use Rattle.instance_table.specs.Instances.{new_instance}
use Rattle.wait_lists.specs.Waits.{room_for}
use Rattle.wait_lists.specs.EventCore.declared.event.Ev.{Ev}
use Rattle.sim_model.specs.Residual.{skip}
use Rattle.sim_model.specs.Configuration as model
use Rattle.sim_model.specs.Configuration.{Instance}
use Rattle.sim_model.specs.Waits.{freed}
use Rattle.kernel_processes.specs.InstanceViews.{Seen, seen, is_on, shown_at, body_at, deadline_of, kind_of}
use Rattle.kernel_processes.specs.Sound.{IsFree, time_of, is_zero}
use Rattle.kernel_processes.specs.Moves.{listed_as, waiting_by, sensitive_of, is_kept}
use Rattle.kernel_processes.specs.declared.parts.Process.{Process}
use Rattle.kernel_processes.specs.declared.parts.Schedule.{Schedule}
use Rattle.kernel_processes.specs.declared.parts.Wait.{Wait}
use Rattle.kernel_processes.specs.declared.parts.Wait.TheVariants as how
use Rattle.kernel_processes.specs.declared.parts.Trigger.{Trigger}

-- ---- the stack, its top last

abbrev pub IsTop : ℕ → List ℕ → Type 0
IsTop p stack = (below : List ℕ) × (stack ≡ below ++ p ∷ [])

abbrev pub same_stack : List ℕ → List ℕ → Type 0
same_stack old new = new ≡ old

abbrev pub leaves_top : ℕ → List ℕ → List ℕ → Type 0
leaves_top p old new = old ≡ new ++ p ∷ []

abbrev pub joins_top : ℕ → List ℕ → List ℕ → Type 0
joins_top p old new = new ≡ old ++ p ∷ []

abbrev pub leaves_if : Bool → ℕ → List ℕ → List ℕ → Type 0
leaves_if true p old new = leaves_top p old new
leaves_if false p old new = same_stack old new

-- ---- the instance

abbrev pub wait_as : Wait → model.Wait
wait_as how.Static = model.waits_statically
wait_as (how.Any es) = model.waits_for_any es
wait_as (how.All es) = model.waits_for_all es

abbrev pub waits_as : Trigger → Instance → Instance
waits_as t i = record i { wait = wait_as t.wait; deadline = deadline_of t.deadline }

-- how one waits for this event alone, without a time-out
abbrev pub for_event : Ev → Trigger
for_event e = record { wait = how.Any (e ∷ []); deadline = due.None }

abbrev pub started_as : Bool → Instance → Instance
started_as on i = record i { started = on }

abbrev pub rests_as : Trigger → Instance → Instance
rests_as t i = started_as false (waits_as t i)

abbrev pub kept_as : Instance → Instance
kept_as i = record i { kept = true }

abbrev pub pushed_as : Instance → Instance
pushed_as i = record (freed i) { kept = false }

abbrev pub suspended_as : Bool → Instance → Instance
suspended_as now i = record i { suspended = true; kept = now || i.kept }

abbrev pub resumed_as : Instance → Instance
resumed_as i = record i { suspended = false; kept = false }

abbrev pub disabled_as : Bool → Instance → Instance
disabled_as on i = record i { disabled = on }

-- a new instance as the schedule shows it: its body has not begun, it has no mark, and it waits statically or for nothing
abbrev pub spawned_as : ProcessKind → List Ev → Bool → Instance
spawned_as kind static waits = record {
  kind = kind_of kind;
  home = 0;
  path = [];
  static = static;
  code = 0;
  arguments = [];
  residual = skip;
  started = false;
  wait = if waits then model.waits_statically else model.waits_for_nothing;
  deadline = model.no_deadline;
  trigger = None;
  suspended = false;
  kept = false;
  disabled = false;
  ended = false;
}

abbrev pub settled_as : Bool → Instance → Instance
settled_as true i = record i { wait = model.waits_statically }
settled_as false i = i

module _ {B : Type 0} where
  abbrev pub is_suspended : Option (Entry (Process B)) → Bool
  is_suspended None = false
  is_suspended (Some x) = x.suspended

  -- what is seen of an instance that waits so
  abbrev pub waiting_seen : Trigger → Seen B → Seen B
  waiting_seen t x = record x {
    entry = option_map (λ (e : Entry (Process B)). record e { wait = waiting_by t.wait; deadline = t.deadline }) x.entry;
    wait = listed_as t.wait (sensitive_of x.entry);
    time = time_of t.deadline;
    zero = is_zero t.deadline;
  }

  -- and of one that waits for nothing, and is not kept
  abbrev pub untimed_free : Seen B → Seen B
  untimed_free x = record x {
    entry = option_map (λ (e : Entry (Process B)). record e { wait = waiting.None; deadline = due.None; kept = false }) x.entry;
    wait = None;
    time = None;
    zero = false;
  }

  -- there is room for an instance to wait for so many events, and until a time
  pub record HasRoom (p n : ℕ) (s : Schedule B) : Type 0 where
    pub events : n ≤ room_for s.lists p
    pub times : 0 < s.deadlines.spare
    pub zeros : 0 < s.zero.spare

  -- the top is off the stack, and nothing else changes
  pub record LeavesTop (p : ℕ) (s t : Schedule B) : Type 0 where
    pub stack : leaves_top p s.stack.items t.stack.items
    pub off : is_on t.stack.items p ≡ false
    pub others : t ≡ record s { stack = t.stack }

  -- everything that is shown stays
  pub record Stays (s t : Schedule B) : Type 0 where
    pub shown : (q : ℕ) → shown_at t q ≡ shown_at s q
    pub ready : (q : ℕ) → set.contains t.ready.members q ≡ set.contains s.ready.members q
    pub bodies : (q : ℕ) → body_at t q ≡ body_at s q
    pub stack : t.stack.items ≡ s.stack.items
    pub due : t.due.items ≡ s.due.items
    pub next : t.table.next ≡ s.table.next

  -- there is no instance of this serial any more
  pub record Ends (p : ℕ) (s t : Schedule B) : Type 0 where
    pub here : shown_at t p ≡ None
    pub others : (q : ℕ) → q ≢ p → shown_at t q ≡ shown_at s q
    pub ready : (q : ℕ) → set.contains t.ready.members q ≡ set.contains s.ready.members q
    pub bodies : (q : ℕ) → q ≢ p → body_at t q ≡ body_at s q
    pub stack : leaves_top p s.stack.items t.stack.items
    pub due : t.due ≡ s.due
    pub next : t.table.next ≡ s.table.next

  -- a new instance under the next serial; it is runnable or waits
  pub record Spawns (p : ℕ) (i : Instance) (b : B) (runs : Bool) (s t : Schedule B) : Type 0 where
    pub number : p ≡ s.table.next
    pub here : shown_at t p ≡ Some i
    pub others : (q : ℕ) → q ≢ p → shown_at t q ≡ shown_at s q
    pub ready : set.contains t.ready.members p ≡ runs
    pub others_ready : (q : ℕ) → q ≢ p → set.contains t.ready.members q ≡ set.contains s.ready.members q
    pub body : body_at t p ≡ Some b
    pub bodies : (q : ℕ) → q ≢ p → body_at t q ≡ body_at s q
    pub stack : t.stack.items ≡ s.stack.items
    pub due : t.due.items ≡ s.due.items
    pub next : t.table.next ≡ s.table.next + 1

  -- another body under a serial, and nothing else changes
  pub record PutsBody (p : ℕ) (b : B) (s t : Schedule B) : Type 0 where
    pub shown : (q : ℕ) → shown_at t q ≡ shown_at s q
    pub ready : (q : ℕ) → set.contains t.ready.members q ≡ set.contains s.ready.members q
    pub body : body_at t p ≡ Some b
    pub bodies : (q : ℕ) → q ≢ p → body_at t q ≡ body_at s q
    pub stack : t.stack ≡ s.stack
    pub due : t.due ≡ s.due
    pub next : t.table.next ≡ s.table.next

  -- a new instance is added under a serial: it waits for nothing and is not runnable, and there is room for its static wait
  pub record Adds (p : ℕ) (kind : ProcessKind) (static : List Ev) (b : B) (s t : Schedule B) : Type 0 where
    pub entry : map.get t.table.live p ≡ Some (new_instance kind (record { sensitive = static; body = b }))
    pub wait : map.get t.lists.waits p ≡ None
    pub ready : set.contains t.ready.members p ≡ false
    pub room : length static ≤ room_for t.lists p
    pub off : is_on t.stack.items p ≡ false
    pub others : (q : ℕ) → q ≢ p → seen t q ≡ seen s q
    pub stack : t.stack ≡ s.stack
    pub due : t.due ≡ s.due
    pub next : t.table.next ≡ s.table.next + 1

  -- it was just added
  pub record IsFresh (p : ℕ) (s : Schedule B) : Type 0 where
    pub lives : map.contains_key s.table.live p ≡ true
    pub off : is_on s.stack.items p ≡ false
    pub unready : set.contains s.ready.members p ≡ false
    pub unkept : is_kept (map.get s.table.live p) ≡ false
    pub goes : is_suspended (map.get s.table.live p) ≡ false
    pub free : (x : Entry (Process B)) → map.get s.table.live p ≡ Some x → IsFree x
    pub room : length (sensitive_of (map.get s.table.live p)) ≤ room_for s.lists p

  -- there is room for one instance more
  pub record HasPlaceMore (s : Schedule B) : Type 0 where
    pub stack : map.len s.table.live + 1 ≤ vec_capacity s.stack
    pub ready : map.len s.table.live + 1 ≤ set.len s.ready.members + s.ready.spare
    pub woken : map.len s.table.live + 1 ≤ vec_capacity s.woken
    pub due : map.len s.table.live + 1 ≤ vec_capacity s.due
