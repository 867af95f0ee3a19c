-- What a schedule shows of an instance.
use Rattle.std.specs.Prelude.{◌==◌, ℕ, Bool, false, List, [], Option, Some, None, option_map}
use Rattle.std.specs.List.{list_any}
use Rattle.std.specs.FinMap as map
use Rattle.std.specs.FinSet as set
use Rattle.timed_queue.specs.SimTime.declared.moments.Time.{Time}
use Rattle.wait_lists.specs.EventCore.declared.event.Ev.{Ev}
use Rattle.sim_model.specs.ModelTree.declared.items.ProcessKind.TheVariants as kind
use Rattle.sim_model.specs.ModelTree.declared.items.ProcessKind.{ProcessKind as Kind}
use Rattle.instance_table.specs.declared.instances.ProcessKind.{ProcessKind}
use Rattle.instance_table.specs.declared.instances.ProcessKind.TheVariants as process
use Rattle.instance_table.specs.declared.instances.Instance.{Instance as Entry}
use Rattle.instance_table.specs.declared.instances.Waiting.{Waiting}
use Rattle.instance_table.specs.declared.instances.Waiting.TheVariants as waiting
use Rattle.instance_table.specs.declared.instances.Deadline.{Deadline as Kept}
use Rattle.instance_table.specs.declared.instances.Deadline.TheVariants as due
use Rattle.wait_lists.specs.Waits as lists
use Rattle.sim_model.specs.Residual.{skip}
use Rattle.sim_model.specs.Configuration.{Instance, Wait, waits_for_nothing, waits_statically, waits_for_any, waits_for_all, Deadline, no_deadline, next_delta, at_time}
use Rattle.kernel_processes.specs.declared.parts.Process.{Process}
use Rattle.kernel_processes.specs.declared.parts.Schedule.{Schedule}

-- what the parts have of one serial: the entry of the table, the wait, whether it is muted and whether it has room in the wait
-- lists, its time-out, whether that is zero, and whether it is runnable
pub record Seen (B : Type 0) : Type 0 where
  pub entry : Option (Entry (Process B))
  pub wait : Option lists.Wait
  pub muted : Bool
  pub has_room : Bool
  pub time : Option Time
  pub zero : Bool
  pub ready : Bool

abbrev pub seen : {B : Type 0} → Schedule B → ℕ → Seen B
seen s p = record {
  entry = map.get s.table.live p;
  wait = map.get s.lists.waits p;
  muted = set.contains s.lists.muted p;
  has_room = map.contains_key s.lists.room p;
  time = map.get s.deadlines.times p;
  zero = set.contains s.zero.members p;
  ready = set.contains s.ready.members p;
}

-- whether it is active
abbrev pub is_on : List ℕ → ℕ → Bool
is_on stack p = list_any (λ q. q == p) stack

-- the events of a wait
abbrev pub listed : Option lists.Wait → List Ev
listed None = []
listed (Some (lists.AnyOf es)) = es
listed (Some (lists.AllOf es)) = es

abbrev pub wait_of : Waiting → Option lists.Wait → Wait
wait_of waiting.None w = waits_for_nothing
wait_of waiting.Static w = waits_statically
wait_of waiting.Any w = waits_for_any (listed w)
wait_of waiting.All w = waits_for_all (listed w)

abbrev pub deadline_of : Kept → Deadline
deadline_of due.None = no_deadline
deadline_of due.Delta = next_delta
deadline_of (due.At t) = at_time t

abbrev pub kind_of : ProcessKind → Kind
kind_of process.Thread = kind.Thread
kind_of process.Method = kind.Method

-- an entry as an instance of a configuration, but for its body: where it is, its path, its code, its arguments, what is left of
-- it and its next trigger
abbrev pub as_instance : {B : Type 0} → Entry (Process B) → Option lists.Wait → Instance
as_instance x w = record {
  kind = kind_of x.kind;
  home = 0;
  path = [];
  static = x.body.sensitive;
  code = 0;
  arguments = [];
  residual = skip;
  started = x.started;
  wait = wait_of x.wait w;
  deadline = deadline_of x.deadline;
  trigger = None;
  suspended = x.suspended;
  kept = x.kept;
  disabled = x.disabled;
  ended = false;
}

abbrev pub shown_in : {B : Type 0} → Seen B → Option Instance
shown_in s = option_map (λ x. as_instance x s.wait) s.entry

-- the instance of a serial as the schedule shows it; none where there is no live one
abbrev pub shown_at : {B : Type 0} → Schedule B → ℕ → Option Instance
shown_at s p = shown_in (seen s p)

-- an instance of a configuration but for its body
abbrev pub bare : Instance → Instance
bare i = record i { home = 0; path = []; code = 0; arguments = []; residual = skip; trigger = None }

-- what the caller keeps for it
abbrev pub body_at : {B : Type 0} → Schedule B → ℕ → Option B
body_at s p = option_map (λ x. x.body.body) (map.get s.table.live p)
