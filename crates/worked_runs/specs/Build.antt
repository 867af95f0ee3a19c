-- Designs written by hand: the items of instances of modules in text order. An item stands in the instance that was begun last.
use Rattle.std.specs.Prelude.{ℕ, ◌+◌, ◌-◌, Bool, true, false, List, [], ◌∷◌, ◌++◌, codes, length, slice_get, Option, Some, None}
use Rattle.std.proofs.Common.{lit≤}
use Rattle.sim_model.specs.ModelTree.declared.items.ProcessKind.{ProcessKind}
use Rattle.sim_model.specs.ModelTree.declared.items.ProcessKind.TheVariants as process
use Rattle.sim_model.specs.ModelTree.declared.items.SignalKind.TheVariants as signal_kind
use Rattle.sim_model.specs.EventCore.declared.event.Ev.{Ev}
use Rattle.sim_model.specs.FlatDesign.ValueTypes.{default_value}
use Rattle.sim_model.specs.FlatDesign.declared.value_types.ValueType.{ValueType}
use Rattle.sim_model.specs.FlatDesign.declared.value_types.ValueType.TheVariants as type
use Rattle.sim_model.specs.FlatDesign.declared.objects.LeadsTo.{LeadsTo}
use Rattle.sim_model.specs.FlatDesign.declared.design.ChannelId.{ChannelId}
use Rattle.sim_model.specs.ModelTree.declared.types.BoundRule.TheVariants as bound
use Rattle.sim_model.specs.FlatDesign.declared.objects.ObjectForm.{ObjectForm}
use Rattle.sim_model.specs.FlatDesign.declared.objects.ObjectForm.TheVariants as form
use Rattle.sim_model.specs.FlatDesign.declared.design.ChannelId.TheVariants as channel
use Rattle.sim_model.specs.FlatDesign.declared.design.Denoted.{Denoted}
use Rattle.sim_model.specs.FlatDesign.declared.design.Denoted.TheVariants as denoted
use Rattle.sim_model.specs.FlatDesign.declared.design.VisibleId.{VisibleId}
use Rattle.sim_model.specs.FlatDesign.declared.design.VisibleId.TheVariants as visible_id
use Rattle.sim_model.specs.FlatDesign.declared.design.InstancePart.{InstancePart}
use Rattle.sim_model.specs.FlatDesign.declared.design.Hop.{Hop}
use Rattle.sim_model.specs.FlatDesign.declared.design.Design.{Design}
use Rattle.sim_model.specs.FlatDesign.declared.code.BodyKind.{BodyKind}
use Rattle.sim_model.specs.FlatDesign.declared.code.BodyKind.TheVariants as body_kind
use Rattle.sim_model.specs.FlatDesign.declared.code.Local.{Local}
use Rattle.sim_model.specs.Configuration.{change}
use Rattle.worked_runs.specs.Body.{Body, Laid, lay, with_block, block_of}

-- the instance `m`, with no items
abbrev pub empty : Design
empty = record {
  resolution = record { power = 3; small = lit≤ tt };
  objects = record { list = (record { name = codes "m"; line = 1; parent = 0; form = form.Instance 0 }) ∷ []; binds = [] };
  instances = (record { object = 0; module_place = 0; names = [] }) ∷ [];
  signals = [];
  resolved = [];
  fifos = [];
  mutexes = 0;
  semaphores = [];
  keepers = 0;
  memories = [];
  variables = [];
  ports = [];
  processes = [];
  hops = [];
  events = 0;
  visible = [];
  exceptions = [];
  code = record { bodies = []; blocks = []; statements = [] };
}

abbrev pub next_object : Design → ℕ
next_object d = length d.objects.list

-- the instance that was begun last, by its number among the instances, and by that among the objects
abbrev pub home : Design → ℕ
home d = length d.instances - 1

abbrev pub object_of : Option InstancePart → ℕ
object_of None = 0
object_of (Some i) = i.object

abbrev pub home_object : Design → ℕ
home_object d = object_of (slice_get d.instances (home d))

abbrev pub with_object : List ℕ → ObjectForm → Denoted → Design → Design
with_object name f what d = record d {
  objects = record d.objects { list = d.objects.list ++ (record { name = name; line = 1; parent = home_object d; form = f }) ∷ [] };
  instances = change d.instances (home d) (λ (i : InstancePart). record i { names = i.names ++ what ∷ [] });
}

-- an instance in another one, by that one's number among the objects
abbrev pub instance : List ℕ → ℕ → Design → Design
instance name parent d = record d {
  objects = record d.objects { list = d.objects.list ++ (record { name = name; line = 1; parent = parent; form = form.Instance (length d.instances) }) ∷ [] };
  instances = d.instances ++ (record { object = next_object d; module_place = length d.instances; names = [] }) ∷ [];
}

abbrev pub seen : VisibleId → Design → Design
seen id d = record d { visible = d.visible ++ (record { object = next_object d; id = id }) ∷ [] }

abbrev pub signal : List ℕ → ValueType → Design → Design
signal name t d =
    with_object name (form.Signal signal_kind.Signal false t (default_value t)) (denoted.Channel (channel.Signal (length d.signals) d.events))
    (record (seen (visible_id.Signal (length d.signals)) d) {
      signals = d.signals ++ (record { object = next_object d; kind = signal_kind.Signal; many = false; value_type = t; initial = default_value t; events = d.events }) ∷ [];
      events = d.events + 3;
    })

-- a signal that several processes may write
abbrev pub many_signal : List ℕ → ValueType → Design → Design
many_signal name t d =
    with_object name (form.Signal signal_kind.Signal true t (default_value t)) (denoted.Channel (channel.Signal (length d.signals) d.events))
    (record (seen (visible_id.Signal (length d.signals)) d) {
      signals = d.signals ++ (record { object = next_object d; kind = signal_kind.Signal; many = true; value_type = t; initial = default_value t; events = d.events }) ∷ [];
      events = d.events + 3;
    })

abbrev pub resolved : List ℕ → Design → Design
resolved name d =
    with_object name form.Resolved (denoted.Channel (channel.Resolved (length d.resolved) d.events))
    (record (seen (visible_id.Resolved (length d.resolved)) d) {
      resolved = d.resolved ++ (record { object = next_object d; events = d.events }) ∷ [];
      events = d.events + 3;
    })

abbrev pub fifo : List ℕ → ValueType → ℕ → Design → Design
fifo name t size d =
    with_object name (form.Fifo t size) (denoted.Channel (channel.Fifo (length d.fifos) d.events))
    (record d { fifos = d.fifos ++ (record { object = next_object d; value_type = t; size = size; events = d.events }) ∷ []; events = d.events + 2 })

abbrev pub event : List ℕ → Design → Design
event name d = with_object name form.Event (denoted.Event d.events) (record d { events = d.events + 1 })

abbrev pub variable : List ℕ → ValueType → Design → Design
variable name t d =
    with_object name (form.Variable t (default_value t)) (denoted.Variable (length d.variables))
    (record d { variables = d.variables ++ (record { object = next_object d; value_type = t; initial = default_value t }) ∷ [] })

-- an exception has a name and no object
abbrev pub exception : List ℕ → Design → Design
exception name d = record d { exceptions = d.exceptions ++ name ∷ [] }

abbrev pub laid_in : Design → Laid
laid_in d = record { blocks = d.code.blocks; statements = d.code.statements }

abbrev pub with_laid : Design → BodyKind → List ℕ → List Local → Option ValueType → Laid × List ℕ → Design
with_laid d k name locals answer x = record d {
  code = record {
    bodies = d.code.bodies ++ (record { kind = k; module_place = home d; name = name; locals = locals; parameters = length locals; answer = answer; block = block_of x; room = 0 }) ∷ [];
    blocks = (with_block x).blocks;
    statements = x.0.statements;
  };
}

abbrev pub with_body : BodyKind → List ℕ → List Local → Option ValueType → Body → Design → Design
with_body k name locals answer b d = with_laid d k name locals answer (lay b (laid_in d))

-- a local variable
abbrev pub local_of : List ℕ → ValueType → Local
local_of name t = record { name = name; value_type = t; inout = false }

abbrev pub function : List ℕ → Body → Design → Design
function name b d = with_body body_kind.Function name [] None b (with_object name (form.Mutex) denoted.Nothing d)

-- a parameter that is an inout one
abbrev pub inout : List ℕ → ValueType → Local
inout name t = record { name = name; value_type = t; inout = true }

abbrev pub function_with : List ℕ → List Local → ValueType → Body → Design → Design
function_with name locals t b d = with_body body_kind.Function name locals (Some t) b (with_object name (form.Mutex) denoted.Nothing d)

abbrev pub keeper : List ℕ → Design → Design
keeper name d = with_object name form.Keeper (denoted.Keeper d.keepers) (record d { keepers = d.keepers + 1 })

abbrev pub memory : List ℕ → ℕ → Design → Design
memory name size d =
    with_object name (form.Memory size) (denoted.Memory (length d.memories)) (record d { memories = d.memories ++ (record { object = next_object d; size = size }) ∷ [] })

-- the two ends of a hop, and the hop itself
abbrev pub initiator : List ℕ → ℕ → Option ℕ → Design → Design
initiator name n backward d = with_object name (form.Initiator false backward) (denoted.Socket n true) d

abbrev pub target : List ℕ → ℕ → Option ℕ → Option ℕ → Design → Design
target name n blocking forward d = with_object name (form.Target false blocking forward) (denoted.Socket n false) d

abbrev pub hop : Hop → Design → Design
hop h d = record d { hops = d.hops ++ h ∷ [] }

abbrev pub kind_of_body : ProcessKind → BodyKind
kind_of_body process.Thread = body_kind.Thread
kind_of_body process.Method = body_kind.Method

abbrev pub process_of : ProcessKind → List ℕ → List Local → List Ev → Bool → Body → Design → Design
process_of k name locals sensitive dont_initialize b d =
    with_body (kind_of_body k) name locals None b
    (with_object name (form.Process k (length d.code.bodies) dont_initialize) (denoted.Process (length d.processes))
    (record d { processes = d.processes ++ (record { object = next_object d; kind = k; home = home d; code = length d.code.bodies; sensitive = sensitive; dont_initialize = dont_initialize }) ∷ [] }))

abbrev pub thread : List ℕ → Body → Design → Design
thread name b d = process_of process.Thread name [] [] false b d

abbrev pub thread_with : List ℕ → List Local → Body → Design → Design
thread_with name locals b d = process_of process.Thread name locals [] false b d

abbrev pub method : List ℕ → List Ev → Body → Design → Design
method name sensitive b d = process_of process.Method name [] sensitive false b d

-- a function without an answer
abbrev pub procedure : List ℕ → List Local → Body → Design → Design
procedure name locals b d = with_body body_kind.Function name locals None b (with_object name form.Mutex denoted.Nothing d)

abbrev pub buffer : List ℕ → ValueType → Design → Design
buffer name t d =
    with_object name (form.Signal signal_kind.Buffer false t (default_value t)) (denoted.Channel (channel.Signal (length d.signals) d.events))
    (record (seen (visible_id.Signal (length d.signals)) d) {
      signals = d.signals ++ (record { object = next_object d; kind = signal_kind.Buffer; many = false; value_type = t; initial = default_value t; events = d.events }) ∷ [];
      events = d.events + 3;
    })

abbrev pub mutex : List ℕ → Design → Design
mutex name d = with_object name form.Mutex (denoted.Channel (channel.Mutex d.mutexes d.events)) (record d { mutexes = d.mutexes + 1; events = d.events + 1 })

abbrev pub semaphore : List ℕ → ℕ → Design → Design
semaphore name n d =
    with_object name (form.Semaphore n) (denoted.Channel (channel.Semaphore (length d.semaphores) d.events))
    (record d { semaphores = d.semaphores ++ (record { object = next_object d; start = n }) ∷ []; events = d.events + 1 })

-- a port, with its channels
abbrev pub port : List ℕ → LeadsTo → List ChannelId → Design → Design
port name leads_to channels d =
    with_object name (form.Port leads_to 1 bound.One) (denoted.Port (length d.ports)) (record d { ports = d.ports ++ (record { object = next_object d; leads_to = leads_to; channels = channels }) ∷ [] })

-- a port of so many places, of which none need be bound, and none is
abbrev pub zero_port : List ℕ → LeadsTo → ℕ → Design → Design
zero_port name leads_to size d =
    with_object name (form.Port leads_to size bound.Zero) (denoted.Port (length d.ports)) (record d { ports = d.ports ++ (record { object = next_object d; leads_to = leads_to; channels = [] }) ∷ [] })

-- a clock that begins with its first posedge: a signal, and a thread with this body
abbrev pub clock : List ℕ → ℕ → ℕ → Body → Design → Design
clock name period high b d =
    with_body body_kind.Clock name [] None b
    (with_object name (form.Clock (record { 0 = period }) (record { 0 = high }) (record { 0 = 0 }) (length d.code.bodies)) (denoted.Channel (channel.Signal (length d.signals) d.events))
    (record (seen (visible_id.Signal (length d.signals)) d) {
      signals = d.signals ++ (record { object = next_object d; kind = signal_kind.Signal; many = false; value_type = type.Bool; initial = default_value type.Bool; events = d.events }) ∷ [];
      events = d.events + 3;
      processes = d.processes ++ (record { object = next_object d; kind = process.Thread; home = home d; code = length d.code.bodies; sensitive = []; dont_initialize = false }) ∷ [];
    }))

-- items in text order
abbrev pub with_items : List (Design → Design) → Design → Design
with_items [] d = d
with_items (x ∷ xs) d = with_items xs (x d)

abbrev pub design_of : List (Design → Design) → Design
design_of items = with_items items empty
