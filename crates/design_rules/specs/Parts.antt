-- The parts of a design that its objects and their bindings give, each kind in object order.
use Rattle.std.specs.Prelude.{ℕ, false, List, [], ◌∷◌, map, filter_map, slice_get, unwrap_or, Option, Some, None}
use Rattle.code_rules.specs.ModelTree.Tree as tree
use Rattle.code_rules.specs.ModelTree.declared.items.SignalKind.TheVariants as signal_kind
use Rattle.code_rules.specs.FlatDesign.ValueTypes.{default_value}
use Rattle.code_rules.specs.FlatDesign.declared.value_types.ValueType.TheVariants as type
use Rattle.code_rules.specs.FlatDesign.declared.objects.Object.{Object}
use Rattle.code_rules.specs.FlatDesign.declared.objects.Objects.{Objects}
use Rattle.code_rules.specs.FlatDesign.declared.objects.ObjectForm.{ObjectForm}
use Rattle.code_rules.specs.FlatDesign.declared.objects.ObjectForm.TheVariants as form
use Rattle.code_rules.specs.FlatDesign.declared.design.ChannelId.{ChannelId}
use Rattle.code_rules.specs.FlatDesign.declared.design.Denoted.{Denoted}
use Rattle.code_rules.specs.FlatDesign.declared.design.Denoted.TheVariants as denoted
use Rattle.code_rules.specs.FlatDesign.declared.design.InstancePart.{InstancePart}
use Rattle.code_rules.specs.FlatDesign.declared.design.SignalPart.{SignalPart}
use Rattle.code_rules.specs.FlatDesign.declared.design.ResolvedPart.{ResolvedPart}
use Rattle.code_rules.specs.FlatDesign.declared.design.FifoPart.{FifoPart}
use Rattle.code_rules.specs.FlatDesign.declared.design.SemaphorePart.{SemaphorePart}
use Rattle.code_rules.specs.FlatDesign.declared.design.MemoryPart.{MemoryPart}
use Rattle.code_rules.specs.FlatDesign.declared.design.VariablePart.{VariablePart}
use Rattle.code_rules.specs.FlatDesign.declared.design.PortPart.{PortPart}
use Rattle.code_rules.specs.FlatDesign.declared.design.Hop.{Hop}
use Rattle.code_rules.specs.FlatDesign.declared.design.Visible.{Visible}
use Rattle.code_rules.specs.FlatDesign.declared.design.VisibleId.TheVariants as visible
use Rattle.design_rules.specs.Forms.{items_at}
use Rattle.design_rules.specs.declared.bindings.Joined.{Joined}
use Rattle.design_rules.specs.Objects.{form_at, parent_at}
use Rattle.design_rules.specs.Paths.{ends_of}
use Rattle.design_rules.specs.Bound.{bound}
use Rattle.design_rules.specs.declared.counts.Counts.{Counts}
use Rattle.design_rules.specs.Counting.{nothing_before, along}
use Rattle.design_rules.specs.Denoting.{all_denoted, object_denoted, names_in}

-- what the objects are, with their bindings
abbrev pub denotes : Objects → List Denoted
denotes os = all_denoted (bound os).hops os.list

-- instances of modules

abbrev pub instance_by : List tree.Module → List Denoted → List Object → ℕ → ObjectForm → List InstancePart
instance_by ms all os i (form.Instance place) = (record { object = i; module_place = place; names = names_in all os i (items_at ms place) }) ∷ []
instance_by ms all os i (form.Signal kind many t initial) = []
instance_by ms all os i form.Resolved = []
instance_by ms all os i (form.Clock period high start code) = []
instance_by ms all os i (form.Fifo t size) = []
instance_by ms all os i form.Mutex = []
instance_by ms all os i form.Event = []
instance_by ms all os i form.Keeper = []
instance_by ms all os i (form.Semaphore start) = []
instance_by ms all os i (form.Memory size) = []
instance_by ms all os i (form.Variable t initial) = []
instance_by ms all os i (form.Port leads_to size rule) = []
instance_by ms all os i (form.Export leads_to) = []
instance_by ms all os i (form.Initiator pass backward) = []
instance_by ms all os i (form.Target pass blocking forward) = []
instance_by ms all os i (form.Process kind code dont_initialize) = []

abbrev pub instances_of : List tree.Module → Objects → List InstancePart
instances_of ms os = along (λ n (o : Object). instance_by ms (denotes os) os.list n.objects o.form) nothing_before os.list

-- how many instances come before each object: of an instance this is its number among them
abbrev pub instance_numbers : List Object → List ℕ
instance_numbers os = along (λ n o. n.instances ∷ []) nothing_before os

-- the instance that an object is in, by its number among the instances
abbrev pub home_of : List Object → ℕ → ℕ
home_of os parent = unwrap_or (slice_get (instance_numbers os) parent) 0

-- signals, buffers and clocks: a clock is of type bool and begins as false, and its thread alone writes it

abbrev pub signal_by : Counts → ObjectForm → List SignalPart
signal_by n (form.Instance m) = []
signal_by n (form.Signal kind many t initial) = (record { object = n.objects; kind = kind; many = many; value_type = t; initial = initial; events = n.events }) ∷ []
signal_by n form.Resolved = []
signal_by n (form.Clock period high start code) =
    (record { object = n.objects; kind = signal_kind.Signal; many = false; value_type = type.Bool; initial = default_value type.Bool; events = n.events }) ∷ []
signal_by n (form.Fifo t size) = []
signal_by n form.Mutex = []
signal_by n form.Event = []
signal_by n form.Keeper = []
signal_by n (form.Semaphore start) = []
signal_by n (form.Memory size) = []
signal_by n (form.Variable t initial) = []
signal_by n (form.Port leads_to size rule) = []
signal_by n (form.Export leads_to) = []
signal_by n (form.Initiator pass backward) = []
signal_by n (form.Target pass blocking forward) = []
signal_by n (form.Process kind code dont_initialize) = []

abbrev pub signals_of : List Object → List SignalPart
signals_of os = along (λ n (o : Object). signal_by n o.form) nothing_before os

-- resolved signals

abbrev pub resolved_by : Counts → ObjectForm → List ResolvedPart
resolved_by n (form.Instance m) = []
resolved_by n (form.Signal kind many t initial) = []
resolved_by n form.Resolved = (record { object = n.objects; events = n.events }) ∷ []
resolved_by n (form.Clock period high start code) = []
resolved_by n (form.Fifo t size) = []
resolved_by n form.Mutex = []
resolved_by n form.Event = []
resolved_by n form.Keeper = []
resolved_by n (form.Semaphore start) = []
resolved_by n (form.Memory size) = []
resolved_by n (form.Variable t initial) = []
resolved_by n (form.Port leads_to size rule) = []
resolved_by n (form.Export leads_to) = []
resolved_by n (form.Initiator pass backward) = []
resolved_by n (form.Target pass blocking forward) = []
resolved_by n (form.Process kind code dont_initialize) = []

abbrev pub resolved_of : List Object → List ResolvedPart
resolved_of os = along (λ n (o : Object). resolved_by n o.form) nothing_before os

-- fifos

abbrev pub fifo_by : Counts → ObjectForm → List FifoPart
fifo_by n (form.Instance m) = []
fifo_by n (form.Signal kind many t initial) = []
fifo_by n form.Resolved = []
fifo_by n (form.Clock period high start code) = []
fifo_by n (form.Fifo t size) = (record { object = n.objects; value_type = t; size = size; events = n.events }) ∷ []
fifo_by n form.Mutex = []
fifo_by n form.Event = []
fifo_by n form.Keeper = []
fifo_by n (form.Semaphore start) = []
fifo_by n (form.Memory size) = []
fifo_by n (form.Variable t initial) = []
fifo_by n (form.Port leads_to size rule) = []
fifo_by n (form.Export leads_to) = []
fifo_by n (form.Initiator pass backward) = []
fifo_by n (form.Target pass blocking forward) = []
fifo_by n (form.Process kind code dont_initialize) = []

abbrev pub fifos_of : List Object → List FifoPart
fifos_of os = along (λ n (o : Object). fifo_by n o.form) nothing_before os

-- semaphores

abbrev pub semaphore_by : Counts → ObjectForm → List SemaphorePart
semaphore_by n (form.Instance m) = []
semaphore_by n (form.Signal kind many t initial) = []
semaphore_by n form.Resolved = []
semaphore_by n (form.Clock period high start code) = []
semaphore_by n (form.Fifo t size) = []
semaphore_by n form.Mutex = []
semaphore_by n form.Event = []
semaphore_by n form.Keeper = []
semaphore_by n (form.Semaphore start) = (record { object = n.objects; start = start }) ∷ []
semaphore_by n (form.Memory size) = []
semaphore_by n (form.Variable t initial) = []
semaphore_by n (form.Port leads_to size rule) = []
semaphore_by n (form.Export leads_to) = []
semaphore_by n (form.Initiator pass backward) = []
semaphore_by n (form.Target pass blocking forward) = []
semaphore_by n (form.Process kind code dont_initialize) = []

abbrev pub semaphores_of : List Object → List SemaphorePart
semaphores_of os = along (λ n (o : Object). semaphore_by n o.form) nothing_before os

-- memories

abbrev pub memory_by : Counts → ObjectForm → List MemoryPart
memory_by n (form.Instance m) = []
memory_by n (form.Signal kind many t initial) = []
memory_by n form.Resolved = []
memory_by n (form.Clock period high start code) = []
memory_by n (form.Fifo t size) = []
memory_by n form.Mutex = []
memory_by n form.Event = []
memory_by n form.Keeper = []
memory_by n (form.Semaphore start) = []
memory_by n (form.Memory size) = (record { object = n.objects; size = size }) ∷ []
memory_by n (form.Variable t initial) = []
memory_by n (form.Port leads_to size rule) = []
memory_by n (form.Export leads_to) = []
memory_by n (form.Initiator pass backward) = []
memory_by n (form.Target pass blocking forward) = []
memory_by n (form.Process kind code dont_initialize) = []

abbrev pub memories_of : List Object → List MemoryPart
memories_of os = along (λ n (o : Object). memory_by n o.form) nothing_before os

-- variables of instances of modules

abbrev pub variable_by : Counts → ObjectForm → List VariablePart
variable_by n (form.Instance m) = []
variable_by n (form.Signal kind many t initial) = []
variable_by n form.Resolved = []
variable_by n (form.Clock period high start code) = []
variable_by n (form.Fifo t size) = []
variable_by n form.Mutex = []
variable_by n form.Event = []
variable_by n form.Keeper = []
variable_by n (form.Semaphore start) = []
variable_by n (form.Memory size) = []
variable_by n (form.Variable t initial) = (record { object = n.objects; value_type = t; initial = initial }) ∷ []
variable_by n (form.Port leads_to size rule) = []
variable_by n (form.Export leads_to) = []
variable_by n (form.Initiator pass backward) = []
variable_by n (form.Target pass blocking forward) = []
variable_by n (form.Process kind code dont_initialize) = []

abbrev pub variables_of : List Object → List VariablePart
variables_of os = along (λ n (o : Object). variable_by n o.form) nothing_before os

-- ports, with their channels in the order of their bindings

abbrev pub channel_in : Denoted → Option ChannelId
channel_in denoted.Nothing = None
channel_in (denoted.Channel c) = Some c
channel_in (denoted.Event e) = None
channel_in (denoted.Keeper k) = None
channel_in (denoted.Memory m) = None
channel_in (denoted.Variable v) = None
channel_in (denoted.Port p) = None
channel_in (denoted.Process p) = None
channel_in (denoted.Socket hop forward) = None

-- of objects by their numbers
abbrev pub channels_among : List Denoted → List ℕ → List ChannelId
channels_among all numbers = filter_map (λ i. channel_in (object_denoted all i)) numbers

-- the port of this number among the objects, whose bindings lead to objects of these numbers
abbrev pub port_by : List Denoted → List ℕ → ℕ → ObjectForm → List PortPart
port_by all ends i (form.Instance m) = []
port_by all ends i (form.Signal kind many t initial) = []
port_by all ends i form.Resolved = []
port_by all ends i (form.Clock period high start code) = []
port_by all ends i (form.Fifo t size) = []
port_by all ends i form.Mutex = []
port_by all ends i form.Event = []
port_by all ends i form.Keeper = []
port_by all ends i (form.Semaphore start) = []
port_by all ends i (form.Memory size) = []
port_by all ends i (form.Variable t initial) = []
port_by all ends i (form.Port leads_to size rule) = (record { object = i; leads_to = leads_to; channels = channels_among all ends }) ∷ []
port_by all ends i (form.Export leads_to) = []
port_by all ends i (form.Initiator pass backward) = []
port_by all ends i (form.Target pass blocking forward) = []
port_by all ends i (form.Process kind code dont_initialize) = []

abbrev pub ports_of : Objects → List PortPart
ports_of os = along (λ n (o : Object). port_by (denotes os) (ends_of os n.objects) n.objects o.form) nothing_before os.list

-- hops, in the object order of their initiators, with the handlers of their sockets

pub record Handlers : Type 0 where
  pub backward : Option ℕ
  pub blocking : Option ℕ
  pub forward : Option ℕ

abbrev pub no_handlers : Handlers
no_handlers = record { backward = None; blocking = None; forward = None }

abbrev pub handlers_by : ObjectForm → Handlers
handlers_by (form.Instance m) = no_handlers
handlers_by (form.Signal kind many t initial) = no_handlers
handlers_by form.Resolved = no_handlers
handlers_by (form.Clock period high start code) = no_handlers
handlers_by (form.Fifo t size) = no_handlers
handlers_by form.Mutex = no_handlers
handlers_by form.Event = no_handlers
handlers_by form.Keeper = no_handlers
handlers_by (form.Semaphore start) = no_handlers
handlers_by (form.Memory size) = no_handlers
handlers_by (form.Variable t initial) = no_handlers
handlers_by (form.Port leads_to size rule) = no_handlers
handlers_by (form.Export leads_to) = no_handlers
handlers_by (form.Initiator pass backward) = record no_handlers { backward = backward }
handlers_by (form.Target pass blocking forward) = record no_handlers { blocking = blocking; forward = forward }
handlers_by (form.Process kind code dont_initialize) = no_handlers

abbrev pub handlers_of : Option ObjectForm → Handlers
handlers_of None = no_handlers
handlers_of (Some f) = handlers_by f

abbrev pub handlers_at : Objects → ℕ → Handlers
handlers_at os i = handlers_of (form_at os i)

abbrev pub hop_of : Objects → Joined → Hop
hop_of os h = record {
  initiator = h.initiator;
  target = h.target;
  initiator_home = home_of os.list (parent_at os h.initiator);
  target_home = home_of os.list (parent_at os h.target);
  backward = (handlers_at os h.initiator).backward;
  blocking = (handlers_at os h.target).blocking;
  forward = (handlers_at os h.target).forward;
}

abbrev pub hops_of : Objects → List Hop
hops_of os = map (hop_of os) (bound os).hops

-- what has values to be seen

abbrev pub visible_by : Counts → ObjectForm → List Visible
visible_by n (form.Instance m) = []
visible_by n (form.Signal kind many t initial) = (record { object = n.objects; id = visible.Signal n.signals }) ∷ []
visible_by n form.Resolved = (record { object = n.objects; id = visible.Resolved n.resolved }) ∷ []
visible_by n (form.Clock period high start code) = (record { object = n.objects; id = visible.Signal n.signals }) ∷ []
visible_by n (form.Fifo t size) = []
visible_by n form.Mutex = []
visible_by n form.Event = []
visible_by n form.Keeper = []
visible_by n (form.Semaphore start) = []
visible_by n (form.Memory size) = []
visible_by n (form.Variable t initial) = []
visible_by n (form.Port leads_to size rule) = []
visible_by n (form.Export leads_to) = []
visible_by n (form.Initiator pass backward) = []
visible_by n (form.Target pass blocking forward) = []
visible_by n (form.Process kind code dont_initialize) = []

abbrev pub visible_of : List Object → List Visible
visible_of os = along (λ n (o : Object). visible_by n o.form) nothing_before os
