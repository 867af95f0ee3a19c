-- The processes of a design, with their static sensitivities.
use Rattle.std.specs.Prelude.{ℕ, ◌+◌, false, List, [], ◌∷◌, map, filter_map, slice_get, unwrap_or, option_to_list, Option, Some, None}
use Rattle.std.specs.List.{flat_map}
use Rattle.code_rules.specs.EventCore.declared.event.Ev.{Ev}
use Rattle.code_rules.specs.EventCore.declared.event.Ev.TheVariants as ev
use Rattle.code_rules.specs.ModelTree.Tree as tree
use Rattle.code_rules.specs.ModelTree.declared.items.ProcessKind.TheVariants as process_kind
use Rattle.code_rules.specs.FlatDesign.declared.names.EventMember.{EventMember}
use Rattle.code_rules.specs.FlatDesign.declared.names.EventMember.TheVariants as event
use Rattle.code_rules.specs.FlatDesign.declared.code.StaticUse.{StaticUse}
use Rattle.code_rules.specs.FlatDesign.declared.objects.Object.{Object}
use Rattle.code_rules.specs.FlatDesign.declared.objects.ObjectForm.{ObjectForm}
use Rattle.code_rules.specs.FlatDesign.declared.objects.ObjectForm.TheVariants as form
use Rattle.code_rules.specs.FlatDesign.declared.design.ChannelId.{ChannelId}
use Rattle.code_rules.specs.FlatDesign.declared.design.ChannelId.TheVariants as channel
use Rattle.code_rules.specs.FlatDesign.declared.design.Denoted.{Denoted}
use Rattle.code_rules.specs.FlatDesign.declared.design.Denoted.TheVariants as denoted
use Rattle.code_rules.specs.FlatDesign.declared.design.InstancePart.{InstancePart}
use Rattle.code_rules.specs.FlatDesign.declared.design.PortPart.{PortPart}
use Rattle.code_rules.specs.FlatDesign.declared.design.ProcessPart.{ProcessPart}
use Rattle.code_rules.specs.ModelRules.Scopes.{item_scope}
use Rattle.code_rules.specs.Deeds.{static_use}
use Rattle.code_rules.specs.Bodies.{Source, of_function, of_process, of_clock, source_of}
use Rattle.design_rules.specs.Counting.{nothing_before, along}
use Rattle.design_rules.specs.Denoting.{object_denoted}
use Rattle.design_rules.specs.Parts.{home_of}

-- what each body is sensitive to, as it is written, in the order of bodies: text order over all modules

abbrev pub source_list : List tree.Module → List tree.Item → Source → List StaticUse
source_list ms items (of_function f) = []
source_list ms items (of_process p) = filter_map (static_use (item_scope ms items p.name)) p.sensitive
source_list ms items (of_clock c) = []

-- those of some of the items of a module
abbrev pub lists_among : List tree.Module → List tree.Item → List tree.Item → List (List StaticUse)
lists_among ms items some = map (source_list ms items) (filter_map source_of some)

abbrev pub static_lists : List tree.Module → List (List StaticUse)
static_lists ms = flat_map (λ (x : tree.Module). lists_among ms x.items x.items) ms

abbrev pub static_list : List (List StaticUse) → ℕ → List StaticUse
static_list lists code = unwrap_or (slice_get lists code) []

-- the events of a channel, from its first one on

abbrev pub first_event : ChannelId → ℕ
first_event (channel.Signal n events) = events
first_event (channel.Resolved n events) = events
first_event (channel.Fifo n events) = events
first_event (channel.Mutex n events) = events
first_event (channel.Semaphore n events) = events

abbrev pub event_place : EventMember → ℕ
event_place event.Own = 0
event_place event.Posedge = 1
event_place event.Negedge = 2
event_place event.DataWritten = 0
event_place event.DataRead = 1
event_place event.Terminated = 0
event_place event.Reset = 0

abbrev pub channel_event : EventMember → ChannelId → Ev
channel_event e c = ev.Fixed (first_event c + event_place e)

abbrev pub process_events : EventMember → ℕ → List Ev
process_events event.Own serial = []
process_events event.Posedge serial = []
process_events event.Negedge serial = []
process_events event.DataWritten serial = []
process_events event.DataRead serial = []
process_events event.Terminated serial = ev.Terminated serial ∷ []
process_events event.Reset serial = ev.Restarted serial ∷ []

-- a port without a place stands for all its channels; with a place for the channel there, and for none where that is not bound

abbrev pub channels_of_port : Option PortPart → List ChannelId
channels_of_port None = []
channels_of_port (Some p) = p.channels

abbrev pub at_place : List ChannelId → Option ℕ → List ChannelId
at_place channels None = channels
at_place channels (Some k) = option_to_list (slice_get channels k)

-- the events of what a name stands for
abbrev pub events_of : List PortPart → EventMember → Option ℕ → Denoted → List Ev
events_of ports e place denoted.Nothing = []
events_of ports e place (denoted.Channel c) = channel_event e c ∷ []
events_of ports e place (denoted.Event n) = ev.Fixed n ∷ []
events_of ports e place (denoted.Keeper n) = []
events_of ports e place (denoted.Memory n) = []
events_of ports e place (denoted.Variable n) = []
events_of ports e place (denoted.Port n) = map (channel_event e) (at_place (channels_of_port (slice_get ports n)) place)
events_of ports e place (denoted.Process serial) = process_events e serial
events_of ports e place (denoted.Socket hop forward) = []

-- what the names of a module stand for in the instance of this number among the instances
abbrev pub names_of : Option InstancePart → List Denoted
names_of None = []
names_of (Some i) = i.names

abbrev pub names_at : List InstancePart → ℕ → List Denoted
names_at instances home = names_of (slice_get instances home)

abbrev pub static_events : List PortPart → List Denoted → List StaticUse → List Ev
static_events ports names uses = flat_map (λ (u : StaticUse). events_of ports u.event u.place (object_denoted names u.name)) uses

-- processes, and the threads of clocks

abbrev pub clock_thread : ℕ → ℕ → ℕ → ProcessPart
clock_thread i home code = record { object = i; kind = process_kind.Thread; home = home; code = code; sensitive = []; dont_initialize = false }

-- the lists of all bodies, the parts of ports and instances, the number of the object and that of the instance that it is in
abbrev pub process_by : List (List StaticUse) → List PortPart → List InstancePart → ℕ → ℕ → ObjectForm → List ProcessPart
process_by lists ports instances i home (form.Instance m) = []
process_by lists ports instances i home (form.Signal kind many t initial) = []
process_by lists ports instances i home form.Resolved = []
process_by lists ports instances i home (form.Clock period high start code) = clock_thread i home code ∷ []
process_by lists ports instances i home (form.Fifo t size) = []
process_by lists ports instances i home form.Mutex = []
process_by lists ports instances i home form.Event = []
process_by lists ports instances i home form.Keeper = []
process_by lists ports instances i home (form.Semaphore start) = []
process_by lists ports instances i home (form.Memory size) = []
process_by lists ports instances i home (form.Variable t initial) = []
process_by lists ports instances i home (form.Port leads_to size rule) = []
process_by lists ports instances i home (form.Export leads_to) = []
process_by lists ports instances i home (form.Initiator pass backward) = []
process_by lists ports instances i home (form.Target pass blocking forward) = []
process_by lists ports instances i home (form.Process kind code dont_initialize) =
    (record { object = i; kind = kind; home = home; code = code; sensitive = static_events ports (names_at instances home) (static_list lists code); dont_initialize = dont_initialize }) ∷ []

abbrev pub processes_of : List (List StaticUse) → List PortPart → List InstancePart → List Object → List ProcessPart
processes_of lists ports instances os =
    along (λ n (o : Object). process_by lists ports instances n.objects (home_of os o.parent) o.form) nothing_before os
