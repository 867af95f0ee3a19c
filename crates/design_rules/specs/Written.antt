-- Models written by hand: each item with its line.
use Rattle.std.specs.Prelude.{ℕ, false, List, [], ◌∷◌, codes, Option, Some, None}
use Rattle.std.proofs.Common.{lit≤}
use Rattle.code_rules.specs.SimTime.declared.moments.Unit.TheVariants as unit
use Rattle.code_rules.specs.EventCore.declared.event.Ev.{Ev}
use Rattle.code_rules.specs.EventCore.declared.event.Ev.TheVariants as ev
use Rattle.code_rules.specs.ModelTree.Tree as tree
use Rattle.code_rules.specs.ModelTree.declared.items.PlainKind.TheVariants as plain
use Rattle.code_rules.specs.ModelTree.declared.items.ProcessKind.{ProcessKind}
use Rattle.code_rules.specs.ModelTree.declared.items.ProcessKind.TheVariants as process_kind
use Rattle.code_rules.specs.ModelTree.declared.items.SignalKind.TheVariants as signal_kind
use Rattle.code_rules.specs.ModelTree.declared.items.InitiatorRole.TheVariants as initiator
use Rattle.code_rules.specs.ModelTree.declared.items.TargetRole.TheVariants as target
use Rattle.code_rules.specs.ModelTree.declared.types.TypeForm.TheVariants as type_form
use Rattle.code_rules.specs.ModelTree.declared.types.ConstantForm.TheVariants as constant
use Rattle.code_rules.specs.ModelTree.declared.types.BoundRule.TheVariants as rule
use Rattle.code_rules.specs.ModelTree.declared.types.Interface.TheVariants as interface
use Rattle.code_rules.specs.ModelTree.declared.types.VarType.TheVariants as var_type
use Rattle.code_rules.specs.FlatDesign.ValueTypes.{default_value}
use Rattle.code_rules.specs.FlatDesign.declared.value_types.ValueType.TheVariants as type
use Rattle.code_rules.specs.FlatDesign.declared.objects.LeadsTo.TheVariants as leads
use Rattle.code_rules.specs.FlatDesign.declared.code.BodyKind.TheVariants as body_kind
use Rattle.code_rules.specs.FlatDesign.declared.code.Code.{Code}
use Rattle.code_rules.specs.FlatDesign.declared.design.ChannelId.{ChannelId}
use Rattle.code_rules.specs.FlatDesign.declared.design.ChannelId.TheVariants as channel
use Rattle.code_rules.specs.FlatDesign.declared.design.Denoted.{Denoted}
use Rattle.code_rules.specs.FlatDesign.declared.design.Denoted.TheVariants as denoted
use Rattle.code_rules.specs.FlatDesign.declared.design.InstancePart.{InstancePart}
use Rattle.code_rules.specs.FlatDesign.declared.design.ProcessPart.{ProcessPart}
use Rattle.code_rules.specs.FlatDesign.declared.design.SignalPart.{SignalPart}
use Rattle.code_rules.specs.FlatDesign.declared.design.VisibleId.TheVariants as visible
use Rattle.code_rules.specs.FlatDesign.declared.design.Design.{Design}
use Rattle.design_rules.specs.Forms.{Name}
use Rattle.design_rules.specs.Listing.{objects_of}
use Rattle.design_rules.specs.WrittenObjects.{models, a_module, typed, signal, thread, function, inst, own, of_child}
use Rattle.design_rules.specs.Parts.{instances_of, ports_of}
use Rattle.design_rules.specs.Statics.{static_lists, processes_of}

-- the parts of a model

abbrev pub instances_in : tree.Model → List InstancePart
instances_in m = instances_of m.modules (objects_of m)

abbrev pub processes_in : tree.Model → List ProcessPart
processes_in m = processes_of (static_lists m.modules) (ports_of (objects_of m)) (instances_in m) (objects_of m).list

-- items

abbrev pub event : Name → Option Name → tree.Event
event name member = record { channel = record { line = 1; name = name; place = tree.first }; member = member }

abbrev pub event_at : Name → ℕ → Option Name → tree.Event
event_at name place member = record { channel = record { line = 1; name = name; place = tree.place_number place }; member = member }

abbrev pub process : ProcessKind → ℕ → Name → List tree.Event → tree.Item
process kind line name sensitive =
    tree.process line (record { kind = kind; name = name; sensitive = sensitive; dont_initialize = false; body = tree.over })

abbrev pub method : ℕ → Name → List tree.Event → tree.Item
method = process process_kind.Method

-- what is wanted

abbrev pub signal_of : ℕ → ℕ → Denoted
signal_of number events = denoted.Channel (channel.Signal number events)

abbrev pub instance : ℕ → ℕ → List Denoted → InstancePart
instance object place names = record { object = object; module_place = place; names = names }

abbrev pub process_in : ProcessKind → ℕ → ℕ → ℕ → List Ev → ProcessPart
process_in kind object home code sensitive = record { object = object; kind = kind; home = home; code = code; sensitive = sensitive; dont_initialize = false }

-- m has two signals of type bool, 1 and 2, and a child c, 3, with a port of two places, 4, and a method, 5, that is sensitive to
-- these events; the port is bound to both
abbrev pub two_channels : Name → Name → List tree.Event → tree.Model
two_channels x y sensitive =
    models
    (a_module (codes "M") (signal 2 type_form.Bool (codes "a") None ∷ signal 3 type_form.Bool (codes "b") None ∷ inst 4 (codes "C") (codes "c")
    ∷ tree.bind 5 (of_child (codes "c") (codes "p")) (own x) ∷ tree.bind 6 (of_child (codes "c") (codes "p")) (own y) ∷ [])
    ∷ a_module (codes "C") (tree.port 8 (interface.In (typed type_form.Bool)) (codes "p") (Some (record { count = 2; rule = rule.One })) ∷ method 9 (codes "s") sensitive ∷ []) ∷ [])

abbrev pub method_events : List tree.Event → List ProcessPart
method_events sensitive = processes_in (two_channels (codes "a") (codes "b") sensitive)

-- m has a child i, 1, with an initiator, 2, that has the function b as its handler, and a thread, 3; and a child g, 4, with a
-- target, 5, that has the function f as that of the forward path
abbrev pub with_sockets : tree.Model
with_sockets =
    models
    (a_module (codes "M") (inst 2 (codes "I") (codes "i") ∷ inst 3 (codes "T") (codes "g") ∷ tree.bind 4 (of_child (codes "i") (codes "s")) (of_child (codes "g") (codes "s")) ∷ [])
    ∷ a_module (codes "I") (tree.initiator 6 (codes "s") (initiator.Own (Some (codes "b"))) ∷ function 7 (codes "b") ∷ thread 8 (codes "t") ∷ [])
    ∷ a_module (codes "T") (tree.target 10 (codes "s") (target.Own None (Some (codes "f"))) ∷ function 11 (codes "f") ∷ []) ∷ [])

-- each kind of object in one module
abbrev pub of_each_kind : List tree.Event → tree.Model
of_each_kind sensitive =
    models
    (a_module (codes "M")
    (tree.clock 2 (record { name = codes "c"; period = record { count = 10; unit = unit.Ns }; high = record { count = 5; unit = unit.Ns }; start = None })
    ∷ tree.fifo 3 (typed (type_form.Uint 8)) (codes "f") None ∷ tree.resolved 4 (codes "r") ∷ tree.plain 5 plain.Mutex (codes "x") ∷ tree.plain 6 plain.Event (codes "e")
    ∷ tree.plain 7 plain.Keeper (codes "k") ∷ tree.semaphore 8 (codes "y") (record { line = 8; form = constant.Number 3 }) ∷ tree.memory 9 (codes "a") 64
    ∷ tree.variable 10 var_type.Time (codes "v") None ∷ signal 11 (type_form.Int 8) (codes "s") (Some (constant.Number 7)) ∷ function 12 (codes "h")
    ∷ process process_kind.Thread 13 (codes "t") sensitive ∷ []) ∷ [])

-- a design written by hand: that of the model with two channels, whose method does nothing

abbrev pub bool_signal : ℕ → ℕ → SignalPart
bool_signal object events = record { object = object; kind = signal_kind.Signal; many = false; value_type = type.Bool; initial = default_value type.Bool; events = events }

abbrev pub both : List ChannelId
both = channel.Signal 0 0 ∷ channel.Signal 1 3 ∷ []

abbrev pub one_body : Code
one_body = record {
  bodies = (record { kind = body_kind.Method; module_place = 1; name = codes "s"; locals = []; parameters = 0; answer = None; block = 0; room = 0 }) ∷ [];
  blocks = [] ∷ [];
  statements = [];
}

abbrev pub sensitive_to_both : tree.Model
sensitive_to_both = two_channels (codes "a") (codes "b") (event (codes "p") None ∷ [])

abbrev pub seen : Design
seen = record {
  resolution = record { power = 3; small = lit≤ tt };
  objects = objects_of sensitive_to_both;
  instances = instance 0 0 (signal_of 0 0 ∷ signal_of 1 3 ∷ denoted.Nothing ∷ []) ∷ instance 3 1 (denoted.Port 0 ∷ denoted.Process 0 ∷ []) ∷ [];
  signals = bool_signal 1 0 ∷ bool_signal 2 3 ∷ [];
  resolved = [];
  fifos = [];
  mutexes = 0;
  semaphores = [];
  keepers = 0;
  memories = [];
  variables = [];
  ports = (record { object = 4; leads_to = leads.In type.Bool; channels = both }) ∷ [];
  processes = process_in process_kind.Method 5 1 0 (ev.Fixed 0 ∷ ev.Fixed 3 ∷ []) ∷ [];
  hops = [];
  events = 6;
  visible = (record { object = 1; id = visible.Signal 0 }) ∷ (record { object = 2; id = visible.Signal 1 }) ∷ [];
  exceptions = [];
  code = one_body;
}
