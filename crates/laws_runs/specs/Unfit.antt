-- A design by which it can be tried what the laws ask for: a bool signal, and a thread with a local variable of so many digits.
use Rattle.std.specs.Prelude.{ℕ, false, [], ◌∷◌, List, None, codes}
use Rattle.std.proofs.Common.{lit≤}
use Rattle.sim_model.specs.LogicValues.declared.kinds.Value.TheVariants as value
use Rattle.sim_model.specs.ModelTree.declared.items.ProcessKind.TheVariants as process
use Rattle.sim_model.specs.ModelTree.declared.items.SignalKind.TheVariants as signal_kind
use Rattle.sim_model.specs.FlatDesign.declared.value_types.ValueType.TheVariants as type
use Rattle.sim_model.specs.FlatDesign.declared.objects.ObjectForm.TheVariants as form
use Rattle.sim_model.specs.FlatDesign.declared.code.BodyKind.TheVariants as body_kind
use Rattle.sim_model.specs.FlatDesign.declared.design.ChannelId.TheVariants as channel
use Rattle.sim_model.specs.FlatDesign.declared.design.Denoted.TheVariants as denoted
use Rattle.sim_model.specs.FlatDesign.declared.design.VisibleId.TheVariants as visible_id
use Rattle.sim_model.specs.FlatDesign.declared.design.Design.{Design}
use Rattle.sim_model.specs.declared.plain.Command.{Command}
use Rattle.sim_model.specs.declared.plain.Command.TheVariants as command

abbrev pub tried : ℕ → Design
tried width = record {
  resolution = record { power = 3; small = lit≤ tt };
  objects = record {
    list = (record { name = codes "m"; line = 1; parent = 0; form = form.Instance 0 })
        ∷ (record { name = codes "t"; line = 2; parent = 0; form = form.Process process.Thread 0 false })
        ∷ (record { name = codes "s"; line = 3; parent = 0; form = form.Signal signal_kind.Signal false type.Bool (value.Bool false) }) ∷ [];
    binds = [];
  };
  instances = (record { object = 0; module_place = 0; names = denoted.Process 0 ∷ denoted.Channel (channel.Signal 0 0) ∷ [] }) ∷ [];
  signals = (record { object = 2; kind = signal_kind.Signal; many = false; value_type = type.Bool; initial = value.Bool false; events = 0 }) ∷ [];
  resolved = [];
  fifos = [];
  mutexes = 0;
  semaphores = [];
  keepers = 0;
  memories = [];
  variables = [];
  ports = [];
  processes = (record { object = 1; kind = process.Thread; home = 0; code = 0; sensitive = []; dont_initialize = false }) ∷ [];
  hops = [];
  events = 3;
  visible = (record { object = 2; id = visible_id.Signal 0 }) ∷ [];
  exceptions = [];
  code = record {
    bodies = (record { kind = body_kind.Thread; module_place = 0; name = codes "t"; locals = (record { name = codes "v"; value_type = type.Vector width; inout = false }) ∷ []; parameters = 0; answer = None; block = 0; room = 0 }) ∷ [];
    blocks = [] ∷ [];
    statements = [];
  };
}

-- a script that runs, and one that sets the bool signal to a time
abbrev pub runs : List Command
runs = command.Run None ∷ []

abbrev pub sets_a_time : List Command
sets_a_time = command.Set 0 (value.Moment 0) ∷ []
