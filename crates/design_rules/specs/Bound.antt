-- What bindings give: the channels of each port, and what each hop joins.
use Rattle.std.specs.Prelude.{◌+◌, ℕ, Bool, true, false, List, [], ◌∷◌, ◌++◌, map, take}
use Rattle.code_rules.specs.FlatDesign.declared.objects.Object.{Object}
use Rattle.code_rules.specs.FlatDesign.declared.objects.ObjectForm.{ObjectForm}
use Rattle.code_rules.specs.FlatDesign.declared.objects.ObjectForm.TheVariants as form
use Rattle.code_rules.specs.FlatDesign.declared.objects.Objects.{Objects}
use Rattle.design_rules.specs.declared.bindings.BoundPort.{BoundPort}
use Rattle.design_rules.specs.declared.bindings.Joined.{Joined}
use Rattle.design_rules.specs.declared.bindings.Bindings.{Bindings}
use Rattle.design_rules.specs.Paths.{ends_of, begins_path}

abbrev pub is_port : ObjectForm → Bool
is_port (form.Instance m) = false
is_port (form.Signal kind many t initial) = false
is_port form.Resolved = false
is_port (form.Clock period high start code) = false
is_port (form.Fifo t size) = false
is_port form.Mutex = false
is_port form.Event = false
is_port form.Keeper = false
is_port (form.Semaphore start) = false
is_port (form.Memory size) = false
is_port (form.Variable t initial) = false
is_port (form.Port leads_to size rule) = true
is_port (form.Export leads_to) = false
is_port (form.Initiator pass backward) = false
is_port (form.Target pass blocking forward) = false
is_port (form.Process kind code dont_initialize) = false

-- a port, with its channels
abbrev pub port_if : Objects → ℕ → Bool → List BoundPort
port_if os i false = []
port_if os i true = (record { object = i; channels = ends_of os i }) ∷ []

-- the ports among objects, of which the first has this number, in object order
abbrev pub ports_from : Objects → ℕ → List Object → List BoundPort
ports_from os i [] = []
ports_from os i (o ∷ more) = port_if os i (is_port o.form) ++ ports_from os (i + 1) more

abbrev pub joined : ℕ → ℕ → Joined
joined i t = record { initiator = i; target = t }

-- an initiator without `pass`, joined to the target that its path of bindings reaches
abbrev pub hop_if : Objects → ℕ → Bool → List Joined
hop_if os i false = []
hop_if os i true = map (λ (t : ℕ). joined i t) (take 1 (ends_of os i))

abbrev pub hops_from : Objects → ℕ → List Object → List Joined
hops_from os i [] = []
hops_from os i (o ∷ more) = hop_if os i (begins_path o.form) ++ hops_from os (i + 1) more

abbrev pub bound : Objects → Bindings
bound os = record { ports = ports_from os 0 os.list; hops = hops_from os 0 os.list }
