-- What is wrong with the instances of a model: a module that has itself among them, or too many objects.
use Rattle.std.specs.Prelude.{ℕ, zero, suc, ◌+◌, ◌==◌, ◌||◌, Bool, false, nat_lt, if◌then◌else◌, List, [], ◌∷◌, length, option_map, Option, Some, None, Contains}
use Rattle.std.specs.List.{find, flat_map, list_any}
use Rattle.std.specs.Option.{option_or}
use Rattle.code_rules.specs.ModelTree.Tree as tree
use Rattle.code_rules.specs.ModelTree.declared.faults.Fault.{Fault}
use Rattle.code_rules.specs.ModelTree.declared.faults.Kind.TheVariants as kind
use Rattle.code_rules.specs.FlatDesign.declared.objects.Object.{Object}
use Rattle.code_rules.specs.FlatDesign.declared.objects.ObjectForm.{ObjectForm}
use Rattle.code_rules.specs.FlatDesign.declared.objects.ObjectForm.TheVariants as form
use Rattle.design_rules.specs.declared.made.Made.{Made}
use Rattle.design_rules.specs.Forms.{items_at, module_place}
use Rattle.design_rules.specs.Listing.{list_of}

abbrev pub made_by : List tree.Module → tree.Item → List Made
made_by ms (tree.signal line s) = []
made_by ms (tree.resolved line name) = []
made_by ms (tree.clock line c) = []
made_by ms (tree.fifo line t name size) = []
made_by ms (tree.plain line kind name) = []
made_by ms (tree.semaphore line name c) = []
made_by ms (tree.memory line name size) = []
made_by ms (tree.variable line t name c) = []
made_by ms (tree.port line i name size) = []
made_by ms (tree.export line i name) = []
made_by ms (tree.initiator line name role) = []
made_by ms (tree.target line name role) = []
made_by ms (tree.instance line kind name) = (record { line = line; place = module_place ms kind }) ∷ []
made_by ms (tree.bind line left right) = []
made_by ms (tree.function line f) = []
made_by ms (tree.process line p) = []

-- those in the module at a place, in text order
abbrev pub made_at : List tree.Module → ℕ → List Made
made_at ms place = flat_map (made_by ms) (items_at ms place)

-- a module has an instance of another, in itself or in one of its instances
pub data Has (ms : List tree.Module) : ℕ → ℕ → Type 0 where
  Directly : (outer : ℕ) (x : Made) → Contains (made_at ms outer) x → Has ms outer x.place
  Through : (outer inner : ℕ) (x : Made) → Contains (made_at ms outer) x → Has ms x.place inner → Has ms outer inner

-- the same within so many instances, one in the other
unfoldable pub has_within : ℕ → List tree.Module → ℕ → ℕ → Bool
has_within zero ms inner outer = false
has_within (suc n) ms inner outer = list_any (λ (x : Made). x.place == inner || has_within n ms inner x.place) (made_at ms outer)

-- a module that has itself has itself within as many as there are modules
abbrev pub leads_to : List tree.Module → ℕ → Made → Bool
leads_to ms place x = x.place == place || has_within (length ms) ms place x.place

-- the first instance in a module that is one of the module itself or has one
abbrev pub first_of_itself : List tree.Module → ℕ → Option Made
first_of_itself ms place = find (leads_to ms place) (made_at ms place)

abbrev pub fault_at : tree.Module → Made → Fault
fault_at m x = record { kind = kind.ModuleCycle; line = x.line; name = m.name }

abbrev pub cycle_at : List tree.Module → ℕ → tree.Module → Option Fault
cycle_at ms place m = option_map (fault_at m) (first_of_itself ms place)

-- of the modules from this place on, the first in text order on a cycle, at the line of that instance
abbrev pub cycle_from : List tree.Module → ℕ → List tree.Module → Option Fault
cycle_from ms place [] = None
cycle_from ms place (m ∷ more) = option_or (cycle_at ms place m) (cycle_from ms (place + 1) more)

abbrev pub cycle_fault : tree.Model → Option Fault
cycle_fault m = cycle_from m.modules 0 m.modules

-- the bytes of memories together
abbrev pub bytes_in : ObjectForm → ℕ
bytes_in (form.Instance m) = 0
bytes_in (form.Signal kind many t initial) = 0
bytes_in form.Resolved = 0
bytes_in (form.Clock period high start code) = 0
bytes_in (form.Fifo t size) = 0
bytes_in form.Mutex = 0
bytes_in form.Event = 0
bytes_in form.Keeper = 0
bytes_in (form.Semaphore start) = 0
bytes_in (form.Memory size) = size
bytes_in (form.Variable t initial) = 0
bytes_in (form.Port leads_to size rule) = 0
bytes_in (form.Export leads_to) = 0
bytes_in (form.Initiator pass backward) = 0
bytes_in (form.Target pass blocking forward) = 0
bytes_in (form.Process kind code dont_initialize) = 0

abbrev pub bytes_of : List Object → ℕ
bytes_of [] = 0
bytes_of (o ∷ os) = bytes_in o.form + bytes_of os

-- at most 65,536 objects, and at most 67,108,864 bytes
abbrev pub are_too_many : List Object → Bool
are_too_many os = nat_lt 65536 (length os) || nat_lt 67108864 (bytes_of os)

abbrev pub limit_fault : tree.Model → Option Fault
limit_fault m = if are_too_many (list_of m) then Some (record { kind = kind.TooManyObjects; line = m.top.line; name = m.top.name }) else None

-- of a model that breaks no rule on single modules
abbrev pub instances_fault : tree.Model → Option Fault
instances_fault m = option_or (cycle_fault m) (limit_fault m)
