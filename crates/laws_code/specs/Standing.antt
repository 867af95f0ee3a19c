-- What the names at a place of a module stand for in an instance of it, as a design has them.
use Rattle.std.specs.Prelude.{◌≡◌, ◌<◌, ℕ, Bool, true, false, slice_get, Option, Some}
use Rattle.std.specs.List.{AllByRecursion}
use Rattle.code_rules.specs.ModelTree.Tree as tree
use Rattle.code_rules.specs.FlatDesign.Denotes.{Context, declared, denoted_at}
use Rattle.code_rules.specs.FlatDesign.declared.value_types.ValueType.{ValueType}
use Rattle.code_rules.specs.FlatDesign.declared.value_types.ValueType.TheVariants as type
use Rattle.code_rules.specs.FlatDesign.declared.objects.LeadsTo.{LeadsTo}
use Rattle.code_rules.specs.FlatDesign.declared.objects.LeadsTo.TheVariants as leads
use Rattle.code_rules.specs.FlatDesign.declared.code.Local.{Local as CodeLocal}
use Rattle.code_rules.specs.FlatDesign.declared.design.ChannelId.TheVariants as channel
use Rattle.code_rules.specs.FlatDesign.declared.design.Denoted.{Denoted}
use Rattle.code_rules.specs.FlatDesign.declared.design.Denoted.TheVariants as denoted
use Rattle.code_rules.specs.FlatDesign.declared.design.SignalPart.{SignalPart}
use Rattle.code_rules.specs.FlatDesign.declared.design.FifoPart.{FifoPart}
use Rattle.code_rules.specs.FlatDesign.declared.design.MemoryPart.{MemoryPart}
use Rattle.code_rules.specs.FlatDesign.declared.design.VariablePart.{VariablePart}
use Rattle.code_rules.specs.FlatDesign.declared.design.PortPart.{PortPart}
use Rattle.code_rules.specs.FlatDesign.declared.design.Hop.{Hop}
use Rattle.code_rules.specs.FlatDesign.declared.design.InstancePart.{InstancePart}
use Rattle.code_rules.specs.FlatDesign.declared.design.Design.{Design}
use Rattle.code_rules.specs.ModelRules.Meanings.{Declared, declarations}
use Rattle.code_rules.specs.ModelRules.Scopes.{Scope, Local}
use Rattle.code_rules.specs.ModelRules.declared.meanings.Meaning.{Meaning}
use Rattle.code_rules.specs.ModelRules.declared.meanings.Meaning.TheVariants as meaning

-- a signal, a fifo or a port that is there, of this type
abbrev pub IsSignal : Design → Denoted → Option ValueType → Type 0
IsSignal d x t = (n : ℕ) × (events : ℕ) × (p : SignalPart) × (x ≡ denoted.Channel (channel.Signal n events)) × (slice_get d.signals n ≡ Some p) × (t ≡ Some p.value_type)

abbrev pub IsFifo : Design → Denoted → Option ValueType → Type 0
IsFifo d x t = (n : ℕ) × (events : ℕ) × (p : FifoPart) × (x ≡ denoted.Channel (channel.Fifo n events)) × (slice_get d.fifos n ≡ Some p) × (t ≡ Some p.value_type)

abbrev pub IsPortTo : Design → Denoted → LeadsTo → Type 0
IsPortTo d x kind = (n : ℕ) × (p : PortPart) × (x ≡ denoted.Port n) × (slice_get d.ports n ≡ Some p) × (p.leads_to ≡ kind)

abbrev pub IsPortOf : Design → Denoted → (ValueType → LeadsTo) → Option ValueType → Type 0
IsPortOf d x kind t = (s : ValueType) × (t ≡ Some s) × IsPortTo d x (kind s)

abbrev pub IsEnd : Design → Denoted → Bool → Type 0
IsEnd d x forward = (h : ℕ) × (hop : Hop) × (x ≡ denoted.Socket h forward) × (slice_get d.hops h ≡ Some hop)

-- what a module declares as this stands for that in an instance of the module
abbrev pub Standing : Design → Meaning → Denoted → Type 0
Standing d (meaning.Signal t) x = IsSignal d x t
Standing d meaning.Resolved x = (n : ℕ) × (events : ℕ) × (x ≡ denoted.Channel (channel.Resolved n events))
Standing d meaning.Clock x = IsSignal d x (Some type.Bool)
Standing d (meaning.Fifo t) x = IsFifo d x t
Standing d meaning.Mutex x = (n : ℕ) × (events : ℕ) × (x ≡ denoted.Channel (channel.Mutex n events))
Standing d meaning.Event x = (e : ℕ) × (x ≡ denoted.Event e) × (e < d.events)
Standing d meaning.Keeper x = (k : ℕ) × (x ≡ denoted.Keeper k) × (k < d.keepers)
Standing d meaning.Semaphore x = (n : ℕ) × (events : ℕ) × (x ≡ denoted.Channel (channel.Semaphore n events))
Standing d meaning.Memory x = (m : ℕ) × (p : MemoryPart) × (x ≡ denoted.Memory m) × (slice_get d.memories m ≡ Some p)
Standing d (meaning.Variable t) x = (v : ℕ) × (p : VariablePart) × (x ≡ denoted.Variable v) × (slice_get d.variables v ≡ Some p) × (t ≡ Some p.value_type)
Standing d (meaning.In t size) x = IsPortOf d x leads.In t
Standing d (meaning.Out t size) x = IsPortOf d x leads.Out t
Standing d (meaning.FifoIn t size) x = IsPortOf d x leads.FifoIn t
Standing d (meaning.FifoOut t size) x = IsPortOf d x leads.FifoOut t
Standing d (meaning.MutexPort size) x = IsPortTo d x leads.Mutex
Standing d (meaning.SemaphorePort size) x = IsPortTo d x leads.Semaphore
Standing d meaning.Export x = x ≡ denoted.Nothing
Standing d (meaning.Initiator true) x = x ≡ denoted.Nothing
Standing d (meaning.Initiator false) x = IsEnd d x true
Standing d (meaning.Target true) x = x ≡ denoted.Nothing
Standing d (meaning.Target false) x = IsEnd d x false
Standing d meaning.Instance x = x ≡ denoted.Nothing
Standing d meaning.Function x = x ≡ denoted.Nothing
Standing d meaning.Process x = (p : ℕ) × (x ≡ denoted.Process p)

-- a local variable that is visible is the body's of its number
abbrev pub LocalStands : Context → Local → Type 0
LocalStands c l = (x : CodeLocal) × (slice_get c.locals l.number ≡ Some x) × (l.value_type ≡ Some x.value_type)

-- each name of a place stands for what it is declared as: those that the module declares, in the instance around, and the
-- local variables that are visible
pub record NamesStand (s : Scope) (c : Context) : Type 0 where
  pub names : (n : ℕ) (x : Declared) → slice_get (declarations s.items) n ≡ Some x → Standing c.design x.meaning (declared c n)
  pub locals : AllByRecursion (LocalStands c) s.locals

-- in each instance of a module of the tree each name that the module declares stands for what it is declared as
pub record DesignStands (m : tree.Model) (d : Design) : Type 0 where
  pub names : (home n : ℕ) (i : InstancePart) (x : tree.Module) (y : Declared) → slice_get d.instances home ≡ Some i → slice_get m.modules i.module_place ≡ Some x → slice_get (declarations x.items) n ≡ Some y
      → Standing d y.meaning (denoted_at d home n)
