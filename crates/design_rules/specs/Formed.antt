-- What the rules on single modules give: the objects of a tree that breaks none of them.
use Rattle.std.specs.Prelude.{◌≡◌, ◌⊎◌, ◌<◌, ◌≤◌, ◌^◌, ⊤, ℕ, true, slice_get, length, Option, Some, None, All}
use Rattle.code_rules.specs.FlatDesign.declared.objects.Object.{Object}
use Rattle.code_rules.specs.FlatDesign.declared.objects.ObjectForm.{ObjectForm}
use Rattle.code_rules.specs.FlatDesign.declared.objects.ObjectForm.TheVariants as form
use Rattle.code_rules.specs.FlatDesign.declared.objects.Binding.{Binding}
use Rattle.code_rules.specs.FlatDesign.declared.objects.Objects.{Objects}
use Rattle.design_rules.specs.Objects.{object_at, parent_at}

-- an object of an instance, and one of a child of it
abbrev pub IsOwn : ℕ → Object → Type 0
IsOwn instance o = o.parent ≡ instance

abbrev pub IsOfChild : Objects → ℕ → Object → Type 0
IsOfChild os instance o = (instance < o.parent) × (parent_at os o.parent ≡ instance)

-- the right end of a port of a child: an own channel, an own port, or the export of a child
abbrev pub IsRightOfPort : Objects → ℕ → Object → ObjectForm → Type 0
IsRightOfPort os instance o (form.Instance m) = ⊥
IsRightOfPort os instance o (form.Signal kind many t initial) = IsOwn instance o
IsRightOfPort os instance o form.Resolved = IsOwn instance o
IsRightOfPort os instance o (form.Clock period high start code) = IsOwn instance o
IsRightOfPort os instance o (form.Fifo t size) = IsOwn instance o
IsRightOfPort os instance o form.Mutex = IsOwn instance o
IsRightOfPort os instance o form.Event = ⊥
IsRightOfPort os instance o form.Keeper = ⊥
IsRightOfPort os instance o (form.Semaphore start) = IsOwn instance o
IsRightOfPort os instance o (form.Memory size) = ⊥
IsRightOfPort os instance o (form.Variable t initial) = ⊥
IsRightOfPort os instance o (form.Port leads_to size rule) = IsOwn instance o
IsRightOfPort os instance o (form.Export leads_to) = IsOfChild os instance o
IsRightOfPort os instance o (form.Initiator pass backward) = ⊥
IsRightOfPort os instance o (form.Target pass blocking forward) = ⊥
IsRightOfPort os instance o (form.Process kind code dont_initialize) = ⊥

-- that of an own export: an own channel, or the export of a child
abbrev pub IsRightOfExport : Objects → ℕ → Object → ObjectForm → Type 0
IsRightOfExport os instance o (form.Instance m) = ⊥
IsRightOfExport os instance o (form.Signal kind many t initial) = IsOwn instance o
IsRightOfExport os instance o form.Resolved = IsOwn instance o
IsRightOfExport os instance o (form.Clock period high start code) = IsOwn instance o
IsRightOfExport os instance o (form.Fifo t size) = IsOwn instance o
IsRightOfExport os instance o form.Mutex = IsOwn instance o
IsRightOfExport os instance o form.Event = ⊥
IsRightOfExport os instance o form.Keeper = ⊥
IsRightOfExport os instance o (form.Semaphore start) = IsOwn instance o
IsRightOfExport os instance o (form.Memory size) = ⊥
IsRightOfExport os instance o (form.Variable t initial) = ⊥
IsRightOfExport os instance o (form.Port leads_to size rule) = ⊥
IsRightOfExport os instance o (form.Export leads_to) = IsOfChild os instance o
IsRightOfExport os instance o (form.Initiator pass backward) = ⊥
IsRightOfExport os instance o (form.Target pass blocking forward) = ⊥
IsRightOfExport os instance o (form.Process kind code dont_initialize) = ⊥

-- that of an initiator of a child: an own initiator with `pass`, or the target of a child
abbrev pub IsRightOfInitiator : Objects → ℕ → Object → ObjectForm → Type 0
IsRightOfInitiator os instance o (form.Instance m) = ⊥
IsRightOfInitiator os instance o (form.Signal kind many t initial) = ⊥
IsRightOfInitiator os instance o form.Resolved = ⊥
IsRightOfInitiator os instance o (form.Clock period high start code) = ⊥
IsRightOfInitiator os instance o (form.Fifo t size) = ⊥
IsRightOfInitiator os instance o form.Mutex = ⊥
IsRightOfInitiator os instance o form.Event = ⊥
IsRightOfInitiator os instance o form.Keeper = ⊥
IsRightOfInitiator os instance o (form.Semaphore start) = ⊥
IsRightOfInitiator os instance o (form.Memory size) = ⊥
IsRightOfInitiator os instance o (form.Variable t initial) = ⊥
IsRightOfInitiator os instance o (form.Port leads_to size rule) = ⊥
IsRightOfInitiator os instance o (form.Export leads_to) = ⊥
IsRightOfInitiator os instance o (form.Initiator pass backward) = (pass ≡ true) × IsOwn instance o
IsRightOfInitiator os instance o (form.Target pass blocking forward) = IsOfChild os instance o
IsRightOfInitiator os instance o (form.Process kind code dont_initialize) = ⊥

-- that of an own target with `pass`: the target of a child
abbrev pub IsRightOfTarget : Objects → ℕ → Object → ObjectForm → Type 0
IsRightOfTarget os instance o (form.Instance m) = ⊥
IsRightOfTarget os instance o (form.Signal kind many t initial) = ⊥
IsRightOfTarget os instance o form.Resolved = ⊥
IsRightOfTarget os instance o (form.Clock period high start code) = ⊥
IsRightOfTarget os instance o (form.Fifo t size) = ⊥
IsRightOfTarget os instance o form.Mutex = ⊥
IsRightOfTarget os instance o form.Event = ⊥
IsRightOfTarget os instance o form.Keeper = ⊥
IsRightOfTarget os instance o (form.Semaphore start) = ⊥
IsRightOfTarget os instance o (form.Memory size) = ⊥
IsRightOfTarget os instance o (form.Variable t initial) = ⊥
IsRightOfTarget os instance o (form.Port leads_to size rule) = ⊥
IsRightOfTarget os instance o (form.Export leads_to) = ⊥
IsRightOfTarget os instance o (form.Initiator pass backward) = ⊥
IsRightOfTarget os instance o (form.Target pass blocking forward) = IsOfChild os instance o
IsRightOfTarget os instance o (form.Process kind code dont_initialize) = ⊥

-- the ends of a binding in this instance: the left one, by its form, and then the right one
abbrev pub AreEnds : Objects → ℕ → Object → Object → ObjectForm → Type 0
AreEnds os instance right o (form.Instance m) = ⊥
AreEnds os instance right o (form.Signal kind many t initial) = ⊥
AreEnds os instance right o form.Resolved = ⊥
AreEnds os instance right o (form.Clock period high start code) = ⊥
AreEnds os instance right o (form.Fifo t size) = ⊥
AreEnds os instance right o form.Mutex = ⊥
AreEnds os instance right o form.Event = ⊥
AreEnds os instance right o form.Keeper = ⊥
AreEnds os instance right o (form.Semaphore start) = ⊥
AreEnds os instance right o (form.Memory size) = ⊥
AreEnds os instance right o (form.Variable t initial) = ⊥
AreEnds os instance right o (form.Port leads_to size rule) = IsOfChild os instance o × IsRightOfPort os instance right right.form
AreEnds os instance right o (form.Export leads_to) = IsOwn instance o × IsRightOfExport os instance right right.form
AreEnds os instance right o (form.Initiator pass backward) = IsOfChild os instance o × IsRightOfInitiator os instance right right.form
AreEnds os instance right o (form.Target pass blocking forward) = (pass ≡ true) × IsOwn instance o × IsRightOfTarget os instance right right.form
AreEnds os instance right o (form.Process kind code dont_initialize) = ⊥

pub record HasForm (os : Objects) (b : Binding) : Type 0 where
  pub left : Object
  pub right : Object
  pub left_found : object_at os b.left ≡ Some left
  pub right_found : object_at os b.right ≡ Some right
  pub ends : AreEnds os b.instance right left left.form

-- a port has a size from 1 to 64
abbrev pub HasSize : ObjectForm → Type 0
HasSize (form.Instance m) = ⊤
HasSize (form.Signal kind many t initial) = ⊤
HasSize form.Resolved = ⊤
HasSize (form.Clock period high start code) = ⊤
HasSize (form.Fifo t size) = ⊤
HasSize form.Mutex = ⊤
HasSize form.Event = ⊤
HasSize form.Keeper = ⊤
HasSize (form.Semaphore start) = ⊤
HasSize (form.Memory size) = ⊤
HasSize (form.Variable t initial) = ⊤
HasSize (form.Port leads_to size rule) = (1 ≤ size) × (size ≤ 64)
HasSize (form.Export leads_to) = ⊤
HasSize (form.Initiator pass backward) = ⊤
HasSize (form.Target pass blocking forward) = ⊤
HasSize (form.Process kind code dont_initialize) = ⊤

-- an object is in an instance before it; the top instance is in itself
pub record AreFormed (os : Objects) : Type 0 where
  pub few : length os.list < 2 ^ 32
  pub parents : (i : ℕ) (o : Object) → object_at os i ≡ Some o → (o.parent < i) ⊎ ((i ≡ 0) × (o.parent ≡ 0))
  pub sizes : (i : ℕ) (o : Object) → object_at os i ≡ Some o → HasSize o.form
  pub bindings : All (HasForm os) os.binds
