-- What an item may be to a binding: by what its name is declared as, and by the form of its object.
use Rattle.std.proofs.Common.{◌≡◌, ℕ, Bool, true, false, Option, Some, None, refl}
use Rattle.std.specs.Prelude.{⊤}
use Rattle.std.proofs.lemmas.Bool.{false≢true}
use Rattle.elaborate_objects.specs.ModelTree.Tree as tree
use Rattle.elaborate_objects.specs.ModelTree.declared.items.PlainKind.TheVariants as plain
use Rattle.elaborate_objects.specs.ModelTree.declared.items.InitiatorRole.TheVariants as initiator
use Rattle.elaborate_objects.specs.ModelTree.declared.items.TargetRole.TheVariants as target
use Rattle.elaborate_objects.specs.ModelTree.declared.types.Interface.TheVariants as interface
use Rattle.elaborate_objects.specs.ModelTree.declared.types.BoundRule.{BoundRule}
use Rattle.elaborate_objects.specs.FlatDesign.declared.objects.LeadsTo.{LeadsTo}
use Rattle.elaborate_objects.specs.FlatDesign.declared.objects.Object.{Object}
use Rattle.elaborate_objects.specs.FlatDesign.declared.objects.Objects.{Objects}
use Rattle.elaborate_objects.specs.FlatDesign.declared.objects.ObjectForm.{ObjectForm}
use Rattle.elaborate_objects.specs.FlatDesign.declared.objects.ObjectForm.TheVariants as form
use Rattle.elaborate_objects.specs.ModelRules.Meanings.{Declared, declaration}
use Rattle.elaborate_objects.specs.ModelRules.declared.meanings.Meaning.{Meaning}
use Rattle.elaborate_objects.specs.ModelRules.declared.meanings.Meaning.TheVariants as meaning
use Rattle.elaborate_objects.specs.ModelRules.Items.{left_own, left_child, is_own_channel, is_own_port, is_export_of_child, is_own_pass_initiator, is_target_of_child}
use Rattle.elaborate_objects.specs.ModelRules.declared.ends.EndMeaning.TheVariants as end_meaning
use Rattle.elaborate_objects.specs.ModelRules.declared.ends.LeftEnd.{LeftEnd}
use Rattle.elaborate_objects.specs.ModelRules.declared.ends.LeftEnd.TheVariants as left_end
use Rattle.elaborate_objects.specs.DesignRules.Forms.{Around, object_form}
use Rattle.elaborate_objects.specs.DesignRules.Formed.{IsOwn, IsRightOfPort, IsRightOfExport}

-- forms

abbrev pub IsPort : ObjectForm → Type 0
IsPort f = (l : LeadsTo) × (size : ℕ) × (rule : BoundRule) × (f ≡ form.Port l size rule)

abbrev pub IsExport : ObjectForm → Type 0
IsExport f = (l : LeadsTo) × (f ≡ form.Export l)

abbrev pub IsInitiator : ObjectForm → Type 0
IsInitiator f = (pass : Bool) × (backward : Option ℕ) × (f ≡ form.Initiator pass backward)

abbrev pub IsPassInitiator : ObjectForm → Type 0
IsPassInitiator f = (backward : Option ℕ) × (f ≡ form.Initiator true backward)

abbrev pub IsTarget : ObjectForm → Type 0
IsTarget f = (pass : Bool) × (blocking : Option ℕ) × (forward : Option ℕ) × (f ≡ form.Target pass blocking forward)

abbrev pub IsPassTarget : ObjectForm → Type 0
IsPassTarget f = (blocking : Option ℕ) × (forward : Option ℕ) × (f ≡ form.Target true blocking forward)

-- a channel of an instance is the right end of ports and exports there
abbrev pub IsChannel : ObjectForm → Type 0
IsChannel f = (os : Objects) (p : ℕ) (o : Object) → IsOwn p o → IsRightOfPort os p o f × IsRightOfExport os p o f

-- the left end of a binding, if it is an own object, and if it is one of a child
abbrev pub OwnLeft : LeftEnd → ObjectForm → Type 0
OwnLeft left_end.Unknown f = ⊥
OwnLeft left_end.NoForm f = ⊤
OwnLeft left_end.PortOfChild f = ⊥
OwnLeft left_end.Export f = IsExport f
OwnLeft left_end.InitiatorOfChild f = ⊥
OwnLeft left_end.PassTarget f = IsPassTarget f

abbrev pub ChildLeft : LeftEnd → ObjectForm → Type 0
ChildLeft left_end.Unknown f = ⊥
ChildLeft left_end.NoForm f = ⊤
ChildLeft left_end.PortOfChild f = IsPort f
ChildLeft left_end.Export f = ⊥
ChildLeft left_end.InitiatorOfChild f = IsInitiator f
ChildLeft left_end.PassTarget f = ⊥

pub record Role (m : Meaning) (f : ObjectForm) : Type 0 where
  pub own : OwnLeft (left_own m) f
  pub child : ChildLeft (left_child m) f
  pub channel : is_own_channel (end_meaning.Own m) ≡ true → IsChannel f
  pub port : is_own_port (end_meaning.Own m) ≡ true → IsPort f
  pub export : is_export_of_child (end_meaning.OfChild m) ≡ true → IsExport f
  pub initiator : is_own_pass_initiator (end_meaning.Own m) ≡ true → IsPassInitiator f
  pub target : is_target_of_child (end_meaning.OfChild m) ≡ true → IsTarget f

-- what an item declares, and its form: a binding declares nothing, and a function is no object
abbrev pub RoleIf : Option Declared → Option ObjectForm → Type 0
RoleIf None f = f ≡ None
RoleIf (Some y) None = y.meaning ≡ meaning.Function
RoleIf (Some y) (Some f) = Role y.meaning f

pub off : {A : Type 0} → false ≡ true → A
off h = absurd (false≢true h)

pub item_role : (a : Around) (i : tree.Item) → RoleIf (declaration i) (object_form a i)
item_role a (tree.signal line s) = record { own = tt; child = tt; channel = λ h os p o own. (own, own); port = off; export = off; initiator = off; target = off }
item_role a (tree.resolved line name) = record { own = tt; child = tt; channel = λ h os p o own. (own, own); port = off; export = off; initiator = off; target = off }
item_role a (tree.clock line c) = record { own = tt; child = tt; channel = λ h os p o own. (own, own); port = off; export = off; initiator = off; target = off }
item_role a (tree.fifo line t name size) = record { own = tt; child = tt; channel = λ h os p o own. (own, own); port = off; export = off; initiator = off; target = off }
item_role a (tree.plain line plain.Mutex name) = record { own = tt; child = tt; channel = λ h os p o own. (own, own); port = off; export = off; initiator = off; target = off }
item_role a (tree.plain line plain.Event name) = record { own = tt; child = tt; channel = off; port = off; export = off; initiator = off; target = off }
item_role a (tree.plain line plain.Keeper name) = record { own = tt; child = tt; channel = off; port = off; export = off; initiator = off; target = off }
item_role a (tree.semaphore line name c) = record { own = tt; child = tt; channel = λ h os p o own. (own, own); port = off; export = off; initiator = off; target = off }
item_role a (tree.memory line name size) = record { own = tt; child = tt; channel = off; port = off; export = off; initiator = off; target = off }
item_role a (tree.variable line t name c) = record { own = tt; child = tt; channel = off; port = off; export = off; initiator = off; target = off }
item_role a (tree.port line (interface.In t) name size) = record { own = tt; child = (_, _, _, refl); channel = off; port = λ h. (_, _, _, refl); export = off; initiator = off; target = off }
item_role a (tree.port line (interface.Out t) name size) = record { own = tt; child = (_, _, _, refl); channel = off; port = λ h. (_, _, _, refl); export = off; initiator = off; target = off }
item_role a (tree.port line (interface.FifoIn t) name size) = record { own = tt; child = (_, _, _, refl); channel = off; port = λ h. (_, _, _, refl); export = off; initiator = off; target = off }
item_role a (tree.port line (interface.FifoOut t) name size) = record { own = tt; child = (_, _, _, refl); channel = off; port = λ h. (_, _, _, refl); export = off; initiator = off; target = off }
item_role a (tree.port line interface.Mutex name size) = record { own = tt; child = (_, _, _, refl); channel = off; port = λ h. (_, _, _, refl); export = off; initiator = off; target = off }
item_role a (tree.port line interface.Semaphore name size) = record { own = tt; child = (_, _, _, refl); channel = off; port = λ h. (_, _, _, refl); export = off; initiator = off; target = off }
item_role a (tree.export line i name) = record { own = (_, refl); child = tt; channel = off; port = off; export = λ h. (_, refl); initiator = off; target = off }
item_role a (tree.initiator line name initiator.Pass) = record { own = tt; child = (_, _, refl); channel = off; port = off; export = off; initiator = λ h. (_, refl); target = off }
item_role a (tree.initiator line name (initiator.Own backward)) = record { own = tt; child = (_, _, refl); channel = off; port = off; export = off; initiator = off; target = off }
item_role a (tree.target line name target.Pass) = record { own = (_, _, refl); child = tt; channel = off; port = off; export = off; initiator = off; target = λ h. (_, _, _, refl) }
item_role a (tree.target line name (target.Own blocking forward)) = record { own = tt; child = tt; channel = off; port = off; export = off; initiator = off; target = λ h. (_, _, _, refl) }
item_role a (tree.instance line kind name) = record { own = tt; child = tt; channel = off; port = off; export = off; initiator = off; target = off }
item_role a (tree.bind line left right) = refl
item_role a (tree.function line f) = refl
item_role a (tree.process line p) = record { own = tt; child = tt; channel = off; port = off; export = off; initiator = off; target = off }
