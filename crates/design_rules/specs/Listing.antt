-- The objects of a model in object order: the top instance, and then each item at its place, that of an instance followed by
-- its own items; and the bindings, as that walk comes to them.
use Rattle.std.specs.Prelude.{ℕ, zero, suc, ◌+◌, ◌==◌, ◌&&◌, Bool, List, [], ◌∷◌, ◌++◌, length, bytes_eq, unwrap_or, Option, Some, None}
use Rattle.std.specs.List.{position_or_len}
use Rattle.code_rules.specs.ModelTree.Tree as tree
use Rattle.code_rules.specs.ModelTree.Lines.{item_line}
use Rattle.code_rules.specs.ModelTree.declared.types.End.{End}
use Rattle.code_rules.specs.FlatDesign.declared.objects.Object.{Object}
use Rattle.code_rules.specs.FlatDesign.declared.objects.ObjectForm.{ObjectForm}
use Rattle.code_rules.specs.FlatDesign.declared.objects.ObjectForm.TheVariants as form
use Rattle.code_rules.specs.FlatDesign.declared.objects.Binding.{Binding}
use Rattle.code_rules.specs.FlatDesign.declared.objects.Objects.{Objects}
use Rattle.code_rules.specs.ModelRules.Meanings.{declared_name}
use Rattle.design_rules.specs.Forms.{Name, Around, around, items_at, module_place, object_form}

-- objects

abbrev pub object_if : ℕ → tree.Item → Option ObjectForm → List Object
object_if parent i None = []
object_if parent i (Some f) = (record { name = unwrap_or (declared_name i) []; line = item_line i; parent = parent; form = f }) ∷ []

-- the objects inside an instance of this number, of the module at this place of the text
abbrev pub Inside : Type 0
Inside = ℕ → ℕ → List Object

abbrev pub inside_item : Inside → List tree.Module → ℕ → tree.Item → List Object
inside_item inside ms at (tree.signal line s) = []
inside_item inside ms at (tree.resolved line name) = []
inside_item inside ms at (tree.clock line c) = []
inside_item inside ms at (tree.fifo line t name size) = []
inside_item inside ms at (tree.plain line kind name) = []
inside_item inside ms at (tree.semaphore line name c) = []
inside_item inside ms at (tree.memory line name size) = []
inside_item inside ms at (tree.variable line t name c) = []
inside_item inside ms at (tree.port line i name size) = []
inside_item inside ms at (tree.export line i name) = []
inside_item inside ms at (tree.initiator line name role) = []
inside_item inside ms at (tree.target line name role) = []
inside_item inside ms at (tree.instance line kind name) = inside at (module_place ms kind)
inside_item inside ms at (tree.bind line left right) = []
inside_item inside ms at (tree.function line f) = []
inside_item inside ms at (tree.process line p) = []

-- those of an item in the instance of the number `parent`, if the next object has the number `at`
abbrev pub of_item : Inside → Around → ℕ → ℕ → tree.Item → List Object
of_item inside a parent at i = object_if parent i (object_form a i) ++ inside_item inside a.modules at i

abbrev pub of_items : Inside → Around → ℕ → ℕ → List tree.Item → List Object
of_items inside a parent at [] = []
of_items inside a parent at (i ∷ is) =
    of_item inside a parent at i ++ of_items inside a parent (at + length (of_item inside a parent at i)) is

-- within so many instances, one in the other
unfoldable pub inside_within : ℕ → List tree.Module → Inside
inside_within zero ms at place = []
inside_within (suc n) ms at place = of_items (inside_within n ms) (around ms place) at (at + 1) (items_at ms place)

-- where no module has itself among its instances, no more of them stand in each other than there are modules
abbrev pub inside : List tree.Module → Inside
inside ms = inside_within (length ms) ms

abbrev pub top_place : tree.Model → ℕ
top_place m = module_place m.modules m.top.module

abbrev pub top_object : tree.Model → Object
top_object m = record { name = m.top.name; line = m.top.line; parent = 0; form = form.Instance (top_place m) }

abbrev pub list_of : tree.Model → List Object
list_of m = top_object m ∷ inside m.modules 0 (top_place m)

-- bindings

-- the number of an object of this name in the instance of this number; none is the top instance
abbrev pub is_child : ℕ → Name → Object → Bool
is_child parent name o = o.parent == parent && bytes_eq o.name name

abbrev pub child : List Object → ℕ → Name → ℕ
child below_top parent name = 1 + position_or_len (is_child parent name) below_top

-- what an end names in the instance of this number: an own object, or one of a child
abbrev pub end_in : List Object → ℕ → Name → Option Name → ℕ
end_in below_top parent name None = child below_top parent name
end_in below_top parent name (Some member) = child below_top (child below_top parent name) member

abbrev pub end_of : List Object → ℕ → End → ℕ
end_of below_top parent e = end_in below_top parent e.name e.member

abbrev pub InsideBinds : Type 0
InsideBinds = ℕ → ℕ → List Binding

abbrev pub binds_of_item : InsideBinds → List tree.Module → List Object → ℕ → tree.Item → List Binding
binds_of_item inside ms os parent (tree.signal line s) = []
binds_of_item inside ms os parent (tree.resolved line name) = []
binds_of_item inside ms os parent (tree.clock line c) = []
binds_of_item inside ms os parent (tree.fifo line t name size) = []
binds_of_item inside ms os parent (tree.plain line kind name) = []
binds_of_item inside ms os parent (tree.semaphore line name c) = []
binds_of_item inside ms os parent (tree.memory line name size) = []
binds_of_item inside ms os parent (tree.variable line t name c) = []
binds_of_item inside ms os parent (tree.port line i name size) = []
binds_of_item inside ms os parent (tree.export line i name) = []
binds_of_item inside ms os parent (tree.initiator line name role) = []
binds_of_item inside ms os parent (tree.target line name role) = []
binds_of_item inside ms os parent (tree.instance line kind name) = inside (child os parent name) (module_place ms kind)
binds_of_item inside ms os parent (tree.bind line left right) =
    (record { line = line; instance = parent; left = end_of os parent left; right = end_of os parent right }) ∷ []
binds_of_item inside ms os parent (tree.function line f) = []
binds_of_item inside ms os parent (tree.process line p) = []

abbrev pub binds_of_items : InsideBinds → List tree.Module → List Object → ℕ → List tree.Item → List Binding
binds_of_items inside ms os parent [] = []
binds_of_items inside ms os parent (i ∷ is) = binds_of_item inside ms os parent i ++ binds_of_items inside ms os parent is

unfoldable pub binds_within : ℕ → List tree.Module → List Object → InsideBinds
binds_within zero ms os parent place = []
binds_within (suc n) ms os parent place = binds_of_items (binds_within n ms os) ms os parent (items_at ms place)

abbrev pub binds_of : tree.Model → List Binding
binds_of m = binds_within (length m.modules) m.modules (inside m.modules 0 (top_place m)) 0 (top_place m)

abbrev pub objects_of : tree.Model → Objects
objects_of m = record { list = list_of m; binds = binds_of m }
