-- What each module gives the bindings of an instance of it: its instances and its bindings, in text order.
use Rattle.std.specs.Prelude.{ℕ, List, [], ◌∷◌, map, slice_get, unwrap_or}
use Rattle.std.specs.List.{flat_map}
use Rattle.elaborate_objects.specs.ModelTree.Tree as tree
use Rattle.elaborate_objects.specs.ModelTree.declared.types.End.{End}
use Rattle.elaborate_objects.specs.DesignRules.Forms.{Name, module_place}
use Rattle.elaborate_design.specs.declared.links.LinkRow.{LinkRow}
use Rattle.elaborate_design.specs.declared.links.LinkRow.TheVariants as row

-- an instance, with the place of its module, or a binding, with its line
pub data Link : Type 0 where
  enters : Name → ℕ → Link
  binds : ℕ → End → End → Link

abbrev pub links_by : List tree.Module → tree.Item → List Link
links_by ms (tree.signal line s) = []
links_by ms (tree.resolved line name) = []
links_by ms (tree.clock line c) = []
links_by ms (tree.fifo line t name size) = []
links_by ms (tree.plain line kind name) = []
links_by ms (tree.semaphore line name c) = []
links_by ms (tree.memory line name size) = []
links_by ms (tree.variable line t name c) = []
links_by ms (tree.port line i name size) = []
links_by ms (tree.export line i name) = []
links_by ms (tree.initiator line name role) = []
links_by ms (tree.target line name role) = []
links_by ms (tree.instance line kind name) = enters name (module_place ms kind) ∷ []
links_by ms (tree.bind line left right) = binds line left right ∷ []
links_by ms (tree.function line f) = []
links_by ms (tree.process line p) = []

-- those of each module
abbrev pub Links : Type 0
Links = List (List Link)

abbrev pub links_of : List tree.Module → Links
links_of ms = map (λ (m : tree.Module). flat_map (links_by ms) m.items) ms

-- past the modules there are none
abbrev pub links_at : Links → ℕ → List Link
links_at t place = unwrap_or (slice_get t place) []

-- how they are kept
abbrev pub link_of : LinkRow → Link
link_of (row.Enters name place) = enters name.now place
link_of (row.Binds line left right) = binds line left.now right.now
