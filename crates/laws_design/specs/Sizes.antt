-- The sizes of ports, of items and of objects.
use Rattle.std.specs.Prelude.{◌≡◌, ⊤, true, List, [], ◌∷◌}
use Rattle.elaborate_objects.specs.ModelTree.Tree as tree
use Rattle.elaborate_objects.specs.FlatDesign.declared.objects.Object.{Object}
use Rattle.elaborate_objects.specs.ModelRules.Meanings.{port_size}
use Rattle.elaborate_objects.specs.ModelRules.Items.{is_port_size}
use Rattle.elaborate_objects.specs.DesignRules.Formed.{HasSize}

-- a port that is declared with a size from 1 to 64
abbrev pub IsSized : tree.Item → Type 0
IsSized (tree.signal line s) = ⊤
IsSized (tree.resolved line name) = ⊤
IsSized (tree.clock line c) = ⊤
IsSized (tree.fifo line t name size) = ⊤
IsSized (tree.plain line kind name) = ⊤
IsSized (tree.semaphore line name c) = ⊤
IsSized (tree.memory line name size) = ⊤
IsSized (tree.variable line t name c) = ⊤
IsSized (tree.port line i name size) = is_port_size (port_size size) ≡ true
IsSized (tree.export line i name) = ⊤
IsSized (tree.initiator line name role) = ⊤
IsSized (tree.target line name role) = ⊤
IsSized (tree.instance line kind name) = ⊤
IsSized (tree.bind line left right) = ⊤
IsSized (tree.function line f) = ⊤
IsSized (tree.process line p) = ⊤

abbrev pub AreSized : List tree.Item → Type 0
AreSized [] = ⊤
AreSized (i ∷ is) = IsSized i × AreSized is

abbrev pub ModulesAreSized : List tree.Module → Type 0
ModulesAreSized [] = ⊤
ModulesAreSized (m ∷ ms) = AreSized m.items × ModulesAreSized ms

-- objects with sizes
abbrev pub HaveSizes : List Object → Type 0
HaveSizes [] = ⊤
HaveSizes (o ∷ os) = HasSize o.form × HaveSizes os
