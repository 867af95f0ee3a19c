-- The line of a construct: that of its first token.
use Rattle.std.specs.Prelude.{ℕ}
use Rattle.model_tree.specs.Tree as tree

-- the line of an item's first token
abbrev pub item_line : tree.Item → ℕ
item_line (tree.signal line s) = line
item_line (tree.resolved line name) = line
item_line (tree.clock line c) = line
item_line (tree.fifo line t name size) = line
item_line (tree.plain line kind name) = line
item_line (tree.semaphore line name c) = line
item_line (tree.memory line name size) = line
item_line (tree.variable line t name c) = line
item_line (tree.port line i name size) = line
item_line (tree.export line i name) = line
item_line (tree.initiator line name role) = line
item_line (tree.target line name role) = line
item_line (tree.instance line kind name) = line
item_line (tree.bind line left right) = line
item_line (tree.function line f) = line
item_line (tree.process line p) = line

-- the line of an expression's first token
abbrev pub first_line : tree.Expression → ℕ
first_line (tree.number line n) = line
first_line (tree.time line n unit) = line
first_line (tree.logic line digits) = line
first_line (tree.truth line b) = line
first_line (tree.now line) = line
first_line (tree.myself line) = line
first_line (tree.constant line c) = line
first_line (tree.paren line e) = line
first_line (tree.convert line c e) = line
first_line (tree.to_vector line width e) = line
first_line (tree.concat line upper lower) = line
first_line (tree.named line x) = line
first_line (tree.placed line x at) = line
first_line (tree.placed_by line x e) = line
first_line (tree.member e x) = first_line e
first_line (tree.element e index) = first_line e
first_line (tree.slice e high low) = first_line e
first_line (tree.unary line op e) = line
first_line (tree.binary op left right) = first_line left
