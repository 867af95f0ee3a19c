use Rattle.std.proofs.Common.{◌≡◌, Some, sym, subst}
use Rattle.std.specs.Prelude.{IfOk}
use Rattle.sim_io.specs.Contents.{text_of}
use Rattle.sim_io.specs.Memory.{ShelfState, contents, left_of}
use Rattle.sim_io.proofs.Steps.{open_gives}
use Rattle.sim_io.proofs.memory_shelf.MemoryShelfShelf.open_read.Goals as goal

pub returns-clause-bytes : goal.returns-clause-bytes
returns-clause-bytes c =
    let P : ShelfState → Type 0 = λ s. IfOk c.open.result (λ id. left_of s id ≡ Some (text_of (contents c.args.self.now.files c.args.name.now))) in
    subst P (sym c.open.ensures.after) (open_gives c.args.self.now c.args.name.now c.open.result c.open.ensures.id c.open.ensures.there)
