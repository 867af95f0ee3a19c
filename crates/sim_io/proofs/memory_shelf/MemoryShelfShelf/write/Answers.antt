use Rattle.std.proofs.Common.{sym, subst}
use Rattle.sim_io.specs.Contents.{Grows}
use Rattle.sim_io.specs.Writes.{taken}
use Rattle.sim_io.specs.Memory.{ShelfState, contents}
use Rattle.sim_io.proofs.Steps.{append_grows}
use Rattle.sim_io.proofs.memory_shelf.MemoryShelfShelf.write.Goals as goal

pub returns-clause-bytes : goal.returns-clause-bytes
returns-clause-bytes c = λ name stands.
    let P : ShelfState → Type 0 = λ s. Grows name (taken c.append.result c.args.piece.now) (contents c.args.self.now.files) (contents s.files) in
    subst P (sym c.append.ensures.after) (append_grows c.args.self.now c.args.id c.args.piece.now c.append.result name stands)
