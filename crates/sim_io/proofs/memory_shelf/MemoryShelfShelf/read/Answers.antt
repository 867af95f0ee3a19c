use Rattle.std.proofs.Common.{length, sym, subst}
use Rattle.std.specs.Io.KnownBytes.{ReadConsumes}
use Rattle.sim_io.specs.Memory.{ShelfState, left_of}
use Rattle.sim_io.proofs.Steps.{give_consumes}
use Rattle.sim_io.proofs.memory_shelf.MemoryShelfShelf.read.Goals as goal

pub returns-clause-bytes : goal.returns-clause-bytes
returns-clause-bytes c =
    let P : ShelfState → Type 0 = λ s. ReadConsumes (left_of c.args.self.now c.args.id) (left_of s c.args.id) c.give.result c.give.new.into in
    subst P (sym c.give.ensures.after)
    (give_consumes c.args.self.now c.args.id c.give.result c.give.new.into (length c.args.into.now) c.requires.id (sym c.give.auto.into) c.give.ensures.count c.give.ensures.front)
