use Rattle.std.proofs.Common.{◌<◌, length, sym, subst}
use Rattle.std.specs.Prelude.{IfOk}
use Rattle.sim_io.specs.Writes.{Creates}
use Rattle.sim_io.specs.Memory.{ShelfState, contents, StandsFor}
use Rattle.sim_io.proofs.Steps.{clear_creates, clear_stands, clear_id}
use Rattle.sim_io.proofs.memory_shelf.MemoryShelfShelf.create.Goals as goal

pub returns-clause-id : goal.returns-clause-id
returns-clause-id c =
    let P : ShelfState → Type 0 = λ s. IfOk c.clear.result (λ id. id < length s.files) in
    subst P (sym c.clear.ensures.after) (clear_id c.args.self.now c.args.name.now c.clear.result c.clear.ensures.id)

pub returns-clause-file : goal.returns-clause-file
returns-clause-file c =
    let P : ShelfState → Type 0 = λ s. IfOk c.clear.result (λ id. StandsFor s id c.args.name.now) in
    subst P (sym c.clear.ensures.after) (clear_stands c.args.self.now c.args.name.now c.clear.result c.clear.ensures.id)

pub returns-clause-files : goal.returns-clause-files
returns-clause-files c =
    let P : ShelfState → Type 0 = λ s. Creates c.args.name.now c.clear.result (contents c.args.self.now.files) (contents s.files) in
    subst P (sym c.clear.ensures.after) (clear_creates c.args.self.now c.args.name.now c.clear.result)
