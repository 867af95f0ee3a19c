use Rattle.std.proofs.Common.{◌≡◌, ◌<◌, ◌∙◌, None, Some, length, sym, ap, subst, arith}
use Rattle.sim_io.specs.Memory.{ShelfState, contents, entries}
use Rattle.sim_io.proofs.Entries.{contents_at, contents_none, bytes_at-entries, length-entries}
use Rattle.sim_io.proofs.memory_shelf.MemoryShelf.file.Goals as goal

pub returns-in-Some : goal.returns-in-Some
returns-in-Some c =
    let P : ShelfState → Type 0 = λ s. Some c.as_slice.result.now ≡ contents s.files c.args.name.now in
    let files = c.self.inside.stored.items in
    let found = rw c.deref.ensures.value at c.in-Some.ensures in
    let within : c.in-Some.place < length files = omega (arith, found.1, length-entries files) in
    subst P c.self.view_is
    (sym (contents_at (entries files) c.args.name.now c.in-Some.place (sym found.0) found.1
    ∙ ap (λ bytes. Some bytes) (bytes_at-entries files c.in-Some.place c.index.result.now within c.index.ensures ∙ sym c.as_slice.ensures.value)))

pub returns-in-None : goal.returns-in-None
returns-in-None c =
    let P : ShelfState → Type 0 = λ s. None ≡ contents s.files c.args.name.now in
    let past = rw c.deref.ensures.value at c.in-None.ensures in
    subst P c.self.view_is (sym (contents_none (entries c.self.inside.stored.items) c.args.name.now past))
