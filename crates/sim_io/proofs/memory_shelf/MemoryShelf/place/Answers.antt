use Rattle.std.proofs.Common.{◌≡◌, ◌<◌, length, subst}
use Rattle.std.specs.Prelude.{MatchOption}
use Rattle.sim_io.specs.Contents.{Lacks}
use Rattle.sim_io.specs.Memory.{ShelfState, entries, told, place_of}
use Rattle.sim_io.proofs.Steps.{place_told}
use Rattle.sim_io.proofs.memory_shelf.MemoryShelf.place.Goals as goal

pub returns : goal.returns
returns c =
    let P : ShelfState → Type 0 = λ s. MatchOption c.find_file.result (Lacks (told s) c.args.name.now × (place_of s.files c.args.name.now ≡ length s.files)) (λ place. (place ≡ place_of s.files c.args.name.now) × (place < length s.files)) in
    subst P c.self.view_is (place_told (entries c.self.inside.stored.items) c.args.name.now c.find_file.result (rw c.deref.ensures.value at c.find_file.ensures))
