use Rattle.std.proofs.Common.{◌≡◌, arith}
use Rattle.sim_io.specs.Sound.{place_of}
use Rattle.sim_io.proofs.Places.{place_within}
use Rattle.sim_io.proofs.sound_shelf.SoundShelf.open.Goals as goal

pub overflow_cast-result : goal.overflow_cast-result
overflow_cast-result c =
    let at : c.place_or_count-place.result ≡ place_of c.self.inside.files.items c.args.name.now = rw c.deref.ensures.value at c.place_or_count-place.ensures in
    omega (arith, at, place_within c.self.inside.files.items c.args.name.now, c.self.invariant)
