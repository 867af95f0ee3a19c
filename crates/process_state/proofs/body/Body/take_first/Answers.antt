use Rattle.std.proofs.Common.{◌≡◌, ◌-◌, suc, length, set, take, None, Option, refl, subst, sym, arith}
use Rattle.kernel_bodies.specs.FlatDesign.Code.{arena_of}
use Rattle.kernel_bodies.specs.Room.{FitsFrames, own_locals, own_blocks}
use Rattle.kernel_bodies.proofs.Rooms.{fits_last}
use Rattle.process_state.proofs.Frames.{le_to, last_set, last_is, fits_join, each_take, same_room, own_first, own_changed, blocks_changed}
use Rattle.process_state.proofs.Passed.{taken_settles_if, taken_fits_if, taken_none, taken_there, taken_stays}
use Rattle.process_state.proofs.body.Body.take_first.Goals as goal

pub returns-clause-settles : goal.returns-clause-settles
returns-clause-settles c =
    let b = c.args.self.now in
    let xs = b.frames.items in
    let i = c.len-many.result - 1 in
    let d = c.index_mut.result.now in
    let y = c.take_in.new.saved in
    let last : suc i ≡ length xs = omega (arith, c.if-many-eq0.false, b.frames.ok.0) in
    taken_settles_if (arena_of c.args.program.now.code) b.goal xs (set xs i y) b.statement i d y c.requires.none last c.index_mut.ensures.value refl c.take_in.ensures.same c.take_in.result c.take_in.ensures.settles

pub returns-clause-fits : goal.returns-clause-fits
returns-clause-fits c =
    let a = arena_of c.args.program.now.code in
    let ds = c.args.program.now.depths.items in
    let b = c.args.self.now in
    let xs = b.frames.items in
    let i = c.len-many.result - 1 in
    let d = c.index_mut.result.now in
    let y = c.take_in.new.saved in
    let last : suc i ≡ length xs = omega (arith, c.if-many-eq0.false, b.frames.ok.0) in
    let P : Option _ → Type 0 = λ o. FitsFrames a ds xs o in
    let fits = fits_last a ds xs None i d last c.index_mut.ensures.value (subst P c.requires.none c.requires.sound.room) in
    taken_fits_if a b.goal xs (set xs i y) b.statement i d y c.requires.none last c.index_mut.ensures.value refl c.take_in.ensures.same ds c.take_in.result c.requires.sound.room.each fits c.take_in.ensures.room

pub returns-clause-there : goal.returns-clause-there
returns-clause-there c =
    let b = c.args.self.now in
    let xs = b.frames.items in
    let i = c.len-many.result - 1 in
    let d = c.index_mut.result.now in
    let y = c.take_in.new.saved in
    let last : suc i ≡ length xs = omega (arith, c.if-many-eq0.false, b.frames.ok.0) in
    taken_there (arena_of c.args.program.now.code) b.goal xs (set xs i y) b.statement i d y c.requires.none last c.index_mut.ensures.value refl c.take_in.ensures.same c.take_in.result

pub returns-clause-stays : goal.returns-clause-stays
returns-clause-stays c =
    let b = c.args.self.now in
    let xs = b.frames.items in
    let i = c.len-many.result - 1 in
    let d = c.index_mut.result.now in
    let y = c.take_in.new.saved in
    let last : suc i ≡ length xs = omega (arith, c.if-many-eq0.false, b.frames.ok.0) in
    taken_stays (arena_of c.args.program.now.code) b.goal xs (set xs i y) b.statement i d y c.requires.none last c.index_mut.ensures.value refl c.take_in.ensures.same c.take_in.result c.take_in.ensures.stays

pub returns-clause-sound : goal.returns-clause-sound
returns-clause-sound c =
    let a = arena_of c.args.program.now.code in
    let ds = c.args.program.now.depths.items in
    let b = c.args.self.now in
    let h = c.requires.sound in
    let xs = b.frames.items in
    let i = c.len-many.result - 1 in
    let d = c.index_mut.result.now in
    let y = c.take_in.new.saved in
    let zs = set xs i y in
    let last : suc i ≡ length xs = omega (arith, c.if-many-eq0.false, b.frames.ok.0) in
    let old = last_is xs i d last c.index_mut.ensures.value in
    let new = last_set xs i y last in
    let same = same_room d y c.take_in.ensures.same in
    let P : Option _ → Type 0 = λ o. FitsFrames a ds xs o in
    let Q : Option _ → Type 0 = λ o. FitsFrames a ds zs o in
    let fits = fits_last a ds xs None i d last c.index_mut.ensures.value (subst P c.requires.none h.room) in
    let left = taken_none a b.goal xs zs b.statement i d y c.requires.none last c.index_mut.ensures.value refl c.take_in.ensures.same ds c.take_in.result fits c.take_in.ensures.room c.take_in.ensures.stays in record {
      room = subst Q (sym c.requires.none) (fits_join a ds zs (take i xs) y None new (each_take a ds i xs h.room.each) left);
      own = own_first xs zs (take i xs) d y old new same h.own;
      rests = h.rests;
      locals = le_to _ _ _ (own_changed (own_locals 0 b.resting.items) xs zs (take i xs) d y old new same) h.locals;
      blocks = omega (arith, h.blocks, blocks_changed (own_blocks 0 b.resting.items) xs zs (take i xs) d y old new same);
    }
