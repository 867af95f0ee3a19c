use Rattle.std.proofs.Common.{◌≡◌, ◌-◌, suc, Some, length, set, take, refl, ap, ◌∙◌, arith}
use Rattle.kernel_bodies.specs.FlatDesign.Code.{arena_of}
use Rattle.kernel_bodies.specs.SimModel.Residual.{Residual, block}
use Rattle.kernel_bodies.specs.Around.{around_at}
use Rattle.kernel_bodies.specs.Layers.{inside, inside_frames, under, standing, layers_around}
use Rattle.kernel_bodies.specs.Room.{own_locals, own_blocks}
use Rattle.kernel_bodies.proofs.Rooms.{fits_last}
use Rattle.process_state.proofs.Frames.{le_to, changed_left, whole_same, last_set, last_is, fits_join, each_take, same_room, own_first, own_changed, blocks_changed, held_last}
use Rattle.process_state.proofs.Stepping.{enclosed_inside}
use Rattle.process_state.proofs.body.Body.begin_standing.Goals as goal

pub overflow_sub-place : goal.overflow_sub-place
overflow_sub-place c = omega (arith, c.requires.there, c.args.self.now.frames.ok.0)

pub begin_in-self-requires-clause-room : goal.begin_in-self-requires-clause-room
begin_in-self-requires-clause-room c =
    let p = c.args.program.now in
    let b = c.args.self.now in
    fits_last (arena_of p.code) p.depths.items b.frames.items (Some c.args.statement) (c.len-place.result - 1) c.index_mut.result.now (omega (arith, c.requires.there, b.frames.ok.0)) c.index_mut.ensures.value c.requires.fits

pub returns-clause-left : goal.returns-clause-left
returns-clause-left c =
    let a = arena_of c.args.program.now.code in
    let b = c.args.self.now in
    let xs = b.frames.items in
    let i = c.len-place.result - 1 in
    let d = c.index_mut.result.now in
    let y = c.begin_in-self.new.saved in
    let o = c.begin_in-self.result in
    let zs = set xs i y in
    let s = c.args.statement in
    let last : suc i ≡ length xs = omega (arith, c.requires.there, b.frames.ok.0) in
    let inner : Residual = inside a (layers_around (around_at a s) s) (block a c.args.block) in
    let there : inside_frames a zs (standing o) ≡ inside_frames a xs inner =
    changed_left a xs zs i d y (standing o) inner last c.index_mut.ensures.value refl (whole_same a d y (standing o) inner c.begin_in-self.ensures.same c.begin_in-self.ensures.left) in
    ap (λ p. under b.goal (inside_frames a zs (standing p))) (held_last zs (take i xs) y o (last_set xs i y last))
    ∙ ap (under b.goal) there
    ∙ ap (λ r. under b.goal (inside_frames a xs r)) (enclosed_inside a (around_at a s) s (block a c.args.block))

pub returns-clause-sound : goal.returns-clause-sound
returns-clause-sound c =
    let a = arena_of c.args.program.now.code in
    let ds = c.args.program.now.depths.items in
    let b = c.args.self.now in
    let xs = b.frames.items in
    let i = c.len-place.result - 1 in
    let d = c.index_mut.result.now in
    let y = c.begin_in-self.new.saved in
    let zs = set xs i y in
    let last : suc i ≡ length xs = omega (arith, c.requires.there, b.frames.ok.0) in
    let old = last_is xs i d last c.index_mut.ensures.value in
    let new = last_set xs i y last in
    let h = c.requires.sound in
    let same = same_room d y c.begin_in-self.ensures.same in record {
      room = fits_join a ds zs (take i xs) y c.begin_in-self.result new (each_take a ds i xs h.room.each) c.begin_in-self.ensures.room;
      own = own_first xs zs (take i xs) d y old new same h.own;
      rests = h.rests;
      locals = le_to _ _ _ (own_changed (own_locals 0 b.resting.items) xs zs (take i xs) d y old new same) h.locals;
      blocks = omega (arith, h.blocks, blocks_changed (own_blocks 0 b.resting.items) xs zs (take i xs) d y old new same);
    }
