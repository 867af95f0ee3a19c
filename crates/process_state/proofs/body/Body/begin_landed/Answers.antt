use Rattle.std.proofs.Common.{◌≡◌, ℕ, ◌-◌, ◌<◌, suc, Some, Option, length, set, take, refl, subst, sym, ap, ◌∙◌, arith}
use Rattle.kernel_bodies.specs.FlatDesign.Code.{arena_of}
use Rattle.kernel_bodies.specs.SimModel.Residual as residual
use Rattle.kernel_bodies.specs.SimModel.Residual.{Residual, next_of, put, block}
use Rattle.kernel_bodies.specs.Around.{around_at}
use Rattle.kernel_bodies.specs.Layers.{inside, inside_frames, under, shown, standing, layers_around}
use Rattle.kernel_bodies.specs.Room.{FitsFrames, own_locals, own_blocks}
use Rattle.kernel_bodies.proofs.Rooms.{fits_last}
use Rattle.process_state.specs.Bodies.{settled_in, enclosed}
use Rattle.process_state.proofs.Frames.{le_to, ends_inside, put_statement, changed_left, whole_same, last_set, last_is, fits_join, each_take, same_room, own_first, own_changed, blocks_changed, held_last}
use Rattle.process_state.proofs.Stepping.{statement_comes, enclosed_inside, some_same, statement_same}
use Rattle.process_state.proofs.body.Body.begin_landed.Goals as goal

pub overflow_sub-place : goal.overflow_sub-place
overflow_sub-place c =
    let b = c.settle_to.new.self in
    let some : 0 < length b.frames.items = ends_inside b.goal b.frames.items c.settle_to.result c.in-Some.statement (sym c.settle_to.ensures.statement ∙ c.in-Some.is) c.settle_to.ensures.ends in
    omega (arith, some, b.frames.ok.0)

pub begin_in-self-requires-clause-room : goal.begin_in-self-requires-clause-room
begin_in-self-requires-clause-room c =
    let p = c.args.program.now in
    let b = c.settle_to.new.self in
    let d = c.index_mut.result.now in
    let some : 0 < length b.frames.items = ends_inside b.goal b.frames.items c.settle_to.result c.in-Some.statement (sym c.settle_to.ensures.statement ∙ c.in-Some.is) c.settle_to.ensures.ends in
    let P : Option ℕ → Type 0 = λ o. FitsFrames (arena_of p.code) p.depths.items b.frames.items o in
    fits_last (arena_of p.code) p.depths.items b.frames.items (Some c.in-Some.statement) (c.len-place.result - 1) d (omega (arith, some, b.frames.ok.0)) c.index_mut.ensures.value (subst P c.in-Some.is c.settle_to.ensures.sound.room)

pub begin_in-self-requires-clause-inner : goal.begin_in-self-requires-clause-inner
begin_in-self-requires-clause-inner c =
    let r = settled_in c.args.program.now c.args.self.now in
    let w = statement_comes (next_of r) c.settle_to.result c.requires.statement c.settle_to.ensures.shows in
    let s = c.in-Some.statement in
    let same : w.0 ≡ s = some_same w.0 s (sym (c.settle_to.ensures.statement ∙ w.1) ∙ c.in-Some.is) in
    c.requires.inner s (ap shown (w.2 ∙ ap residual.statement same))

pub returns-in-Some-clause-left : goal.returns-in-Some-clause-left
returns-in-Some-clause-left c = λ n next.
    let a = arena_of c.args.program.now.code in
    let b = c.settle_to.new.self in
    let xs = b.frames.items in
    let i = c.len-place.result - 1 in
    let d = c.index_mut.result.now in
    let y = c.begin_in-self.new.saved in
    let o = c.begin_in-self.result in
    let zs = set xs i y in
    let r = settled_in c.args.program.now c.args.self.now in
    let w = statement_comes (next_of r) c.settle_to.result c.requires.statement c.settle_to.ensures.shows in
    let s = c.in-Some.statement in
    let same : w.0 ≡ s = some_same w.0 s (sym (c.settle_to.ensures.statement ∙ w.1) ∙ c.in-Some.is) in
    let named : s ≡ n = statement_same s n (sym (w.2 ∙ ap residual.statement same) ∙ next) in
    let some : 0 < length xs = ends_inside b.goal xs c.settle_to.result s (sym c.settle_to.ensures.statement ∙ c.in-Some.is) c.settle_to.ensures.ends in
    let last : suc i ≡ length xs = omega (arith, some, b.frames.ok.0) in
    let inner : Residual = inside a (layers_around (around_at a s) s) (block a c.args.block) in
    let there : inside_frames a zs (standing o) ≡ inside_frames a xs inner =
    changed_left a xs zs i d y (standing o) inner last c.index_mut.ensures.value refl (whole_same a d y (standing o) inner c.begin_in-self.ensures.same c.begin_in-self.ensures.left) in
    ap (λ p. under b.goal (inside_frames a zs (standing p))) (held_last zs (take i xs) y o (last_set xs i y last))
    ∙ ap (under b.goal) there
    ∙ sym (put_statement a b.goal xs b.statement s r inner c.settle_to.ensures.left c.in-Some.is some)
    ∙ ap (put r) (enclosed_inside a (around_at a s) s (block a c.args.block))
    ∙ ap (λ m. put r (enclosed a m (around_at a m) (block a c.args.block))) named

pub returns-in-Some-clause-sound : goal.returns-in-Some-clause-sound
returns-in-Some-clause-sound c =
    let a = arena_of c.args.program.now.code in
    let ds = c.args.program.now.depths.items in
    let b = c.settle_to.new.self in
    let xs = b.frames.items in
    let i = c.len-place.result - 1 in
    let d = c.index_mut.result.now in
    let y = c.begin_in-self.new.saved in
    let zs = set xs i y in
    let some : 0 < length xs = ends_inside b.goal xs c.settle_to.result c.in-Some.statement (sym c.settle_to.ensures.statement ∙ c.in-Some.is) c.settle_to.ensures.ends in
    let last : suc i ≡ length xs = omega (arith, some, b.frames.ok.0) in
    let old = last_is xs i d last c.index_mut.ensures.value in
    let new = last_set xs i y last in
    let h = c.settle_to.ensures.sound in
    let same = same_room d y c.begin_in-self.ensures.same in record {
      room = fits_join a ds zs (take i xs) y c.begin_in-self.result new (each_take a ds i xs h.room.each) c.begin_in-self.ensures.room;
      own = own_first xs zs (take i xs) d y old new same h.own;
      rests = h.rests;
      locals = le_to _ _ _ (own_changed (own_locals 0 b.resting.items) xs zs (take i xs) d y old new same) h.locals;
      blocks = omega (arith, h.blocks, blocks_changed (own_blocks 0 b.resting.items) xs zs (take i xs) d y old new same);
    }
