use Rattle.std.proofs.Common.{◌≡◌, ℕ, ◌-◌, ◌<◌, suc, Option, None, length, take, set, refl, subst, sym, ap, ◌∙◌, arith}
use Rattle.std.specs.Vec.{vec_capacity}
use Rattle.kernel_bodies.specs.FlatDesign.Code.{arena_of}
use Rattle.kernel_bodies.specs.SimModel.Residual.{next_of}
use Rattle.kernel_bodies.specs.declared.layers.Comes.{Comes}
use Rattle.kernel_bodies.specs.Layers.{statement_of}
use Rattle.kernel_bodies.specs.Room.{FitsIn, FitsFrames, own_locals, own_blocks}
use Rattle.kernel_bodies.proofs.Rooms.{fits_at_cap, fits_take, fits_there}
use Rattle.process_state.specs.Bodies.{settled_in, EndsIn}
use Rattle.process_state.proofs.Frames.{le_to, last_set, last_is, fits_join, each_take, same_room, own_first, own_changed, blocks_changed}
use Rattle.process_state.proofs.Leave.{goal_alone, goal_left}
use Rattle.process_state.proofs.Stepping.{goal_comes}
use Rattle.process_state.proofs.body.Body.go_on.Goals as goal

pub returns-then-many-eq0-clause-left : goal.returns-then-many-eq0-clause-left
returns-then-many-eq0-clause-left c =
    let b = c.settle_to.new.self in
    let r = settled_in c.args.program.now c.args.self.now in
    let w = goal_comes (next_of r) c.settle_to.result c.requires.reaches c.settle_to.ensures.shows in
    let P : Comes → Type 0 = λ d. EndsIn b.goal b.frames.items d in
    goal_alone (arena_of c.args.program.now.code) b.goal b.frames.items b.statement w.0 r c.settle_to.ensures.left (omega (arith, b.frames.ok.0)) (subst P w.1 c.settle_to.ensures.ends)

pub returns-else-many-eq0-clause-left : goal.returns-else-many-eq0-clause-left
returns-else-many-eq0-clause-left c =
    let b = c.settle_to.new.self in
    let xs = b.frames.items in
    let i = c.len-many.result - 1 in
    let d = c.index_mut.result.now in
    let y = c.drop_block.new.saved in
    let r = settled_in c.args.program.now c.args.self.now in
    let w = goal_comes (next_of r) c.settle_to.result c.requires.reaches c.settle_to.ensures.shows in
    let none : b.statement ≡ None = c.settle_to.ensures.statement ∙ ap statement_of w.1 in
    let P : Comes → Type 0 = λ d. EndsIn b.goal xs d in
    let last : suc i ≡ length xs = omega (arith, b.frames.ok.0) in
    goal_left (arena_of c.args.program.now.code) b.goal xs (set xs i y) b.statement w.0 r i d y c.settle_to.ensures.left none last c.index_mut.ensures.value refl c.drop_block.ensures.same c.drop_block.ensures.blocks (subst P w.1 c.settle_to.ensures.ends)

pub returns-else-many-eq0-clause-sound : goal.returns-else-many-eq0-clause-sound
returns-else-many-eq0-clause-sound c =
    let a = arena_of c.args.program.now.code in
    let ds = c.args.program.now.depths.items in
    let b = c.settle_to.new.self in
    let xs = b.frames.items in
    let i = c.len-many.result - 1 in
    let d = c.index_mut.result.now in
    let y = c.drop_block.new.saved in
    let zs = set xs i y in
    let r = settled_in c.args.program.now c.args.self.now in
    let w = goal_comes (next_of r) c.settle_to.result c.requires.reaches c.settle_to.ensures.shows in
    let none : b.statement ≡ None = c.settle_to.ensures.statement ∙ ap statement_of w.1 in
    let last : suc i ≡ length xs = omega (arith, b.frames.ok.0) in
    let within : i < length xs = omega (arith, last) in
    let old = last_is xs i d last c.index_mut.ensures.value in
    let new = last_set xs i y last in
    let h = c.settle_to.ensures.sound in
    let same = same_room d y c.drop_block.ensures.same in
    let n = length d.blocks.items - 1 in
    let fits : FitsIn a ds y None =
    fits_at_cap a ds (vec_capacity d.blocks) (vec_capacity y.blocks) (take n d.blocks.items) y.blocks.items None None same.room c.drop_block.ensures.blocks refl
    (fits_take a ds (vec_capacity d.blocks) n d.blocks.items None (fits_there a ds xs b.statement i d within c.index_mut.ensures.value h.room)) in
    let Q : Option ℕ → Type 0 = λ o. FitsFrames a ds zs o in record {
      room = subst Q (sym none) (fits_join a ds zs (take i xs) y None new (each_take a ds i xs h.room.each) fits);
      own = own_first xs zs (take i xs) d y old new same h.own;
      rests = h.rests;
      locals = le_to _ _ _ (own_changed (own_locals 0 b.resting.items) xs zs (take i xs) d y old new same) h.locals;
      blocks = omega (arith, h.blocks, blocks_changed (own_blocks 0 b.resting.items) xs zs (take i xs) d y old new same);
    }
