use Rattle.std.proofs.Common.{◌≡◌, ℕ, Option, None, subst, sym, ap, ◌∙◌, arith}
use Rattle.kernel_bodies.specs.FlatDesign.Code.{arena_of}
use Rattle.kernel_bodies.specs.Layers.{statement_of}
use Rattle.kernel_bodies.specs.declared.layers.Comes.{Comes}
use Rattle.kernel_bodies.specs.Room.{FitsFrames, own_locals, own_blocks}
use Rattle.process_state.specs.Bodies.{settled_in, EndsIn}
use Rattle.process_state.proofs.Leave.{leave_some, leave_next, leave_left, leave_own, leave_each}
use Rattle.process_state.proofs.Frames.{fits_nothing, own_outside}
use Rattle.process_state.proofs.Stepping.{leave_comes}
use Rattle.process_state.proofs.body.Body.leave.Goals as goal

pub take_frame-frame-requires : goal.take_frame-frame-requires
take_frame-frame-requires c =
    let b = c.settle_to.new.self in
    let P : Comes → Type 0 = λ d. EndsIn b.goal b.frames.items d in
    omega (arith, leave_some b.goal b.frames.items (subst P (leave_comes c.settle_to.result (sym c.settle_to.ensures.shows ∙ c.requires.leaves)) c.settle_to.ensures.ends), b.frames.ok.0)

pub returns-clause-frame : goal.returns-clause-frame
returns-clause-frame c =
    let b = c.settle_to.new.self in
    let P : Comes → Type 0 = λ d. EndsIn b.goal b.frames.items d in
    let is = leave_comes c.settle_to.result (sym c.settle_to.ensures.shows ∙ c.requires.leaves) in
    let none : b.statement ≡ None = c.settle_to.ensures.statement ∙ ap statement_of is in
    leave_next (arena_of c.args.program.now.code) b.goal b.frames.items c.take_frame-frame.new.frames.items b.statement c.take_frame-frame.result (settled_in c.args.program.now c.args.self.now) c.settle_to.ensures.left none c.take_frame-frame.ensures.items (subst P is c.settle_to.ensures.ends)

pub returns-clause-left : goal.returns-clause-left
returns-clause-left c =
    let b = c.settle_to.new.self in
    let P : Comes → Type 0 = λ d. EndsIn b.goal b.frames.items d in
    let is = leave_comes c.settle_to.result (sym c.settle_to.ensures.shows ∙ c.requires.leaves) in
    let none : b.statement ≡ None = c.settle_to.ensures.statement ∙ ap statement_of is in
    leave_left (arena_of c.args.program.now.code) b.goal b.frames.items c.take_frame-frame.new.frames.items b.statement c.take_frame-frame.result (settled_in c.args.program.now c.args.self.now) c.settle_to.ensures.left none c.take_frame-frame.ensures.items (subst P is c.settle_to.ensures.ends)

pub returns-clause-sound : goal.returns-clause-sound
returns-clause-sound c =
    let a = arena_of c.args.program.now.code in
    let ds = c.args.program.now.depths.items in
    let b = c.settle_to.new.self in
    let xs = b.frames.items in
    let ys = c.take_frame-frame.new.frames.items in
    let x = c.take_frame-frame.result in
    let P : Comes → Type 0 = λ d. EndsIn b.goal xs d in
    let Q : Option ℕ → Type 0 = λ o. FitsFrames a ds ys o in
    let is = leave_comes c.settle_to.result (sym c.settle_to.ensures.shows ∙ c.requires.leaves) in
    let none : b.statement ≡ None = c.settle_to.ensures.statement ∙ ap statement_of is in
    let ends = subst P is c.settle_to.ensures.ends in
    let h = c.settle_to.ensures.sound in
    let own = leave_own b.goal xs ys x (own_locals 0 b.resting.items) (own_blocks 0 b.resting.items) c.take_frame-frame.ensures.items ends in record {
      room = subst Q (sym none) (fits_nothing a ds ys (leave_each a ds xs ys x c.take_frame-frame.ensures.items h.room.each));
      own = own_outside xs ys x c.take_frame-frame.ensures.items h.own;
      rests = h.rests;
      locals = omega (arith, h.locals, own.0);
      blocks = omega (arith, h.blocks, own.1);
    }
