use Rattle.std.proofs.Common.{◌≡◌, ℕ, ◌<◌, Option, Some, None, length, sym, ap, ◌∙◌, arith}
use Rattle.kernel_bodies.specs.FlatDesign.Code.{arena_of, body_at}
use Rattle.kernel_bodies.specs.SimModel.Residual as residual
use Rattle.kernel_bodies.specs.SimModel.Residual.{Residual, next_of}
use Rattle.kernel_bodies.specs.declared.layers.Frame.{Frame as Kept}
use Rattle.kernel_bodies.specs.Layers.{inside_frames, under, standing}
use Rattle.kernel_bodies.specs.Room.{begun_in, own_locals, own_blocks}
use Rattle.process_state.specs.Bodies.{settled_in}
use Rattle.process_state.proofs.Frames.{ends_inside, put_statement, held_last, frames_last, fits_join, own_more, own_of_call}
use Rattle.process_state.proofs.Stepping.{statement_comes, statement_same}
use Rattle.process_state.proofs.body.Body.enter_with.Goals as goal

pub begin_call-self-requires-clause-place : goal.begin_call-self-requires-clause-place
begin_call-self-requires-clause-place c = omega (arith, c.requires.room.0, c.args.self.now.frames.ok.0, c.settle_to.ensures.fewer, c.settle_to.ensures.room c.requires.statement)

pub returns-clause-left : goal.returns-clause-left
returns-clause-left c = λ s next.
    let a = arena_of c.args.program.now.code in
    let b = c.settle_to.new.self in
    let xs = b.frames.items in
    let r = settled_in c.args.program.now c.args.self.now in
    let w = statement_comes (next_of r) c.settle_to.result c.requires.statement c.settle_to.ensures.shows in
    let same : w.0 ≡ s = statement_same w.0 s (sym w.2 ∙ next) in
    let calls : b.statement ≡ Some s = c.settle_to.ensures.statement ∙ w.1 ∙ ap Some same in
    let some : 0 < length xs = ends_inside b.goal xs c.settle_to.result w.0 w.1 c.settle_to.ensures.ends in
    let begun = c.begin_call-self.ensures.begun in
    let zs = c.begin_call-self.new.frames.items in
    let o = c.begin_call-self.result in
    let inner : Option ℕ → Residual = λ p. residual.frame (begun_in a (body_at a c.args.function)) (record { body = c.args.function; locals = c.args.locals.items; answer = None; call = p; via = c.args.via }) in
    ap (λ p. under b.goal (inside_frames a zs (standing p))) (held_last zs xs begun.inner o begun.frames)
    ∙ ap (under b.goal) (frames_last a zs xs begun.inner (standing o) begun.frames ∙ ap (inside_frames a xs) (begun.left ∙ ap inner calls))
    ∙ sym (put_statement a b.goal xs b.statement s r (inner (Some s)) c.settle_to.ensures.left calls some)

pub returns-clause-sound : goal.returns-clause-sound
returns-clause-sound c =
    let a = arena_of c.args.program.now.code in
    let ds = c.args.program.now.depths.items in
    let b = c.settle_to.new.self in
    let xs = b.frames.items in
    let r = settled_in c.args.program.now c.args.self.now in
    let w = statement_comes (next_of r) c.settle_to.result c.requires.statement c.settle_to.ensures.shows in
    let calls : b.statement ≡ Some w.0 = c.settle_to.ensures.statement ∙ w.1 in
    let begun = c.begin_call-self.ensures.begun in
    let zs = c.begin_call-self.new.frames.items in
    let h = c.settle_to.ensures.sound in
    let call : begun.inner.frame.call ≡ Some w.0 = ap (λ (f : Kept). f.call) begun.call ∙ calls in
    let locals = (own_of_call (own_locals 0 b.resting.items) zs xs begun.inner w.0 begun.frames call).0 in
    let blocks = (own_of_call (own_blocks 0 b.resting.items) zs xs begun.inner w.0 begun.frames call).1 in record {
      room = fits_join a ds zs xs begun.inner c.begin_call-self.result begun.frames h.room.each begun.fits;
      own = own_more zs xs begun.inner begun.frames (ends_inside b.goal xs c.settle_to.result w.0 w.1 c.settle_to.ensures.ends) h.own;
      rests = h.rests;
      locals = omega (arith, h.locals, locals);
      blocks = omega (arith, h.blocks, blocks);
    }
