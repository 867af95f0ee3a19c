use Rattle.std.proofs.Common.{sym, ap, ◌∙◌}
use Rattle.kernel_bodies.specs.FlatDesign.Code.{arena_of}
use Rattle.kernel_bodies.specs.SimModel.Residual as residual
use Rattle.kernel_bodies.specs.Layers.{inside_frames, held, standing}
use Rattle.kernel_bodies.specs.Room.{own_locals, own_blocks}
use Rattle.kernel_bodies.proofs.Lands.{held_none}
use Rattle.process_state.proofs.Frames.{le_to, fits_nothing}
use Rattle.process_state.proofs.Unwinding.{unw_under, unw_frames, unwound_each, unwound_own, unwound_locals, unwound_blocks}
use Rattle.process_state.proofs.Stepping.{unw_standing}
use Rattle.process_state.proofs.body.Body.unwind.Goals as goal

pub returns-clause-left : goal.returns-clause-left
returns-clause-left c = λ a.
    let b = c.args.self.now in
    let xs = b.frames.items in
    let ys = c.unwind_frames.new.frames.items in
    let o = held xs b.statement in
    ap (λ p. residual.goal (inside_frames a ys (standing p)) c.args.end) (held_none ys)
    ∙ ap (λ q. residual.goal q c.args.end)
    (ap (inside_frames a ys) (sym (unw_standing o))
    ∙ sym (unw_frames a xs ys (standing o) c.unwind_frames.ensures.unwound)
    ∙ sym (unw_under b.goal (inside_frames a xs (standing o))))

pub returns-clause-sound : goal.returns-clause-sound
returns-clause-sound c = λ p h.
    let b = c.args.self.now in
    let xs = b.frames.items in
    let ys = c.unwind_frames.new.frames.items in
    let u = c.unwind_frames.ensures.unwound in record {
      room = fits_nothing (arena_of p.code) p.depths.items ys (unwound_each (arena_of p.code) p.depths.items 0 xs ys u h.room.each);
      own = unwound_own 0 xs ys u h.own;
      rests = h.rests;
      locals = le_to _ _ _ (unwound_locals (own_locals 0 b.resting.items) 0 xs ys u) h.locals;
      blocks = le_to _ _ _ (unwound_blocks (own_blocks 0 b.resting.items) 0 xs ys u) h.blocks;
    }
