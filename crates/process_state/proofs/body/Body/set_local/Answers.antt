use Rattle.std.proofs.Common.{◌≡◌, ◌-◌, ◌∷◌, ◌++◌, [], suc, length, take, set, refl, sym, ap, ◌∙◌, arith}
use Rattle.std.specs.Vec.{vec_capacity}
use Rattle.kernel_bodies.specs.FlatDesign.Code.{arena_of}
use Rattle.kernel_bodies.specs.SimModel.Storing.{with_local}
use Rattle.kernel_bodies.specs.SimModel.Residual.{Frame, in_innermost}
use Rattle.kernel_bodies.specs.Layers.{call_of, inside, inside_frames, under, standing, wrapped}
use Rattle.kernel_bodies.specs.Room.{SameRoom, own_locals, own_blocks}
use Rattle.kernel_bodies.proofs.Rooms.{fits_at_cap, fits_last}
use Rattle.process_state.proofs.Frames.{le_to, last_set, last_is, held_last, fits_join, each_take, own_first, own_changed, blocks_changed}
use Rattle.process_state.proofs.Returning.{set_under, set_frames}
use Rattle.process_state.proofs.Stepping.{innermost_standing, set_standing}
use Rattle.process_state.proofs.body.Body.set_local.Goals as goal

pub returns-then-many-gt0-clause-left : goal.returns-then-many-gt0-clause-left
returns-then-many-gt0-clause-left c = λ a.
    let b = c.args.self.now in
    let xs = b.frames.items in
    let i = c.len-many.result - 1 in
    let d = c.index_mut.result.now in
    let y = c.set_local_in.new.saved in
    let zs = set xs i y in
    let f = with_local c.args.number c.args.value in
    let last : suc i ≡ length xs = omega (arith, b.frames.ok.0) in
    let old = last_is xs i d last c.index_mut.ensures.value in
    let new = last_set xs i y last in
    let o = b.statement in
    let here : wrapped d.shell (f (call_of d.frame)) (inside a d.blocks.items (standing o)) ≡ wrapped y.shell (call_of y.frame) (inside a y.blocks.items (standing o)) =
    ap (λ z. wrapped d.shell z (inside a d.blocks.items (standing o))) (sym c.set_local_in.ensures.set.0)
    ∙ ap (λ s. wrapped s (call_of y.frame) (inside a d.blocks.items (standing o))) (sym c.set_local_in.ensures.shell)
    ∙ ap (λ ls. wrapped y.shell (call_of y.frame) (inside a ls.items (standing o))) (sym c.set_local_in.ensures.blocks) in
    ap (λ p. under b.goal (inside_frames a zs (standing p))) (held_last zs (take i xs) y o new)
    ∙ ap (λ ws. under b.goal (inside_frames a ws (standing o))) new
    ∙ ap (under b.goal) (sym (set_frames a f (take i xs) d y (standing o) (innermost_standing o) (set_standing f o) here))
    ∙ sym (set_under f b.goal (inside_frames a (take i xs ++ d ∷ []) (standing o)))
    ∙ ap (λ ws. in_innermost f (under b.goal (inside_frames a ws (standing o)))) (sym old)
    ∙ ap (λ p. in_innermost f (under b.goal (inside_frames a xs (standing p)))) (sym (held_last xs (take i xs) d o old))

pub returns-then-many-gt0-clause-sound : goal.returns-then-many-gt0-clause-sound
returns-then-many-gt0-clause-sound c = λ p h.
    let a = arena_of p.code in
    let ds = p.depths.items in
    let b = c.args.self.now in
    let xs = b.frames.items in
    let i = c.len-many.result - 1 in
    let d = c.index_mut.result.now in
    let y = c.set_local_in.new.saved in
    let zs = set xs i y in
    let last : suc i ≡ length xs = omega (arith, b.frames.ok.0) in
    let old = last_is xs i d last c.index_mut.ensures.value in
    let new = last_set xs i y last in
    let same : SameRoom d y = record {
      call = ap (λ (z : Frame). z.call) c.set_local_in.ensures.set.0;
      locals = c.set_local_in.ensures.set.1;
      room = omega (arith, ap vec_capacity c.set_local_in.ensures.blocks);
    } in record {
      room =
          fits_join a ds zs (take i xs) y b.statement new (each_take a ds i xs h.room.each)
          (fits_at_cap a ds (vec_capacity d.blocks) (vec_capacity y.blocks) d.blocks.items y.blocks.items b.statement b.statement same.room (ap (λ v. v.items) c.set_local_in.ensures.blocks) refl (fits_last a ds xs b.statement i d last c.index_mut.ensures.value h.room));
      own = own_first xs zs (take i xs) d y old new same h.own;
      rests = h.rests;
      locals = le_to _ _ _ (own_changed (own_locals 0 b.resting.items) xs zs (take i xs) d y old new same) h.locals;
      blocks = omega (arith, h.blocks, blocks_changed (own_blocks 0 b.resting.items) xs zs (take i xs) d y old new same);
    }
