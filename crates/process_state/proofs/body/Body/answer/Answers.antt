use Rattle.std.proofs.Common.{◌≡◌, ◌+◌, ◌<◌, ◌∷◌, ◌++◌, [], suc, List, None, length, take, get_or, set, subst, sym, ap, ◌∙◌, arith}
use Rattle.kernel_bodies.specs.FlatDesign.Code.{arena_of}
use Rattle.kernel_bodies.specs.SimModel.Residual.{skip}
use Rattle.kernel_bodies.specs.SimModel.Unwinding.{returned}
use Rattle.kernel_bodies.specs.declared.layers.Saved.{Saved}
use Rattle.kernel_bodies.specs.Layers.{inside_frames, under, held, standing}
use Rattle.kernel_bodies.specs.Room.{own_locals, own_blocks}
use Rattle.kernel_bodies.specs.Sought.{is_exit, LastIs, NoneIs}
use Rattle.kernel_bodies.proofs.Rooms.{fits_there}
use Rattle.kernel_bodies.proofs.Seeking.{last_true}
use Rattle.process_state.specs.Bodies.{IsOwnFirst}
use Rattle.process_state.proofs.Frames.{front_at, front_set, front_is, left_nothing, fits_join, each_take, own_take, own_first, own_changed, blocks_changed}
use Rattle.process_state.proofs.Returning.{returned_under, returned_frames, returned_none}
use Rattle.process_state.proofs.Settled.{one_more, land_kept}
use Rattle.process_state.proofs.Stepping.{exit_standing, returned_standing}
use Rattle.process_state.proofs.body.Body.answer.Goals as goal

pub end_in-requires : goal.end_in-requires
end_in-requires c =
    let xs = c.settle_to.new.self.frames.items in
    let i = c.in-Some.place in
    let d = c.index_mut.result.now in
    let P : List Saved → Type 0 = λ zs. LastIs is_exit zs i in
    ap is_exit (c.index_mut.ensures.value ∙ ap (λ zs. get_or zs i d) (c.keep_outer.ensures.items ∙ ap (λ n. take n xs) (one_more i)) ∙ front_at xs i d) ∙ last_true is_exit xs i d (subst P c.as_slice.ensures.value c.in-Some.ensures.last)

pub returns-in-Some-clause-left : goal.returns-in-Some-clause-left
returns-in-Some-clause-left c =
    let a = arena_of c.args.program.now.code in
    let b = c.settle_to.new.self in
    let xs = b.frames.items in
    let v = c.args.answer in
    let i = c.in-Some.place in
    let d = c.index_mut.result.now in
    let y = c.end_in.new.saved in
    let P : List Saved → Type 0 = λ zs. LastIs is_exit zs i in
    let within : i < length xs = omega (arith, c.in-Some.ensures.within, ap length c.as_slice.ensures.value) in
    let kept : c.keep_outer.new.frames.items ≡ take (suc i) xs = c.keep_outer.ensures.items ∙ ap (λ n. take n xs) (one_more i) in
    let at : d ≡ get_or xs i d = c.index_mut.ensures.value ∙ ap (λ zs. get_or zs i d) kept ∙ front_at xs i d in
    let new : set c.keep_outer.new.frames.items i y ≡ take i xs ++ y ∷ [] = ap (λ zs. set zs i y) kept ∙ front_set xs i y within in
    left_nothing a b.goal (set c.keep_outer.new.frames.items i y)
    ∙ ap (λ zs. under b.goal (inside_frames a zs skip)) new
    ∙ ap (under b.goal) (sym (returned_frames a v xs i d y (standing (held xs b.statement)) (subst P c.as_slice.ensures.value c.in-Some.ensures.last) at c.end_in.ensures.left (exit_standing (held xs b.statement))))
    ∙ sym (returned_under v b.goal (inside_frames a xs (standing (held xs b.statement))))
    ∙ ap (returned v) c.settle_to.ensures.left

pub returns-in-Some-clause-sound : goal.returns-in-Some-clause-sound
returns-in-Some-clause-sound c =
    let a = arena_of c.args.program.now.code in
    let ds = c.args.program.now.depths.items in
    let b = c.settle_to.new.self in
    let xs = b.frames.items in
    let i = c.in-Some.place in
    let d = c.index_mut.result.now in
    let y = c.end_in.new.saved in
    let zs = c.keep_outer.new.frames.items in
    let m = own_locals 0 b.resting.items in
    let n = own_blocks 0 b.resting.items in
    let within : i < length xs = omega (arith, c.in-Some.ensures.within, ap length c.as_slice.ensures.value) in
    let kept : zs ≡ take (suc i) xs = c.keep_outer.ensures.items ∙ ap (λ k. take k xs) (one_more i) in
    let at : d ≡ get_or xs i d = c.index_mut.ensures.value ∙ ap (λ ws. get_or ws i d) kept ∙ front_at xs i d in
    let new : set zs i y ≡ take i xs ++ y ∷ [] = ap (λ ws. set ws i y) kept ∙ front_set xs i y within in
    let old : zs ≡ take i xs ++ d ∷ [] = kept ∙ front_is xs i d within at in
    let h = c.settle_to.ensures.sound in
    let Q : List Saved → Type 0 = IsOwnFirst in
    let same = c.end_in.ensures.same in record {
      room = fits_join a ds (set zs i y) (take i xs) y None new (each_take a ds i xs h.room.each) (c.end_in.ensures.room a ds (fits_there a ds xs b.statement i d within at h.room));
      own = own_first zs (set zs i y) (take i xs) d y old new same (subst Q (sym c.keep_outer.ensures.items) (own_take (i + 1) xs h.own));
      rests = h.rests;
      locals = omega (arith, h.locals, (land_kept m xs zs i within c.keep_outer.ensures.items h.own).0, own_changed m zs (set zs i y) (take i xs) d y old new same);
      blocks = omega (arith, h.blocks, (land_kept n xs zs i within c.keep_outer.ensures.items h.own).1, blocks_changed n zs (set zs i y) (take i xs) d y old new same);
    }

pub returns-in_default-clause-left : goal.returns-in_default-clause-left
returns-in_default-clause-left c =
    let a = arena_of c.args.program.now.code in
    let b = c.settle_to.new.self in
    let xs = b.frames.items in
    let v = c.args.answer in
    let o = held xs b.statement in
    let P : List Saved → Type 0 = λ zs. NoneIs is_exit zs in
    ap (under b.goal) (sym (returned_none a v xs (standing o) (returned_standing v o) (subst P c.as_slice.ensures.value c.in_default.ensures.last)))
    ∙ sym (returned_under v b.goal (inside_frames a xs (standing o)))
    ∙ ap (returned v) c.settle_to.ensures.left
