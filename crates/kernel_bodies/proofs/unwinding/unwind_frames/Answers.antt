use Rattle.std.proofs.Common.{◌-◌, refl, subst, arith}
use Rattle.kernel_bodies.specs.declared.layers.Saved.{Saved}
use Rattle.kernel_bodies.specs.Unwound.{IsUnwound}
use Rattle.kernel_bodies.proofs.Leaving.{unwound_none, unwound_more}
use Rattle.kernel_bodies.proofs.unwinding.unwind_frames.Goals as goal

pub loop-place-init : goal.loop-place-init
loop-place-init c = record {
  some = omega arith;
  few = omega arith;
  unwound = unwound_none c.args.frames.now.items c.len-place.result (omega (arith, c.args.frames.now.ok.0));
  capacity = refl;
}

pub loop-place-preserved : goal.loop-place-preserved
loop-place-preserved c =
    let d = c.index_mut.result.now in
    let y = c.unwind_frame.new.saved in record {
      some = omega arith;
      few = omega arith;
      unwound =
          unwound_more c.args.frames.now.items c.loop-place.frames.items c.loop-place.place (c.loop-place.place - 1) d y (omega arith) (omega (arith, c.loop-place.frames.ok.0)) c.loop-place.invariant.unwound
          (subst (λ (z : Saved). IsUnwound z y) c.index_mut.ensures.value c.unwind_frame.ensures);
      capacity = c.loop-place.invariant.capacity;
    }
