use Rattle.std.proofs.Common.{◌≡◌, List, None, subst, sym, ap, arith}
use Rattle.kernel_bodies.specs.FlatDesign.Code.{arena_of}
use Rattle.kernel_bodies.specs.declared.layers.Saved.{Saved}
use Rattle.kernel_bodies.specs.Layers.{inside_frames, held, standing}
use Rattle.kernel_bodies.specs.Room.{FitsFrames, own_locals, own_blocks}
use Rattle.process_state.specs.Bodies.{IsOwnFirst}
use Rattle.process_state.proofs.body.Body.idle.Goals as goal

pub returns-clause-left : goal.returns-clause-left
returns-clause-left c = λ a. ap (λ zs. inside_frames a zs (standing (held zs None))) c.put_by.ensures.none

pub returns-clause-sound : goal.returns-clause-sound
returns-clause-sound c = λ p h.
    let a = arena_of p.code in
    let ds = p.depths.items in
    let zs = c.put_by.new.frames.items in
    let m = own_locals 0 c.put_by.new.resting.items in
    let n = own_blocks 0 c.put_by.new.resting.items in
    let locals : own_locals m zs ≡ m = ap (own_locals m) c.put_by.ensures.none in
    let blocks : own_blocks n zs ≡ n = ap (own_blocks n) c.put_by.ensures.none in
    let P : List Saved → Type 0 = λ xs. FitsFrames a ds xs None in
    let Q : List Saved → Type 0 = IsOwnFirst in record {
      room = subst P (sym c.put_by.ensures.none) (record { each = tt; last = tt });
      own = subst Q (sym c.put_by.ensures.none) tt;
      rests = c.put_by.ensures.rests h.own h.rests;
      locals = omega (arith, h.locals, c.put_by.ensures.locals h.own, locals);
      blocks = omega (arith, h.blocks, c.put_by.ensures.blocks h.own, blocks);
    }
