use Rattle.std.proofs.Common.{◌≡◌, ◌<◌, ◌∷◌, [], List, length, set, get_or, subst, sym, ap, ◌∙◌, arith}
use Rattle.kernel_bodies.specs.FlatDesign.Code.{arena_of}
use Rattle.kernel_bodies.specs.declared.layers.Saved.{Saved}
use Rattle.kernel_bodies.specs.Layers.{inside_frames, standing}
use Rattle.kernel_bodies.specs.SimModel.Residual.{begun}
use Rattle.kernel_bodies.specs.Room.{locals_with, own_locals, own_blocks}
use Rattle.process_state.specs.Bodies.{IsOwnFirst}
use Rattle.process_state.proofs.Frames.{front_at, last_set, held_last, frames_last, fits_join, own_at, own_alone}
use Rattle.process_state.proofs.body.Body.restart.Goals as goal

pub take_up-requires-clause-there : goal.take_up-requires-clause-there
take_up-requires-clause-there c = omega (arith, c.requires.blocks)

pub begin_own-self-requires-clause-locals : goal.begin_own-self-requires-clause-locals
begin_own-self-requires-clause-locals c =
    let xs = c.take_up.new.frames in
    let d = c.index_mut.result.now in
    let at : d ≡ get_or xs.items 0 d = c.index_mut.ensures.value ∙ ap (λ zs. get_or zs 0 d) c.keep_outer.ensures.items ∙ front_at xs.items 0 d in
    omega (arith, c.requires.locals, ap (locals_with (arena_of c.args.program.now.code) c.args.self.now.code) c.as_slice.ensures.value, c.take_up.ensures.locals, (own_at 0 xs.items d (omega (arith, c.take_up.ensures.some, xs.ok.0)) at c.take_up.ensures.own).0)

pub begin_own-self-requires-clause-blocks : goal.begin_own-self-requires-clause-blocks
begin_own-self-requires-clause-blocks c =
    let xs = c.take_up.new.frames in
    let d = c.index_mut.result.now in
    let at : d ≡ get_or xs.items 0 d = c.index_mut.ensures.value ∙ ap (λ zs. get_or zs 0 d) c.keep_outer.ensures.items ∙ front_at xs.items 0 d in
    omega (arith, c.requires.blocks, c.take_up.ensures.blocks, (own_at 0 xs.items d (omega (arith, c.take_up.ensures.some, xs.ok.0)) at c.take_up.ensures.own).1)

pub returns-clause-left : goal.returns-clause-left
returns-clause-left c =
    let a = arena_of c.args.program.now.code in
    let xs = c.keep_outer.new.frames in
    let y = c.begin_own-self.new.saved in
    let o = c.begin_own-self.result in
    let zs = set xs.items 0 y in
    let new : zs ≡ y ∷ [] = last_set xs.items 0 y (omega (arith, c.keep_outer.ensures.len, xs.ok.0)) in
    ap (λ p. inside_frames a zs (standing p)) (held_last zs [] y o new) ∙ frames_last a zs [] y (standing o) new ∙ c.begin_own-self.ensures.left ∙ ap (begun a c.args.self.now.code) c.as_slice.ensures.value

pub returns-clause-sound : goal.returns-clause-sound
returns-clause-sound c =
    let a = arena_of c.args.program.now.code in
    let ds = c.args.program.now.depths.items in
    let h = c.requires in
    let ws = c.take_up.new.frames in
    let xs = c.keep_outer.new.frames in
    let d = c.index_mut.result.now in
    let y = c.begin_own-self.new.saved in
    let zs = set xs.items 0 y in
    let new : zs ≡ y ∷ [] = last_set xs.items 0 y (omega (arith, c.keep_outer.ensures.len, xs.ok.0)) in
    let at : d ≡ get_or ws.items 0 d = c.index_mut.ensures.value ∙ ap (λ vs. get_or vs 0 d) c.keep_outer.ensures.items ∙ front_at ws.items 0 d in
    let some : 0 < length ws.items = omega (arith, c.take_up.ensures.some, ws.ok.0) in
    let was = own_at 0 ws.items d some at c.take_up.ensures.own in
    let locals = (own_alone (own_locals 0 c.take_up.new.resting.items) zs y new c.begin_own-self.ensures.own).0 in
    let blocks = (own_alone (own_blocks 0 c.take_up.new.resting.items) zs y new c.begin_own-self.ensures.own).1 in
    let P : List Saved → Type 0 = IsOwnFirst in record {
      room = fits_join a ds zs [] y c.begin_own-self.result new tt c.begin_own-self.ensures.fits;
      own = subst P (sym new) c.begin_own-self.ensures.own;
      rests = c.take_up.ensures.rests;
      locals = omega (arith, h.locals, c.take_up.ensures.locals, was.0, c.begin_own-self.ensures.locals, locals);
      blocks = omega (arith, h.blocks, c.take_up.ensures.blocks, was.1, c.begin_own-self.ensures.blocks, blocks);
    }
