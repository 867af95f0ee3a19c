use Rattle.std.proofs.Common.{◌≡◌, ℕ, List, Option, None, length, set, refl, subst, sym, ap, ◌∙◌, arith}
use Rattle.kernel_bodies.specs.FlatDesign.Code.{arena_of}
use Rattle.kernel_bodies.specs.declared.layers.Saved.{Saved}
use Rattle.kernel_bodies.specs.Landings.{Lands}
use Rattle.kernel_bodies.specs.SimModel.Residual.{Residual, skip, settle, next_of}
use Rattle.kernel_bodies.specs.declared.layers.Comes.{Comes}
use Rattle.kernel_bodies.specs.Layers.{held, inside_frames, standing, under, shown, statement_of, shown_by}
use Rattle.kernel_bodies.specs.Room.{FitsFrames, own_locals, own_blocks}
use Rattle.process_state.specs.Bodies.{EndsIn, IsOwnFirst, IsStatement}
use Rattle.process_state.proofs.Settled.{land_shows, land_few, land_left, land_ends, land_fits, land_own, land_kept, land_locals, land_blocks, falls_settled, falls_shows, falls_ends, falls_never}
use Rattle.process_state.proofs.Stepping.{under_nothing}
use Rattle.process_state.proofs.body.Body.settle_to.Goals as goal

pub keep_outer-requires : goal.keep_outer-requires
keep_outer-requires c = omega (arith, c.in-Some.ensures.lands.within, ap length c.as_slice.ensures.value, c.args.self.now.frames.ok.0)

pub fill-self-requires : goal.fill-self-requires
fill-self-requires c =
    let a = arena_of c.args.program.now.code in
    let ds = c.args.program.now.depths.items in
    let b = c.args.self.now in
    let o = held b.frames.items b.statement in
    let P : List Saved → Type 0 = λ zs. Lands a ds zs b.statement (standing (held zs b.statement)) c.in-Some.landing in
    let lands = subst P c.as_slice.ensures.value c.in-Some.ensures.lands in
    land_few a ds b.goal b.frames.items b.statement (standing o) c.in-Some.landing lands c.keep_outer.new.frames.items c.index_mut.result.now c.keep_outer.ensures.items c.index_mut.ensures.value c.requires.room

pub returns-in-Some-clause-left : goal.returns-in-Some-clause-left
returns-in-Some-clause-left c =
    let a = arena_of c.args.program.now.code in
    let ds = c.args.program.now.depths.items in
    let b = c.args.self.now in
    let l = c.in-Some.landing in
    let ys = c.keep_outer.new.frames.items in
    let d = c.index_mut.result.now in
    let y = c.fill-self.new.saved in
    let zs = set ys l.outside y in
    let P : List Saved → Type 0 = λ ws. Lands a ds ws b.statement (standing (held ws b.statement)) l in
    let lands = subst P c.as_slice.ensures.value c.in-Some.ensures.lands in
    ap (λ o. under b.goal (inside_frames a zs (standing (held zs o)))) c.fill-self.ensures.statement
    ∙ land_left a ds b.goal b.frames.items b.statement (standing (held b.frames.items b.statement)) l lands ys d c.keep_outer.ensures.items c.index_mut.ensures.value zs y refl c.fill-self.ensures.same c.fill-self.ensures.blocks

pub returns-in-Some-clause-shows : goal.returns-in-Some-clause-shows
returns-in-Some-clause-shows c =
    let a = arena_of c.args.program.now.code in
    let ds = c.args.program.now.depths.items in
    let b = c.args.self.now in
    let l = c.in-Some.landing in
    let P : List Saved → Type 0 = λ ws. Lands a ds ws b.statement (standing (held ws b.statement)) l in
    land_shows a ds b.goal b.frames.items b.statement (standing (held b.frames.items b.statement)) l (subst P c.as_slice.ensures.value c.in-Some.ensures.lands)

pub returns-in-Some-clause-ends : goal.returns-in-Some-clause-ends
returns-in-Some-clause-ends c =
    let a = arena_of c.args.program.now.code in
    let ds = c.args.program.now.depths.items in
    let b = c.args.self.now in
    let l = c.in-Some.landing in
    let ys = c.keep_outer.new.frames.items in
    let d = c.index_mut.result.now in
    let y = c.fill-self.new.saved in
    let P : List Saved → Type 0 = λ ws. Lands a ds ws b.statement (standing (held ws b.statement)) l in
    let lands = subst P c.as_slice.ensures.value c.in-Some.ensures.lands in
    land_ends a ds b.goal b.frames.items b.statement (standing (held b.frames.items b.statement)) l lands ys d c.keep_outer.ensures.items c.index_mut.ensures.value (set ys l.outside y) y refl c.fill-self.ensures.same c.fill-self.ensures.blocks

pub returns-in-Some-clause-sound : goal.returns-in-Some-clause-sound
returns-in-Some-clause-sound c =
    let a = arena_of c.args.program.now.code in
    let ds = c.args.program.now.depths.items in
    let b = c.args.self.now in
    let l = c.in-Some.landing in
    let r = standing (held b.frames.items b.statement) in
    let ys = c.keep_outer.new.frames.items in
    let d = c.index_mut.result.now in
    let y = c.fill-self.new.saved in
    let zs = set ys l.outside y in
    let m = own_locals 0 b.resting.items in
    let n = own_blocks 0 b.resting.items in
    let P : List Saved → Type 0 = λ ws. Lands a ds ws b.statement (standing (held ws b.statement)) l in
    let Q : Option ℕ → Type 0 = λ o. FitsFrames a ds zs o in
    let lands = subst P c.as_slice.ensures.value c.in-Some.ensures.lands in
    let kept = c.keep_outer.ensures.items in
    let at = c.index_mut.ensures.value in
    let same = c.fill-self.ensures.same in
    let filled = c.fill-self.ensures.blocks in record {
      room = subst Q (sym c.fill-self.ensures.statement) (land_fits a ds b.goal b.frames.items b.statement r l lands ys d kept at zs y refl same filled c.requires.room);
      own = land_own a ds b.goal b.frames.items b.statement r l lands ys d kept at zs y refl same filled c.requires.own;
      rests = c.requires.rests;
      locals = omega (arith, c.requires.locals, (land_kept m b.frames.items ys l.outside lands.within kept c.requires.own).0, land_locals a ds b.goal b.frames.items b.statement r l lands ys d kept at zs y refl same filled m);
      blocks = omega (arith, c.requires.blocks, (land_kept n b.frames.items ys l.outside lands.within kept c.requires.own).1, land_blocks a ds b.goal b.frames.items b.statement r l lands ys d kept at zs y refl same filled n);
    }

pub returns-in-None-clause-fewer : goal.returns-in-None-clause-fewer
returns-in-None-clause-fewer c = omega (arith, ap length c.put_by.ensures.none, c.put_by.new.frames.ok.0)

pub returns-in-None-clause-room : goal.returns-in-None-clause-room
returns-in-None-clause-room c = λ h.
    let a = arena_of c.args.program.now.code in
    let b = c.args.self.now in
    let P : List Saved → Type 0 = λ zs. settle a (inside_frames a zs (standing (held zs b.statement))) ≡ skip in
    let Q : Residual → Type 0 = λ r. IsStatement (shown (next_of r)) in
    absurd (falls_never b.goal (subst Q (falls_settled a b.goal b.frames.items (standing (held b.frames.items b.statement)) (subst P c.as_slice.ensures.value c.in-None.ensures.falls)) h))

pub returns-in-None-clause-left : goal.returns-in-None-clause-left
returns-in-None-clause-left c =
    let a = arena_of c.args.program.now.code in
    let b = c.args.self.now in
    let P : List Saved → Type 0 = λ zs. settle a (inside_frames a zs (standing (held zs b.statement))) ≡ skip in
    ap (λ zs. under b.goal (inside_frames a zs (standing (held zs None)))) c.put_by.ensures.none
    ∙ sym (falls_settled a b.goal b.frames.items (standing (held b.frames.items b.statement)) (subst P c.as_slice.ensures.value c.in-None.ensures.falls))

pub returns-in-None-clause-shows : goal.returns-in-None-clause-shows
returns-in-None-clause-shows c =
    let a = arena_of c.args.program.now.code in
    let b = c.args.self.now in
    let P : List Saved → Type 0 = λ zs. settle a (inside_frames a zs (standing (held zs b.statement))) ≡ skip in
    falls_shows a b.goal b.frames.items (standing (held b.frames.items b.statement)) (subst P c.as_slice.ensures.value c.in-None.ensures.falls)
    ∙ ap shown_by (sym c.under_goal.ensures)

pub returns-in-None-clause-statement : goal.returns-in-None-clause-statement
returns-in-None-clause-statement c = sym (ap statement_of c.under_goal.ensures ∙ (under_nothing (arena_of c.args.program.now.code) c.args.self.now.goal).2)

pub returns-in-None-clause-ends : goal.returns-in-None-clause-ends
returns-in-None-clause-ends c =
    let b = c.args.self.now in
    let P : Comes → Type 0 = λ d. EndsIn b.goal c.put_by.new.frames.items d in
    subst P (sym c.under_goal.ensures) (falls_ends b.goal c.put_by.new.frames.items c.put_by.ensures.none)

pub returns-in-None-clause-sound : goal.returns-in-None-clause-sound
returns-in-None-clause-sound c =
    let a = arena_of c.args.program.now.code in
    let ds = c.args.program.now.depths.items in
    let m = own_locals 0 c.put_by.new.resting.items in
    let n = own_blocks 0 c.put_by.new.resting.items in
    let locals : own_locals m c.put_by.new.frames.items ≡ m = ap (own_locals m) c.put_by.ensures.none in
    let blocks : own_blocks n c.put_by.new.frames.items ≡ n = ap (own_blocks n) c.put_by.ensures.none in
    let Q : List Saved → Type 0 = IsOwnFirst in
    let P : List Saved → Type 0 = λ zs. FitsFrames a ds zs None in record {
      room = subst P (sym c.put_by.ensures.none) (record { each = tt; last = tt });
      own = subst Q (sym c.put_by.ensures.none) tt;
      rests = c.put_by.ensures.rests c.requires.own c.requires.rests;
      locals = omega (arith, c.requires.locals, c.put_by.ensures.locals c.requires.own, locals);
      blocks = omega (arith, c.requires.blocks, c.put_by.ensures.blocks c.requires.own, blocks);
    }
