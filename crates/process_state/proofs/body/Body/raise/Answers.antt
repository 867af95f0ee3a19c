use Rattle.std.proofs.Common.{◌≡◌, ◌+◌, ◌<◌, ℕ, suc, true, List, None, length, set, subst, sym, ap, ◌∙◌, arith}
use Rattle.kernel_bodies.specs.FlatDesign.Code.{arena_of}
use Rattle.kernel_bodies.specs.SimModel.Unwinding.{catches}
use Rattle.kernel_bodies.specs.declared.layers.Saved.{Saved}
use Rattle.kernel_bodies.specs.Layers.{inside_frames, held, standing, under}
use Rattle.kernel_bodies.specs.Sought.{has_handler, unwinds, NoneIs, LastIs}
use Rattle.kernel_bodies.specs.Unwound.{AreUnwound}
use Rattle.kernel_bodies.specs.Room.{FitsIn, SameRoom, own_locals, own_blocks}
use Rattle.kernel_bodies.proofs.Lands.{held_none}
use Rattle.kernel_bodies.proofs.Passing.{through_goal}
use Rattle.kernel_bodies.proofs.Rooms.{each_at}
use Rattle.kernel_bodies.proofs.Seeking.{among_none, among_last, last_true, catches_frames}
use Rattle.process_state.proofs.Frames.{le_to, fits_nothing, same_room}
use Rattle.process_state.proofs.Settled.{one_more}
use Rattle.process_state.proofs.Stepping.{catches_standing, goal_standing, unw_standing}
use Rattle.process_state.proofs.Unwinding.{no_goal, catches_under, raise_frames, unwound_at, unwound_length, none_there, unwound_each, unwound_own, unwound_locals, unwound_blocks, each_set, set_own, set_locals, set_blocks}
use Rattle.process_state.proofs.body.Body.raise.Goals as goal

pub index_mut-requires : goal.index_mut-requires
index_mut-requires c =
    let xs = c.args.self.now.frames.items in
    let ys = c.unwind_frames.new.frames in
    omega (arith, c.in-Some.ensures.within, ap length c.as_slice.ensures.value, unwound_length (c.in-Some.place + 1) xs ys.items c.unwind_frames.ensures.unwound, ys.ok.0)

pub raise_in-requires-clause-handler : goal.raise_in-requires-clause-handler
raise_in-requires-clause-handler c =
    let p = has_handler (arena_of c.args.program.now.code) c.args.name in
    let xs = c.args.self.now.frames.items in
    let ys = c.unwind_frames.new.frames.items in
    let i = c.in-Some.place in
    let d = c.index_mut.result.now in
    let P : List Saved → Type 0 = λ zs. LastIs p zs i in
    let u : AreUnwound (suc i) xs ys = subst (λ (n : ℕ). AreUnwound n xs ys) (one_more i) c.unwind_frames.ensures.unwound in
    ap p (c.index_mut.ensures.value ∙ unwound_at xs ys i d u) ∙ last_true p xs i d (subst P c.as_slice.ensures.value c.in-Some.ensures.last)

pub raise_in-requires-clause-free : goal.raise_in-requires-clause-free
raise_in-requires-clause-free c =
    let a = arena_of c.args.program.now.code in
    let b = c.args.self.now in
    let xs = b.frames.items in
    let ys = c.unwind_frames.new.frames.items in
    let i = c.in-Some.place in
    let d = c.index_mut.result.now in
    let o = held xs b.statement in
    let within : i < length xs = omega (arith, c.in-Some.ensures.within, ap length c.as_slice.ensures.value) in
    let u : AreUnwound (suc i) xs ys = subst (λ (n : ℕ). AreUnwound n xs ys) (one_more i) c.unwind_frames.ensures.unwound in
    ap unwinds (c.index_mut.ensures.value ∙ unwound_at xs ys i d u) ∙ none_there unwinds xs i d within (no_goal a b.goal xs (standing o) (goal_standing o) c.requires.free)

pub raise_in-requires-clause-room : goal.raise_in-requires-clause-room
raise_in-requires-clause-room c =
    let a = arena_of c.args.program.now.code in
    let ds = c.args.program.now.depths.items in
    let b = c.args.self.now in
    let xs = b.frames.items in
    let ys = c.unwind_frames.new.frames.items in
    let i = c.in-Some.place in
    let d = c.index_mut.result.now in
    let within : i < length ys = omega (arith, c.in-Some.ensures.within, ap length c.as_slice.ensures.value, unwound_length (i + 1) xs ys c.unwind_frames.ensures.unwound) in
    let P : Saved → Type 0 = λ z. FitsIn a ds z None in
    subst P (sym c.index_mut.ensures.value) (each_at a ds ys i d within (unwound_each a ds (i + 1) xs ys c.unwind_frames.ensures.unwound c.requires.sound.room.each))

pub returns-in-Some-clause-caught : goal.returns-in-Some-clause-caught
returns-in-Some-clause-caught c =
    let a = arena_of c.args.program.now.code in
    let b = c.args.self.now in
    let xs = b.frames.items in
    let o = held xs b.statement in
    let p = has_handler a c.args.name in
    let P : List Saved → Type 0 = λ zs. LastIs p zs c.in-Some.place in
    sym
    (catches_under b.goal (inside_frames a xs (standing o)) c.args.name
    ∙ catches_frames a c.args.name xs (standing o) (catches_standing o c.args.name)
    ∙ among_last p xs c.in-Some.place (subst P c.as_slice.ensures.value c.in-Some.ensures.last))

pub returns-in-Some-clause-left : goal.returns-in-Some-clause-left
returns-in-Some-clause-left c = λ same.
    let a = arena_of c.args.program.now.code in
    let b = c.args.self.now in
    let xs = b.frames.items in
    let ys = c.unwind_frames.new.frames.items in
    let e = c.args.name in
    let i = c.in-Some.place in
    let d = c.index_mut.result.now in
    let y = c.raise_in.new.saved in
    let zs = set ys i y in
    let o = held xs b.statement in
    let p = has_handler a e in
    let P : List Saved → Type 0 = λ ws. LastIs p ws i in
    let last = subst P c.as_slice.ensures.value c.in-Some.ensures.last in
    let u : AreUnwound (suc i) xs ys = subst (λ (n : ℕ). AreUnwound n xs ys) (one_more i) c.unwind_frames.ensures.unwound in
    let caught : catches (inside_frames a xs (standing o)) e ≡ true = catches_frames a e xs (standing o) (catches_standing o e) ∙ among_last p xs i last in
    ap (λ q. under b.goal (inside_frames a zs (standing q))) (held_none zs)
    ∙ ap (λ q. under b.goal (inside_frames a zs q)) (sym (unw_standing o))
    ∙ ap (under b.goal) (sym (raise_frames a e c.args.end xs ys i d y (standing o) u last c.index_mut.ensures.value c.raise_in.ensures.same c.raise_in.ensures.left (catches_standing o e)))
    ∙ sym ((through_goal a b.goal).raises (inside_frames a xs (standing o)) e c.args.end caught)

pub returns-in-Some-clause-sound : goal.returns-in-Some-clause-sound
returns-in-Some-clause-sound c =
    let a = arena_of c.args.program.now.code in
    let ds = c.args.program.now.depths.items in
    let b = c.args.self.now in
    let xs = b.frames.items in
    let ys = c.unwind_frames.new.frames.items in
    let i = c.in-Some.place in
    let d = c.index_mut.result.now in
    let y = c.raise_in.new.saved in
    let zs = set ys i y in
    let u = c.unwind_frames.ensures.unwound in
    let h = c.requires.sound in
    let P : Saved → Type 0 = λ z. SameRoom z y in
    let same = subst P c.index_mut.ensures.value (same_room d y c.raise_in.ensures.same) in record {
      room = fits_nothing a ds zs (each_set a ds ys i y (unwound_each a ds (i + 1) xs ys u h.room.each) c.raise_in.ensures.room);
      own = set_own ys i d y same (unwound_own (i + 1) xs ys u h.own);
      rests = h.rests;
      locals = le_to _ _ _ (set_locals (own_locals 0 b.resting.items) ys i d y same ∙ unwound_locals (own_locals 0 b.resting.items) (i + 1) xs ys u) h.locals;
      blocks = omega (arith, h.blocks, set_blocks (own_blocks 0 b.resting.items) ys i d y same, unwound_blocks (own_blocks 0 b.resting.items) (i + 1) xs ys u);
    }

pub returns-in-None-clause-caught : goal.returns-in-None-clause-caught
returns-in-None-clause-caught c =
    let a = arena_of c.args.program.now.code in
    let b = c.args.self.now in
    let xs = b.frames.items in
    let o = held xs b.statement in
    let p = has_handler a c.args.name in
    let P : List Saved → Type 0 = λ zs. NoneIs p zs in
    sym
    (catches_under b.goal (inside_frames a xs (standing o)) c.args.name
    ∙ catches_frames a c.args.name xs (standing o) (catches_standing o c.args.name)
    ∙ among_none p xs (subst P c.as_slice.ensures.value c.in-None.ensures.last))
