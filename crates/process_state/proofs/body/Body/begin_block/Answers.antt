use Rattle.std.proofs.Common.{◌≡◌, ℕ, ◌<◌, Option, length, subst, sym, ap, ◌∙◌}
use Rattle.kernel_bodies.specs.FlatDesign.Code.{arena_of}
use Rattle.kernel_bodies.specs.SimModel.Residual.{put, block}
use Rattle.kernel_bodies.specs.Around.{around_at}
use Rattle.kernel_bodies.specs.Layers.{shown}
use Rattle.kernel_bodies.specs.Room.{FitsFrames}
use Rattle.process_state.specs.Bodies.{settled_in, enclosed}
use Rattle.process_state.proofs.Frames.{put_statement}
use Rattle.process_state.proofs.Passed.{some_frames, stands, statement_shows}
use Rattle.process_state.proofs.Stepping.{statement_same}
use Rattle.process_state.proofs.body.Body.begin_block.Goals as goal

pub begin_standing-requires-clause-fits : goal.begin_standing-requires-clause-fits
begin_standing-requires-clause-fits c =
    let p = c.args.program.now in
    let P : Option ℕ → Type 0 = λ o. FitsFrames (arena_of p.code) p.depths.items c.args.self.now.frames.items o in
    subst P c.in-Some.is c.requires.sound.room

pub begin_standing-requires-clause-there : goal.begin_standing-requires-clause-there
begin_standing-requires-clause-there c =
    let b = c.args.self.now in
    some_frames (arena_of c.args.program.now.code) b.goal b.frames.items b.statement c.requires.statement

pub begin_standing-requires-clause-inner : goal.begin_standing-requires-clause-inner
begin_standing-requires-clause-inner c =
    let a = arena_of c.args.program.now.code in
    let b = c.args.self.now in
    let some : 0 < length b.frames.items = some_frames a b.goal b.frames.items b.statement c.requires.statement in
    c.requires.inner c.in-Some.statement (ap shown (statement_shows a b.goal b.frames.items b.statement c.in-Some.statement c.in-Some.is some))

pub returns-in-Some-clause-left : goal.returns-in-Some-clause-left
returns-in-Some-clause-left c = λ n next.
    let a = arena_of c.args.program.now.code in
    let b = c.args.self.now in
    let xs = b.frames.items in
    let s = c.in-Some.statement in
    let r = settled_in c.args.program.now b in
    let some : 0 < length xs = some_frames a b.goal xs b.statement c.requires.statement in
    let named : s ≡ n = statement_same s n (sym (statement_shows a b.goal xs b.statement s c.in-Some.is some) ∙ next) in
    c.begin_standing.ensures.left
    ∙ sym (put_statement a b.goal xs b.statement s r (enclosed a s (around_at a s) (block a c.args.block)) (stands a b.goal xs b.statement s c.in-Some.is some) c.in-Some.is some)
    ∙ ap (λ m. put r (enclosed a m (around_at a m) (block a c.args.block))) named
