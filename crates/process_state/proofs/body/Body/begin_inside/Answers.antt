use Rattle.std.proofs.Common.{◌≡◌, sym, subst, ap, ◌∙◌}
use Rattle.kernel_bodies.specs.FlatDesign.Code.{arena_of}
use Rattle.kernel_bodies.specs.SimModel.Residual.{Residual, put, block, settle, next_of}
use Rattle.kernel_bodies.specs.Around.{around_at}
use Rattle.kernel_bodies.specs.Layers.{shown}
use Rattle.process_state.specs.Bodies.{settled_in, enclosed, IsStatement}
use Rattle.process_state.proofs.Passed.{next_taken, put_taken}
use Rattle.process_state.proofs.Stepping.{statement_same}
use Rattle.process_state.proofs.body.Body.begin_inside.Goals as goal

pub begin_standing-requires-clause-inner : goal.begin_standing-requires-clause-inner
begin_standing-requires-clause-inner c =
    let b = c.take_first.new.self in
    c.requires.inner c.in-Some.statement (ap shown (next_taken (arena_of c.args.program.now.code) b.goal b.frames.items c.in-Some.statement (settled_in c.args.program.now c.args.self.now) c.in-Some.ensures.settles))

pub begin_landed-requires-clause-statement : goal.begin_landed-requires-clause-statement
begin_landed-requires-clause-statement c =
    let P : Residual → Type 0 = λ x. IsStatement (shown (next_of (settle (arena_of c.args.program.now.code) x))) in
    subst P (sym c.in-None.ensures.stays) c.requires.statement

pub begin_landed-requires-clause-inner : goal.begin_landed-requires-clause-inner
begin_landed-requires-clause-inner c = λ s next.
    c.requires.inner s (ap (λ x. shown (next_of (settle (arena_of c.args.program.now.code) x))) (sym c.in-None.ensures.stays) ∙ next)

pub returns-in-Some-clause-left : goal.returns-in-Some-clause-left
returns-in-Some-clause-left c = λ n next.
    let a = arena_of c.args.program.now.code in
    let b = c.take_first.new.self in
    let s = c.in-Some.statement in
    let r = settled_in c.args.program.now c.args.self.now in
    let settles = c.in-Some.ensures.settles in
    let named : s ≡ n = statement_same s n (sym (next_taken a b.goal b.frames.items s r settles) ∙ next) in
    c.begin_standing.ensures.left
    ∙ put_taken a b.goal b.frames.items s r settles (enclosed a s (around_at a s) (block a c.args.block))
    ∙ ap (λ m. put r (enclosed a m (around_at a m) (block a c.args.block))) named

pub returns-in-None-clause-left : goal.returns-in-None-clause-left
returns-in-None-clause-left c = λ n next.
    let a = arena_of c.args.program.now.code in
    let stays = c.in-None.ensures.stays in
    c.begin_landed.ensures.left n (ap (λ x. next_of (settle a x)) stays ∙ next) ∙ ap (λ x. put (settle a x) (enclosed a n (around_at a n) (block a c.args.block))) stays
