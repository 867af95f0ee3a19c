use Rattle.std.proofs.Common.{◌≡◌, ◌<◌, [], List, length, subst, sym, ap, arith}
use Rattle.kernel_bodies.specs.declared.layers.Saved.{Saved}
use Rattle.kernel_bodies.specs.Room.{own_locals, own_blocks}
use Rattle.process_state.specs.Bodies.{IsOwnFirst}
use Rattle.process_state.proofs.Frames.{none_left, own_take, own_kept}
use Rattle.process_state.proofs.body.put_by.Goals as goal

pub returns-then-many-gt0-clause-rests : goal.returns-then-many-gt0-clause-rests
returns-then-many-gt0-clause-rests c = λ h k. let P : List Saved → Type 0 = IsOwnFirst in subst P (sym c.lay_by.ensures.rests) (own_take 1 c.args.frames.now.items h)

pub returns-then-many-gt0-clause-locals : goal.returns-then-many-gt0-clause-locals
returns-then-many-gt0-clause-locals c = λ h.
    let xs = c.args.frames.now in
    let some : 0 < length xs.items = omega (arith, c.if-many-gt0.true, xs.ok.0) in
    omega (arith, (own_kept 0 (own_locals 0 c.args.resting.now.items) 0 xs.items some h).0, ap (own_locals 0) c.lay_by.ensures.rests)

pub returns-then-many-gt0-clause-blocks : goal.returns-then-many-gt0-clause-blocks
returns-then-many-gt0-clause-blocks c = λ h.
    let xs = c.args.frames.now in
    let some : 0 < length xs.items = omega (arith, c.if-many-gt0.true, xs.ok.0) in
    omega (arith, (own_kept 0 (own_blocks 0 c.args.resting.now.items) 0 xs.items some h).1, ap (own_blocks 0) c.lay_by.ensures.rests)

pub returns-else-many-gt0-clause-none : goal.returns-else-many-gt0-clause-none
returns-else-many-gt0-clause-none c = none_left c.args.frames.now.items (omega (arith, c.if-many-gt0.false, c.args.frames.now.ok.0))

pub returns-else-many-gt0-clause-locals : goal.returns-else-many-gt0-clause-locals
returns-else-many-gt0-clause-locals c = λ h.
    let xs = c.args.frames.now in
    let none : xs.items ≡ [] = none_left xs.items (omega (arith, c.if-many-gt0.false, xs.ok.0)) in
    let m = own_locals 0 c.args.resting.now.items in
    let e : own_locals m xs.items ≡ m = ap (own_locals m) none in
    omega (arith, e)

pub returns-else-many-gt0-clause-blocks : goal.returns-else-many-gt0-clause-blocks
returns-else-many-gt0-clause-blocks c = λ h.
    let xs = c.args.frames.now in
    let none : xs.items ≡ [] = none_left xs.items (omega (arith, c.if-many-gt0.false, xs.ok.0)) in
    let n = own_blocks 0 c.args.resting.now.items in
    let e : own_blocks n xs.items ≡ n = ap (own_blocks n) none in
    omega (arith, e)
