use Rattle.std.proofs.Common.{◌≡◌, List, length, subst, sym, ap, ◌∙◌, arith}
use Rattle.kernel_bodies.specs.declared.layers.Saved.{Saved}
use Rattle.kernel_bodies.specs.Room.{own_locals, own_blocks}
use Rattle.process_state.specs.Bodies.{IsOwnFirst}
use Rattle.process_state.proofs.Frames.{none_left, some_kept, own_any}
use Rattle.process_state.proofs.starting.take_up.Goals as goal

pub returns-then-many-eq0-clause-some : goal.returns-then-many-eq0-clause-some
returns-then-many-eq0-clause-some c =
    let xs = c.args.frames.now in
    let rs = c.args.resting.now.items in
    let n = own_blocks 0 rs in
    let e : own_blocks n xs.items ≡ n = ap (own_blocks n) (none_left xs.items (omega (arith, c.if-many-eq0.true, xs.ok.0))) in
    omega (arith, some_kept rs (omega (arith, c.requires.there, e)), ap (λ v. length v.items) c.swap.ensures.x_after, c.swap.new.x.ok.0)

pub returns-then-many-eq0-clause-own : goal.returns-then-many-eq0-clause-own
returns-then-many-eq0-clause-own c = let P : List Saved → Type 0 = IsOwnFirst in subst P (sym (ap (λ v. v.items) c.swap.ensures.x_after)) c.requires.rests

pub returns-then-many-eq0-clause-rests : goal.returns-then-many-eq0-clause-rests
returns-then-many-eq0-clause-rests c = let P : List Saved → Type 0 = IsOwnFirst in subst P (sym (ap (λ v. v.items) c.swap.ensures.y_after)) c.requires.own

pub returns-then-many-eq0-clause-locals : goal.returns-then-many-eq0-clause-locals
returns-then-many-eq0-clause-locals c =
    let xs = c.args.frames.now in
    let m = own_locals 0 c.args.resting.now.items in
    let e : own_locals m xs.items ≡ m = ap (own_locals m) (none_left xs.items (omega (arith, c.if-many-eq0.true, xs.ok.0))) in
    ap (λ v. own_locals 0 v.items) c.swap.ensures.x_after ∙ sym e

pub returns-then-many-eq0-clause-blocks : goal.returns-then-many-eq0-clause-blocks
returns-then-many-eq0-clause-blocks c =
    let xs = c.args.frames.now in
    let n = own_blocks 0 c.args.resting.now.items in
    let e : own_blocks n xs.items ≡ n = ap (own_blocks n) (none_left xs.items (omega (arith, c.if-many-eq0.true, xs.ok.0))) in
    ap (λ v. own_blocks 0 v.items) c.swap.ensures.x_after ∙ sym e

pub returns-else-many-eq0-clause-locals : goal.returns-else-many-eq0-clause-locals
returns-else-many-eq0-clause-locals c =
    let xs = c.args.frames.now in
    (own_any 0 (own_locals 0 c.args.resting.now.items) xs.items (omega (arith, c.if-many-eq0.false, xs.ok.0)) c.requires.own).0

pub returns-else-many-eq0-clause-blocks : goal.returns-else-many-eq0-clause-blocks
returns-else-many-eq0-clause-blocks c =
    let xs = c.args.frames.now in
    (own_any 0 (own_blocks 0 c.args.resting.now.items) xs.items (omega (arith, c.if-many-eq0.false, xs.ok.0)) c.requires.own).1
