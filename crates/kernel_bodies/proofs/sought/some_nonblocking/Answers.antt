use Rattle.std.proofs.Common.{◌≡◌, ℕ, ◌-◌, drop, subst, sym, ◌∙◌, arith}
use Rattle.kernel_bodies.specs.Sought.{is_open_nonblocking, NoneIs}
use Rattle.kernel_bodies.proofs.Seeking.{last_at, among_last, among_none}
use Rattle.kernel_bodies.proofs.sought.some_nonblocking.Goals as goal

pub returns-then-is_open_nonblocking : goal.returns-then-is_open_nonblocking
returns-then-is_open_nonblocking c =
    sym
    (among_last is_open_nonblocking c.args.frames.now (c.loop-place.place - 1)
    (last_at is_open_nonblocking c.args.frames.now c.loop-place.place (c.loop-place.place - 1) c.index-frames-place.result (omega arith) (omega arith) c.index-frames-place.is (sym c.is_open_nonblocking.ensures ∙ c.if-is_open_nonblocking.true) c.loop-place.invariant.none))

pub returns : goal.returns
returns c =
    let e : c.loop-place.place ≡ 0 = omega arith in
    sym (among_none is_open_nonblocking c.args.frames.now (subst (λ (n : ℕ). NoneIs is_open_nonblocking (drop n c.args.frames.now)) e c.loop-place.invariant.none))
