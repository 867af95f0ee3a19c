use Rattle.std.proofs.Common.{◌≡◌, ℕ, ◌-◌, drop, subst, sym, ap, ◌∙◌, arith}
use Rattle.kernel_bodies.specs.Sought.{unwinds, among, is_goal, NoneIs}
use Rattle.kernel_bodies.proofs.Seeking.{last_at, among_last, among_none}
use Rattle.kernel_bodies.proofs.sought.some_unwinds.Goals as goal

pub returns-then-some_goal : goal.returns-then-some_goal
returns-then-some_goal c =
    sym
    (among_last unwinds c.args.frames.now (c.loop-place.place - 1)
    (last_at unwinds c.args.frames.now c.loop-place.place (c.loop-place.place - 1) c.index-frames-place.result (omega arith) (omega arith) c.index-frames-place.is (ap unwinds c.index-frames-place.is ∙ ap (among is_goal) (sym c.as_slice.ensures.value) ∙ sym c.some_goal.ensures ∙ c.if-some_goal.true) c.loop-place.invariant.none))

pub returns : goal.returns
returns c =
    let e : c.loop-place.place ≡ 0 = omega arith in
    sym (among_none unwinds c.args.frames.now (subst (λ (n : ℕ). NoneIs unwinds (drop n c.args.frames.now)) e c.loop-place.invariant.none))
