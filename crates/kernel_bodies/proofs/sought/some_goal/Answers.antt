use Rattle.std.proofs.Common.{◌≡◌, ℕ, ◌-◌, drop, subst, sym, ◌∙◌, arith}
use Rattle.kernel_bodies.specs.Sought.{is_goal, NoneIs}
use Rattle.kernel_bodies.proofs.Seeking.{last_there, among_last, among_none}
use Rattle.kernel_bodies.proofs.sought.some_goal.Goals as goal

pub returns-then-is_goal : goal.returns-then-is_goal
returns-then-is_goal c =
    sym
    (among_last is_goal c.args.blocks.now (c.loop-place.place - 1)
    (last_there is_goal c.args.blocks.now c.loop-place.place (c.loop-place.place - 1) _ (omega arith) (omega arith) c.loop-place.invariant.none (sym c.is_goal.ensures ∙ c.if-is_goal.true)))

pub returns : goal.returns
returns c =
    let e : c.loop-place.place ≡ 0 = omega arith in
    sym (among_none is_goal c.args.blocks.now (subst (λ (n : ℕ). NoneIs is_goal (drop n c.args.blocks.now)) e c.loop-place.invariant.none))
