-- Who is on top of the stack, below the top, or not on it.
use Rattle.std.proofs.Common.{◌≡◌, ◌+◌, ◌==◌, ◌||◌, ◌&&◌, ℕ, Bool, true, false, cond, List, [], ◌∷◌, drop, refl, sym, ap, ◌∙◌, arith, eqb-true, true≢false}
use Rattle.sim_model.specs.Configuration.{Config}
use Rattle.sim_model.specs.Waits.{holds}
use Rattle.sim_model.specs.Control.{top_of, is_top, is_below_top}
use Rattle.sim_model.specs.Clean.{times}
use Rattle.laws_runs.proofs.Times.{times-cons, times-lacks}

pub and-left : (a b : Bool) → (a && b) ≡ true → a ≡ true
and-left true b h = refl
and-left false b h = absurd (true≢false (sym h))

or-false : (b : Bool) → (b || false) ≡ true → b ≡ true
or-false true h = refl
or-false false h = absurd (true≢false (sym h))

neither : (b : Bool) → (b || false) ≡ false → b ≡ false
neither true h = absurd (true≢false h)
neither false h = refl

-- the one on top
on_top : (q : ℕ) (stack : List ℕ) → holds (top_of stack) q ≡ true → (rest : List ℕ) × (stack ≡ q ∷ rest)
on_top q [] h = absurd (true≢false (sym h))
on_top q (x ∷ rest) h = (rest, ap (λ y. y ∷ rest) (eqb-true x q (or-false (x == q) h)))

pub top-is : (c : Config) (q : ℕ) → is_top c q ≡ true → (rest : List ℕ) × (c.processes.stack ≡ q ∷ rest)
top-is c q h = on_top q c.processes.stack h

-- one that is neither on top nor below
off_stack : (q : ℕ) (stack : List ℕ) → holds (top_of stack) q ≡ false → holds (drop 1 stack) q ≡ false → times q stack ≡ 0
off_stack q [] top below = refl
off_stack q (x ∷ rest) top below = times-cons q x rest ∙ ap (λ b. cond b 1 0 + times q rest) (neither (x == q) top) ∙ (let none = times-lacks q rest below in omega (arith, none))

pub off-stack : (c : Config) (q : ℕ) → is_top c q ≡ false → is_below_top c q ≡ false → times q c.processes.stack ≡ 0
off-stack c q top below = off_stack q c.processes.stack top below
