-- The descent at its last level and its last bracket, and before them.
use Rattle.std.proofs.Common.{◌≡◌, ℕ, zero, suc, ◌+◌, ◌-◌, ◌<◌, None, refl, arith}
use Rattle.model_tree.specs.Tree as tree
use Rattle.model_lexer.specs.Tokens.{Tokens}
use Rattle.parse_expressions.specs.Parse.{Parser, levelled, operand, climb, inside, expression}

pub climb_ends : (d : ℕ) (within : Parser tree.Expression) (k n : ℕ) → k ≡ 0 → climb d within k n ≡ operand d within
unfolding climb
climb_ends d within zero n e = refl
climb_ends d within (suc k) n e = absurd (omega arith)

climb_next : (d : ℕ) (within : Parser tree.Expression) (k n m : ℕ) → m ≡ suc n → climb d within (suc k) n ≡ levelled n (climb d within k m)
unfolding climb
climb_next d within k n m e = rw e refl

pub climb_deeper : (d : ℕ) (within : Parser tree.Expression) (k n : ℕ) → 0 < k → climb d within k n ≡ levelled n (climb d within (k - 1) (n + 1))
climb_deeper d within zero n some = absurd (omega arith)
climb_deeper d within (suc k) n some =
    let same : suc k - 1 ≡ k = omega arith in
    rw same (climb_next d within k n (n + 1) (omega arith))

pub inside_none : (d : ℕ) (ts : Tokens) → d ≡ 0 → inside d ts ≡ None
unfolding inside
inside_none zero ts e = refl
inside_none (suc d) ts e = absurd (omega arith)

inside_next : (d : ℕ) → inside (suc d) ≡ expression d
unfolding inside expression
inside_next d = refl

pub inside_deeper : (d : ℕ) → 0 < d → inside d ≡ expression (d - 1)
inside_deeper zero some = absurd (omega arith)
inside_deeper (suc d) some =
    let same : suc d - 1 ≡ d = omega arith in
    rw same (inside_next d)
