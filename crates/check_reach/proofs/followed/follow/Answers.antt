use Rattle.std.proofs.Common.{◌≡◌, ℕ, List, [], ◌∷◌, ◌++◌, ◌-◌, take, ◌+◌, length, length-append, Option, Some, ap, sym, ◌∙◌, subst, arith}
use Rattle.std.specs.Prelude.{option_to_list}
use Rattle.check_reach.specs.Spreading as spec
use Rattle.check_reach.specs.Spreading.{Spreading, unmarked}
use Rattle.check_reach.proofs.Reached.{one_followed, as_much}
use Rattle.check_reach.proofs.followed.follow.Goals as goal

-- what waited before
abbrev taken : (before after : List ℕ) (o : Option ℕ) (n : ℕ) → before ≡ after ++ option_to_list o → o ≡ Some n → before ≡ after ++ n ∷ []
taken before after o n h is = h ∙ ap (λ (x : Option ℕ). after ++ option_to_list x) is

pub loop-n-smaller : goal.loop-n-smaller
loop-n-smaller c =
    let before = taken c.loop-n.waiting.items c.pop.new.self.items c.pop.result c.in-Some.n c.pop.ensures.items c.in-Some.is in
    let s : Spreading = (c.loop-n.marks.items, c.pop.new.self.items) in
    let row = c.row_of.result.now in
    let e = c.in_ok-reach_all.ensures in
    let same : unmarked c.reach_all.new.marks.items + length c.reach_all.new.waiting.items ≡ unmarked s.0 + length s.1 =
    ap (λ (x : Spreading). unmarked x.0 + length x.1) e ∙ as_much row s in
    let more : length c.loop-n.waiting.items ≡ length s.1 + 1 = ap (λ (xs : List ℕ). length xs) before ∙ length-append s.1 (c.in-Some.n ∷ []) in
    omega (arith, same, more)

pub loop-n-preserved : goal.loop-n-preserved
loop-n-preserved c = λ count roots u.
    let before = taken c.loop-n.waiting.items c.pop.new.self.items c.pop.result c.in-Some.n c.pop.ensures.items c.in-Some.is in
    let marks = c.loop-n.marks.items in
    let rows = c.args.rows.now in
    let here = subst (λ (w : List ℕ). spec.IsUnderWay count rows roots (marks, w)) before (c.loop-n.invariant count roots u) in
    let e = c.in_ok-reach_all.ensures ∙ ap (λ (row : List ℕ). spec.reach_all row (marks, c.pop.new.self.items)) c.row_of.ensures in
    subst (spec.IsUnderWay count rows roots) (sym e) (one_followed count rows roots marks c.pop.new.self.items c.in-Some.n here)

pub returns : goal.returns
returns c = λ count roots u.
    let none : c.pop.new.self.items ≡ [] = c.pop.ensures.rest ∙ ap (λ n. take (n - 1) c.loop-n.waiting.items) c.in_default.ensures.cases.0 in
    let empty : c.loop-n.waiting.items ≡ [] = c.in_default.ensures.items ∙ ap (λ (xs : List ℕ). xs ++ []) none in
    subst (λ (w : List ℕ). spec.IsUnderWay count c.args.rows.now roots (c.loop-n.marks.items, w)) empty (c.loop-n.invariant count roots u)
