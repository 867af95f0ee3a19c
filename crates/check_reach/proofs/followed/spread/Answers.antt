use Rattle.std.proofs.Common.{◌≡◌, ℕ, Bool, false, List, [], replicate, ap, sym, ◌∙◌, subst}
use Rattle.check_reach.specs.Spreading as spec
use Rattle.check_reach.specs.Spreading.{Spreading, row_of, reach_all}
use Rattle.check_reach.proofs.Reached.{begins}
use Rattle.check_reach.proofs.Rows.{is_spread}
use Rattle.check_reach.proofs.followed.spread.Goals as goal

pub returns : goal.returns
returns c =
    let count = c.args.count in
    let roots = c.args.roots.now in
    let rows = c.in_ok-rows.rows.items in
    let start : ◌≡◌ {A = Spreading} (c.reach_all.new.marks.items, c.reach_all.new.waiting.items) (reach_all roots (replicate count false, [])) =
    c.in_ok-reach_all.ensures ∙ ap (λ (marks : List Bool). reach_all roots (marks, c.new-waiting.result.items)) c.in_ok-marks.ensures ∙ ap (λ (waiting : List ℕ). reach_all roots (replicate count false, waiting)) c.new-waiting.ensures.items in
    let begun = subst (spec.IsUnderWay count c.as_slice.result.now roots) (sym start) (begins count c.as_slice.result.now roots) in
    let done = c.in_ok-follow.ensures count roots begun in
    is_spread count c.args.edges.now rows roots c.follow.new.marks.items c.in_ok-rows.ensures.many c.in_ok-rows.ensures.rows
    (subst (λ (x : List (List ℕ)). spec.IsUnderWay count x roots (c.follow.new.marks.items, [])) c.as_slice.ensures.value done)
