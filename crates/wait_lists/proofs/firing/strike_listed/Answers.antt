use Rattle.std.proofs.Common.{ℕ, ◌≡◌, List, length, drop, sym, ◌∙◌, subst, arith}
use Rattle.std.specs.Prelude.{vec_len}
use Rattle.std.specs.List.Sorted.{IsStrictlyIncreasing}
use Rattle.wait_lists.specs.Waits.{is_met_by, AddsEach}
use Rattle.wait_lists.specs.Layout.{waits_by}
use Rattle.wait_lists.proofs.Risen.{adds-sorted, rises-behind, whole}
use Rattle.wait_lists.proofs.firing.strike_listed.Goals as goal

pub returns-clause-met : goal.returns-clause-met
returns-clause-met c =
    let old = c.args.out.now.items in
    let new = c.strike_each.new.out.items in
    let test = λ (p : ℕ). is_met_by (waits_by c.args.kept.now) p c.args.e in
    let adds = c.strike_each.ensures.met in
    let from : length old ≡ c.len-old.result = omega (arith, c.len-old.ensures, c.args.out.now.ok.0) in
    let len : c.strike_each.new.out.len ≡ length new = c.strike_each.new.out.ok.0 in
    let more = c.sort_from.ensures old adds.added (c.as_mut_slice.ensures.value ∙ adds.behind) from in
    let P : List ℕ → Type 0 = λ l. AddsEach old l test in
    subst P (sym (whole old new more.0 c.sort_from.new.list test adds more.2 more.1 c.strike_each.new.out.len len (drop (length c.sort_from.new.list) new)))
    (adds-sorted old new more.0 test adds more.2)

pub returns-clause-rising : goal.returns-clause-rising
returns-clause-rising c =
    let old = c.args.out.now.items in
    let new = c.strike_each.new.out.items in
    let test = λ (p : ℕ). is_met_by (waits_by c.args.kept.now) p c.args.e in
    let adds = c.strike_each.ensures.met in
    let from : length old ≡ c.len-old.result = omega (arith, c.len-old.ensures, c.args.out.now.ok.0) in
    let len : c.strike_each.new.out.len ≡ length new = c.strike_each.new.out.ok.0 in
    let front : vec_len c.args.out.now ≡ length old = c.args.out.now.ok.0 in
    let more = c.sort_from.ensures old adds.added (c.as_mut_slice.ensures.value ∙ adds.behind) from in
    let P : List ℕ → Type 0 = λ l. IsStrictlyIncreasing (drop (vec_len c.args.out.now) l) in
    subst P (sym (whole old new more.0 c.sort_from.new.list test adds more.2 more.1 c.strike_each.new.out.len len (drop (length c.sort_from.new.list) new)))
    (rises-behind old new more.0 test adds more.2 more.3 (vec_len c.args.out.now) front)
