use Rattle.std.proofs.Common.{ℕ, List, sym, ◌∙◌, subst}
use Rattle.timed_queue.specs.Timed.{Timed, is_due, AddsEach}
use Rattle.std.proofs.lemmas.List.Sorted.{IsNonDecreasingBy-from_sort}
use Rattle.bus_router.specs.Making.{Making}
use Rattle.bus_router.proofs.Plans.{making_takes}
use Rattle.bus_router.proofs.plan.take.Goals as goal

pub returns-clause-making : goal.returns-clause-making
returns-clause-making c = λ bus started earliest making.
    let plan = c.args.plan.now in
    let taken = subst (λ (l : List ℕ). AddsEach l c.take_due.new.out.items (is_due plan.queue.times c.args.t)) (c.reserve.ensures.items ∙ c.clear.ensures.items) c.take_due.ensures.taken in
    let rises = IsNonDecreasingBy-from_sort (λ (n : ℕ). n) c.sort_unstable.new.self.items c.sort_unstable.ensures.sorted in
    subst (λ (q : Timed). Making bus plan.rows.items plan.busy.items q c.sort_unstable.new.self.items 0 c.args.t.0 started) (sym c.take_due.ensures.left)
    (making_takes bus plan.rows.items plan.busy.items plan.queue plan.due.items plan.place plan.now started making c.args.t c.take_due.new.out.items c.sort_unstable.new.self.items c.requires earliest taken c.sort_unstable.ensures.permutation rises)
