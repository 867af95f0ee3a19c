use Rattle.std.proofs.Common.{◌≡◌, ℕ, ◌≤◌, List, length, sym, ap, ◌∙◌, subst, arith}
use Rattle.std.specs.Prelude.{replicate}
use Rattle.std.specs.FinMap as map
use Rattle.bus_router.specs.declared.rows.BusRow.{BusRow}
use Rattle.bus_router.specs.Making.{Making}
use Rattle.bus_router.proofs.Bounds.{no_row}
use Rattle.bus_router.proofs.Plans.{empty_making}
use Rattle.bus_router.proofs.plan.empty_plan.Goals as goal

pub returns-clause-making : goal.returns-clause-making
returns-clause-making c =
    let bus = c.args.bus.now in
    let queue = c.reserve.new.self in
    let empty : queue.times ≡ map.empty = c.reserve.ensures.kept ∙ c.new-queue.ensures in
    let lines : length c.as_slice-lines.result.now ≡ length bus.lines = ap length c.as_slice-lines.ensures in
    let targets : length c.as_slice.result.now ≡ length bus.targets = ap length c.as_slice.ensures in
    let enough : length c.as_slice-lines.result.now ≤ queue.spare = c.in_ok-reserve.ensures.ok in
    let room : length bus.lines ≤ queue.spare = omega arith in
    let rows : c.in_ok-rows.rows.items ≡ replicate (length bus.lines) no_row = c.in_ok-rows.ensures ∙ ap (λ n. replicate n no_row) lines in
    let ends : c.in_ok-busy.busy.items ≡ replicate (length bus.targets) 0 = c.in_ok-busy.ensures ∙ ap (λ n. replicate n 0) targets in
    subst (λ (t : List BusRow × (List ℕ × List ℕ)). Making bus t.0 t.1.0 queue t.1.1 0 0 0) (λ i. (sym rows i, (sym ends i, sym c.new.ensures.items i)))
    (empty_making bus queue empty room)
