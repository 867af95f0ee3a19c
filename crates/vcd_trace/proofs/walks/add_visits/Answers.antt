use Rattle.std.proofs.Common.{◌++◌, ◌-◌, ◌∷◌, [], ℕ, List, drop, length, get_or, reverse, append_assoc, sym, ap, ◌∙◌, arith}
use Rattle.std.proofs.lemmas.List.{append-nil, drop_all}
use Rattle.vcd_trace.specs.declared.walks.Task.{Task}
use Rattle.vcd_trace.specs.declared.walks.Task.TheVariants as task
use Rattle.vcd_trace.specs.Walks.{visits}
use Rattle.vcd_trace.proofs.Tasks.{visits_more}
use Rattle.vcd_trace.proofs.walks.add_visits.Goals as goal

pub loop-place-init : goal.loop-place-init
loop-place-init c =
    let old = c.args.tasks.now.items in
    let is = c.args.items.now in
    sym (ap (λ (xs : List ℕ). old ++ visits c.args.levels (reverse xs)) (drop_all (length is) is (omega arith)) ∙ append-nil old)

pub loop-place-preserved : goal.loop-place-preserved
loop-place-preserved c =
    let old = c.args.tasks.now.items in
    let is = c.args.items.now in
    let p = c.loop-place.place in
    let levels = c.args.levels in
    c.in_ok-push.ensures.items
    ∙ ap (λ (ts : List Task). ts ++ task.Visit (get_or is (p - 1) 0) levels ∷ []) c.loop-place.invariant
    ∙ append_assoc old (visits levels (reverse (drop p is))) (task.Visit (get_or is (p - 1) 0) levels ∷ [])
    ∙ ap (λ (ts : List Task). old ++ ts) (visits_more levels p is 0 (omega arith) (omega arith))
