use Rattle.std.proofs.Common.{◌≡◌, ℕ, List, [], ◌∷◌, ◌++◌, ◌+◌, ◌-◌, take, Option, Some, ap, sym, ◌∙◌, arith}
use Rattle.std.specs.Prelude.{option_to_list}
use Rattle.std.proofs.lemmas.List.{append-nil}
use Rattle.vcd_trace.specs.declared.walks.Task.{Task}
use Rattle.vcd_trace.specs.Walks.{tasks_text, task_cost, tasks_cost}
use Rattle.vcd_trace.proofs.Tasks.{text_taken, cost_taken}
use Rattle.vcd_trace.proofs.walks.write_all.Goals as goal

-- what was to be written before
abbrev taken : (before after : List Task) (o : Option Task) (t : Task) → before ≡ after ++ option_to_list o → o ≡ Some t → before ≡ after ++ t ∷ []
taken before after o t h is = h ∙ ap (λ (x : Option Task). after ++ option_to_list x) is

pub tasks-smaller : goal.tasks-smaller
tasks-smaller c =
    let d = c.args.design.now in
    let before = taken c.tasks.walk.tasks.items c.pop.new.self.items c.pop.result c.in-Some.task c.pop.ensures.items c.in-Some.is in
    let cost : tasks_cost d c.tasks.walk.tasks.items ≡ task_cost d c.in-Some.task + tasks_cost d c.pop.new.self.items =
    ap (tasks_cost d) before ∙ cost_taken d c.pop.new.self.items c.in-Some.task in
    let less = c.in_ok-carry_out.ensures.cost in
    omega (arith, cost, less)

pub tasks-preserved : goal.tasks-preserved
tasks-preserved c =
    let d = c.args.design.now in
    let text = c.tasks.walk.text.items in
    let before = taken c.tasks.walk.tasks.items c.pop.new.self.items c.pop.result c.in-Some.task c.pop.ensures.items c.in-Some.is in
    c.in_ok-carry_out.ensures.whole
    ∙ ap (λ (t : List ℕ). text ++ t) (sym (ap (tasks_text d) before ∙ text_taken d c.pop.new.self.items c.in-Some.task))
    ∙ c.tasks.invariant

pub returns : goal.returns
returns c =
    let d = c.args.design.now in
    let text = c.tasks.walk.text.items in
    let none : c.pop.new.self.items ≡ [] = c.pop.ensures.rest ∙ ap (λ n. take (n - 1) c.tasks.walk.tasks.items) c.in_default.ensures.cases.0 in
    let empty : c.tasks.walk.tasks.items ≡ [] = c.in_default.ensures.items ∙ ap (λ (xs : List Task). xs ++ []) none in
    sym (append-nil text) ∙ ap (λ (ts : List Task). text ++ tasks_text d ts) (sym empty) ∙ c.tasks.invariant
