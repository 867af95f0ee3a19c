use Rattle.std.proofs.Common.{◌++◌, ℕ, List, reverse, ap, ◌∙◌}
use Rattle.laws_runs.specs.SimModel.Trace.{scope_line}
use Rattle.vcd_trace.specs.declared.walks.Task.{Task}
use Rattle.vcd_trace.specs.Walks.{visits, tasks_text, tasks_cost}
use Rattle.vcd_trace.proofs.Tasks.{entered, entered_cost}
use Rattle.vcd_trace.proofs.walks.enter.Goals as goal

pub returns : goal.returns
returns c =
    let text = c.args.walk.now.text.items in
    let tasks = c.args.walk.now.tasks.items in
    let is = c.args.items.now in
    let levels = c.args.levels in
    let opening = scope_line c.args.object.now.name in
    let opened = c.in_ok-open_scope.ensures ∙ ap (λ (name : List ℕ). text ++ scope_line name) c.as_slice.ensures in
    let put = c.in_ok-add_visits.ensures ∙ ap (λ (ts : List Task). ts ++ visits levels (reverse is)) c.in_ok-push.ensures.items in
    record {
      whole = λ d.
          ap (λ (t : List ℕ). t ++ tasks_text d c.add_visits.new.tasks.items) opened
          ∙ ap (λ (ts : List Task). (text ++ opening) ++ tasks_text d ts) put
          ∙ entered d text opening tasks levels is;
      cost = λ d. ap (tasks_cost d) put ∙ entered_cost d tasks levels is;
    }
