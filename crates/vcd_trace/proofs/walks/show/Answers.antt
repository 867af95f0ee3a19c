use Rattle.std.proofs.Common.{◌++◌, ℕ, List, Option, sym, ap, ◌∙◌}
use Rattle.vcd_trace.specs.Walks.{var_at, tasks_text}
use Rattle.vcd_trace.proofs.Tasks.{first_variable}
use Rattle.vcd_trace.proofs.Texts.{put_behind}
use Rattle.vcd_trace.proofs.walks.show.Goals as goal

pub returns-clause-whole : goal.returns-clause-whole
returns-clause-whole c =
    let d = c.args.design.now in
    let name = c.args.object.now.name in
    let n = c.args.number in
    let text = c.args.walk.now.text.items in
    let rest = tasks_text d c.args.walk.now.tasks.items in
    let found = c.variable_at-variable.ensures ∙ c.requires.tables.variables n c.requires.within in
    put_behind c.push_variable.new.text.items text _ (var_at d c.as_slice.result.now c.variable_at-variable.result) rest c.in_ok-push_variable.ensures
    (ap (λ (own : List ℕ). text ++ (var_at d own c.variable_at-variable.result ++ rest)) c.as_slice.ensures
    ∙ ap (λ (o : Option ℕ). text ++ (var_at d name o ++ rest)) found
    ∙ ap (λ (line : List ℕ). text ++ (line ++ rest)) (sym (first_variable d name n)))
