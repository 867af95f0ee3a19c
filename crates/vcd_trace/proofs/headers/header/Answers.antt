use Rattle.std.proofs.Common.{◌++◌, ◌∷◌, [], List, ℕ, length, ap, ◌∙◌}
use Rattle.laws_runs.specs.SimModel.Trace.{scale_line}
use Rattle.vcd_trace.specs.declared.walks.Task.{Task}
use Rattle.vcd_trace.specs.declared.walks.Task.TheVariants as task
use Rattle.vcd_trace.proofs.Tasks.{whole_header}
use Rattle.vcd_trace.proofs.headers.header.Goals as goal

pub returns : goal.returns
returns c =
    whole_header c.args.design.now c.from_vec.result c.extend_from_slice.new.self.items c.write_all.new.walk.text.items c.push_scale.new.text.items
    c.push.new.self.items c.as_slice.result.now c.from_vec.ensures c.in_ok-extend_from_slice.ensures.items c.in_ok-write_all.ensures
    (c.in_ok-push_scale.ensures ∙ ap (λ (xs : List ℕ). xs ++ scale_line c.args.design.now.resolution) c.new.ensures.items)
    (c.in_ok-push.ensures.items ∙ ap (λ (ts : List Task). ts ++ task.Visit 0 (length c.as_slice.result.now) ∷ []) c.new-2.ensures.items)
    c.as_slice.ensures
