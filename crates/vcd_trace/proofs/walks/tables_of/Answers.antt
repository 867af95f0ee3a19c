use Rattle.std.proofs.Common.{◌∙◌, ◌<◌, List, length, ap, sym, subst}
use Rattle.flat_design.specs.declared.objects.Object.{Object}
use Rattle.flat_design.specs.declared.design.Visible.{Visible}
use Rattle.laws_runs.specs.SimModel.Trace.{items_from}
use Rattle.vcd_trace.specs.Tables.{variable_of}
use Rattle.vcd_trace.proofs.walks.tables_of.Goals as goal

pub returns : goal.returns
returns c =
    let objects = c.as_slice-objects.ensures in
    let visible = c.as_slice.ensures in
    record {
      rows = λ at below.
          c.in_ok-rows.ensures.rows at (subst (λ (os : List Object). at < length os) (sym objects) below)
          ∙ ap (λ (os : List Object). items_from at 0 os) objects;
      variables = λ i below.
          c.in_ok-variables.ensures i (subst (λ (os : List Object). i < length os) (sym objects) below)
          ∙ ap (λ (vs : List Visible). variable_of i 0 vs) visible;
    }
