use Rattle.std.proofs.Common.{◌++◌, List, ap, ◌∙◌}
use Rattle.flat_design.specs.declared.design.Design.{Design}
use Rattle.laws_runs.specs.SimModel.Configuration.{Snapshot}
use Rattle.laws_runs.specs.SimModel.Trace.{header, all_values}
use Rattle.vcd_trace.specs.Traced.{last_seen}
use Rattle.vcd_trace.proofs.takings.takings_add_no_text.Goals as goal

pub returns-clause-text : goal.returns-clause-text
returns-clause-text c = λ before after p to design.
    ap (λ (d : Design). header d ++ all_values after.trace.snapshots) design
    ∙ ap (λ (snapshots : List Snapshot). header before.design ++ all_values snapshots) (c.takings_add_none.ensures.snapshots before after p to)

pub returns-clause-last : goal.returns-clause-last
returns-clause-last c = λ before after p to. ap last_seen (c.takings_add_none.ensures.snapshots before after p to)
