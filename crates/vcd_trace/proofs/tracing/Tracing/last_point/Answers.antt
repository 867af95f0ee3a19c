use Rattle.std.proofs.lemmas.Result.{IfOk-weaker}
use Rattle.std.proofs.Common.{◌≡◌, ◌++◌, ◌∷◌, List, [], ap, ◌∙◌}
use Rattle.laws_runs.specs.SimModel.Configuration.{Config, Cycle, Snapshot}
use Rattle.laws_runs.specs.SimModel.Trace.{all_values, trace_text}
use Rattle.kernel_state.specs.Kernel.{StandsFor}
use Rattle.laws_runs.specs.AddedStanding.{seen_at}
use Rattle.vcd_trace.specs.Traced.{trace_so_far, Keeps}
use Rattle.vcd_trace.proofs.Steps.{text-ends}
use Rattle.vcd_trace.proofs.tracing.Tracing.last_point.Goals as goal

pub returns-clause-text : goal.returns-clause-text
returns-clause-text c =
    let k = c.args.k.now in
    IfOk-weaker c.next_point.result
    (λ text. (d : Config) (before : List Snapshot) → StandsFor k d → Keeps c.args.self.now before → all_values (before ++ seen_at k.cycle.now.0 d ∷ []) ≡ all_values before ++ text)
    (λ text. (d : Config) → StandsFor k d → Keeps c.args.self.now d.trace.snapshots → trace_so_far d ++ text ≡ trace_text d)
    (λ text adds d h keeps.
    text-ends d text (ap (λ (y : Cycle). all_values (d.trace.snapshots ++ seen_at y.now d ∷ [])) h.cycle ∙ adds d d.trace.snapshots h keeps))
    c.next_point.ensures.text
