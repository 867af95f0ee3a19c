use Rattle.std.proofs.lemmas.Result.{IfOk-weaker}
use Rattle.std.proofs.Common.{◌≡◌, ◌++◌, List, [], sym, ap, ◌∙◌, append-nil}
use Rattle.laws_runs.specs.SimModel.Configuration.{Config, Snapshot}
use Rattle.laws_runs.specs.SimModel.Trace.{header, all_values}
use Rattle.kernel_state.specs.Kernel.{StandsFor}
use Rattle.vcd_trace.specs.Traced.{trace_so_far}
use Rattle.vcd_trace.proofs.Coded.{header-is}
use Rattle.vcd_trace.proofs.header_texts.header_text.Goals as goal

pub returns-clause-header : goal.returns-clause-header
returns-clause-header c =
    let k = c.args.k.now in
    IfOk-weaker c.header.result (λ text. text ≡ header k.design) (λ text. (d : Config) → StandsFor k d → text ≡ header d.design)
    (λ text is d h. is ∙ header-is k d h)
    c.header.ensures

pub returns-clause-begins : goal.returns-clause-begins
returns-clause-begins c =
    let k = c.args.k.now in
    IfOk-weaker c.header.result (λ text. text ≡ header k.design) (λ text. (d : Config) → StandsFor k d → d.trace.snapshots ≡ [] → text ≡ trace_so_far d)
    (λ text is d h none. is ∙ header-is k d h ∙ sym (append-nil (header d.design)) ∙ sym (ap (λ (snapshots : List Snapshot). header d.design ++ all_values snapshots) none))
    c.header.ensures
