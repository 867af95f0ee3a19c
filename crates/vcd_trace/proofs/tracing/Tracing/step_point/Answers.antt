use Rattle.std.proofs.lemmas.Result.{IfOk-weaker, on_ok_weaker}
use Rattle.std.proofs.Common.{◌≡◌, ◌++◌, ◌∷◌, List, [], sym, ap, ◌∙◌, append-nil}
use Rattle.laws_runs.specs.SimModel.Configuration.{Config, Snapshot}
use Rattle.laws_runs.specs.SimModel.Steps.{step, went}
use Rattle.laws_runs.specs.SimModel.Trace.{all_values}
use Rattle.kernel_state.specs.Kernel.{StandsFor}
use Rattle.laws_runs.specs.AddedStanding.{seen_at}
use Rattle.vcd_trace.specs.Traced.{trace_so_far, last_seen, Keeps}
use Rattle.vcd_trace.proofs.Steps.{still-adds, moved-adds, text-after}
use Rattle.vcd_trace.proofs.tracing.Tracing.step_point.Goals as goal

pub returns-then-k-time-clause-text : goal.returns-then-k-time-clause-text
returns-then-k-time-clause-text c = λ e d to h is design keeps.
    text-after e d e.trace.snapshots c.new.result design (still-adds c.args.k.now e d h c.args.time.0 is (c.steps_add_snapshots.ensures e d to) c.if-k-time.true)
    (sym (append-nil (all_values e.trace.snapshots)) ∙ ap (λ text. all_values e.trace.snapshots ++ text) (sym c.new.ensures))

pub returns-then-k-time-clause-keeps : goal.returns-then-k-time-clause-keeps
returns-then-k-time-clause-keeps c = λ e d to h is keeps.
    keeps ∙ ap last_seen (sym (still-adds c.args.k.now e d h c.args.time.0 is (c.steps_add_snapshots.ensures e d to) c.if-k-time.true))

pub returns-clause-text : goal.returns-clause-text
returns-clause-text c =
    let k = c.args.k.now in
    let t = c.args.time.0 in
    IfOk-weaker c.next_point.result
    (λ text. (d : Config) (before : List Snapshot) → StandsFor k d → Keeps c.args.self.now before → all_values (before ++ seen_at t d ∷ []) ≡ all_values before ++ text)
    (λ text. (e d : Config) → step e ≡ went d → StandsFor k d → e.cycle.now ≡ t → d.design ≡ e.design → Keeps c.args.self.now e.trace.snapshots → trace_so_far d ≡ trace_so_far e ++ text)
    (λ text adds e d to h is design keeps.
    text-after e d (e.trace.snapshots ++ seen_at t d ∷ []) text design (moved-adds k e d h t is (c.steps_add_snapshots.ensures e d to) c.if-k-time.false) (adds d e.trace.snapshots h keeps))
    c.next_point.ensures.text

pub returns-clause-keeps : goal.returns-clause-keeps
returns-clause-keeps c =
    on_ok_weaker c.next_point.result
    (λ keeps_on e d to h is keeps.
    keeps_on d e.trace.snapshots h keeps ∙ ap last_seen (sym (moved-adds c.args.k.now e d h c.args.time.0 is (c.steps_add_snapshots.ensures e d to) c.if-k-time.false)))
    c.next_point.ensures.keeps
