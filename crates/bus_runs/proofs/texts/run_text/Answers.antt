use Rattle.std.proofs.lemmas.Result.{IfOk-weaker}
use Rattle.bus_router.specs.Pools.{payload_with}
use Rattle.result_texts.specs.Lines.{IsTextOf}
use Rattle.bus_runs.specs.Runs.{IsRunText}
use Rattle.bus_runs.proofs.texts.run_text.Goals as goal

pub returns : goal.returns
returns c =
    let run = c.in_ok-run.run' in
    IfOk-weaker c.bus_text.result (λ text. IsTextOf c.args.bus.now run.rows (payload_with run.pool) text.items) (λ text. IsRunText c.args.bus.now text.items)
    (λ text written. record { run = run; is_run = c.in_ok-run.ensures; written = written }) c.bus_text.ensures
