-- Two runs of one bus are the same, and so are their texts.
use Rattle.std.proofs.Common.{◌≡◌, ℕ, ◌<◌, List, [], length, Result, Ok, sym, ap, ◌∙◌, subst, inl, inr, arith}
use Rattle.std.specs.Prelude.{unwrap_or}
use Rattle.std.proofs.lemmas.Bool.{cases_lt}
use Rattle.bus_router.specs.PayloadPool.Payloads.{Payloads, payload_in, payload_of}
use Rattle.bus_router.specs.PayloadPool.declared.payload.Payload.{Payload}
use Rattle.bus_router.specs.PayloadPool.declared.payload.TheConstants.{IGNORE, INCOMPLETE}
use Rattle.bus_router.specs.TrafficFile.declared.Bus.{Bus}
use Rattle.bus_router.specs.TrafficFile.declared.stops.BusStop.{BusStop}
use Rattle.bus_router.specs.TrafficFile.BusText.{bus_of}
use Rattle.bus_router.specs.TrafficFile.Traffic.{CanRun}
use Rattle.bus_router.specs.declared.rows.BusRow.{BusRow}
use Rattle.bus_router.specs.Times.{row_at}
use Rattle.bus_router.proofs.OneTable.{one_table_of}
use Rattle.bus_router.proofs.TrafficFile.Runnable.{read_runs}
use Rattle.bus_router.specs.Answers.{payload_at, AreAnswers}
use Rattle.bus_router.proofs.OneAnswer.{same_answers}
use Rattle.bus_router.specs.Leaving.{AreLeft}
use Rattle.bus_router.proofs.OneSet.{same_grants}
use Rattle.bus_router.specs.Pools.{payload_with, IsPoolOf}
use Rattle.bus_runs.specs.Entries.{AreHops}
use Rattle.bus_runs.proofs.OneList.{same_hops}
use Rattle.result_texts.specs.Lines.{IsTextOf}
use Rattle.result_texts.proofs.OneText.{same_text}
use Rattle.bus_runs.specs.declared.runs.BusRun.{BusRun}
use Rattle.bus_runs.specs.Runs.{IsRunOf, IsRunText, IsWrittenFor}
use Rattle.bus_runs.specs.Same.{AreSameRuns}

-- ---- pools

abbrev no_payload : Payload
no_payload = record { command = IGNORE; address = 0; bytes = []; enables = []; width = 0; status = INCOMPLETE }

pool_at : (payloads : List Payload) (one other : Payloads) → IsPoolOf payloads one → IsPoolOf payloads other → (k : ℕ) → payload_of one k ≡ payload_of other k
pool_at payloads one other first second k = elim (cases_lt k (length payloads)) [
  | inl below ↦ ap payload_in (first.each k below ∙ sym (second.each k below))
  | inr from ↦ ap payload_in (first.none k from) ∙ sym (ap payload_in (second.none k from))
]

pub with_at : (payloads : List Payload) (pool : Payloads) → IsPoolOf payloads pool → (k : ℕ) → k < length payloads → payload_with pool k ≡ payload_at payloads k
with_at payloads pool it k below = ap (λ o. unwrap_or (payload_in o) no_payload) (it.each k below)

-- ---- runs

module _ (bus : Bus) (can : CanRun bus) (one other : BusRun) (first : IsRunOf bus one) (second : IsRunOf bus other) where
  same_rows : one.rows ≡ other.rows
  same_rows = one_table_of bus one.rows other.rows can.takes_time first.table second.table

  hops_too : AreHops bus (row_at one.rows) other.hops
  hops_too = subst (λ (rows : List BusRow). AreHops bus (row_at rows) other.hops) (sym same_rows) second.hops

  grants_too : AreLeft bus (row_at one.rows) other.grants
  grants_too = subst (λ (rows : List BusRow). AreLeft bus (row_at rows) other.grants) (sym same_rows) second.grants

  answers_too : AreAnswers bus (row_at one.rows) second.answers.payloads
  answers_too = subst (λ (rows : List BusRow). AreAnswers bus (row_at rows) second.answers.payloads) (sym same_rows) second.answers.answers

  same_payloads : first.answers.payloads ≡ second.answers.payloads
  same_payloads = same_answers bus (row_at one.rows) first.answers.payloads second.answers.payloads can first.answers.answers answers_too

  pool_too : IsPoolOf first.answers.payloads other.pool
  pool_too = subst (λ (ps : List Payload). IsPoolOf ps other.pool) (sym same_payloads) second.answers.pooled

  pub same_runs : AreSameRuns one other
  same_runs = record {
    rows = same_rows;
    hops = same_hops bus (row_at one.rows) one.hops other.hops first.hops hops_too;
    payloads = pool_at first.answers.payloads one.pool other.pool first.answers.pooled pool_too;
    made = first.answers.pooled.made ∙ sym pool_too.made;
    grants = same_grants bus (row_at one.rows) one.grants other.grants first.grants grants_too;
  }

  pub same_texts : (text also : List ℕ) → IsTextOf bus one.rows (payload_with one.pool) text → IsTextOf bus other.rows (payload_with other.pool) also → text ≡ also
  same_texts text also written too =
      same_text bus one.rows (payload_with one.pool) (payload_with other.pool) text also
      (λ k below.
      let many = first.answers.answers.many in
      with_at first.answers.payloads one.pool first.answers.pooled k (omega arith) ∙ sym (with_at first.answers.payloads other.pool pool_too k (omega arith)))
      written (subst (λ (rows : List BusRow). IsTextOf bus rows (payload_with other.pool) also) (sym same_rows) too)

pub same_run_texts : (bus : Bus) (one other : List ℕ) → CanRun bus → IsRunText bus one → IsRunText bus other → one ≡ other
same_run_texts bus one other can first second = same_texts bus can first.run second.run first.is_run second.is_run one other first.written second.written

same_bus : (read : Result Bus BusStop) (one other : Bus) → read ≡ Ok one → read ≡ Ok other → one ≡ other
same_bus read one other first second = cc

pub same_written : (text one other : List ℕ) → IsWrittenFor text one → IsWrittenFor text other → one ≡ other
same_written text one other first second =
    same_run_texts first.bus one other (read_runs text first.bus first.read) first.ran
    (subst (λ (bus : Bus). IsRunText bus other) (same_bus (bus_of text) second.bus first.bus second.read first.read) second.ran)
