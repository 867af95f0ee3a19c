-- Where no initiator keeps grants, all goes through the router.
use Rattle.std.proofs.Common.{◌≡◌, ℕ, ◌<◌, ◌↔◌, Bool, true, false, List, [], ◌∷◌, ◌++◌, length, get_or, refl, sym, ap, ◌∙◌, arith, true≢false}
use Rattle.std.specs.Ordering.{int_eq}
use Rattle.std.proofs.lemmas.List.Elements.{Contains-get_or}
use Rattle.bus_router.specs.PayloadPool.declared.payload.Payload.{Payload}
use Rattle.bus_router.specs.PayloadPool.declared.payload.TheConstants.{OK}
use Rattle.bus_router.specs.DmiMap.declared.grants.Region.{Region}
use Rattle.bus_router.specs.TrafficFile.declared.Bus.{Bus}
use Rattle.bus_router.specs.TrafficFile.Traffic.{CanRun, initiator_of}
use Rattle.bus_router.specs.declared.rows.BusRow.{BusRow}
use Rattle.bus_router.specs.Times.{Table, row_at, IsAt, IsHeld, Timed, IsTableOf}
use Rattle.bus_router.specs.Answers.{IsOf, payload_at, AreAnswers}
use Rattle.bus_router.specs.Leaving.{AreLeft}
use Rattle.bus_router.specs.Pools.{payload_with}
use Rattle.result_texts.specs.Lines.{access_line, mark_text, access_head, status_word, data_text, end_line}
use Rattle.result_texts.proofs.OneText.{same_pieces}
use Rattle.bus_runs.specs.Runs.{IsRunText}
use Rattle.bus_runs.proofs.OneRun.{with_at}
use Rattle.bus_runs.specs.Routed.{NoneKeeps, AllRouted, IsRoutedTable, AreRoutedAnswers, plain_line, IsRoutedText}
use Rattle.bus_runs.proofs.Turns.{arrival_order}

module _ (bus : Bus) (can : CanRun bus) (unmarked : NoneKeeps bus) where
  none_held : (table : Table) (k time : ℕ) → k < length bus.lines → IsHeld bus table k time → ⊥
  none_held table k time there held = true≢false (sym held.keeps ∙ unmarked (initiator_of bus k) (can.initiators k there))

  routed_in : (table : Table) → Timed bus table → (k : ℕ) → k < length bus.lines → (table k).direct ≡ false
  routed_in table timed k there = by_test (table k).direct refl
    where
      by_test : (b : Bool) → (table k).direct ≡ b → b ≡ false
      by_test false is = refl
      by_test true is = absurd (none_held table k (table k).b there ((timed.direct k there).0 is))

  -- ---- times

  module _ (table : Table) (routed : (k : ℕ) → k < length bus.lines → (table k).direct ≡ false) where
    at_of : (home k : ℕ) → IsOf bus home k → IsAt bus table home k
    at_of home k of = record { there = of.there; home_is = of.home_is; routed = routed k of.there }

    of_at : (home k : ℕ) → IsAt bus table home k → IsOf bus home k
    of_at home k at = record { there = at.there; home_is = at.home_is }

    all_routed : Timed bus table → AllRouted bus table
    all_routed timed = record {
      routed = routed;
      begins = timed.begins;
      goes_on = timed.goes_on;
      arrives = λ k there. timed.arrives k there (routed k there);
      nowhere = λ k there. timed.nowhere k there (routed k there);
      alone = λ home k of first. timed.alone home k (at_of home k of) (λ m at. first m (of_at home m at));
      behind = λ home j k of before. timed.behind home j k (at_of home k of) (record {
        at = at_of home j before.of;
        earlier = before.earlier;
        none_between = λ m at. before.none_between m (of_at home m at);
      });
      served = λ home k of. timed.served home k (at_of home k of);
    }

    timed_again : AllRouted bus table → Timed bus table
    timed_again all = record {
      begins = all.begins;
      goes_on = all.goes_on;
      direct = λ k there. ((λ is. absurd (true≢false (sym is ∙ routed k there))), (λ held. absurd (none_held table k (table k).b there held)));
      at_once = λ k there is. absurd (true≢false (sym is ∙ routed k there));
      arrives = λ k there is. all.arrives k there;
      nowhere = λ k there is. all.nowhere k there;
      alone = λ home k at first. all.alone home k (of_at home k at) (λ m of. first m (at_of home m of));
      behind = λ home j k at before. all.behind home j k (of_at home k at) (record {
        of = of_at home j before.at;
        earlier = before.earlier;
        none_between = λ m of. before.none_between m (at_of home m of);
      });
      served = λ home k at. all.served home k (of_at home k at);
    }

  pub routed_table : (rows : List BusRow) → IsTableOf bus rows ↔ IsRoutedTable bus rows
  routed_table rows = (
    (λ it. record { many = it.many; routed = all_routed (row_at rows) (routed_in (row_at rows) it.timed) it.timed }),
    (λ it. let all = it.routed in record { many = it.many; timed = timed_again (row_at rows) all.routed all }),
  )

  -- ---- grants

  pub none_left : (table : Table) (regions : List Region) → AreLeft bus table regions → regions ≡ []
  none_left table [] it = refl
  none_left table (region ∷ regions) it =
      let left = it.each region (0, omega arith, refl) in
      let leaves = left.2 in
      absurd (true≢false (sym leaves.of.keeps ∙ unmarked (initiator_of bus left.0) (can.initiators left.0 leaves.there)))

  -- ---- answers and text

  routed_answers : (table : Table) (payloads : List Payload) → Timed bus table → AreAnswers bus table payloads → AreRoutedAnswers bus table payloads
  routed_answers table payloads timed it = record {
    many = it.many;
    nowhere = it.nowhere;
    served = λ home less. let its = it.served home less in record {
      ks = its.ks;
      order = arrival_order bus table timed (routed_in table timed) home its.ks its.order;
      each = its.each;
    };
  }

  plain : (row : BusRow) (k : ℕ) (p : Payload) → row.direct ≡ false → access_line bus row k p ≡ plain_line bus row k p
  plain row k p is = ap (λ b. access_head bus row.r k ++ status_word (int_eq p.status OK) ++ data_text (int_eq p.status OK) p ++ mark_text b) is

  pub routed_text : (out : List ℕ) → IsRunText bus out → IsRoutedText bus out
  routed_text out it =
      let run = it.run in
      let rows = run.rows in
      let timed = it.is_run.table.timed in
      let many = it.is_run.answers.answers.many in
      let payloads = it.is_run.answers.payloads in
      record {
        rows = rows;
        payloads = payloads;
        table = (routed_table rows).0 it.is_run.table;
        answers = routed_answers (row_at rows) payloads timed it.is_run.answers.answers;
        written = record {
          ks = it.written.ks;
          order = it.written.order;
          is = it.written.is
              ∙ ap (λ l. l ++ end_line rows)
              (same_pieces (λ k. access_line bus (row_at rows k) k (payload_with run.pool k)) (λ k. plain_line bus (row_at rows k) k (payload_at payloads k)) it.written.ks
              (λ i below.
              let k = get_or it.written.ks i 0 in
              let there = (it.written.order.all k).0 (Contains-get_or it.written.ks i 0 below) in
              plain (row_at rows k) k (payload_with run.pool k) (routed_in (row_at rows) timed k there)
              ∙ ap (plain_line bus (row_at rows k) k) (with_at payloads run.pool it.is_run.answers.pooled k (omega arith))));
        };
      }
