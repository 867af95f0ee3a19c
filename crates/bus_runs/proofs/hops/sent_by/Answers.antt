use Rattle.std.proofs.Common.{◌≡◌, ◌<◌, ◌++◌, ◌∷◌, [], zero-add, length, get_or, sym, ap, ◌∙◌, arith}
use Rattle.std.specs.List.{range_with_len}
use Rattle.std.proofs.lemmas.List.FromFn.{length-range_with_len, get_or-range_with_len}
use Rattle.std.proofs.lemmas.List.{take_all}
use Rattle.std.specs.Prelude.{filter}
use Rattle.bus_router.specs.Times.{row_at}
use Rattle.bus_runs.specs.Entries.{is_sent}
use Rattle.bus_runs.proofs.Joined.{kept_more, kept_same}
use Rattle.bus_runs.proofs.hops.sent_by.Goals as goal
use Rattle.bus_runs.proofs.hops.sent_by.Goals.{then-is_sent+in_ok-push, else-is_sent}

pub loop-k-preserved : goal.loop-k-preserved
loop-k-preserved c =
    let lines = length c.args.bus.now.lines in
    let k = c.loop-k.k in
    let test = is_sent c.args.bus.now (row_at c.args.rows.now) c.args.i in
    let places = range_with_len 0 lines in
    let end = ap length c.as_slice-k-end.ensures in
    let long : length places ≡ lines = length-range_with_len 0 lines in
    let below : k < lines = omega arith in
    let at : get_or places k 0 ≡ k = get_or-range_with_len 0 lines k 0 below ∙ zero-add k in
    elim c.if-is_sent.branch [
      | then-is_sent+in_ok-push w ↦
          kept_more test places k c.loop-k.ks.items c.if-is_sent.ks.items (omega arith) c.loop-k.invariant
          (ap test at ∙ sym c.is_sent.ensures ∙ w.if-is_sent.true)
          (ap (λ (v : _). v.items) w.ks-is ∙ w.in_ok-push.ensures.items ∙ ap (λ n. c.loop-k.ks.items ++ n ∷ []) (sym at))
      | else-is_sent w ↦
          ap (λ (v : _). v.items) w.ks-is
          ∙ kept_same test places k c.loop-k.ks.items (omega arith) c.loop-k.invariant (ap test at ∙ sym c.is_sent.ensures ∙ w.if-is_sent.false)
    ]

pub returns : goal.returns
returns c =
    let lines = length c.args.bus.now.lines in
    let places = range_with_len 0 lines in
    let end = ap length c.as_slice-k-end.ensures in
    let long : length places ≡ lines = length-range_with_len 0 lines in
    c.loop-k.invariant ∙ ap (filter (is_sent c.args.bus.now (row_at c.args.rows.now) c.args.i)) (take_all c.loop-k.k places (omega arith))
