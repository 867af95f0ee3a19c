-- Two lists of answers by one table are the same: the accesses of each home have one order, and so each of them found one memory.
use Rattle.std.proofs.Common.{◌≡◌, ℕ, ◌<◌, List, [], Option, None, Some, length, get_or, take, refl, sym, ap, ◌∙◌, subst, arith}
use Rattle.std.specs.Prelude.{Contains, option_map}
use Rattle.std.proofs.lemmas.List.{same_lists, get_or_default}
use Rattle.traffic_file.proofs.DmiMap.OneOrder.{same_order}
use Rattle.traffic_file.specs.PayloadPool.declared.payload.Payload.{Payload}
use Rattle.traffic_file.specs.PayloadPool.declared.payload.TheConstants.{IGNORE, INCOMPLETE}
use Rattle.traffic_file.specs.DmiMap.Accesses.{accessed}
use Rattle.traffic_file.specs.DmiMap.declared.ranges.TargetRange.{TargetRange}
use Rattle.traffic_file.specs.declared.Bus.{Bus}
use Rattle.traffic_file.specs.Traffic.{CanRun, home_of, range_of_line}
use Rattle.bus_router.specs.Times.{Table}
use Rattle.bus_router.proofs.Held.{home_there}
use Rattle.bus_router.specs.Answers.{served_rank, IsServiceOrder, asked, low_of, memory_behind, payload_at, IsServedAt, AreAnswers}

pub same_service : (bus : Bus) (table : Table) (home : ℕ) (ks ls : List ℕ) → IsServiceOrder bus table home ks → IsServiceOrder bus table home ls → ks ≡ ls
same_service bus table home ks ls one other =
    same_order (λ k. served_rank (table k)) ks ls one.order other.order
    (λ k. ((λ held. (other.all k).1 ((one.all k).0 held)), (λ held. (one.all k).1 ((other.all k).0 held))))

abbrev no_payload : Payload
no_payload = record { command = IGNORE; address = 0; bytes = []; enables = []; width = 0; status = INCOMPLETE }

module _ (bus : Bus) (can : CanRun bus) where
  range_there : (k home : ℕ) (o : Option TargetRange) → range_of_line bus k ≡ o → option_map (λ (range : TargetRange). range.target) o ≡ Some home → home < length bus.targets
  range_there k home None is found = cc
  range_there k home (Some range) is found =
      let there = home_there bus can k range is in
      let e : range.target ≡ home = cc in
      subst (λ n. n < length bus.targets) e there

  -- a home is one of the targets
  pub home_within : (k home : ℕ) → home_of bus k ≡ Some home → home < length bus.targets
  home_within k home is = range_there k home (range_of_line bus k) refl is

module _ (bus : Bus) (table : Table) (one other : List Payload) (can : CanRun bus) (first : AreAnswers bus table one) (second : AreAnswers bus table other) where
  same_served : (k home : ℕ) (mine : IsServedAt bus table one home) (its : IsServedAt bus table other home) → mine.ks ≡ its.ks → Contains mine.ks k → payload_at one k ≡ payload_at other k
  same_served k home mine its e (i, below, is) =
      let at : get_or mine.ks i 0 ≡ k = get_or_default mine.ks i 0 k below ∙ is in
      let also : get_or its.ks i 0 ≡ k = ap (λ (ls : List ℕ). get_or ls i 0) (sym e) ∙ at in
      let within : i < length its.ks = subst (λ (ls : List ℕ). i < length ls) e below in
      ap (λ n. payload_at one n) (sym at) ∙ mine.each i below
      ∙ ap (λ (ls : List ℕ). accessed (low_of bus (get_or ls i 0)) (asked bus (get_or ls i 0)) (memory_behind bus home (take i ls))) e
      ∙ sym (its.each i within) ∙ ap (λ n. payload_at other n) also

  same_at : (k : ℕ) → k < length bus.lines → payload_at one k ≡ payload_at other k
  same_at k there = by_home (home_of bus k) refl
    where
      by_home : (o : Option ℕ) → home_of bus k ≡ o → payload_at one k ≡ payload_at other k
      by_home None none = first.nowhere k there none ∙ sym (second.nowhere k there none)
      by_home (Some home) is =
          let within = home_within bus can k home is in
          let mine = first.served home within in
          let its = second.served home within in
          same_served k home mine its (same_service bus table home mine.ks its.ks mine.order its.order) ((mine.order.all k).1 (record { there = there; home_is = is }))

  pub same_answers : one ≡ other
  same_answers = same_lists one other (first.many ∙ sym second.many) (λ k d there.
      get_or_default one k d no_payload there
      ∙ same_at k (let many = first.many in omega arith)
      ∙ get_or_default other k no_payload d (let many = first.many in let also = second.many in omega arith))
