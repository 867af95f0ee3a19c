-- What is answered so far, with one access more and with one home more.
use Rattle.std.proofs.Common.{◌≡◌, ℕ, ◌+◌, ◌<◌, true, List, [], length, get_or, Option, None, Some, refl, sym, ap, ◌∙◌, subst, inl, inr, arith}
use Rattle.std.specs.Prelude.{option_map, replicate, slice_set}
use Rattle.std.proofs.lemmas.Bool.{cases_lt}
use Rattle.std.proofs.lemmas.Bool.Decides.{nat_tests}
use Rattle.std.proofs.lemmas.List.{get_or-set_same, get_or-set_other, length-set}
use Rattle.std.proofs.lemmas.List.Elements.{Contains-get_or}
use Rattle.std.proofs.lemmas.List.Sums.{fold_more}
use Rattle.traffic_file.specs.DmiMap.declared.order.Rank.{Rank}
use Rattle.traffic_file.specs.DmiMap.Ranks.{is_before}
use Rattle.traffic_file.specs.PayloadPool.declared.payload.Payload.{Payload}
use Rattle.traffic_file.specs.PayloadPool.declared.payload.TheConstants.{IGNORE, INCOMPLETE, ADDRESS}
use Rattle.traffic_file.specs.DmiMap.Accesses.{accessed, memory_accessed}
use Rattle.traffic_file.specs.DmiMap.declared.ranges.TargetRange.{TargetRange}
use Rattle.traffic_file.specs.declared.Bus.{Bus}
use Rattle.traffic_file.specs.Traffic.{target_at, home_of, range_of_line}
use Rattle.bus_router.specs.Times.{Table}
use Rattle.bus_router.specs.Answers.{served_rank, IsOf, IsServiceOrder, asked, low_of, payload_at, IsServedAt, AreAnswers}
use Rattle.bus_router.specs.Serving.{first_by, AreFirst, ArePlaces, IsAnswered, ServedSofar, HomesSofar}

abbrev no_payload : Payload
no_payload = record { command = IGNORE; address = 0; bytes = []; enables = []; width = 0; status = INCOMPLETE }

pub served_none : (bus : Bus) (first ks : List ℕ) (old : List Payload) → ServedSofar bus first ks old old first 0
served_none bus first ks old = record {
  many = refl;
  memory_is = refl;
  done = λ j less. absurd (omega arith);
  others = λ k others_are. refl;
}

module _ (bus : Bus) (first ks : List ℕ) (old : List Payload) where
  -- the next access has not been answered
  pub untouched : ArePlaces bus ks → ((i : ℕ) → i < length ks → payload_at old (get_or ks i 0) ≡ asked bus (get_or ks i 0))
      → (payloads : List Payload) (memory : List ℕ) (i : ℕ) → ServedSofar bus first ks old payloads memory i → i < length ks
      → payload_at payloads (get_or ks i 0) ≡ asked bus (get_or ks i 0)
  untouched places all payloads memory i sofar below =
      sofar.others (get_or ks i 0) (λ j less. places.apart j i less below) ∙ all i below

  pub served_more : ArePlaces bus ks → length old ≡ length bus.lines → (payloads after : List Payload) (memory memory' : List ℕ) (i : ℕ)
      → ServedSofar bus first ks old payloads memory i → i < length ks
      → after ≡ slice_set payloads (get_or ks i 0) (accessed (low_of bus (get_or ks i 0)) (asked bus (get_or ks i 0)) memory)
      → memory' ≡ memory_accessed (low_of bus (get_or ks i 0)) (asked bus (get_or ks i 0)) memory
      → ServedSofar bus first ks old after memory' (i + 1)
  served_more places long payloads after memory memory' i sofar below is memory_is = record {
    many = ap length is ∙ length-set payloads k v ∙ sofar.many;
    memory_is = memory_is ∙ ap (λ m. memory_accessed (low_of bus k) (asked bus k) m) sofar.memory_is
        ∙ sym (fold_more (λ m n. memory_accessed (low_of bus n) (asked bus n) m) first ks i 0 below);
    done = done;
    others = λ n others_are. at n ∙ get_or-set_other payloads k n v no_payload (λ e. others_are i (omega arith) (sym e)) ∙ sofar.others n (λ j less. others_are j (omega arith));
  }
    where
      k : ℕ
      k = get_or ks i 0

      v : Payload
      v = accessed (low_of bus k) (asked bus k) memory

      at : (n : ℕ) → payload_at after n ≡ payload_at (slice_set payloads k v) n
      at n = ap (λ ps. payload_at ps n) is

      here : IsAnswered bus first ks after i
      here =
          let there = places.within i below in
          let many = sofar.many in
          at k ∙ get_or-set_same payloads k v no_payload (omega arith) ∙ ap (λ m. accessed (low_of bus k) (asked bus k) m) sofar.memory_is

      done : (j : ℕ) → j < i + 1 → IsAnswered bus first ks after j
      done j less = elim (cases_lt j i) [
        | inl earlier ↦ at (get_or ks j 0) ∙ get_or-set_other payloads k (get_or ks j 0) v no_payload (places.apart j i earlier below) ∙ sofar.done j earlier
        | inr from ↦ let e : i ≡ j = omega arith in subst (λ n. IsAnswered bus first ks after n) e here
      ]

-- ---- homes

never_itself : (a : Rank) (i : ℕ) → is_before a i a i ≡ true → ⊥
never_itself a i is = grind (arith, nat_tests)

same_home : (bus : Bus) (t u k : ℕ) → IsOf bus t k → IsOf bus u k → t ≡ u
same_home bus t u k one other = let a = one.home_is in let b = other.home_is in cc

pub places_of : (bus : Bus) (table : Table) (home : ℕ) (ks : List ℕ) → IsServiceOrder bus table home ks → ArePlaces bus ks
places_of bus table home ks order = record {
  within = λ i below. let of = (order.all (get_or ks i 0)).0 (Contains-get_or ks i 0 below) in of.there;
  apart = λ i j less below e. apart (get_or ks i 0) (get_or ks j 0) e (order.order i j less below);
}
  where
    apart : (x y : ℕ) → x ≡ y → is_before (served_rank (table x)) x (served_rank (table y)) y ≡ true → ⊥
    apart x y e is = never_itself (served_rank (table y)) y (subst (λ n. is_before (served_rank (table n)) n (served_rank (table y)) y ≡ true) e is)

first_some : (bus : Bus) (k home : ℕ) (o : Option TargetRange) → option_map (λ (r : TargetRange). r.target) o ≡ Some home → first_by bus k o ≡ asked bus k
first_some bus k home None is = cc
first_some bus k home (Some range) is = refl

first_none : (bus : Bus) (k : ℕ) (o : Option TargetRange) → option_map (λ (r : TargetRange). r.target) o ≡ None → first_by bus k o ≡ record (asked bus k) { status = ADDRESS }
first_none bus k None is = refl
first_none bus k (Some range) is = cc

pub homes_none : (bus : Bus) (table : Table) (payloads : List Payload) → length payloads ≡ length bus.lines → AreFirst bus payloads → HomesSofar bus table payloads 0
homes_none bus table payloads many all = record {
  many = many;
  served = λ t less. absurd (omega arith);
  unserved = λ k below others_are. all k below;
}

module _ (bus : Bus) (table : Table) (payloads : List Payload) (home : ℕ) (sofar : HomesSofar bus table payloads home) where
  -- the accesses of the next home are as they were asked for
  pub home_asked : (ks : List ℕ) → IsServiceOrder bus table home ks → (i : ℕ) → i < length ks → payload_at payloads (get_or ks i 0) ≡ asked bus (get_or ks i 0)
  home_asked ks order i below =
      let k = get_or ks i 0 in
      let of = (order.all k).0 (Contains-get_or ks i 0 below) in
      sofar.unserved k of.there (λ t less other. let e = same_home bus t home k other of in absurd (omega arith))
      ∙ first_some bus k home (range_of_line bus k) of.home_is

  pub homes_more : (after : List Payload) (memory ks : List ℕ) → IsServiceOrder bus table home ks
      → ServedSofar bus (replicate (target_at bus home).size 0) ks payloads after memory (length ks) → HomesSofar bus table after (home + 1)
  homes_more after memory ks order served = record {
    many = served.many ∙ sofar.many;
    served = λ t less. elim (cases_lt t home) [
      | inl earlier ↦ still t earlier (sofar.served t earlier)
      | inr from ↦ let e : home ≡ t = omega arith in subst (λ n. IsServedAt bus table after n) e here
    ];
    unserved = λ k below others_are.
        served.others k (λ j less e. others_are home (omega arith) (subst (λ n. IsOf bus home n) e (of j less)))
        ∙ sofar.unserved k below (λ t less. others_are t (omega arith));
  }
    where
      of : (j : ℕ) → j < length ks → IsOf bus home (get_or ks j 0)
      of j less = (order.all (get_or ks j 0)).0 (Contains-get_or ks j 0 less)

      here : IsServedAt bus table after home
      here = record { ks = ks; order = order; each = served.done }

      still : (t : ℕ) → t < home → IsServedAt bus table payloads t → IsServedAt bus table after t
      still t earlier it = record {
        ks = it.ks;
        order = it.order;
        each = λ i below.
            served.others (get_or it.ks i 0) (λ j less e. apart (get_or it.ks i 0) ((it.order.all (get_or it.ks i 0)).0 (Contains-get_or it.ks i 0 below)) (subst (λ n. IsOf bus home n) e (of j less)))
            ∙ it.each i below;
      }
        where
          apart : (k : ℕ) → IsOf bus t k → IsOf bus home k → ⊥
          apart k one other = let e = same_home bus t home k one other in absurd (omega arith)

pub all_homes : (bus : Bus) (table : Table) (payloads : List Payload) → HomesSofar bus table payloads (length bus.targets) → AreAnswers bus table payloads
all_homes bus table payloads sofar = record {
  many = sofar.many;
  nowhere = λ k below none.
      sofar.unserved k below (λ t less of. apart k t none of.home_is) ∙ first_none bus k (range_of_line bus k) none;
  served = sofar.served;
}
  where
    apart : (k t : ℕ) → home_of bus k ≡ None → home_of bus k ≡ Some t → ⊥
    apart k t none some = cc
