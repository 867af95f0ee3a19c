-- Two tables of one bus have the same rows, since what arrives first is settled first.
use Rattle.std.proofs.Common.{◌≡◌, ℕ, zero, suc, ◌<◌, ◌≤◌, ◌⊎◌, Bool, true, false, List, Option, Some, None, refl, sym, ap, ◌∙◌, subst, inl, inr, arith, length, true≢false}
use Rattle.std.specs.Prelude.{max}
use Rattle.std.proofs.lemmas.Bool.{cases_eq, cases_lt}
use Rattle.std.proofs.lemmas.List.{same_lists, get_or_default}
use Rattle.traffic_file.specs.declared.Bus.{Bus}
use Rattle.traffic_file.specs.Traffic.{line_at, initiator_of, home_of}
use Rattle.bus_router.specs.declared.rows.BusRow.{BusRow}
use Rattle.bus_router.specs.Times.{Table, row_at, IsBefore, IsAt, Earlier, IsFirstAt, IsBeforeAt, IsHeld, Timed, IsTableOf}
use Rattle.bus_router.proofs.Orders.{last_at}
use Rattle.bus_router.proofs.Grants.{held_in_other}
use Rattle.bus_router.proofs.Sofar.{rising, timed_sofar, comes_back, before_at}

pub same_rows : (x y : BusRow) → x.b ≡ y.b → x.a ≡ y.a → x.s ≡ y.s → x.e ≡ y.e → x.r ≡ y.r → x.direct ≡ y.direct → x ≡ y
same_rows x y b a s e r direct = λ i. record { b = b i; a = a i; s = s i; e = e i; r = r i; direct = direct i }

pub same_max : (x y v w : ℕ) → x ≡ y → v ≡ w → max x v ≡ max y w
same_max x y v w one two = ap (λ n. max n v) one ∙ ap (λ n. max y n) two

-- it arrives before the time t, or at t and stands below c in the file
abbrev pub IsBelow : Table → ℕ → ℕ → ℕ → Type 0
IsBelow table t c k = ((table k).a < t) ⊎ (((table k).a ≡ t) × (k < c))

-- the rows of all that arrives before that, in one of the tables, are the same
abbrev pub AgreeBelow : Bus → Table → Table → ℕ → ℕ → Type 0
AgreeBelow bus one other t c = (k : ℕ) → k < length bus.lines → IsBelow one t c k ⊎ IsBelow other t c k → one k ≡ other k

-- ---- the next one

module _ (bus : Bus) (one other : Table) (takes_time : 1 ≤ bus.delay) (first : Timed bus one) (second : Timed bus other)
    (t c : ℕ) (agree : AgreeBelow bus one other t c) (there : c < length bus.lines) (arrives : (one c).a ≡ t) where
  earlier_agree : (j : ℕ) → j < c → initiator_of bus j ≡ initiator_of bus c → one j ≡ other j
  earlier_agree j less same =
      let its : j < length bus.lines = omega arith in
      let back : (one j).r ≤ (one c).b = comes_back bus (λ k. k < length bus.lines) one (timed_sofar bus one first) j c there less same in
      let rises = rising bus one first j its in
      let comes = rising bus one first c there in
      agree j its (inl (elim (cases_lt (one j).a t) [ inl before ↦ inl before | inr not ↦ inr (omega arith, less) ]))

  same_begin : (one c).b ≡ (other c).b
  same_begin = elim (last_at (initiator_of bus) (initiator_of bus c) c) [
    | inl none ↦ first.begins c there none ∙ sym (second.begins c there none)
    | inr last ↦
        let before : IsBefore bus last.place c = record { earlier = last.below; same = last.is; none_between = last.none_after } in
        first.goes_on last.place c there before
        ∙ same_max (line_at bus c).time (line_at bus c).time (one last.place).r (other last.place).r refl (ap (λ (row : BusRow). row.r) (earlier_agree last.place last.below last.is))
        ∙ sym (second.goes_on last.place c there before)
  ]

  same_direct : (one c).direct ≡ (other c).direct
  same_direct = by_cases (one c).direct refl (other c).direct refl
    where
      by_cases : (b : Bool) → (one c).direct ≡ b → (d : Bool) → (other c).direct ≡ d → b ≡ d
      by_cases true is true also = refl
      by_cases false is false also = refl
      by_cases true is false also = absurd (true≢false (sym ((second.direct c there).1 (subst (λ time. IsHeld bus other c time) same_begin (held_in_other bus one other c earlier_agree (one c).b ((first.direct c there).0 is)))) ∙ also))
      by_cases false is true also = absurd (true≢false (sym ((first.direct c there).1 (subst (λ time. IsHeld bus one c time) (sym same_begin) (held_in_other bus other one c (λ j less same. sym (earlier_agree j less same)) (other c).b ((second.direct c there).0 also)))) ∙ is))

  -- what comes to a home before it, in the other table, has the same row
  module _ (arrives_too : (other c).a ≡ (one c).a) (home : ℕ) where
    same_before : (m : ℕ) → m < length bus.lines → Earlier one m c → one m ≡ other m
    same_before m its before = agree m its (inl (elim before [ inl less ↦ inl (omega arith) | inr even ↦ let same = even.0 in inr (omega arith, even.1) ]))

    same_too : (m : ℕ) → m < length bus.lines → Earlier other m c → one m ≡ other m
    same_too m its before = agree m its (inr (elim before [ inl less ↦ inl (omega arith) | inr even ↦ let same = even.0 in inr (omega arith, even.1) ]))

    at_in_other : (m : ℕ) → one m ≡ other m → IsAt bus one home m → IsAt bus other home m
    at_in_other m same at = record { there = at.there; home_is = at.home_is; routed = sym (ap (λ (row : BusRow). row.direct) same) ∙ at.routed }

    at_in_one : (m : ℕ) → one m ≡ other m → IsAt bus other home m → IsAt bus one home m
    at_in_one m same at = record { there = at.there; home_is = at.home_is; routed = ap (λ (row : BusRow). row.direct) same ∙ at.routed }

    earlier_in_other : (j k : ℕ) → (one j).a ≡ (other j).a → (one k).a ≡ (other k).a → Earlier one j k → Earlier other j k
    earlier_in_other j k same also (inl less) = inl (omega arith)
    earlier_in_other j k same also (inr even) = let is = even.0 in inr (omega arith, even.1)

    earlier_in_one : (j k : ℕ) → (one j).a ≡ (other j).a → (one k).a ≡ (other k).a → Earlier other j k → Earlier one j k
    earlier_in_one j k same also (inl less) = inl (omega arith)
    earlier_in_one j k same also (inr even) = let is = even.0 in inr (omega arith, even.1)

    pub same_start : IsAt bus one home c → IsAt bus other home c → (one c).s ≡ (other c).s
    same_start at too = elim (before_at bus one first home c) [
      | inl alone ↦ first.alone home c at alone ∙ sym arrives_too ∙ sym (second.alone home c too (alone_too alone))
      | inr before ↦
          let same = same_before before.0 before.1.at.there before.1.earlier in
          first.behind home before.0 c at before.1
          ∙ same_max (one c).a (other c).a (one before.0).e (other before.0).e (sym arrives_too) (ap (λ (row : BusRow). row.e) same)
          ∙ sym (second.behind home before.0 c too (before_too before.0 before.1 same))
    ]
      where
        alone_too : IsFirstAt bus one home c → IsFirstAt bus other home c
        alone_too alone m there_too earlier =
            let same = same_too m there_too.there earlier in
            alone m (at_in_one m same there_too) (earlier_in_one m c (ap (λ (row : BusRow). row.a) same) (sym arrives_too) earlier)

        before_too : (j : ℕ) → IsBeforeAt bus one home j c → one j ≡ other j → IsBeforeAt bus other home j c
        before_too j before same = record {
          at = at_in_other j same before.at;
          earlier = earlier_in_other j c (ap (λ (row : BusRow). row.a) same) (sym arrives_too) before.earlier;
          none_between = λ m there_too after earlier.
              let its = same_too m there_too.there earlier in
              before.none_between m (at_in_one m its there_too)
              (earlier_in_one j m (ap (λ (row : BusRow). row.a) same) (ap (λ (row : BusRow). row.a) its) after)
              (earlier_in_one m c (ap (λ (row : BusRow). row.a) its) (sym arrives_too) earlier);
        }

  pub next_agrees : one c ≡ other c
  next_agrees = by_direct (one c).direct refl
    where
      by_home : (one c).direct ≡ false → (other c).direct ≡ false → (other c).a ≡ (one c).a → (o : Option ℕ) → home_of bus c ≡ o → one c ≡ other c
      by_home routed too far None is =
          let row = first.nowhere c there routed is in
          let its = second.nowhere c there too is in
          same_rows (one c) (other c) same_begin (sym far) (omega arith) (omega arith) (omega arith) same_direct
      by_home routed too far (Some home) is =
          let at : IsAt bus one home c = record { there = there; home_is = is; routed = routed } in
          let at_too : IsAt bus other home c = record { there = there; home_is = is; routed = too } in
          let starts : (one c).s ≡ (other c).s = same_start far home at at_too in
          let row = first.served home c at in
          let its = second.served home c at_too in
          same_rows (one c) (other c) same_begin (sym far) starts (omega arith) (omega arith) same_direct

      by_direct : (b : Bool) → (one c).direct ≡ b → one c ≡ other c
      by_direct true is =
          let row = first.at_once c there is in
          let its = second.at_once c there (sym same_direct ∙ is) in
          let begin : (one c).b ≡ (other c).b = same_begin in
          same_rows (one c) (other c) same_begin (omega arith) (omega arith) (omega arith) (omega arith) same_direct
      by_direct false is =
          let too : (other c).direct ≡ false = sym same_direct ∙ is in
          let far = first.arrives c there is in
          let far_too = second.arrives c there too in
          let begin : (one c).b ≡ (other c).b = same_begin in
          by_home is too (omega arith) (home_of bus c) refl

-- ---- all of them

module _ (bus : Bus) (one other : Table) (takes_time : 1 ≤ bus.delay) (first : Timed bus one) (second : Timed bus other) where
  turned : (t c : ℕ) → AgreeBelow bus one other t c → AgreeBelow bus other one t c
  turned t c agree k there (inl in_other) = sym (agree k there (inr in_other))
  turned t c agree k there (inr in_one) = sym (agree k there (inl in_one))

  -- what arrives before t has the same rows
  abbrev AgreeBefore : ℕ → Type 0
  AgreeBefore t = (k : ℕ) → k < length bus.lines → ((one k).a < t) ⊎ ((other k).a < t) → one k ≡ other k

  agree_below : (t : ℕ) → AgreeBefore t → (c : ℕ) → AgreeBelow bus one other t c
  agree_below t before zero k there (inl (inl less)) = before k there (inl less)
  agree_below t before zero k there (inl (inr even)) = let less = even.1 in absurd (omega arith)
  agree_below t before zero k there (inr (inl less)) = before k there (inr less)
  agree_below t before zero k there (inr (inr even)) = let less = even.1 in absurd (omega arith)
  agree_below t before (suc c) k there (inl (inl less)) = before k there (inl less)
  agree_below t before (suc c) k there (inl (inr even)) = elim (cases_eq k c) [
    | inl is ↦ next_agrees bus one other takes_time first second t k (subst (λ p. AgreeBelow bus one other t p) (sym is) (agree_below t before c)) there even.0
    | inr apart ↦ let less = even.1 in agree_below t before c k there (inl (inr (even.0, omega arith)))
  ]
  agree_below t before (suc c) k there (inr (inl less)) = before k there (inr less)
  agree_below t before (suc c) k there (inr (inr even)) = elim (cases_eq k c) [
    | inl is ↦ sym (next_agrees bus other one takes_time second first t k (turned t k (subst (λ p. AgreeBelow bus one other t p) (sym is) (agree_below t before c))) there even.0)
    | inr apart ↦ let less = even.1 in agree_below t before c k there (inr (inr (even.0, omega arith)))
  ]

  agree_before : (t : ℕ) → AgreeBefore t
  agree_before zero k there (inl less) = absurd (omega arith)
  agree_before zero k there (inr less) = absurd (omega arith)
  agree_before (suc t) k there less = agree_below t (agree_before t) (length bus.lines) k there (elim less [
    | inl before ↦ inl (by_time (one k).a before)
    | inr before ↦ inr (by_time (other k).a before)
  ])
    where
      by_time : (a : ℕ) → a < suc t → (a < t) ⊎ ((a ≡ t) × (k < length bus.lines))
      by_time a below = elim (cases_lt a t) [ inl less ↦ inl less | inr not ↦ inr (omega arith, there) ]

  pub all_agree : (k : ℕ) → k < length bus.lines → one k ≡ other k
  all_agree k there = agree_before (suc (one k).a) k there (inl (omega arith))

abbrev no_row : BusRow
no_row = record { b = 0; a = 0; s = 0; e = 0; r = 0; direct = false }

pub one_table_of : (bus : Bus) (one other : List BusRow) → 1 ≤ bus.delay → IsTableOf bus one → IsTableOf bus other → one ≡ other
one_table_of bus one other takes_time first second = same_lists one other (first.many ∙ sym second.many) (λ k d there.
    get_or_default one k d no_row there
    ∙ all_agree bus (row_at one) (row_at other) takes_time first.timed second.timed k (let many = first.many in omega arith)
    ∙ get_or_default other k no_row d (let many = first.many in let also = second.many in omega arith))
