-- What is listed, with one more.
use Rattle.std.proofs.Common.{◌≡◌, ℕ, ◌+◌, ◌<◌, Bool, true, false, cond, List, [], ◌∷◌, ◌++◌, length, get_or, take, map, refl, sym, ap, ◌∙◌, subst, inl, inr, arith}
use Rattle.std.specs.Prelude.{filter}
use Rattle.std.proofs.lemmas.Bool.{cases_lt}
use Rattle.std.proofs.lemmas.List.{append-nil, take_more, get_or_append_left, get_or_push, length-append}
use Rattle.std.proofs.lemmas.List.Elements.{filter_more}
use Rattle.bus_runs.specs.Hops.{entries_of}
use Rattle.bus_router.specs.TrafficFile.declared.Bus.{Bus}
use Rattle.bus_router.specs.Times.{Table}
use Rattle.bus_runs.specs.declared.entries.BusEntry.{BusEntry}
use Rattle.bus_runs.specs.Entries.{entry_of, IsHopOf, sent_by, IsTargetHop, AreHops}
use Rattle.bus_runs.specs.Sofar.{HopsSofar}

-- ---- what passes a test

pub kept_more : (p : ℕ → Bool) (xs : List ℕ) (i : ℕ) (old new : List ℕ) → i < length xs → old ≡ filter p (take i xs) → p (get_or xs i 0) ≡ true
    → new ≡ old ++ get_or xs i 0 ∷ [] → new ≡ filter p (take (i + 1) xs)
kept_more p xs i old new below is pass more =
    more ∙ ap (λ l. l ++ get_or xs i 0 ∷ []) is ∙ ap (λ b. filter p (take i xs) ++ cond b (get_or xs i 0 ∷ []) []) (sym pass) ∙ sym (filter_more p xs i 0 below)

pub kept_same : (p : ℕ → Bool) (xs : List ℕ) (i : ℕ) (old : List ℕ) → i < length xs → old ≡ filter p (take i xs) → p (get_or xs i 0) ≡ false
    → old ≡ filter p (take (i + 1) xs)
kept_same p xs i old below is fail =
    is ∙ sym (append-nil (filter p (take i xs))) ∙ ap (λ b. filter p (take i xs) ++ cond b (get_or xs i 0 ∷ []) []) (sym fail) ∙ sym (filter_more p xs i 0 below)

-- ---- entries

entries_append : (xs ys : List ℕ) → entries_of (xs ++ ys) ≡ entries_of xs ++ entries_of ys
entries_append [] ys = refl
entries_append (x ∷ xs) ys = ap (λ l. Rattle.bus_runs.specs.Hops.entries_of (x ∷ []) ++ l) (entries_append xs ys)

pub hop_more : (ks : List ℕ) (i : ℕ) (old new : List BusEntry) → i < length ks → IsHopOf (take i ks) old
    → map entry_of new ≡ map entry_of old ++ entries_of (get_or ks i 0 ∷ []) → IsHopOf (take (i + 1) ks) new
hop_more ks i old new below is more =
    more ∙ ap (λ l. l ++ entries_of (get_or ks i 0 ∷ [])) is ∙ sym (entries_append (take i ks) (get_or ks i 0 ∷ [])) ∙ ap entries_of (sym (take_more ks i 0 below))

-- ---- hops

module _ (bus : Bus) (table : Table) (hops : List (List BusEntry)) (of homes : ℕ) (sofar : HopsSofar bus table hops of homes) (hop : List BusEntry) where
  before : (i : ℕ) → i < of + homes → get_or (hops ++ hop ∷ []) i [] ≡ get_or hops i []
  before i below = let many = sofar.many in get_or_append_left hops (hop ∷ []) [] i (omega arith)

  last : (i : ℕ) → of + homes ≡ i → get_or (hops ++ hop ∷ []) i [] ≡ hop
  last i is = get_or_push hops hop [] i (sofar.many ∙ is)

  pub initiator_more : homes ≡ 0 → IsHopOf (sent_by bus table of) hop → HopsSofar bus table (hops ++ hop ∷ []) (of + 1) 0
  initiator_more zero_is its = record {
    many = let many = sofar.many in let long = length-append hops (hop ∷ []) in omega arith;
    initiators = λ i less. elim (cases_lt i of) [
      | inl earlier ↦ subst (λ h. IsHopOf (sent_by bus table i) h) (sym (before i (omega arith))) (sofar.initiators i earlier)
      | inr from ↦
          let e : of ≡ i = omega arith in
          subst (λ n. IsHopOf (sent_by bus table n) (get_or (hops ++ hop ∷ []) i [])) e
          (subst (λ h. IsHopOf (sent_by bus table of) h) (sym (last i (omega arith))) its)
    ];
    targets = λ home less. absurd (omega arith);
  }

  pub target_more : IsTargetHop bus table homes hop → HopsSofar bus table (hops ++ hop ∷ []) of (homes + 1)
  target_more its = record {
    many = let many = sofar.many in let long = length-append hops (hop ∷ []) in omega arith;
    initiators = λ i less. subst (λ h. IsHopOf (sent_by bus table i) h) (sym (before i (omega arith))) (sofar.initiators i less);
    targets = λ home less. elim (cases_lt home homes) [
      | inl earlier ↦ subst (λ h. IsTargetHop bus table home h) (sym (before (of + home) (omega arith))) (sofar.targets home earlier)
      | inr from ↦
          let e : homes ≡ home = omega arith in
          subst (λ n. IsTargetHop bus table n (get_or (hops ++ hop ∷ []) (of + home) [])) e
          (subst (λ h. IsTargetHop bus table homes h) (sym (last (of + home) (omega arith))) its)
    ];
  }

pub no_hops : (bus : Bus) (table : Table) → HopsSofar bus table [] 0 0
no_hops bus table = record {
  many = refl;
  initiators = λ i less. absurd (omega arith);
  targets = λ home less. absurd (omega arith);
}

pub all_hops : (bus : Bus) (table : Table) (hops : List (List BusEntry)) → HopsSofar bus table hops (length bus.initiators) (length bus.targets) → AreHops bus table hops
all_hops bus table hops sofar = record { many = sofar.many; initiators = sofar.initiators; targets = sofar.targets }
