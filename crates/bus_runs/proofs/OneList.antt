-- Two lists of hops by one table are the same, and none of them breaks a rule.
use Rattle.std.proofs.Common.{◌≡◌, ℕ, ◌+◌, ◌-◌, ◌<◌, List, [], ◌∷◌, length, map, refl, sym, ap, ◌∙◌, subst, inl, inr, arith}
use Rattle.std.specs.Prelude.{filter}
use Rattle.std.proofs.lemmas.Bool.{cases_lt}
use Rattle.std.proofs.lemmas.List.{same_lists, get_or_default}
use Rattle.transport_phases.specs.History.{Entry}
use Rattle.transport_phases.specs.Unbroken.{Unbroken}
use Rattle.bus_runs.specs.Hops.{entries_of}
use Rattle.bus_runs.proofs.FourEntries.{never_broken}
use Rattle.bus_router.specs.TrafficFile.declared.Bus.{Bus}
use Rattle.bus_router.specs.Times.{Table}
use Rattle.bus_router.proofs.OneAnswer.{same_service}
use Rattle.bus_runs.specs.declared.entries.BusEntry.{BusEntry}
use Rattle.bus_runs.specs.declared.entries.BusEntry.TheVariants as entry
use Rattle.bus_runs.specs.Entries.{entry_of, IsHopOf, is_routed, sent_by, IsTargetHop, AreHops}
use Rattle.bus_runs.specs.Own.{hop_at}

same_entry : (x y : BusEntry) → entry_of x ≡ entry_of y → x ≡ y
same_entry (entry.Call p path phase complete handled) (entry.Call q path' phase' complete' handled') is = cc
same_entry (entry.Call p path phase complete handled) (entry.Return q status phase' complete') is = cc
same_entry (entry.Return p status phase complete) (entry.Call q path' phase' complete' handled') is = cc
same_entry (entry.Return p status phase complete) (entry.Return q status' phase' complete') is = cc

same_first : (a b : Entry) (more others : List Entry) → a ∷ more ≡ b ∷ others → a ≡ b
same_first a b more others is = cc

same_later : (a b : Entry) (more others : List Entry) → a ∷ more ≡ b ∷ others → more ≡ others
same_later a b more others is = cc

same_entries : (xs ys : List BusEntry) → map entry_of xs ≡ map entry_of ys → xs ≡ ys
same_entries [] [] is = refl
same_entries [] (y ∷ ys) is = cc
same_entries (x ∷ xs) [] is = cc
same_entries (x ∷ xs) (y ∷ ys) is =
    ap (λ e. e ∷ xs) (same_entry x y (same_first (entry_of x) (entry_of y) (map entry_of xs) (map entry_of ys) is))
    ∙ ap (λ l. y ∷ l) (same_entries xs ys (same_later (entry_of x) (entry_of y) (map entry_of xs) (map entry_of ys) is))

module _ (bus : Bus) (table : Table) where
  same_target : (home : ℕ) (one other : List BusEntry) → IsTargetHop bus table home one → IsTargetHop bus table home other → one ≡ other
  same_target home one other first second = same_entries one other (
      first.entries
      ∙ ap (λ ks. entries_of (filter (is_routed table) ks)) (same_service bus table home first.ks second.ks first.order second.order)
      ∙ sym second.entries
      )

  -- a hop is that of an initiator or of a target
  module _ (hops : List (List BusEntry)) (all : AreHops bus table hops) (P : ℕ → Type 0)
      (of_initiator : (i : ℕ) → i < length bus.initiators → P i) (of_target : (home : ℕ) → home < length bus.targets → P (length bus.initiators + home)) where
    pub each_hop : (h : ℕ) → h < length hops → P h
    each_hop h below = elim (cases_lt h (length bus.initiators)) [
      | inl less ↦ of_initiator h less
      | inr from ↦
          let many = all.many in
          let e : length bus.initiators + (h - length bus.initiators) ≡ h = omega arith in
          subst P e (of_target (h - length bus.initiators) (omega arith))
    ]

  pub same_hops : (one other : List (List BusEntry)) → AreHops bus table one → AreHops bus table other → one ≡ other
  same_hops one other first second = same_lists one other (first.many ∙ sym second.many) (λ h d below.
      get_or_default one h d [] below
      ∙ each_hop one first (λ n. hop_at one n ≡ hop_at other n)
      (λ i less. same_entries (hop_at one i) (hop_at other i) (first.initiators i less ∙ sym (second.initiators i less)))
      (λ home less. same_target home (hop_at one (length bus.initiators + home)) (hop_at other (length bus.initiators + home)) (first.targets home less) (second.targets home less))
      h below
      ∙ get_or_default other h [] d (let many = first.many in let also = second.many in omega arith))

  unbroken_hop : (ks : List ℕ) (hop : List BusEntry) → IsHopOf ks hop → Unbroken (map entry_of hop)
  unbroken_hop ks hop is = subst Unbroken (sym is) (never_broken ks)

  pub unbroken_hops : (hops : List (List BusEntry)) → AreHops bus table hops → (h : ℕ) → h < length hops → Unbroken (map entry_of (hop_at hops h))
  unbroken_hops hops all = each_hop hops all (λ n. Unbroken (map entry_of (hop_at hops n)))
      (λ i less. unbroken_hop (sent_by bus table i) (hop_at hops i) (all.initiators i less))
      (λ home less. let its = all.targets home less in unbroken_hop (filter (is_routed table) its.ks) (hop_at hops (length bus.initiators + home)) its.entries)
