-- The ports and the hops that are listed.
use Rattle.std.proofs.Common.{◌≡◌, ℕ, zero, suc, ◌+◌, Bool, true, false, List, [], ◌∷◌, ◌++◌, map, take, refl, sym, ap, ◌∙◌, subst, inl, inr}
use Rattle.std.specs.Prelude.{Contains}
use Rattle.std.proofs.lemmas.List.Elements.{Contains-append_cases, Contains-append_left}
use Rattle.std.proofs.lemmas.List.{take-append-drop}
use Rattle.std.proofs.Common.{drop}
use Rattle.code_rules.specs.FlatDesign.declared.objects.Object.{Object}
use Rattle.code_rules.specs.FlatDesign.declared.objects.Objects.{Objects}
use Rattle.design_rules.specs.declared.bindings.BoundPort.{BoundPort}
use Rattle.design_rules.specs.declared.bindings.Joined.{Joined}
use Rattle.design_rules.specs.Paths.{ends_of, begins_path, Reaches, steps}
use Rattle.design_rules.specs.Bound.{is_port, port_if, ports_from, joined, hop_if, hops_from}
use Rattle.design_rules.proofs.Lists.{nothing_in, only_in, head_in, tail_in}
use Rattle.design_rules.proofs.Reached.{ends_reached}

module _ (os : Objects) where
  port_listed : (i : ℕ) (p : BoundPort) (b : Bool) → Contains (port_if os i b) p → p.channels ≡ ends_of os p.object
  port_listed i p false h = absurd (nothing_in p h)
  port_listed i p true h =
      let is = only_in p (record { object = i; channels = ends_of os i }) h in
      ap (λ (q : BoundPort). q.channels) is ∙ ap (λ (q : BoundPort). ends_of os q.object) (sym is)

  pub ports_listed : (i : ℕ) (xs : List Object) (p : BoundPort) → Contains (ports_from os i xs) p → p.channels ≡ ends_of os p.object
  ports_listed i [] p h = absurd (nothing_in p h)
  ports_listed i (o ∷ xs) p h =
      elim (Contains-append_cases (port_if os i (is_port o.form)) (ports_from os (i + 1) xs) p h) [
        | inl here ↦ port_listed i p (is_port o.form) here
        | inr there ↦ ports_listed (i + 1) xs p there
      ]

  pub channels_reached : (i : ℕ) (xs : List Object) (p : BoundPort) (c : ℕ) → Contains (ports_from os i xs) p → Contains p.channels c → Reaches os p.object c
  channels_reached i xs p c listed h = ends_reached os (steps os) p.object c (subst (λ (cs : List ℕ). Contains cs c) (ports_listed i xs p listed) h)

  joined_from : (i : ℕ) (ts : List ℕ) (h : Joined) → Contains (map (λ (t : ℕ). joined i t) ts) h → (h.initiator ≡ i) × Contains ts h.target
  joined_from i [] h at = absurd (nothing_in h at)
  joined_from i (t ∷ ts) h at =
      elim (Contains-append_cases (joined i t ∷ []) (map (λ (t : ℕ). joined i t) ts) h at) [
        | inl here ↦
            let is = only_in h (joined i t) here in
            (ap (λ (g : Joined). g.initiator) is, subst (λ (u : ℕ). Contains (t ∷ ts) u) (sym (ap (λ (g : Joined). g.target) is)) (head_in t ts))
        | inr there ↦ let w = joined_from i ts h there in (w.0, tail_in h.target t ts w.1)
      ]

  hop_listed : (i : ℕ) (h : Joined) (b : Bool) → Contains (hop_if os i b) h → Contains (ends_of os h.initiator) h.target
  hop_listed i h false at = absurd (nothing_in h at)
  hop_listed i h true at =
      let w = joined_from i (take 1 (ends_of os i)) h at in
      let there = Contains-append_left (take 1 (ends_of os i)) (drop 1 (ends_of os i)) h.target w.1 in
      subst (λ (j : ℕ). Contains (ends_of os j) h.target) (sym w.0) (subst (λ (ts : List ℕ). Contains ts h.target) (take-append-drop 1 (ends_of os i)) there)

  pub hops_listed : (i : ℕ) (xs : List Object) (h : Joined) → Contains (hops_from os i xs) h → Contains (ends_of os h.initiator) h.target
  hops_listed i [] h at = absurd (nothing_in h at)
  hops_listed i (o ∷ xs) h at =
      elim (Contains-append_cases (hop_if os i (begins_path o.form)) (hops_from os (i + 1) xs) h at) [
        | inl here ↦ hop_listed i h (begins_path o.form) here
        | inr there ↦ hops_listed (i + 1) xs h there
      ]

  pub targets_reached : (i : ℕ) (xs : List Object) (h : Joined) → Contains (hops_from os i xs) h → Reaches os h.initiator h.target
  targets_reached i xs h at = ends_reached os (steps os) h.initiator h.target (hops_listed i xs h at)
