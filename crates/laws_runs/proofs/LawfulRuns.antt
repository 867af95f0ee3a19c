-- In every run of a sound design each history is lawful.
use Rattle.std.proofs.Common.{◌≡◌, ◌<◌, ◌⊎◌, ℕ, zero, suc, List, [], ◌∷◌, slice_get, get_or, map, replicate, length, unwrap_or, Contains, Option, Some, None, option_map, refl, sym, ap, ◌∙◌, subst, inl, inr, arith}
use Rattle.std.proofs.lemmas.Option.{none-some, same_Some, slice_get-map}
use Rattle.sim_model.specs.TransportPhases.declared.transaction.Open.TheVariants.{Nothing}
use Rattle.sim_model.specs.TransportPhases.History.{Entry, is_open}
use Rattle.sim_model.specs.TransportPhases.Lawful.{Lawful}
use Rattle.sim_model.proofs.TransportPhases.LawfulLemmas.{lawful_empty}
use Rattle.sim_model.specs.FlatDesign.Sound.{SoundDesign}
use Rattle.sim_model.specs.FlatDesign.declared.design.ProcessPart.{ProcessPart}
use Rattle.sim_model.specs.FlatDesign.declared.design.Hop.{Hop}
use Rattle.sim_model.specs.FlatDesign.declared.design.Design.{Design}
use Rattle.sim_model.specs.Unwinding.{left_by_unw}
use Rattle.sim_model.specs.Configuration.{Config, Instance, first_instance, instance_at, start}
use Rattle.sim_model.specs.Transport.{history}
use Rattle.sim_model.specs.Runs.{after}
use Rattle.sim_model.specs.declared.plain.Command.{Command}
use Rattle.sim_model.specs.declared.plain.Via.{Via}
use Rattle.laws_runs.proofs.GoalSteps.{start-sound}
use Rattle.laws_runs.proofs.GoalParts.{parts}
use Rattle.laws_runs.proofs.KeptRuns.{kept-after}
use Rattle.laws_runs.proofs.NestingFits.{In, contains-in}
use Rattle.laws_runs.proofs.MarkedRuns.{start-marked}
use Rattle.laws_runs.specs.OpenCalls.{IsInCall, call_of}
use Rattle.laws_runs.proofs.Histories.{Apart, Owner}
use Rattle.laws_runs.proofs.Vias.{Kinds}
use Rattle.laws_runs.proofs.ProtocolKept.{vias_at, calls_in, Protocol, Whole, whole-kept, whole-settled, whole-between, whole-taken}

first_calls : (d : Design) (o : Option ProcessPart) → vias_at (option_map (first_instance d) o) ≡ []
first_calls d None = refl
first_calls d (Some x) = refl

start_calls : (d : Design) (p : ℕ) → calls_in (map (first_instance d) d.processes) p ≡ []
start_calls d p = ap vias_at (slice_get-map (first_instance d) d.processes p) ∙ first_calls d (slice_get d.processes p)

first_kinds : (d : Design) (o : Option ProcessPart) (i : Instance) → option_map (first_instance d) o ≡ Some i → Kinds d i.residual
first_kinds d None i at = absurd (none-some i at)
first_kinds d (Some x) i at = subst (λ (j : Instance). Kinds d j.residual) (same_Some (first_instance d x) i at) tt

-- before the first command each history is empty
none_yet : (m n : ℕ) → unwrap_or (slice_get (replicate {A = List Entry} m []) n) [] ≡ []
none_yet zero n = refl
none_yet (suc m) zero = refl
none_yet (suc m) (suc n) = none_yet m n

one_each : (hops : List Hop) (n : ℕ) (x : Hop) → slice_get hops n ≡ Some x → slice_get (replicate {A = List Entry} (length hops) []) n ≡ Some []
one_each [] n x at = absurd (none-some x at)
one_each (y ∷ hops) zero x at = refl
one_each (y ∷ hops) (suc n) x at = one_each hops n x at

nothing_in : (v : Via) (vs : List Via) → vs ≡ [] → In v vs → ⊥
nothing_in v vs none h = subst (In v) none h

pub start-protocol : (d : Design) (script : List Command) → Protocol (parts (start d script))
start-protocol d script = record {
  hopped = record {
    lawful = λ hop. subst Lawful (sym (none_yet (length d.hops) hop)) lawful_empty;
    open_ = λ p v h. absurd (nothing_in v (calls_in (map (first_instance d) d.processes) p) (start_calls d p) h);
    own = λ p. subst Apart (sym (start_calls d p)) tt;
    across = λ p q v w apart a b. absurd (nothing_in v (calls_in (map (first_instance d) d.processes) p) (start_calls d p) a);
    owned = λ hop t. inl (subst (λ h. is_open h t ≡ Nothing) (sym (none_yet (length d.hops) hop)) refl);
  };
  many = λ hop h there. ([], one_each d.hops hop h there);
  kinds = λ p i at. first_kinds d (slice_get d.processes p) i (sym (slice_get-map (first_instance d) d.processes p) ∙ at);
}

module _ (d : Design) (script : List Command) (sound : SoundDesign d) (n : ℕ) (choices : List ℕ) (last : Config) (reached : after n choices (start d script) ≡ Some last) where
  whole_after : Whole (parts last)
  whole_after =
      kept-after Whole whole-kept whole-settled whole-between whole-taken n choices (start d script) last (start-sound d script sound)
      (record { marked = start-marked d script; protocol = start-protocol d script }) reached

  pub protocol-after : Protocol (parts last)
  protocol-after = whole_after.protocol

  pub lawful-after : (hop : ℕ) → Lawful (history last hop)
  lawful-after hop = protocol-after.hopped.lawful hop

  in_list : (v : Via) (vs : List Via) → Contains vs v → In v vs
  in_list v [] c = absurd (let within = c.1 in omega (arith, within))
  in_list v (w ∷ vs) c = by c.0 c.1 c.2 (in_list v vs)
    where
      by : (k : ℕ) → k < length (w ∷ vs) → get_or (w ∷ vs) k v ≡ v → (Contains vs v → In v vs) → (w ≡ v) ⊎ In v vs
      by zero lt is later = inl is
      by (suc k) lt is later = inr (later (k, omega (arith, lt), is))

  pub held-after : (p : ℕ) (i : Instance) (v : Via) → instance_at last p ≡ Some i → Contains (left_by_unw i.residual) v → is_open (history last v.hop) v.payload ≡ call_of v.blocking
  held-after p i v at c = (protocol-after.hopped.open_ p v (subst (λ o. In v (vias_at o)) (sym at) (in_list v (left_by_unw i.residual) c))).is_it

  caller_at : (hop t p : ℕ) (v : Via) (o : Option Instance) → instance_at last p ≡ o → In v (vias_at o) → v.hop ≡ hop → v.payload ≡ t → IsInCall last hop t
  caller_at hop t p v None at h a b = absurd h
  caller_at hop t p v (Some i) at h a b = record { serial = p; instance = i; is = at; call = v; stands = contains-in v (left_by_unw i.residual) h; over = a; of = b }

  pub owned-after : (hop t : ℕ) → (is_open (history last hop) t ≡ Nothing) ⊎ IsInCall last hop t
  owned-after hop t = by (protocol-after.hopped.owned hop t)
    where
      by : (is_open (history last hop) t ≡ Nothing) ⊎ Owner (calls_in last.processes.instances) hop t → (is_open (history last hop) t ≡ Nothing) ⊎ IsInCall last hop t
      by (inl none) = inl none
      by (inr o) = inr (caller_at hop t o.0 o.1 (instance_at last o.0) refl o.2 o.3 o.4)
