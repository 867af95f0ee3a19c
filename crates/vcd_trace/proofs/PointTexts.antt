-- One more point of a trace.
use Rattle.std.proofs.Common.{◌≡◌, ◌++◌, ℕ, List, [], ◌∷◌, Option, Some, refl, sym, ap, ◌∙◌, subst, append-nil, append_assoc}
use Rattle.laws_runs.specs.LogicValues.declared.kinds.Value.{Value}
use Rattle.laws_runs.specs.SimModel.Configuration.{Config, Snapshot}
use Rattle.laws_runs.specs.SimModel.Phases.{visible_values}
use Rattle.laws_runs.specs.SimModel.Trace.{first_values, later_values, each_later, all_values}
use Rattle.laws_runs.specs.AddedStanding.{seen_at}
use Rattle.vcd_trace.specs.Points.{IsPoint, snapshot_of}
use Rattle.vcd_trace.specs.Traced.{last_seen}

later_then : (x s : Snapshot) (more : List Snapshot) (text : List ℕ) → IsPoint (last_seen (x ∷ more)) s text → each_later x (more ++ s ∷ []) ≡ each_later x more ++ text
later_then x s [] text is = append-nil (later_values x s) ∙ sym (is x refl)
later_then x s (y ∷ more) text is =
    ap (λ t. later_values x y ++ t) (later_then y s more text is) ∙ sym (append_assoc (later_values x y) (each_later y more) text)

all_then : (snapshots : List Snapshot) (s : Snapshot) (text : List ℕ) → IsPoint (last_seen snapshots) s text → all_values (snapshots ++ s ∷ []) ≡ all_values snapshots ++ text
all_then [] s text is = append-nil (first_values s) ∙ sym is
all_then (x ∷ more) s text is = ap (λ t. first_values x ++ t) (later_then x s more text is) ∙ sym (append_assoc (first_values x) (each_later x more) text)

last_then : (snapshots : List Snapshot) (s : Snapshot) → last_seen (snapshots ++ s ∷ []) ≡ Some s.values
last_then [] s = refl
last_then (x ∷ []) s = refl
last_then (x ∷ y ∷ more) s = last_then (y ∷ more) s

module _ (c : Config) (before : List Snapshot) (last : Option (List Value)) (values : List Value) (t : ℕ) (keeps : last ≡ last_seen before) (seen : values ≡ visible_values c) where
  pub point-adds : (text : List ℕ) → IsPoint last (snapshot_of t values) text → all_values (before ++ seen_at t c ∷ []) ≡ all_values before ++ text
  point-adds text is =
      all_then before (seen_at t c) text (subst (λ o. IsPoint o (seen_at t c) text) keeps (subst (λ vs. IsPoint last (snapshot_of t vs) text) seen is))

  pub point-keeps : Some values ≡ last_seen (before ++ seen_at t c ∷ [])
  point-keeps = ap Some seen ∙ sym (last_then before (seen_at t c))
