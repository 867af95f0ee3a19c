-- Points that are joined.
use Rattle.std.proofs.Common.{◌≡◌, ◌++◌, ℕ, List, [], ◌∷◌, Some, None, refl, ap, ◌∙◌}
use Rattle.std.specs.List.{concat}
use Rattle.flat_design.specs.declared.design.Design.{Design}
use Rattle.laws_runs.specs.SimModel.Configuration.{Snapshot}
use Rattle.laws_runs.specs.SimModel.Trace.{header, vcd, all_values, each_later, first_values, later_values}
use Rattle.vcd_trace.specs.Points.{ArePoints}

later_joined : (before : Snapshot) (snapshots : List Snapshot) (points : List (List ℕ)) → ArePoints (Some before.values) snapshots points → concat points ≡ each_later before snapshots
later_joined before [] [] h = refl
later_joined before [] (p ∷ ps) h = absurd h
later_joined before (s ∷ more) [] h = absurd h
later_joined before (s ∷ more) (p ∷ ps) h =
    ap (λ (text : List ℕ). text ++ concat ps) (h.0 before refl) ∙ ap (λ (rest : List ℕ). later_values before s ++ rest) (later_joined s more ps h.1)

points_joined : (snapshots : List Snapshot) (points : List (List ℕ)) → ArePoints None snapshots points → concat points ≡ all_values snapshots
points_joined [] [] h = refl
points_joined [] (p ∷ ps) h = absurd h
points_joined (s ∷ more) [] h = absurd h
points_joined (s ∷ more) (p ∷ ps) h =
    ap (λ (text : List ℕ). text ++ concat ps) h.0 ∙ ap (λ (rest : List ℕ). first_values s ++ rest) (later_joined s more ps h.1)

pub all_joined : (d : Design) (snapshots : List Snapshot) (points : List (List ℕ)) → ArePoints None snapshots points → header d ++ concat points ≡ vcd d snapshots
all_joined d snapshots points h = ap (λ (text : List ℕ). header d ++ text) (points_joined snapshots points h)
