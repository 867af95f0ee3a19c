-- Which phase follows a notification phase.
use Rattle.std.proofs.Common.{◌≡◌, ◌≢◌, ◌||◌, ℕ, true, false, List, [], ◌∷◌, Option, None, Some, slice_get, sym, ap, ◌∙◌, refl, true≢false, eq-eqb, nat_cmp}
use Rattle.std.specs.FinSet as set
use Rattle.kernel_state.specs.ReadySet.Ready.{rising, IsLeast}
use Rattle.kernel_state.specs.SimModel.Waits.{holds}
use Rattle.kernel_state.specs.SimModel.Phases.{phase_after}
use Rattle.kernel_state.specs.SimModel.declared.plain.Phase.TheVariants as phase

holds_first : (p : ℕ) (ps : List ℕ) → holds (p ∷ ps) p ≡ true
holds_first p ps = ap (λ b. b || holds ps p) (eq-eqb p p refl)

pub nobody_runs : (ps : List ℕ) → ((q : ℕ) → holds ps q ≡ false) → phase.Timed ≡ phase_after ps
nobody_runs [] none = refl
nobody_runs (p ∷ ps) none = absurd (true≢false (sym (holds_first p ps) ∙ none p))

pub somebody_runs : (ps : List ℕ) (q : ℕ) → holds ps q ≡ true → phase.Evaluate ≡ phase_after ps
somebody_runs [] q some = absurd (true≢false (sym some))
somebody_runs (p ∷ ps) q some = refl

-- the first of those that are runnable is one of them
pub some_run : (s : set.FinSet nat_cmp) (ps : List ℕ) → ((q : ℕ) → set.contains s q ≡ holds ps q) → set.len s ≢ 0
    → ((t : set.FinSet nat_cmp) → slice_get (rising t) 0 ≡ None → t ≡ set.empty) → ((t : set.FinSet nat_cmp) (p : ℕ) → slice_get (rising t) 0 ≡ Some p → IsLeast t p)
    → phase.Evaluate ≡ phase_after ps
some_run s ps same some none least = by (slice_get (rising s) 0) refl
  where
    by : (o : Option ℕ) → slice_get (rising s) 0 ≡ o → phase.Evaluate ≡ phase_after ps
    by None is = absurd (some (ap set.len (none s is) ∙ set.len-empty nat_cmp))
    by (Some p) is = somebody_runs ps p (sym (same p) ∙ (least s p is).member)
