-- What each step adds to the snapshots: no move adds one, and now moves at the start of a step or not at all.
use Rattle.std.proofs.Common.{◌≡◌, ◌==◌, ◌++◌, ℕ, suc, Bool, true, false, cond, List, [], ◌∷◌, map, slice_get, Option, Some, None, refl, sym, ap, ◌∙◌, subst, append-nil, eq-eqb}
use Rattle.std.proofs.lemmas.Option.{none-some, same_Some}
use Rattle.sim_model.specs.FlatDesign.declared.design.Design.{Design}
use Rattle.sim_model.specs.FlatDesign.declared.design.Visible.{Visible}
use Rattle.sim_model.specs.FlatDesign.declared.design.VisibleId.{VisibleId}
use Rattle.sim_model.specs.FlatDesign.declared.design.VisibleId.TheVariants as visible_id
use Rattle.sim_model.specs.FlatDesign.declared.design.ProcessPart.{ProcessPart}
use Rattle.sim_model.specs.Unwinding.{left_by_raise, left_by_unw}
use Rattle.sim_model.specs.Configuration.{Config, Channels, Snapshot, Instance, change_instance, instance_at, with_runnable}
use Rattle.sim_model.specs.Waits.{freed, holds}
use Rattle.sim_model.specs.Reading.{signal_value, resolved_value}
use Rattle.sim_model.specs.Calls.{with_entry, with_left, runnable_unless}
use Rattle.sim_model.specs.Control.{is_top}
use Rattle.sim_model.specs.Phases.{initialize_each, unchanged, visible_value, visible_values}
use Rattle.sim_model.specs.Steps.{went, step, instance_taken, taken_if, taking}
use Rattle.sim_model.specs.declared.plain.Via.{Via}
use Rattle.laws_runs.specs.Moves.{throwing, injecting, unwinding, spawning, StepMoves, in_turn, between, initializing, moving_now}
use Rattle.laws_runs.proofs.MovesKeep.{EachKeeps, moves-keep}
use Rattle.laws_runs.proofs.RunSteps.{step-moves}
use Rattle.laws_runs.specs.AddedStanding.{seen_at, added}

-- ---- no move changes the design, the time or the snapshots

module _ (x : Design) (now : ℕ) (ss : List Snapshot) where
  abbrev Stays : Config → Type 0
  Stays c = (c.design ≡ x) × (c.cycle.now ≡ now) × (c.trace.snapshots ≡ ss)

  stays_if : (b : Bool) (c d : Config) → Stays c → Stays d → Stays (cond b c d)
  stays_if true c d one two = one
  stays_if false c d one two = two

  left_stays : (vias : List Via) (c : Config) → Stays c → Stays (with_left c vias)
  left_stays [] c s = s
  left_stays (via ∷ more) c s = left_stays more (with_entry c via.hop _) s

  unless_stays : (b : Bool) (q : ℕ) (c : Config) → Stays c → Stays (runnable_unless b q c)
  unless_stays true q c s = s
  unless_stays false q c s = s

  each_stays : (w : Option ℕ) → EachKeeps w Stays
  each_stays w c (throwing p r e) may s = left_stays (left_by_raise r e) _ s
  each_stays w c (injecting q i e) may s = left_stays (left_by_raise i.residual e) _ s
  each_stays w c (unwinding q i k) may s = left_stays (left_by_unw i.residual) _ (stays_if (is_top c q) _ _ s s)
  each_stays w c (spawning p r h y args) may s = unless_stays y.dont_initialize _ _ s
  each_stays w c other may s = s

  initialize_stays : (p : ℕ) (xs : List ProcessPart) (c : Config) → Stays c → Stays (initialize_each p xs c)
  initialize_stays p [] c s = s
  initialize_stays p (y ∷ ys) c s =
      stays_if y.dont_initialize (initialize_each (suc p) ys c) (initialize_each (suc p) ys (with_runnable (change_instance c p freed) (c.processes.runnable ++ p ∷ [])))
      (initialize_stays (suc p) ys c s) (initialize_stays (suc p) ys _ s)

  taken_stays : (c : Config) (p : ℕ) (o : Option Instance) → Stays c → Stays (instance_taken c p o)
  taken_stays c p None s = s
  taken_stays c p (Some i) s = stays_if i.started _ _ s s

-- ---- the values that are seen are those of the channels, whatever changed last

value_still : (c d : Config) (v : VisibleId) → d.channels ≡ unchanged c.channels → visible_value d v ≡ visible_value c v
value_still c d (visible_id.Signal n) same = ap (λ (x : Channels). signal_value (slice_get x.signals n)) same
value_still c d (visible_id.Resolved n) same = ap (λ (x : Channels). resolved_value (slice_get x.resolved n)) same

each_value : (c d : Config) (vs : List Visible) → ((v : VisibleId) → visible_value d v ≡ visible_value c v) → map (λ (v : Visible). visible_value d v.id) vs ≡ map (λ (v : Visible). visible_value c v.id) vs
each_value c d [] same = refl
each_value c d (v ∷ vs) same = ap (λ x. x ∷ map (λ (v : Visible). visible_value d v.id) vs) (same v.id) ∙ ap (λ xs. visible_value c v.id ∷ xs) (each_value c d vs same)

values_still : (c d : Config) → d.design ≡ c.design → d.channels ≡ unchanged c.channels → visible_values d ≡ visible_values c
values_still c d design same =
    ap (λ (x : Design). map (λ (v : Visible). visible_value d v.id) x.visible) design ∙ each_value c d c.design.visible (λ v. value_still c d v same)

-- ---- what a step adds

abbrev Adds : Config → Config → Type 0
Adds c d = d.trace.snapshots ≡ c.trace.snapshots ++ added c d

adds_none : (c d : Config) → Stays c.design c.cycle.now c.trace.snapshots d → Adds c d
adds_none c d s =
    s.2 ∙ sym (append-nil c.trace.snapshots)
    ∙ sym (ap (λ b. c.trace.snapshots ++ cond b [] (seen_at c.cycle.now d ∷ [])) (eq-eqb d.cycle.now c.cycle.now s.1))

adds_one : (c d : Config) (t : ℕ) → (t == c.cycle.now) ≡ false → d.channels ≡ unchanged c.channels → Stays c.design t (c.trace.snapshots ++ seen_at c.cycle.now c ∷ []) d → Adds c d
adds_one c d t apart same s =
    s.2
    ∙ ap (λ vs. c.trace.snapshots ++ (record { time = c.cycle.now; values = vs }) ∷ []) (sym (values_still c d s.0 same))
    ∙ sym (ap (λ b. c.trace.snapshots ++ cond b [] (seen_at c.cycle.now d ∷ [])) (ap (λ n. n == c.cycle.now) s.1 ∙ apart))

moves_add : (c d : Config) → StepMoves c d → Adds c d
moves_add c _ (in_turn p rest i d now top at ms is) = adds_none c d (moves-keep (Some p) (Stays c.design c.cycle.now c.trace.snapshots) (each_stays _ _ _ (Some p)) _ d ms (refl, refl, refl))
moves_add c _ (between d later ms) = adds_none c d (moves-keep None (Stays c.design c.cycle.now c.trace.snapshots) (each_stays _ _ _ None) c d ms (refl, refl, refl))
moves_add c _ (initializing d e now ms same cycle more later) =
    let P = Stays c.design c.cycle.now c.trace.snapshots in
    let each = each_stays c.design c.cycle.now c.trace.snapshots None in
    adds_none c e (moves-keep None P each _ e more (initialize_stays _ _ _ 0 c.design.processes d (moves-keep None P each c d ms (refl, refl, refl))))
moves_add c _ (moving_now t d now apart ms same) =
    adds_one c d t apart same (moves-keep None (Stays c.design t (c.trace.snapshots ++ seen_at c.cycle.now c ∷ [])) (each_stays _ _ _ None) _ d ms (refl, refl, refl))

pub steps-add : (c d : Config) → step c ≡ went d → Adds c d
steps-add c d to = moves_add c d (step-moves c d to)

-- ---- the takings

taken_if_stays : (c d : Config) (p : ℕ) (b : Bool) → taken_if c p b ≡ Some d → Stays c.design c.cycle.now c.trace.snapshots d
taken_if_stays c d p true to =
    subst (Stays c.design c.cycle.now c.trace.snapshots) (same_Some _ d to) (taken_stays c.design c.cycle.now c.trace.snapshots c p (instance_at c p) (refl, refl, refl))
taken_if_stays c d p false to = absurd (none-some d to)

pub takings-stay : (c d : Config) (p : ℕ) → taking c p ≡ Some d → Stays c.design c.cycle.now c.trace.snapshots d
takings-stay c d p to = taken_if_stays c d p (holds c.processes.runnable p) to
