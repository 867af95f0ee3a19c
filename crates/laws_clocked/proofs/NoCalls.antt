-- Where a thread is behind the wait of a tick that stands in no function's body, no call is open in what is left of its own body.
use Rattle.std.proofs.Common.{◌≡◌, ℕ, zero, false, List, ◌∷◌, [], Some, None, refl, subst, arith}
use Rattle.laws_runs.specs.FlatDesign.Code as code
use Rattle.laws_runs.specs.FlatDesign.Code.{body_at}
use Rattle.laws_runs.specs.FlatDesign.Reach.{deeper}
use Rattle.laws_runs.specs.FlatDesign.Sound.{SoundDesign}
use Rattle.laws_runs.specs.FlatDesign.declared.code.BodyKind.TheVariants as body_kind
use Rattle.laws_runs.specs.FlatDesign.declared.code.CodeBody.{CodeBody}
use Rattle.laws_runs.specs.FlatDesign.declared.design.Design.{Design}
use Rattle.laws_runs.specs.FlatDesign.declared.value_types.ValueType.TheVariants as type
use Rattle.laws_runs.specs.ModelTree.declared.expressions.BinaryOp.TheVariants as op
use Rattle.laws_runs.specs.SimModel.Residual.{Residual, Frame, settle, innermost}
use Rattle.laws_runs.specs.SimModel.Configuration.{Config, arena, start}
use Rattle.laws_runs.specs.SimModel.Runs.{after}
use Rattle.laws_runs.specs.SimModel.declared.plain.Command.{Command}
use Rattle.laws_runs.specs.Standing.{code_of}
use Rattle.laws_clocked.specs.Spots.{Shows, itself, followed_by, guarded, tried, called}
use Rattle.laws_clocked.specs.Ticks.{Tick, HasTick, IsInNoFunction, behind, count_of, left_at, checking}
use Rattle.laws_clocked.specs.Turns.{IsBehindWait}
use Rattle.laws_clocked.specs.Again.{Around, trying}
use Rattle.laws_clocked.proofs.Going.{bare-statements}
use Rattle.laws_clocked.proofs.Placed.{Placed, settle-placed}
use Rattle.laws_clocked.proofs.PlacedMoves.{placed-after}
use Rattle.laws_clocked.proofs.Uncaught.{shows-in_try}

-- what shows of what is left of a body stands in no call, where it stands in the body of no function
module _ (d : Design) (x : Residual) (none : innermost x ≡ None) (outside : (g : ℕ) → ((b : CodeBody) → body_at (code_of d) g ≡ Some b → b.kind ≡ body_kind.Function) → Placed d false (Some g) x → ⊥) where
  bare_shows : (f : ℕ) (r : Residual) → Shows x r → Placed d false (Some f) r → (innermost r ≡ None) × Placed d false (Some f) x
  bare_shows f _ itself h = (none, h)
  bare_shows f _ (followed_by r ss s) h = bare_shows f r s h.0
  bare_shows f _ (guarded r g u s) h = bare_shows f r s h.0
  bare_shows f _ (tried r handlers s) h = bare_shows f r s h.0
  bare_shows f _ (called r y s) h = absurd (outside y.body h.1.1 (bare_shows y.body r s h.2).1)

module _ (d : Design) (t : Tick) (is : HasTick (code_of d) t) (apart : IsInNoFunction (code_of d) t) where
  outside_functions : (g : ℕ) → ((b : CodeBody) → body_at (code_of d) g ≡ Some b → b.kind ≡ body_kind.Function) → Placed d false (Some g) (left_at t (checking t.tests)) → ⊥
  outside_functions g function h =
      let n = h.1.0 in
      let loop = code.while_ (code.binary op.Greater (type.Uint is.zero_width) (count_of t) (code.literal is.zero)) t.round in
      let stands = n.stands loop is.loops in
      apart g n.body n.is_body.found (function n.body n.is_body.found) (deeper n.body.block stands.block t.round loop stands.inside stands.stands (zero, omega arith, refl))

  none_open : (b : Around) (x : Frame) (r : Residual) → Shows (left_at t (checking t.tests)) (trying b x r) → Placed d false None (trying b x r) → innermost r ≡ None
  none_open b x r shows h =
      (bare_shows d (left_at t (checking t.tests)) (bare-statements (behind t t.tests)) outside_functions x.body r (shows-in_try (behind t t.tests) (t.loops ∷ []) b x r shows) h.2.0.0).0

module _ (design : Design) (script : List Command) (sound : SoundDesign design) (steps : ℕ) (chosen : List ℕ) (c : Config) (reached : after steps chosen (start design script) ≡ Some c) (p : ℕ) where
  pub no-call : (t : Tick) → HasTick (arena c) t → IsInNoFunction (arena c) t → (w : IsBehindWait c p t) → (b : Around) (x : Frame) (r : Residual) → settle (arena c) w.instance.residual ≡ trying b x r → innermost r ≡ None
  no-call t is apart w b x r left =
      let good = placed-after design script sound steps chosen c reached in
      none_open c.design t is apart b x r
      (subst (λ y. Shows (left_at t (checking t.tests)) y) left w.shows)
      (subst (Placed c.design false None) left (settle-placed c.design false None w.instance.residual (good.1 p w.instance w.at)))
