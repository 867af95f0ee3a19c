-- The moves of instances in a sound design.
use Rattle.std.proofs.Common.{◌≡◌, ◌≢◌, ◌<◌, ℕ, Bool, true, false, cond, List, ◌∷◌, drop, Some, refl, sym, ap, ◌∙◌, subst, arith, true≢false}
use Rattle.std.proofs.lemmas.Option.{same_Some}
use Rattle.sim_model.specs.LogicValues.declared.kinds.Value.{Value}
use Rattle.sim_model.specs.FlatDesign.Sound.{SoundDesign}
use Rattle.sim_model.specs.Residual.{Residual, in_innermost, has_goal}
use Rattle.sim_model.specs.Configuration.{Config, Instance, change_instance, instance_at, with_residual}
use Rattle.sim_model.specs.Waits.{leaves_stack}
use Rattle.sim_model.specs.Storing.{with_local, set_local}
use Rattle.sim_model.specs.Clean.{times}
use Rattle.laws_runs.proofs.Times.{times-here, times-other}
use Rattle.laws_runs.specs.Standing.{IsStanding}
use Rattle.laws_runs.proofs.BodiesKept.{local-standing}
use Rattle.laws_runs.proofs.Tight.{goal-local}
use Rattle.laws_runs.proofs.Fine.{Fine, AllFine, Same, moved-fine, same-fine, residual-fine}

abbrev pub Sound : Config → Type 0
Sound c = SoundDesign c.design × AllFine c.design c.processes

-- ---- answers

pub sound-if : (b : Bool) (c d : Config) → Sound c → Sound d → Sound (cond b c d)
sound-if true c d one two = one
sound-if false c d one two = two

-- ---- instances that stay where they are

pub same-sound : (c : Config) (p : ℕ) (f : Instance → Instance) → ((i : Instance) → Same i (f i)) → Sound c → Sound (change_instance c p f)
same-sound c p f same h = (
  h.0,
  moved-fine c.design c.processes p f c.processes.runnable c.processes.stack (λ q apart n. n)
      (λ i at fine. same-fine c.design i (f i) (times p c.processes.stack) (times p c.processes.stack) (same i) (λ n. n) fine) h.1,
)

pub local-sound : (c : Config) (p n : ℕ) (v : Value) → Sound c → Sound (set_local c p n v)
local-sound c p n v h = (
  h.0,
  moved-fine c.design c.processes p _ c.processes.runnable c.processes.stack (λ q apart m. m)
      (λ i at f. residual-fine c.design i _ (times p c.processes.stack) (times p c.processes.stack) (in_innermost (with_local n v) i.residual) refl refl refl
      (local-standing n v c.design i.home i.residual f.standing) (λ g. f.active (sym (goal-local (with_local n v) i.residual) ∙ g)) f) h.1,
)

-- ---- the residual of an instance of which more is known

pub residual-sound : (c : Config) (p : ℕ) (i : Instance) (x : Residual) → instance_at c p ≡ Some i → IsStanding c.design i.home x → (has_goal x ≡ true → 0 < times p c.processes.stack) → Sound c → Sound (with_residual c p x)
residual-sound c p i x at standing active h = (
  h.0,
  moved-fine c.design c.processes p _ c.processes.runnable c.processes.stack (λ q apart m. m)
      (λ j there f. residual-fine c.design j _ (times p c.processes.stack) (times p c.processes.stack) x refl refl refl
      (subst (λ (k : Instance). IsStanding c.design k.home x) (same_Some i j (sym at ∙ there)) standing) active f) h.1,
)

-- ---- the instance on top leaves the stack

others_stay : (p q : ℕ) (stack rest : List ℕ) → stack ≡ p ∷ rest → q ≢ p → 0 < times q stack → 0 < times q (drop 1 stack)
others_stay p q stack rest top apart n =
    let a = ap (times q) top ∙ times-other q p rest (λ same. apart (sym same)) in
    let b = ap (λ s. times q (drop 1 s)) top in
    omega (arith, n, a, b)

pub leaves-sound : (c : Config) (p : ℕ) (rest : List ℕ) → c.processes.stack ≡ p ∷ rest → (f : Instance → Instance)
    → ((i : Instance) → instance_at c p ≡ Some i → (f i).home ≡ i.home) → ((i : Instance) → instance_at c p ≡ Some i → (f i).code ≡ i.code)
    → ((i : Instance) → instance_at c p ≡ Some i → Fine c.design i (times p c.processes.stack) → IsStanding c.design i.home (f i).residual × (has_goal (f i).residual ≡ false))
    → Sound c → Sound (leaves_stack (change_instance c p f))
leaves-sound c p rest top f home code standing h = (
  h.0,
  moved-fine c.design c.processes p f c.processes.runnable (drop 1 c.processes.stack) (λ q apart n. others_stay p q c.processes.stack rest top apart n)
      (λ i at fine. let st = standing i at fine in
      residual-fine c.design i (f i) (times p c.processes.stack) (times p (drop 1 c.processes.stack)) (f i).residual (home i at) (code i at) refl st.0 (λ g. absurd (true≢false (sym g ∙ st.1))) fine) h.1,
)

-- on top it stands on the stack
pub top-active : (c : Config) (p : ℕ) (rest : List ℕ) → c.processes.stack ≡ p ∷ rest → 0 < times p c.processes.stack
top-active c p rest top = let a = ap (times p) top ∙ times-here p rest in omega (arith, a)
