-- What each instance of a run has to be: its body is one of the design, what is left of it stands there, and a goal is only on
-- the stack; and that instances keep to it while one of them moves.
use Rattle.std.proofs.Common.{◌≡◌, ◌≢◌, ◌<◌, ℕ, true, List, slice_get, Option, Some, None, refl, sym, ap, ◌∙◌, subst, ⊎_elim}
use Rattle.std.proofs.lemmas.Bool.{cases_eq}
use Rattle.sim_model.specs.FlatDesign.Code.{body_at}
use Rattle.sim_model.specs.FlatDesign.Sound.{IsHomeOf}
use Rattle.sim_model.specs.FlatDesign.declared.code.CodeBody.{CodeBody}
use Rattle.sim_model.specs.FlatDesign.declared.design.Design.{Design}
use Rattle.sim_model.specs.Residual.{Residual, has_goal}
use Rattle.sim_model.specs.Configuration.{Instance, Processes, change}
use Rattle.sim_model.specs.Clean.{times}
use Rattle.laws_runs.proofs.Changes.{change-here, change-other, change-none}
use Rattle.laws_runs.specs.Standing.{code_of, IsStanding}

pub record Fine (d : Design) (i : Instance) (s : ℕ) : Type 0 where
  pub body : CodeBody
  pub found : body_at (code_of d) i.code ≡ Some body
  pub home_of : IsHomeOf d i.home body
  pub standing : IsStanding d i.home i.residual
  pub active : has_goal i.residual ≡ true → 0 < s

abbrev pub FineAt : Design → Option Instance → ℕ → Type 0
FineAt d None s = Unit {0}
FineAt d (Some i) s = Fine d i s

abbrev pub AllFine : Design → Processes → Type 0
AllFine d ps = (p : ℕ) → FineAt d (slice_get ps.instances p) (times p ps.stack)

pub fine-at : (d : Design) (ps : Processes) (p : ℕ) (i : Instance) → slice_get ps.instances p ≡ Some i → AllFine d ps → Fine d i (times p ps.stack)
fine-at d ps p i at fine = subst (λ o. FineAt d o (times p ps.stack)) at (fine p)

-- ---- one that has the same body, home and residual, or another residual that stands

changed_none : (xs : List Instance) (n : ℕ) (f : Instance → Instance) → slice_get xs n ≡ None → slice_get (change xs n f) n ≡ None
changed_none xs n f at = ap (λ is. slice_get is n) (change-none xs n f at) ∙ at

fine_more : (d : Design) (o : Option Instance) (s t : ℕ) → (0 < s → 0 < t) → FineAt d o s → FineAt d o t
fine_more d None s t more f = tt
fine_more d (Some i) s t more f = record { body = f.body; found = f.found; home_of = f.home_of; standing = f.standing; active = λ e. more (f.active e) }

-- the stack alone is another one
pub stack-fine : (d : Design) (ps : Processes) (runnable stack : List ℕ) → ((p : ℕ) → 0 < times p ps.stack → 0 < times p stack) → AllFine d ps → AllFine d (record { runnable = runnable; stack = stack; instances = ps.instances; parents = ps.parents })
stack-fine d ps runnable stack more fine p = fine_more d (slice_get ps.instances p) (times p ps.stack) (times p stack) (more p) (fine p)

-- p becomes f of it, and the stack is another one on which all others stand as often
module _ (d : Design) (ps : Processes) (p : ℕ) (f : Instance → Instance) (runnable stack : List ℕ) where
  moved_here : (o : Option Instance) → slice_get ps.instances p ≡ o → ((i : Instance) → slice_get ps.instances p ≡ Some i → Fine d i (times p ps.stack) → Fine d (f i) (times p stack)) → FineAt d o (times p ps.stack)
      → FineAt d (slice_get (change ps.instances p f) p) (times p stack)
  moved_here None at becomes fine = subst (λ o. FineAt d o (times p stack)) (sym (changed_none ps.instances p f at)) tt
  moved_here (Some i) at becomes fine = subst (λ o. FineAt d o (times p stack)) (sym (change-here ps.instances p f i at)) (becomes i at fine)

  pub moved-fine : ((q : ℕ) → q ≢ p → 0 < times q ps.stack → 0 < times q stack) → ((i : Instance) → slice_get ps.instances p ≡ Some i → Fine d i (times p ps.stack) → Fine d (f i) (times p stack)) → AllFine d ps
      → AllFine d (record { runnable = runnable; stack = stack; instances = change ps.instances p f; parents = ps.parents })
  moved-fine others becomes fine q = ⊎_elim same other (cases_eq q p)
    where
      same : q ≡ p → FineAt d (slice_get (change ps.instances p f) q) (times q stack)
      same e = subst (λ n. FineAt d (slice_get (change ps.instances p f) n) (times n stack)) (sym e) (moved_here (slice_get ps.instances p) refl becomes (fine p))

      other : q ≢ p → FineAt d (slice_get (change ps.instances p f) q) (times q stack)
      other apart =
          subst (λ o. FineAt d o (times q stack)) (sym (change-other ps.instances p q f apart))
          (fine_more d (slice_get ps.instances q) (times q ps.stack) (times q stack) (others q apart) (fine q))

-- another instance with the same body, home and residual
pub record Same (i j : Instance) : Type 0 where
  pub home : j.home ≡ i.home
  pub code : j.code ≡ i.code
  pub residual : j.residual ≡ i.residual

pub same-fine : (d : Design) (i j : Instance) (s t : ℕ) → Same i j → (0 < s → 0 < t) → Fine d i s → Fine d j t
same-fine d i j s t e more f = record {
  body = f.body;
  found = ap (body_at (code_of d)) e.code ∙ f.found;
  home_of = subst (λ h. IsHomeOf d h f.body) (sym e.home) f.home_of;
  standing = subst (λ r. IsStanding d j.home r) (sym e.residual) (subst (λ h. IsStanding d h i.residual) (sym e.home) f.standing);
  active = λ g. more (f.active (sym (ap has_goal e.residual) ∙ g));
}

-- the same instance with another residual
pub residual-fine : (d : Design) (i j : Instance) (s t : ℕ) (x : Residual) → j.home ≡ i.home → j.code ≡ i.code → j.residual ≡ x → IsStanding d i.home x → (has_goal x ≡ true → 0 < t) → Fine d i s → Fine d j t
residual-fine d i j s t x home code is standing active f = record {
  body = f.body;
  found = ap (body_at (code_of d)) code ∙ f.found;
  home_of = subst (λ h. IsHomeOf d h f.body) (sym home) f.home_of;
  standing = subst (λ r. IsStanding d j.home r) (sym is) (subst (λ h. IsStanding d h x) (sym home) standing);
  active = λ g. active (sym (ap has_goal is) ∙ g);
}
