-- Marks are only added, and instances stay.
use Rattle.std.proofs.Common.{◌≡◌, ℕ, List, [], ◌∷◌, ◌++◌, length, slice_get, Some, option_map, ap, ◌∙◌, subst, append_assoc, ⊎_elim}
use Rattle.std.proofs.lemmas.Bool.{cases_eq}
use Rattle.std.proofs.lemmas.Option.{slice_get-map}
use Rattle.sim_model.specs.Residual.{Mark}
use Rattle.sim_model.specs.Configuration.{Instance, change}
use Rattle.laws_runs.proofs.Changes.{change-here, change-other, last-here, last-other}
use Rattle.laws_runs.proofs.GoalParts.{Parts, IsKept, IsSettled, IsKeptBetween, IsKeptByTakings}

module _ (ms : List Mark) where
  -- the marks are these and some more
  abbrev pub Grown : Parts → Type 0
  Grown x = (more : List Mark) × (x.marks ≡ ms ++ more)

  added : (x : Parts) (more : List Mark) → Grown x → (more_ : List Mark) × (x.marks ++ more ≡ ms ++ more_)
  added x more h = (h.0 ++ more, ap (λ ns. ns ++ more) h.1 ∙ append_assoc ms h.0 more)

  pub grown-settled : (p : ℕ) → IsSettled p Grown
  grown-settled p x i at h = added x _ h

  pub grown-kept : (p : ℕ) → IsKept p Grown
  grown-kept p = record {
    same = λ x q f alike h. h;
    leaves = λ x more top none h. h;
    pushes = λ x q more top off h. h;
    passes = λ x i r at may h. h;
    puts = λ x i r n at next new is_new h. h;
    takes_off = λ x i r at h. h;
    guards = λ x i r n at next b u h. added x _ h;
    returns = λ x i r n at next v h. added x _ h;
    locals = λ x n v h. h;
    raises = λ x q i r e k at is stands none caught inner h. h;
    unwinds = λ x q i k at stands none outer h. h;
    over = λ x i r at over f none stays h. h;
    begins = λ x q i f args at left h. h;
    spawned = λ x new none begun lives h. h;
    tries_hop = λ x s hop t e blocking entry unbroken h. h;
    calls_hop = λ x i r n at next via f args e hop entry unbroken h. h;
    returns_hop = λ x i r y at next via e over entry unbroken h. h;
  }

  pub grown-between : IsKeptBetween Grown
  grown-between = record { same = λ x q f alike h. h; alike = λ x f alike h. h }

  pub grown-taken : IsKeptByTakings Grown
  grown-taken = record { taken = λ x p empty h. h; begins = λ x q i f args at left h. h }

module _ (q : ℕ) where
  abbrev Has : List Instance → Type 0
  Has is = (i : Instance) × (slice_get is q ≡ Some i)

  abbrev pub Made : Parts → Type 0
  Made x = Has x.instances

  has_changed : (is : List Instance) (p : ℕ) (f : Instance → Instance) → Has is → Has (change is p f)
  has_changed is p f h = ⊎_elim
      (λ e. (f h.0, subst (λ n. slice_get (change is n f) q ≡ Some (f h.0)) e (change-here is q f h.0 h.1)))
      (λ apart. (h.0, change-other is p q f apart ∙ h.1))
      (cases_eq q p)

  has_more : (is : List Instance) (new : Instance) → Has is → Has (is ++ new ∷ [])
  has_more is new h = ⊎_elim
      (λ e. (new, ap (slice_get (is ++ new ∷ [])) e ∙ last-here is new))
      (λ apart. (h.0, last-other is new q apart ∙ h.1))
      (cases_eq q (length is))

  pub made-settled : (p : ℕ) → IsSettled p Made
  made-settled p x i at h = has_changed x.instances p _ h

  pub made-kept : (p : ℕ) → IsKept p Made
  made-kept p = record {
    same = λ x n f alike h. has_changed x.instances n f h;
    leaves = λ x more top none h. h;
    pushes = λ x n more top off h. h;
    passes = λ x i r at may h. has_changed x.instances p _ h;
    puts = λ x i r n at next new is_new h. has_changed x.instances p _ h;
    takes_off = λ x i r at h. has_changed x.instances p _ h;
    guards = λ x i r n at next b u h. has_changed x.instances p _ h;
    returns = λ x i r n at next v h. has_changed x.instances p _ h;
    locals = λ x n v h. has_changed x.instances p _ h;
    raises = λ x n i r e k at is stands none caught inner h. has_changed x.instances n _ h;
    unwinds = λ x n i k at stands none outer h. has_changed x.instances n _ h;
    over = λ x i r at over f none stays h. has_changed x.instances p f h;
    begins = λ x n i f args at left h. has_changed x.instances n _ h;
    spawned = λ x new none begun lives h. has_more x.instances new h;
    tries_hop = λ x s hop t e blocking entry unbroken h. h;
    calls_hop = λ x i r n at next via f args e hop entry unbroken h. has_changed x.instances p _ h;
    returns_hop = λ x i r y at next via e over entry unbroken h. has_changed x.instances p _ h;
  }

  pub made-between : IsKeptBetween Made
  made-between = record {
    same = λ x n f alike h. has_changed x.instances n f h;
    alike = λ x f alike h. (f h.0, slice_get-map f x.instances q ∙ ap (option_map f) h.1);
  }

  pub made-taken : IsKeptByTakings Made
  made-taken = record { taken = λ x p empty h. h; begins = λ x n i f args at left h. has_changed x.instances n _ h }
