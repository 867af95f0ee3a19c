-- What has ended stays ended.
use Rattle.std.proofs.Common.{◌≡◌, ℕ, true, List, [], ◌∷◌, ◌++◌, length, slice_get, Some, option_map, sym, ap, ◌∙◌, subst, ⊎_elim}
use Rattle.std.proofs.lemmas.Bool.{cases_eq}
use Rattle.std.proofs.lemmas.Option.{slice_get-map, none-some}
use Rattle.sim_model.specs.Configuration.{Instance, change}
use Rattle.laws_runs.proofs.Changes.{change-here, change-other, last-other, past-end}
use Rattle.laws_runs.proofs.GoalParts.{Parts, IsKept, IsSettled, IsKeptBetween, IsKeptByTakings}

module _ (q : ℕ) where
  abbrev Over : List Instance → Type 0
  Over is = (i : Instance) × (slice_get is q ≡ Some i) × (i.ended ≡ true)

  abbrev pub Ended : Parts → Type 0
  Ended x = Over x.instances

  over_changed : (is : List Instance) (p : ℕ) (f : Instance → Instance) → ((i : Instance) → i.ended ≡ true → (f i).ended ≡ true) → Over is → Over (change is p f)
  over_changed is p f stays h = ⊎_elim
      (λ e. (f h.0, subst (λ n. slice_get (change is n f) q ≡ Some (f h.0)) e (change-here is q f h.0 h.1), stays h.0 h.2))
      (λ apart. (h.0, change-other is p q f apart ∙ h.1, h.2))
      (cases_eq q p)

  over_more : (is : List Instance) (new : Instance) → Over is → Over (is ++ new ∷ [])
  over_more is new h = ⊎_elim
      (λ e. absurd (none-some h.0 (sym (ap (slice_get is) e ∙ past-end is) ∙ h.1)))
      (λ apart. (h.0, last-other is new q apart ∙ h.1, h.2))
      (cases_eq q (length is))

  pub ended-settled : (p : ℕ) → IsSettled p Ended
  ended-settled p x i at h = over_changed x.instances p _ (λ j e. e) h

  pub ended-kept : (p : ℕ) → IsKept p Ended
  ended-kept p = record {
    same = λ x n f alike h. over_changed x.instances n f (λ j e. (alike j).ended ∙ e) h;
    leaves = λ x more top none h. h;
    pushes = λ x n more top off h. h;
    passes = λ x i r at may h. over_changed x.instances p _ (λ j e. e) h;
    puts = λ x i r n at next new is_new h. over_changed x.instances p _ (λ j e. e) h;
    takes_off = λ x i r at h. over_changed x.instances p _ (λ j e. e) h;
    guards = λ x i r n at next b u h. over_changed x.instances p _ (λ j e. e) h;
    returns = λ x i r n at next v h. over_changed x.instances p _ (λ j e. e) h;
    locals = λ x n v h. over_changed x.instances p _ (λ j e. e) h;
    raises = λ x n i r e k at is stands none caught inner h. over_changed x.instances n _ (λ j e. e) h;
    unwinds = λ x n i k at stands none outer h. over_changed x.instances n _ (λ j e. e) h;
    over = λ x i r at over f none stays h. over_changed x.instances p f stays h;
    begins = λ x n i f args at left h. over_changed x.instances n _ (λ j e. e) h;
    spawned = λ x new none begun lives h. over_more x.instances new h;
    tries_hop = λ x s hop t e blocking entry unbroken h. h;
    calls_hop = λ x i r n at next via f args e hop entry unbroken h. over_changed x.instances p _ (λ j e. e) h;
    returns_hop = λ x i r y at next via e over entry unbroken h. over_changed x.instances p _ (λ j e. e) h;
  }

  pub ended-between : IsKeptBetween Ended
  ended-between = record {
    same = λ x n f alike h. over_changed x.instances n f (λ j e. (alike j).ended ∙ e) h;
    alike = λ x f alike h. (f h.0, slice_get-map f x.instances q ∙ ap (option_map f) h.1, (alike h.0).ended ∙ h.2);
  }

  pub ended-taken : IsKeptByTakings Ended
  ended-taken = record { taken = λ x p empty h. h; begins = λ x n i f args at left h. over_changed x.instances n _ (λ j e. e) h }
