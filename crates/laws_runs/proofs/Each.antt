-- What holds of each instance, while one of them changes, all of them do, or one more comes.
use Rattle.std.proofs.Common.{◌≡◌, ℕ, List, [], ◌∷◌, ◌++◌, length, map, slice_get, Option, Some, None, option_map, refl, sym, ap, ◌∙◌, subst, ⊎_elim}
use Rattle.std.proofs.lemmas.Bool.{cases_eq}
use Rattle.std.proofs.lemmas.Option.{none-some, same_Some, slice_get-map}
use Rattle.sim_model.specs.Configuration.{change}
use Rattle.laws_runs.proofs.Changes.{change-here, change-other, change-none, last-here, last-other}

module _ {A : Type 0} (P : ℕ → A → Type 0) where
  abbrev pub Each : List A → Type 0
  Each xs = (n : ℕ) (x : A) → slice_get xs n ≡ Some x → P n x

  changed_at_here : (xs : List A) (q : ℕ) (f : A → A) (o : Option A) → slice_get xs q ≡ o → ((x : A) → slice_get xs q ≡ Some x → P q x → P q (f x)) → Each xs → (y : A) → slice_get (change xs q f) q ≡ Some y → P q y
  changed_at_here xs q f None at becomes each y here = absurd (none-some y (sym at ∙ sym (ap (λ ys. slice_get ys q) (change-none xs q f at)) ∙ here))
  changed_at_here xs q f (Some x) at becomes each y here = subst (P q) (same_Some (f x) y (sym (change-here xs q f x at) ∙ here)) (becomes x at (each q x at))

  pub each-change : (xs : List A) (q : ℕ) (f : A → A) → ((x : A) → slice_get xs q ≡ Some x → P q x → P q (f x)) → Each xs → Each (change xs q f)
  each-change xs q f becomes each n x at = ⊎_elim
      (λ same. subst (λ m. P m x) (sym same) (changed_at_here xs q f (slice_get xs q) refl becomes each x (subst (λ m. slice_get (change xs q f) m ≡ Some x) same at)))
      (λ apart. each n x (sym (change-other xs q n f apart) ∙ at))
      (cases_eq n q)

  pub each-last : (xs : List A) (new : A) → P (length xs) new → Each xs → Each (xs ++ new ∷ [])
  each-last xs new is each n x at = ⊎_elim
      (λ same. subst (λ m. P m x) (sym same) (subst (P (length xs)) (same_Some new x (sym (last-here xs new) ∙ subst (λ m. slice_get (xs ++ new ∷ []) m ≡ Some x) same at)) is))
      (λ apart. each n x (sym (last-other xs new n apart) ∙ at))
      (cases_eq n (length xs))

  mapped_at : (f : A → A) (n : ℕ) (o : Option A) (x : A) → ((y : A) → P n y → P n (f y)) → ((y : A) → o ≡ Some y → P n y) → option_map f o ≡ Some x → P n x
  mapped_at f n None x becomes each at = absurd (none-some x at)
  mapped_at f n (Some y) x becomes each at = subst (P n) (same_Some (f y) x at) (becomes y (each y refl))

  pub each-map : (xs : List A) (f : A → A) → ((n : ℕ) (x : A) → P n x → P n (f x)) → Each xs → Each (map f xs)
  each-map xs f becomes each n x at = mapped_at f n (slice_get xs n) x (becomes n) (λ y there. each n y there) (sym (slice_get-map f xs n) ∙ at)
