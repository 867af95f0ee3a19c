-- But for the drivers of resolved signals, what two processes do goes in either order.
use Rattle.std.proofs.Common.{◌≡◌, ℕ, zero, suc, true, List, [], ◌∷◌, All, slice_set, refl, sym, ap, ◌∙◌}
use Rattle.std.proofs.lemmas.List.Elements.{All-head, All-tail}
use Rattle.std.proofs.lemmas.Option.{none-some}
use Rattle.sim_model.specs.Configuration.{Config}
use Rattle.order_free.specs.declared.uses.Use.{Use}
use Rattle.laws_order.specs.Acts as act
use Rattle.laws_order.specs.Acts.{Act, acted, acted_all, Allows}
use Rattle.laws_order.specs.Undriven.{without_drivers}
use Rattle.laws_order.proofs.Apart.{AreApart}
use Rattle.laws_order.proofs.Commuting.{acts-commute}

undriven_acted : (p : ℕ) (c : Config) (a : Act) → without_drivers (acted p c a) ≡ acted p (without_drivers c) a
undriven_acted p c (act.stores v x) = refl
undriven_acted p c (act.fills v x) = refl
undriven_acted p c (act.writes v x) = refl
undriven_acted p c (act.drives v x) = refl
undriven_acted p c (act.takes v) = refl
undriven_acted p c (act.gives v x) = refl
undriven_acted p c (act.notifies v x) = refl
undriven_acted p c (act.cancels v) = refl
undriven_acted p c (act.keeps v x) = refl
undriven_acted p c (act.sets_global v) = refl

undriven_all : (p : ℕ) (c : Config) (log : List Act) → without_drivers (acted_all p c log) ≡ acted_all p (without_drivers c) log
undriven_all p c [] = refl
undriven_all p c (a ∷ log) = undriven_all p (acted p c a) log ∙ ap (λ (e : Config). acted_all p e log) (undriven_acted p c a)

-- the same value set twice
sets_same : {A : Type 0} (xs : List A) (n m : ℕ) (y : A) → slice_set (slice_set xs n y) m y ≡ slice_set (slice_set xs m y) n y
sets_same [] n m y = refl
sets_same (x ∷ xs) zero zero y = refl
sets_same (x ∷ xs) zero (suc m) y = refl
sets_same (x ∷ xs) (suc n) zero y = refl
sets_same (x ∷ xs) (suc n) (suc m) y = ap (λ ys. x ∷ ys) (sets_same xs n m y)

module _ (Has Others : Use → Type 0) (apart : AreApart Has Others) (p q : ℕ) where
  undriven_commute : (c : Config) (a b : Act) → Allows Has a → Allows Others b → acted q (acted p (without_drivers c) a) b ≡ acted p (acted q (without_drivers c) b) a
  undriven_commute c (act.stores v x) b h o = acts-commute Has Others apart p q (without_drivers c) (act.stores v x) b h o (λ k is. absurd (none-some k is))
  undriven_commute c (act.fills v x) b h o = acts-commute Has Others apart p q (without_drivers c) (act.fills v x) b h o (λ k is. absurd (none-some k is))
  undriven_commute c (act.writes v x) b h o = acts-commute Has Others apart p q (without_drivers c) (act.writes v x) b h o (λ k is. absurd (none-some k is))
  undriven_commute c (act.takes v) b h o = acts-commute Has Others apart p q (without_drivers c) (act.takes v) b h o (λ k is. absurd (none-some k is))
  undriven_commute c (act.gives v x) b h o = acts-commute Has Others apart p q (without_drivers c) (act.gives v x) b h o (λ k is. absurd (none-some k is))
  undriven_commute c (act.notifies v x) b h o = acts-commute Has Others apart p q (without_drivers c) (act.notifies v x) b h o (λ k is. absurd (none-some k is))
  undriven_commute c (act.cancels v) b h o = acts-commute Has Others apart p q (without_drivers c) (act.cancels v) b h o (λ k is. absurd (none-some k is))
  undriven_commute c (act.keeps v x) b h o = acts-commute Has Others apart p q (without_drivers c) (act.keeps v x) b h o (λ k is. absurd (none-some k is))
  undriven_commute c (act.sets_global v) b h o = acts-commute Has Others apart p q (without_drivers c) (act.sets_global v) b h o (λ k is. absurd (none-some k is))
  undriven_commute c (act.drives v x) (act.stores w y) h o = acts-commute Has Others apart p q (without_drivers c) (act.drives v x) (act.stores w y) h o (λ k is e. none-some k e)
  undriven_commute c (act.drives v x) (act.fills w y) h o = acts-commute Has Others apart p q (without_drivers c) (act.drives v x) (act.fills w y) h o (λ k is e. none-some k e)
  undriven_commute c (act.drives v x) (act.writes w y) h o = acts-commute Has Others apart p q (without_drivers c) (act.drives v x) (act.writes w y) h o (λ k is e. none-some k e)
  undriven_commute c (act.drives v x) (act.takes w) h o = acts-commute Has Others apart p q (without_drivers c) (act.drives v x) (act.takes w) h o (λ k is e. none-some k e)
  undriven_commute c (act.drives v x) (act.gives w y) h o = acts-commute Has Others apart p q (without_drivers c) (act.drives v x) (act.gives w y) h o (λ k is e. none-some k e)
  undriven_commute c (act.drives v x) (act.notifies w y) h o = acts-commute Has Others apart p q (without_drivers c) (act.drives v x) (act.notifies w y) h o (λ k is e. none-some k e)
  undriven_commute c (act.drives v x) (act.cancels w) h o = acts-commute Has Others apart p q (without_drivers c) (act.drives v x) (act.cancels w) h o (λ k is e. none-some k e)
  undriven_commute c (act.drives v x) (act.keeps w y) h o = acts-commute Has Others apart p q (without_drivers c) (act.drives v x) (act.keeps w y) h o (λ k is e. none-some k e)
  undriven_commute c (act.drives v x) (act.sets_global w) h o = acts-commute Has Others apart p q (without_drivers c) (act.drives v x) (act.sets_global w) h o (λ k is e. none-some k e)
  undriven_commute c (act.drives v x) (act.drives w y) h o =
      ap (λ bs. record c { channels = record c.channels { resolved = []; resolved_asked = bs } }) (sets_same c.channels.resolved_asked v w true)

  one_past : (a : Act) → Allows Has a → (bs : List Act) → All (Allows Others) bs → (c : Config) → acted_all q (acted p (without_drivers c) a) bs ≡ acted p (acted_all q (without_drivers c) bs) a
  one_past a h [] o c = refl
  one_past a h (b ∷ bs) o c =
      ap (λ (e : Config). acted_all q e bs) (undriven_commute c a b h (All-head (Allows Others) b bs o))
      ∙ ap (λ (e : Config). acted_all q (acted p e a) bs) (sym (undriven_acted q c b))
      ∙ one_past a h bs (All-tail (Allows Others) b bs o) (acted q c b)
      ∙ ap (λ (e : Config). acted p (acted_all q e bs) a) (undriven_acted q c b)

  pub all-past : (as_ bs : List Act) → All (Allows Has) as_ → All (Allows Others) bs → (c : Config) → acted_all q (acted_all p (without_drivers c) as_) bs ≡ acted_all p (acted_all q (without_drivers c) bs) as_
  all-past [] bs h o c = refl
  all-past (a ∷ as_) bs h o c =
      ap (λ (e : Config). acted_all q (acted_all p e as_) bs) (sym (undriven_acted p c a))
      ∙ all-past as_ bs (All-tail (Allows Has) a as_ h) o (acted p c a)
      ∙ ap (λ (e : Config). acted_all p (acted_all q e bs) as_) (undriven_acted p c a)
      ∙ ap (λ (e : Config). acted_all p e as_) (one_past a (All-head (Allows Has) a as_ h) bs o c)

  pub undriven-all : (as_ bs : List Act) → All (Allows Has) as_ → All (Allows Others) bs → (c : Config) → without_drivers (acted_all q (acted_all p c as_) bs) ≡ without_drivers (acted_all p (acted_all q c bs) as_)
  undriven-all as_ bs h o c =
      undriven_all q (acted_all p c as_) bs ∙ ap (λ (e : Config). acted_all q e bs) (undriven_all p c as_) ∙ all-past as_ bs h o c
      ∙ sym (undriven_all p (acted_all q c bs) as_ ∙ ap (λ (e : Config). acted_all p e as_) (undriven_all q c bs))
