-- Which parts are not broken, where those before one are not.
use Rattle.std.proofs.Common.{◌≡◌, ◌<◌, ℕ, false, refl, sym, ◌∙◌, arith}
use Rattle.order_free.specs.Users.{is_somebody}
use Rattle.order_free.specs.Broken as broken
use Rattle.order_free.specs.Broken.{Broken}
use Rattle.order_free.specs.declared.tables.Tables.{Tables}
use Rattle.order_free.proofs.Within.{not_both}

module _ (t : Tables) (unfit : is_somebody t.unfit ≡ false) (watches : is_somebody t.watches ≡ false) where
  pub none_below_third : (k : ℕ) → k < 3 → Broken t k → ⊥
  none_below_third k below (broken.first is h) = not_both (sym h ∙ unfit)
  none_below_third k below (broken.second is h) = not_both (sym h ∙ watches)
  none_below_third k below (broken.third is u stored h) = omega (arith, below, is)
  none_below_third k below (broken.fourth is u end h) = omega (arith, below, is)
  none_below_third k below (broken.fifth is e h) = omega (arith, below, is)

  module _ (stores : Broken t 3 → ⊥) where
    pub none_below_fourth : (k : ℕ) → k < 4 → Broken t k → ⊥
    none_below_fourth k below (broken.first is h) = not_both (sym h ∙ unfit)
    none_below_fourth k below (broken.second is h) = not_both (sym h ∙ watches)
    none_below_fourth k below (broken.third is u stored h) = stores (broken.third refl u stored h)
    none_below_fourth k below (broken.fourth is u end h) = omega (arith, below, is)
    none_below_fourth k below (broken.fifth is e h) = omega (arith, below, is)

    module _ (ends : Broken t 4 → ⊥) where
      pub none_below_fifth : (k : ℕ) → k < 5 → Broken t k → ⊥
      none_below_fifth k below (broken.first is h) = not_both (sym h ∙ unfit)
      none_below_fifth k below (broken.second is h) = not_both (sym h ∙ watches)
      none_below_fifth k below (broken.third is u stored h) = stores (broken.third refl u stored h)
      none_below_fifth k below (broken.fourth is u end h) = ends (broken.fourth refl u end h)
      none_below_fifth k below (broken.fifth is e h) = omega (arith, below, is)

      pub none_broken : (Broken t 5 → ⊥) → (k : ℕ) → Broken t k → ⊥
      none_broken cancelled k (broken.first is h) = not_both (sym h ∙ unfit)
      none_broken cancelled k (broken.second is h) = not_both (sym h ∙ watches)
      none_broken cancelled k (broken.third is u stored h) = stores (broken.third refl u stored h)
      none_broken cancelled k (broken.fourth is u end h) = ends (broken.fourth refl u end h)
      none_broken cancelled k (broken.fifth is e h) = cancelled (broken.fifth refl e h)
