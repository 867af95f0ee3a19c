-- In a design that keeps the rule on the order of processes what two of them use is apart.
use Rattle.std.proofs.Common.{◌≢◌, inr, ℕ, sym}
use Rattle.sim_model.specs.FlatDesign.declared.design.Design.{Design}
use Rattle.order_free.specs.declared.uses.Use.TheVariants as used
use Rattle.order_free.specs.Free.{Uses, Free}
use Rattle.laws_order.proofs.Apart.{AreApart}

pub free-apart : (d : Design) → Free d → (p q : ℕ) → p ≢ q → AreApart (Uses d p) (Uses d q)
free-apart d free p q differ = record {
  variable = λ v h o. differ (free.stores (used.Variable v) tt p q h o);
  memory = λ m h o. differ (free.stores (used.Memory m) tt p q h o);
  quantum = λ h o. differ (free.stores used.Quantum tt p q h o);
  signal = λ n h o. differ (free.ends (used.WritesSignal n) tt p q h o);
  reading = λ n h o. differ (free.ends (used.ReadsFifo n) tt p q h o);
  writing = λ n h o. differ (free.ends (used.WritesFifo n) tt p q h o);
  cancelled = λ e h o. differ (free.cancelled e p q h o);
  cancelled_too = λ e o h. differ (sym (free.cancelled e q p o (inr h)));
}
