-- The stack of a kernel, whose top is last, beside that of a configuration, whose top is first.
use Rattle.std.proofs.Common.{◌≡◌, ◌≢◌, ◌==◌, ◌||◌, ℕ, Bool, true, false, List, [], ◌∷◌, ◌++◌, drop, reverse, slice_get, Option, Some, None, IfSome, IfNone, refl, sym, ap, ◌∙◌, subst, true≢false, eq-eqb, ne_eqb}
use Rattle.std.proofs.lemmas.List.{reverse-append}
use Rattle.kernel_processes.specs.SimModel.Configuration.{Config}
use Rattle.kernel_processes.specs.SimModel.Waits.{holds}
use Rattle.kernel_processes.specs.SimModel.Control.{top_of, is_top, is_below_top}
use Rattle.kernel_processes.specs.InstanceViews.{is_on}
use Rattle.kernel_processes.specs.Sound.{IsOnce}
use Rattle.kernel_processes.proofs.Sounding.{on_last, once_below}
use Rattle.kernel_processes.specs.Moved.{IsTop}
use Rattle.kernel_state.specs.Kernel.{StandsFor}
use Rattle.kernel_state.specs.declared.kernel.Kernel.{Kernel}
use Rattle.kernel_state.proofs.ProcessFrames.{on_reversed}

or-nothing : (b : Bool) → (b || false) ≡ b
or-nothing true = refl
or-nothing false = refl

neither : (a b : Bool) → (a || b) ≡ false → (a ≡ false) × (b ≡ false)
neither true b is = absurd (true≢false is)
neither false b is = (refl, is)

-- what a list lacks, its first element is not and its others lack
first_lacks : (xs : List ℕ) (q : ℕ) → holds xs q ≡ false → holds (top_of xs) q ≡ false
first_lacks [] q none = refl
first_lacks (x ∷ xs) q none = or-nothing (x == q) ∙ (neither (x == q) (holds xs q) none).0

others_lack : (xs : List ℕ) (q : ℕ) → holds xs q ≡ false → holds (drop 1 xs) q ≡ false
others_lack [] q none = refl
others_lack (x ∷ xs) q none = (neither (x == q) (holds xs q) none).1

module _ (k : Kernel) (c : Config) (h : StandsFor k c) where
  active_is : (q : ℕ) → holds c.processes.stack q ≡ is_on k.schedule.stack.items q
  active_is q = ap (λ xs. holds xs q) h.processes.stack ∙ on_reversed k.schedule.stack.items q

  stack_is : (front : List ℕ) (p : ℕ) → k.schedule.stack.items ≡ front ++ p ∷ [] → c.processes.stack ≡ p ∷ reverse front
  stack_is front p is = h.processes.stack ∙ ap reverse is ∙ reverse-append front (p ∷ [])

  pub on_top_is : (q : ℕ) → IsTop q k.schedule.stack.items → is_top c q ≡ true
  on_top_is q top = ap (λ xs. holds (top_of xs) q) (stack_is top.0 q top.1) ∙ ap (λ b. b || false) (eq-eqb q q refl)

  -- the instance on top, if one is active
  pub top_is : (o : Option ℕ) → IfNone o (k.schedule.stack.items ≡ []) → IfSome o (λ p. IsTop p k.schedule.stack.items) → o ≡ slice_get c.processes.stack 0
  top_is None none some = sym (ap (λ xs. slice_get xs 0) (h.processes.stack ∙ ap reverse none))
  top_is (Some p) none some = sym (ap (λ xs. slice_get xs 0) (stack_is some.0 p some.1))

  pub off_stack_is : (q : ℕ) → is_on k.schedule.stack.items q ≡ false → is_top c q ≡ false
  off_stack_is q off = first_lacks c.processes.stack q (active_is q ∙ off)

  below_top_lacks : (q : ℕ) → IsOnce k.schedule.stack.items → IsTop q k.schedule.stack.items → is_below_top c q ≡ false
  below_top_lacks q once top = ap (λ xs. holds (drop 1 xs) q) (stack_is top.0 q top.1) ∙ on_reversed top.0 q ∙ (once_below top.0 q (subst IsOnce top.1 once)).0

  -- what is active and not on top is below it
  pub below_top_is : (p q : ℕ) → IsTop p k.schedule.stack.items → p ≢ q → is_on k.schedule.stack.items q ≡ is_below_top c q
  below_top_is p q top apart = ap (λ xs. is_on xs q) top.1 ∙ on_last top.0 p q ∙ ap (λ b. is_on top.0 q || b) (ne_eqb p q apart) ∙ or-nothing (is_on top.0 q)
      ∙ sym (on_reversed top.0 q) ∙ sym (ap (λ xs. holds (drop 1 xs) q) (stack_is top.0 p top.1))

  pub nobody_below : (q : ℕ) → k.schedule.stack.items ≡ [] → is_below_top c q ≡ false
  nobody_below q none = ap (λ xs. holds (drop 1 xs) q) (h.processes.stack ∙ ap reverse none)

  pub not_below : (q : ℕ) → IsOnce k.schedule.stack.items → (is_on k.schedule.stack.items q ≡ true → IsTop q k.schedule.stack.items) → is_below_top c q ≡ false
  not_below q once place = by (is_on k.schedule.stack.items q) refl
    where
      by : (b : Bool) → is_on k.schedule.stack.items q ≡ b → is_below_top c q ≡ false
      by true on = below_top_lacks q once (place on)
      by false off = others_lack c.processes.stack q (active_is q ∙ off)
