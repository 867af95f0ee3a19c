-- Walks along objects.
use Rattle.std.proofs.Common.{◌≡◌, ◌<◌, ◌+◌, ℕ, List, ◌∷◌, ◌++◌, drop, length, get_or, refl, sym, ap, ◌∙◌, append_assoc, drop-cons, add-one}
use Rattle.elaborate_objects.specs.FlatDesign.declared.objects.Object.{Object}
use Rattle.elaborate_objects.specs.FlatDesign.declared.objects.ObjectForm.{ObjectForm}
use Rattle.elaborate_objects.specs.FlatDesign.declared.objects.ObjectForm.TheVariants as form
use Rattle.elaborate_objects.specs.DesignRules.declared.counts.Counts.{Counts}
use Rattle.elaborate_objects.specs.DesignRules.Counting.{behind, along}

pub one_object_more : (n : Counts) (f : ObjectForm) → (behind n f).objects ≡ n.objects + 1
one_object_more n (form.Instance m) = refl
one_object_more n (form.Signal kind many t initial) = refl
one_object_more n form.Resolved = refl
one_object_more n (form.Clock period high start code) = refl
one_object_more n (form.Fifo t size) = refl
one_object_more n form.Mutex = refl
one_object_more n form.Event = refl
one_object_more n form.Keeper = refl
one_object_more n (form.Semaphore start) = refl
one_object_more n (form.Memory size) = refl
one_object_more n (form.Variable t initial) = refl
one_object_more n (form.Port leads_to size rule) = refl
one_object_more n (form.Export leads_to) = refl
one_object_more n (form.Initiator pass backward) = refl
one_object_more n (form.Target pass blocking forward) = refl
one_object_more n (form.Process kind code dont_initialize) = refl

module _ {A : Type 0} (part : Counts → Object → List A) (os : List Object) (k : ℕ) (o : Object) (within : k < length os) (is : o ≡ get_or os k o) (n : Counts) where
  pub next_object : drop k os ≡ o ∷ drop (k + 1) os
  next_object = rw (add-one, drop-cons os k o within, ← is) refl

  one : (xs : List Object) → along part n (o ∷ xs) ≡ part n o ++ along part (behind n o.form) xs
  one xs = refl

  at_turn : along part n (drop k os) ≡ part n o ++ along part (behind n o.form) (drop (k + 1) os)
  at_turn = ap (along part n) next_object ∙ one (drop (k + 1) os)

  pub along_turn : (m : Counts) (now new whole : List A) → m ≡ behind n o.form → new ≡ now ++ part n o → now ++ along part n (drop k os) ≡ whole → new ++ along part m (drop (k + 1) os) ≡ whole
  along_turn m now new whole after e h =
      ap (λ c. new ++ along part c (drop (k + 1) os)) after
      ∙ ap (λ ys. ys ++ along part (behind n o.form) (drop (k + 1) os)) e
      ∙ append_assoc now (part n o) (along part (behind n o.form) (drop (k + 1) os))
      ∙ sym (ap (λ ys. now ++ ys) at_turn)
      ∙ h
