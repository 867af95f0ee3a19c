-- The parts of a design of a model that breaks no rule: first values have their types, and sizes are in range.
use Rattle.std.proofs.Common.{◌≡◌, ◌<◌, ◌≤◌, ℕ, zero, suc, List, Some, None, refl, sym, ap, ◌∙◌, subst, arith}
use Rattle.std.specs.Prelude.{slice_get, ◌⊎◌}
use Rattle.elaborate_objects.specs.ModelTree.Tree as tree
use Rattle.elaborate_objects.specs.FlatDesign.ValueTypes.{type_of_value}
use Rattle.elaborate_objects.specs.FlatDesign.declared.objects.Object.{Object}
use Rattle.elaborate_objects.specs.FlatDesign.declared.objects.Objects.{Objects}
use Rattle.elaborate_objects.specs.FlatDesign.declared.objects.ObjectForm.{ObjectForm}
use Rattle.elaborate_objects.specs.FlatDesign.declared.objects.ObjectForm.TheVariants as form
use Rattle.elaborate_objects.specs.FlatDesign.declared.design.SignalPart.{SignalPart}
use Rattle.elaborate_objects.specs.FlatDesign.declared.design.FifoPart.{FifoPart}
use Rattle.elaborate_objects.specs.FlatDesign.declared.design.VariablePart.{VariablePart}
use Rattle.elaborate_objects.specs.FlatDesign.declared.design.Design.{Design}
use Rattle.elaborate_objects.specs.ModelRules.Passes.{first_fault}
use Rattle.elaborate_objects.specs.DesignRules.declared.counts.Counts.{Counts}
use Rattle.elaborate_objects.specs.DesignRules.Counting.{nothing_before}
use Rattle.elaborate_objects.specs.DesignRules.Parts.{signal_by, fifo_by, variable_by}
use Rattle.elaborate_objects.specs.DesignRules.Designs.{IsDesignOf}
use Rattle.laws_design.proofs.Along.{same_some, before, from_place}
use Rattle.laws_design.proofs.Numbered.{signals_step, fifos_step, variables_step}
use Rattle.elaborate_objects.proofs.Parents.{are_inside}
use Rattle.laws_design.proofs.Forms.{IsRight, rights}

signal_typed : (n : Counts) (f : ObjectForm) (i : ℕ) (p : SignalPart) → IsRight f → slice_get (signal_by n f) i ≡ Some p → type_of_value p.initial ≡ p.value_type
signal_typed n (form.Signal kind many t initial) zero p h e = subst (λ (x : SignalPart). type_of_value x.initial ≡ x.value_type) (same_some _ p e) h
signal_typed n (form.Signal kind many t initial) (suc i) p h e = cc
signal_typed n (form.Clock period high start code) zero p h e = subst (λ (x : SignalPart). type_of_value x.initial ≡ x.value_type) (same_some _ p e) refl
signal_typed n (form.Clock period high start code) (suc i) p h e = cc
signal_typed n other i p h e = cc

fifo_sized : (n : Counts) (f : ObjectForm) (i : ℕ) (p : FifoPart) → IsRight f → slice_get (fifo_by n f) i ≡ Some p → 1 ≤ p.size
fifo_sized n (form.Fifo t size) zero p h e = subst (λ (x : FifoPart). 1 ≤ x.size) (same_some _ p e) h
fifo_sized n (form.Fifo t size) (suc i) p h e = cc
fifo_sized n other i p h e = cc

variable_typed : (n : Counts) (f : ObjectForm) (i : ℕ) (p : VariablePart) → IsRight f → slice_get (variable_by n f) i ≡ Some p → type_of_value p.initial ≡ p.value_type
variable_typed n (form.Variable t initial) zero p h e = subst (λ (x : VariablePart). type_of_value x.initial ≡ x.value_type) (same_some _ p e) h
variable_typed n (form.Variable t initial) (suc i) p h e = cc
variable_typed n other i p h e = cc

module _ (m : tree.Model) (d : Design) (none : first_fault m ≡ None) (design : IsDesignOf m d) where
  right_there : (k : ℕ) (o : Object) → slice_get d.objects.list k ≡ Some o → IsRight o.form
  right_there k o e = rights m none k o (sym (ap (λ (os : Objects). slice_get os.list k) design.objects) ∙ e)

  pub signals_typed : (n : ℕ) (p : SignalPart) → slice_get d.signals n ≡ Some p → type_of_value p.initial ≡ p.value_type
  signals_typed n p e =
      let r =
      from_place (λ c (x : Object). signal_by c x.form) (λ c. c.signals) (λ c x. signals_step c x.form) nothing_before d.objects.list n p
      (sym (ap (λ (xs : List SignalPart). slice_get xs n) design.signals) ∙ e) in
      signal_typed (before d.objects.list r.place) r.object.form r.index p (right_there r.place r.object r.found) r.gives

  pub fifos_sized : (n : ℕ) (p : FifoPart) → slice_get d.fifos n ≡ Some p → 1 ≤ p.size
  fifos_sized n p e =
      let r =
      from_place (λ c (x : Object). fifo_by c x.form) (λ c. c.fifos) (λ c x. fifos_step c x.form) nothing_before d.objects.list n p
      (sym (ap (λ (xs : List FifoPart). slice_get xs n) design.fifos) ∙ e) in
      fifo_sized (before d.objects.list r.place) r.object.form r.index p (right_there r.place r.object r.found) r.gives

  pub variables_typed : (n : ℕ) (p : VariablePart) → slice_get d.variables n ≡ Some p → type_of_value p.initial ≡ p.value_type
  variables_typed n p e =
      let r =
      from_place (λ c (x : Object). variable_by c x.form) (λ c. c.variables) (λ c x. variables_step c x.form) nothing_before d.objects.list n p
      (sym (ap (λ (xs : List VariablePart). slice_get xs n) design.variables) ∙ e) in
      variable_typed (before d.objects.list r.place) r.object.form r.index p (right_there r.place r.object r.found) r.gives

pub parents_before : (m : tree.Model) (d : Design) → IsDesignOf m d → (i : ℕ) (o : Object) → slice_get d.objects.list i ≡ Some o → (o.parent < i) ⊎ ((i ≡ 0) × (o.parent ≡ 0))
parents_before m d design i o e = are_inside m i o (sym (ap (λ (os : Objects). slice_get os.list i) design.objects) ∙ e)
