-- Ports, with what their bindings lead to.
use Rattle.std.proofs.Common.{◌≡◌, ◌<◌, ℕ, ◌+◌, true, List, [], ◌∷◌, ◌++◌, drop, length, get_or, Option, Some, refl, sym, ap, ◌∙◌, arith, drop-cons, add-one}
use Rattle.std.specs.Prelude.{slice_get}
use Rattle.std.proofs.lemmas.List.{length-drop, get_or-drop}
use Rattle.std.proofs.lemmas.Option.{slice_get-get_or}
use Rattle.elaborate_objects.specs.FlatDesign.declared.objects.Object.{Object}
use Rattle.elaborate_objects.specs.FlatDesign.declared.objects.Objects.{Objects}
use Rattle.elaborate_objects.specs.FlatDesign.declared.objects.ObjectForm.{ObjectForm}
use Rattle.elaborate_objects.specs.FlatDesign.declared.objects.ObjectForm.TheVariants as form
use Rattle.elaborate_objects.specs.FlatDesign.declared.design.Denoted.{Denoted}
use Rattle.elaborate_objects.specs.DesignRules.declared.bindings.BoundPort.{BoundPort}
use Rattle.elaborate_objects.specs.DesignRules.Paths.{ends_of}
use Rattle.elaborate_objects.specs.DesignRules.Bound.{is_port, port_if, ports_from}
use Rattle.elaborate_objects.specs.DesignRules.declared.counts.Counts.{Counts}
use Rattle.elaborate_objects.specs.DesignRules.Counting.{behind}
use Rattle.elaborate_objects.specs.DesignRules.Parts.{port_by}
use Rattle.elaborate_design.specs.Linked.{channels_if, channels_at}

module _ {A : Type 0} (xs : List A) (k : ℕ) (x : A) (ys : List A) (left : drop k xs ≡ x ∷ ys) where
  within : k < length xs
  within =
      let e = ap (λ (zs : List A). length zs) left in
      let l = length-drop k xs in
      omega (arith, e, l)

  pub first_left : slice_get xs k ≡ Some x
  first_left =
      slice_get-get_or xs k x within
      ∙ ap Some (ap (λ i. get_or xs i x) (omega arith) ∙ sym (get_or-drop k xs 0 x) ∙ ap (λ zs. get_or zs 0 x) left)

  pub others_left : drop (k + 1) xs ≡ ys
  others_left = rw (add-one) (ap (drop 1) (sym (drop-cons xs k x within) ∙ left))

module _ (os : Objects) (all : List Denoted) (bs : List BoundPort) (n : Counts) (k : ℕ) (at : n.objects ≡ k) (more : List Object) where
  abbrev a_port : BoundPort
  a_port = record { object = k; channels = ends_of os k }

  pub same_port : (f : ObjectForm) → drop n.ports bs ≡ port_if os k (is_port f) ++ ports_from os (k + 1) more
      → port_by all (channels_at bs n.ports) n.objects f ≡ port_by all (ends_of os n.objects) n.objects f
  same_port (form.Instance m) left = refl
  same_port (form.Signal kind many t initial) left = refl
  same_port form.Resolved left = refl
  same_port (form.Clock period high start code) left = refl
  same_port (form.Fifo t size) left = refl
  same_port form.Mutex left = refl
  same_port form.Event left = refl
  same_port form.Keeper left = refl
  same_port (form.Semaphore start) left = refl
  same_port (form.Memory size) left = refl
  same_port (form.Variable t initial) left = refl
  same_port (form.Port leads_to size rule) left =
      ap (λ cs. port_by all cs n.objects (form.Port leads_to size rule))
      (ap channels_if (first_left bs n.ports a_port (ports_from os (k + 1) more) left) ∙ ap (ends_of os) (sym at))
  same_port (form.Export leads_to) left = refl
  same_port (form.Initiator pass backward) left = refl
  same_port (form.Target pass blocking forward) left = refl
  same_port (form.Process kind code dont_initialize) left = refl

  pub ports_left : (f : ObjectForm) → drop n.ports bs ≡ port_if os k (is_port f) ++ ports_from os (k + 1) more → drop (behind n f).ports bs ≡ ports_from os (k + 1) more
  ports_left (form.Instance m) left = left
  ports_left (form.Signal kind many t initial) left = left
  ports_left form.Resolved left = left
  ports_left (form.Clock period high start code) left = left
  ports_left (form.Fifo t size) left = left
  ports_left form.Mutex left = left
  ports_left form.Event left = left
  ports_left form.Keeper left = left
  ports_left (form.Semaphore start) left = left
  ports_left (form.Memory size) left = left
  ports_left (form.Variable t initial) left = left
  ports_left (form.Port leads_to size rule) left = others_left bs n.ports a_port (ports_from os (k + 1) more) left
  ports_left (form.Export leads_to) left = left
  ports_left (form.Initiator pass backward) left = left
  ports_left (form.Target pass blocking forward) left = left
  ports_left (form.Process kind code dont_initialize) left = left
