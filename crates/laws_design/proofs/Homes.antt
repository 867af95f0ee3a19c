-- The instance that an object is in is among the instances of the design, with the module of the object's item.
use Rattle.std.proofs.Common.{◌≡◌, ℕ, List, [], ◌∷◌, Some, refl, sym, ap, ◌∙◌, arith}
use Rattle.std.specs.Prelude.{slice_get, unwrap_or}
use Rattle.std.proofs.lemmas.Option.{slice_get_within}
use Rattle.elaborate_objects.specs.ModelTree.Tree as tree
use Rattle.elaborate_objects.specs.FlatDesign.Sound.{IsHomeOf}
use Rattle.elaborate_objects.specs.FlatDesign.declared.code.CodeBody.{CodeBody}
use Rattle.elaborate_objects.specs.FlatDesign.declared.objects.Object.{Object}
use Rattle.elaborate_objects.specs.FlatDesign.declared.objects.ObjectForm.TheVariants as form
use Rattle.elaborate_objects.specs.FlatDesign.declared.design.InstancePart.{InstancePart}
use Rattle.elaborate_objects.specs.FlatDesign.declared.design.Design.{Design}
use Rattle.elaborate_objects.specs.DesignRules.Counting.{nothing_before}
use Rattle.elaborate_objects.specs.DesignRules.Parts.{denotes, instance_by, home_of}
use Rattle.elaborate_objects.specs.DesignRules.Designs.{IsDesignOf}
use Rattle.laws_design.proofs.Along.{before, at_place}
use Rattle.laws_design.proofs.Numbered.{objects_step, instances_step, number_of}

module _ (m : tree.Model) (d : Design) (design : IsDesignOf m d) where
  -- an instance of the module at a place, by its number among the instances
  pub record IsHome (home place : ℕ) : Type 0 where
    pub part : InstancePart
    pub found : slice_get d.instances home ≡ Some part
    pub same : part.module_place ≡ place

  pub instance_there : (p place : ℕ) (o : Object) → slice_get d.objects.list p ≡ Some o → o.form ≡ form.Instance place → IsHome (home_of d.objects.list p) place
  instance_there p place o found is =
      let all = d.objects.list in
      let short = slice_get_within all p o found in
      let number = number_of nothing_before all p (omega (arith, short)) in
      let home : home_of all p ≡ (before all p).instances =
      ap (λ x. unwrap_or x 0) (at_place (λ n (x : Object). n.instances ∷ []) (λ n. n.objects) (λ n x. objects_step n x.form) nothing_before all p o found 0 (before all p).instances refl p (omega (arith, number))) in
      record {
        part = _;
        found =
            ap (slice_get d.instances) home ∙ ap (λ (xs : List InstancePart). slice_get xs (before all p).instances) design.instances
            ∙ at_place (λ c (x : Object). instance_by m.modules (denotes d.objects) all c.objects x.form) (λ c. c.instances) (λ c x. instances_step m.modules (denotes d.objects) all c.objects c x.form) nothing_before all p o found 0 _
            (ap (λ f. slice_get (instance_by m.modules (denotes d.objects) all (before all p).objects f) 0) is) (before all p).instances (omega arith);
        same = refl;
      }

  -- it is a home of each body of that module
  pub home_of_body : (home place : ℕ) (b : CodeBody) → IsHome home place → b.module_place ≡ place → IsHomeOf d home b
  home_of_body home place b w here = record { instance = w.part; found = w.found; same = w.same ∙ sym here }
