-- Objects within the limits give few processes and few events.
use Rattle.std.proofs.Common.{◌≡◌, ◌≤◌, ◌+◌, ◌*◌, ◌||◌, ℕ, Bool, true, false, cond, List, [], ◌∷◌, length, Some, None, nat_lt, refl, ap, arith, length-append}
use Rattle.std.proofs.lemmas.Bool.Decides.{nat_tests}
use Rattle.elaborate_objects.specs.ModelTree.Tree as tree
use Rattle.elaborate_objects.specs.FlatDesign.declared.objects.Object.{Object}
use Rattle.elaborate_objects.specs.FlatDesign.declared.objects.Objects.{Objects}
use Rattle.elaborate_objects.specs.FlatDesign.declared.objects.ObjectForm.{ObjectForm}
use Rattle.elaborate_objects.specs.FlatDesign.declared.objects.ObjectForm.TheVariants as form
use Rattle.elaborate_objects.specs.FlatDesign.declared.code.StaticUse.{StaticUse}
use Rattle.elaborate_objects.specs.FlatDesign.declared.design.PortPart.{PortPart}
use Rattle.elaborate_objects.specs.FlatDesign.declared.design.InstancePart.{InstancePart}
use Rattle.elaborate_objects.specs.FlatDesign.declared.design.ProcessPart.{ProcessPart}
use Rattle.elaborate_objects.specs.FlatDesign.declared.design.Design.{Design}
use Rattle.elaborate_objects.specs.DesignRules.Listing.{list_of}
use Rattle.elaborate_objects.specs.DesignRules.ObjectFaults.{bytes_of, are_too_many, limit_fault}
use Rattle.elaborate_objects.specs.DesignRules.declared.counts.Counts.{Counts}
use Rattle.elaborate_objects.specs.DesignRules.Counting.{behind, along, counted, nothing_before}
use Rattle.elaborate_objects.specs.DesignRules.Parts.{home_of}
use Rattle.elaborate_objects.specs.DesignRules.Statics.{static_lists, process_by}
use Rattle.elaborate_objects.specs.DesignRules.Designs.{IsDesignOf}

-- as many as there are objects at most, where each gives one at most
along_few : {A : Type 0} (given : Counts → Object → List A) → ((n : Counts) (o : Object) → length (given n o) ≤ 1) → (n : Counts) (os : List Object) → length (along given n os) ≤ length os
along_few given one n [] = omega arith
along_few given one n (o ∷ os) =
    let here = one n o in
    let more = along_few given one (behind n o.form) os in
    let both = length-append (given n o) (along given (behind n o.form) os) in
    omega (arith, here, more, both)

one_process : (lists : List (List StaticUse)) (ports : List PortPart) (instances : List InstancePart) (i home : ℕ) (f : ObjectForm) → length (process_by lists ports instances i home f) ≤ 1
one_process lists ports instances i home (form.Clock period high start code) = omega arith
one_process lists ports instances i home (form.Process kind code dont_initialize) = omega arith
one_process lists ports instances i home other = omega arith

-- three events an object
three_events : (n : Counts) (f : ObjectForm) → (behind n f).events ≤ n.events + 3
three_events n (form.Instance m) = omega arith
three_events n other = omega arith

events_few : (n : Counts) (os : List Object) → (counted n os).events ≤ n.events + 3 * length os
events_few n [] = omega arith
events_few n (o ∷ os) = let here = three_events n o.form in let more = events_few (behind n o.form) os in omega (arith, here, more)

not_many : {A : Type 0} (b : Bool) (x : A) → cond b (Some x) None ≡ None → b ≡ false
not_many true x h = cc
not_many false x h = refl

few_by : (a b : ℕ) → (nat_lt 65536 a || nat_lt 67108864 b) ≡ false → a ≤ 65536
few_by a b h = grind (arith, nat_tests, h)

module _ (m : tree.Model) (d : Design) (few : limit_fault m ≡ None) (design : IsDesignOf m d) where
  objects_few : length d.objects.list ≤ 65536
  objects_few =
      let here = few_by (length (list_of m)) (bytes_of (list_of m)) (not_many (are_too_many (list_of m)) _ few) in
      let same = ap (λ (x : Objects). length x.list) design.objects in
      omega (arith, here, same)

  pub processes-few : length d.processes ≤ 65536
  processes-few =
      let same = ap (λ (ps : List ProcessPart). length ps) design.processes in
      let each =
      along_few (λ n (o : Object). process_by (static_lists m.modules) d.ports d.instances n.objects (home_of d.objects.list o.parent) o.form)
      (λ n o. one_process (static_lists m.modules) d.ports d.instances n.objects (home_of d.objects.list o.parent) o.form) nothing_before d.objects.list in
      let few = objects_few in
      omega (arith, same, each, few)

  pub events-few : d.events ≤ 196608
  events-few = let same = design.events in let each = events_few nothing_before d.objects.list in let few = objects_few in omega (arith, same, each, few)
