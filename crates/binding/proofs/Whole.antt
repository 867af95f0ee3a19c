-- Where no object has a fault, the kept channels of a port are all of them.
use Rattle.std.proofs.Common.{◌≡◌, ◌<◌, ◌≤◌, ◌+◌, ℕ, zero, suc, Bool, true, false, List, [], ◌∷◌, ◌++◌, length, drop, get_or, Option, Some, None, refl, sym, ap, ◌∙◌, subst, arith, zero-add, add-zero}
use Rattle.std.specs.Prelude.{slice_get, nat_lt, option_map}
use Rattle.std.specs.Option.{option_or}
use Rattle.std.proofs.lemmas.Bool.Decides.{nat_tests}
use Rattle.std.proofs.lemmas.List.{append-nil, append_assoc, take_all, drop_more}
use Rattle.std.proofs.lemmas.Option.{same_Some, slice_get_read}
use Rattle.design_rules.specs.FlatDesign.declared.objects.Object.{Object}
use Rattle.design_rules.specs.FlatDesign.declared.objects.ObjectForm.{ObjectForm}
use Rattle.design_rules.specs.FlatDesign.declared.objects.ObjectForm.TheVariants as form
use Rattle.design_rules.specs.FlatDesign.declared.objects.Objects.{Objects}
use Rattle.design_rules.specs.declared.bindings.BoundPort.{BoundPort}
use Rattle.design_rules.specs.Objects.{object_at}
use Rattle.design_rules.specs.Formed.{HasSize, AreFormed}
use Rattle.design_rules.specs.Paths.{ends_of}
use Rattle.design_rules.specs.BindingFaults.{first_broken, has_twice, has_too_few, broken_at, fault_of, object_fault, objects_fault}
use Rattle.design_rules.specs.Bound.{is_port, port_if, ports_from}
use Rattle.binding.specs.declared.known.Known.{Known}
use Rattle.binding.specs.Rows.{row_at}
use Rattle.binding.specs.Known.{IsKnown}

or_none : {A : Type 0} (a b : Option A) → option_or a b ≡ None → (a ≡ None) × (b ≡ None)
or_none None b h = (refl, h)
or_none (Some x) b h = cc

map_none : {A B : Type 0} (f : A → B) (a : Option A) → option_map f a ≡ None → a ≡ None
map_none f None h = refl
map_none f (Some x) h = cc

not_many : (twice many few : Bool) → first_broken twice many few ≡ None → many ≡ false
not_many true many few h = cc
not_many false true few h = cc
not_many false false few h = refl

module _ (os : Objects) where
  none_each : (s : ℕ) (xs : List Object) → objects_fault os s xs ≡ None → (k : ℕ) (o : Object) → slice_get xs k ≡ Some o → object_fault os (s + k) o ≡ None
  none_each s [] h k o at = cc
  none_each s (x ∷ xs) h zero o at =
      let first = (or_none (object_fault os s x) (objects_fault os (s + 1) xs) h).0 in
      subst (λ (y : Object). object_fault os (s + 0) y ≡ None) (same_Some x o at) (subst (λ n. object_fault os n x ≡ None) (sym (add-zero s)) first)
  none_each s (x ∷ xs) h (suc k) o at =
      let e : s + 1 + k ≡ s + suc k = omega arith in
      subst (λ n. object_fault os n o ≡ None) e (none_each (s + 1) xs (or_none (object_fault os s x) (objects_fault os (s + 1) xs) h).1 k o at)

  few_of : (i : ℕ) (f : ObjectForm) → HasSize f → broken_at os i f ≡ None → is_port f ≡ true → length (ends_of os i) ≤ 64
  few_of i (form.Instance m) sized none port = cc
  few_of i (form.Signal kind many t initial) sized none port = cc
  few_of i form.Resolved sized none port = cc
  few_of i (form.Clock period high start code) sized none port = cc
  few_of i (form.Fifo t size) sized none port = cc
  few_of i form.Mutex sized none port = cc
  few_of i form.Event sized none port = cc
  few_of i form.Keeper sized none port = cc
  few_of i (form.Semaphore start) sized none port = cc
  few_of i (form.Memory size) sized none port = cc
  few_of i (form.Variable t initial) sized none port = cc
  few_of i (form.Port leads_to size rule) sized none port =
      let few : nat_lt size (length (ends_of os i)) ≡ false = not_many (has_twice (ends_of os i)) (nat_lt size (length (ends_of os i))) (has_too_few rule size (length (ends_of os i))) none in
      let most : size ≤ 64 = sized.1 in
      grind (arith, nat_tests)
  few_of i (form.Export leads_to) sized none port = cc
  few_of i (form.Initiator pass backward) sized none port = cc
  few_of i (form.Target pass blocking forward) sized none port = cc
  few_of i (form.Process kind code dont_initialize) sized none port = cc

  module _ (formed : AreFormed os) (known : Known) (is : IsKnown os known) (judged : objects_fault os 0 os.list ≡ None) where
    pub whole : (i : ℕ) (o : Object) → object_at os i ≡ Some o → is_port o.form ≡ true → row_at known.ends i ≡ ends_of os i
    whole i o at port =
        let none : object_fault os i o ≡ None = subst (λ n. object_fault os n o ≡ None) (zero-add i) (none_each 0 os.list judged i o at) in
        is.ended i ∙ take_all 65 (ends_of os i) (let few = few_of i o.form (formed.sizes i o at) (map_none (fault_of os o.line i) (broken_at os i o.form) none) port in omega (arith, few))

    -- one more object, of the ports so far
    module _ (list : List Object) (same : list ≡ os.list) (i : ℕ) (o : Object) (below : i < length list) (read : o ≡ get_or list i o) (ports : List BoundPort)
        (so_far : ports ++ ports_from os i (drop i os.list) ≡ ports_from os 0 os.list) where
      at : object_at os i ≡ Some o
      at = ap (λ (xs : List Object). slice_get xs i) (sym same) ∙ slice_get_read list (length list) i o refl below read

      next : drop i os.list ≡ o ∷ drop (i + 1) os.list
      next =
          ap (drop i) (sym same) ∙ drop_more list i o below ∙ ap (λ (x : Object). x ∷ drop (i + 1) list) (sym read)
          ∙ ap (λ (xs : List Object). o ∷ drop (i + 1) xs) same

      more : (new : List BoundPort) → new ≡ ports ++ port_if os i (is_port o.form) → new ++ ports_from os (i + 1) (drop (i + 1) os.list) ≡ ports_from os 0 os.list
      more new is_new =
          ap (λ (ps : List BoundPort). ps ++ ports_from os (i + 1) (drop (i + 1) os.list)) is_new
          ∙ append_assoc ports (port_if os i (is_port o.form)) (ports_from os (i + 1) (drop (i + 1) os.list))
          ∙ ap (λ (xs : List Object). ports ++ ports_from os i xs) (sym next) ∙ so_far

      pub with_port : (new : List BoundPort) (row : List ℕ) → is_port o.form ≡ true → row ≡ row_at known.ends i → new ≡ ports ++ (record { object = i; channels = row }) ∷ []
          → new ++ ports_from os (i + 1) (drop (i + 1) os.list) ≡ ports_from os 0 os.list
      with_port new row port is_row is_new =
          more new
          (is_new ∙ ap (λ (cs : List ℕ). ports ++ (record { object = i; channels = cs }) ∷ []) (is_row ∙ whole i o at port)
          ∙ ap (λ b. ports ++ port_if os i b) (sym port))

      pub without_port : (new : List BoundPort) → is_port o.form ≡ false → new ≡ ports → new ++ ports_from os (i + 1) (drop (i + 1) os.list) ≡ ports_from os 0 os.list
      without_port new other is_new = more new (is_new ∙ sym (append-nil ports) ∙ ap (λ b. ports ++ port_if os i b) (sym other))
