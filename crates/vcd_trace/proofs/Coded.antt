-- A header does not hang on the code of a design.
use Rattle.std.proofs.Common.{◌≡◌, ◌==◌, ◌++◌, ℕ, zero, suc, cond, List, [], ◌∷◌, length, slice_get, Option, Some, None, refl, sym, ap, ◌∙◌}
use Rattle.std.specs.Prelude.{codes}
use Rattle.std.specs.List.{flat_map}
use Rattle.flat_design.specs.declared.design.Design.{Design}
use Rattle.flat_design.specs.declared.design.Visible.{Visible}
use Rattle.flat_design.specs.declared.design.VisibleId.{VisibleId}
use Rattle.flat_design.specs.declared.design.VisibleId.TheVariants as visible_id
use Rattle.flat_design.specs.declared.objects.Object.{Object}
use Rattle.flat_design.specs.declared.objects.ObjectForm.{ObjectForm}
use Rattle.flat_design.specs.declared.objects.ObjectForm.TheVariants as form
use Rattle.laws_runs.specs.SimModel.Configuration.{Config}
use Rattle.laws_runs.specs.SimModel.Trace.{visible_width, scope_line, upscope_line, var_line, var_of, items_of, form_walk, object_walk, walk_from, scale_line, header}
use Rattle.kernel_state.specs.Kernel.{StandsFor, whole_design}
use Rattle.kernel_state.specs.declared.kernel.Kernel.{Kernel}

flat_map_same : (f g : ℕ → List ℕ) (is : List ℕ) → ((i : ℕ) → f i ≡ g i) → flat_map f is ≡ flat_map g is
flat_map_same f g [] same = refl
flat_map_same f g (i ∷ is) same = ap (λ t. t ++ flat_map f is) (same i) ∙ ap (λ t. g i ++ t) (flat_map_same f g is same)

module _ (k : Kernel) where
  width_is : (v : VisibleId) → visible_width (whole_design k) v ≡ visible_width k.design v
  width_is (visible_id.Signal n) = refl
  width_is (visible_id.Resolved n) = refl

  var_is : (i : ℕ) (name : List ℕ) (n : ℕ) (vs : List Visible) → var_of (whole_design k) i name n vs ≡ var_of k.design i name n vs
  var_is i name n [] = refl
  var_is i name n (v ∷ vs) =
      ap (λ w. cond (v.object == i) (var_line w n name) (var_of (whole_design k) i name (suc n) vs)) (width_is v.id)
      ∙ ap (λ t. cond (v.object == i) (var_line (visible_width k.design v.id) n name) t) (var_is i name (suc n) vs)

  form_is : (i : ℕ) (name : List ℕ) (f g : ℕ → List ℕ) (x : ObjectForm) → ((i : ℕ) → f i ≡ g i) → form_walk (whole_design k) i name f x ≡ form_walk k.design i name g x
  form_is i name f g (form.Instance m) same = ap (λ t. scope_line name ++ t ++ upscope_line) (flat_map_same f g (items_of k.design i) same)
  form_is i name f g (form.Signal kind many t v) same = var_is i name 0 k.design.visible
  form_is i name f g form.Resolved same = var_is i name 0 k.design.visible
  form_is i name f g (form.Clock period high start code) same = var_is i name 0 k.design.visible
  form_is i name f g (form.Fifo t size) same = refl
  form_is i name f g form.Mutex same = refl
  form_is i name f g form.Event same = refl
  form_is i name f g form.Keeper same = refl
  form_is i name f g (form.Semaphore start) same = refl
  form_is i name f g (form.Memory size) same = refl
  form_is i name f g (form.Variable t v) same = refl
  form_is i name f g (form.Port leads_to size rule) same = refl
  form_is i name f g (form.Export leads_to) same = refl
  form_is i name f g (form.Initiator pass backward) same = refl
  form_is i name f g (form.Target pass blocking forward) same = refl
  form_is i name f g (form.Process kind code dont_initialize) same = refl

  object_is : (i : ℕ) (f g : ℕ → List ℕ) (o : Option Object) → ((i : ℕ) → f i ≡ g i) → object_walk (whole_design k) i f o ≡ object_walk k.design i g o
  object_is i f g None same = refl
  object_is i f g (Some o) same = form_is i o.name f g o.form same

  walk_is : (levels i : ℕ) → walk_from levels (whole_design k) i ≡ walk_from levels k.design i
  walk_is zero i = refl
  walk_is (suc more) i = object_is i (walk_from more (whole_design k)) (walk_from more k.design) (slice_get k.design.objects.list i) (walk_is more)

  pub header-is : (c : Config) → StandsFor k c → header k.design ≡ header c.design
  header-is c h =
      ap (λ t. scale_line k.design.resolution ++ t ++ codes "$enddefinitions $end" ++ 10 ∷ []) (sym (walk_is (length k.design.objects.list) 0))
      ∙ sym (ap (λ (d : Design). header d) h.design)
