-- Designs of one model: what a script names is the same in each of them, and a session can be run of one that is sound.
use mathlib.Core.Path.{fun_ext}
use Rattle.std.proofs.Common.{◌≡◌, ◌≤◌, ◌<◌, ◌*◌, ◌%◌, ◌^◌, ℕ, All, Bool, ◌&&◌, is_some, List, [], ◌∷◌, length, position, bytes_eq, slice_get, option_map, option_and_then, Option, Some, None, refl, sym, ap, ap₂, ◌∙◌, arith}
use Rattle.std.specs.Option.{option_or}
use Rattle.model_tree.specs.Tree as tree
use Rattle.model_tree.specs.SimTime.Times.{femtoseconds_in, ticks_of, whole_ticks}
use Rattle.model_tree.specs.SimTime.declared.moments.Resolution.{Resolution}
use Rattle.model_tree.specs.SimTime.declared.moments.Unit.{Unit as TimeUnit}
use Rattle.flat_design.specs.Sound.{SoundDesign}
use Rattle.flat_design.specs.declared.objects.Objects.{Objects}
use Rattle.flat_design.specs.declared.value_types.ValueType.{ValueType}
use Rattle.flat_design.specs.declared.design.Design.{Design}
use Rattle.flat_design.specs.declared.design.SemaphorePart.{SemaphorePart}
use Rattle.flat_design.specs.declared.design.SignalPart.{SignalPart}
use Rattle.flat_design.specs.declared.design.Visible.{Visible}
use Rattle.flat_design.specs.declared.design.VisibleId.{VisibleId}
use Rattle.flat_design.specs.declared.design.VisibleId.TheVariants as visible_id
use Rattle.elaborate.specs.DesignRules.Listing.{objects_of}
use Rattle.elaborate.specs.DesignRules.ObjectFaults.{cycle_fault, instances_fault, limit_fault}
use Rattle.elaborate.specs.DesignRules.BindingFaults as binding
use Rattle.elaborate.specs.DesignRules.Designs.{IsDesignOf}
use Rattle.elaborate.specs.DesignRules.Parts.{signals_of, visible_of}
use Rattle.elaborate.specs.Elaborated.{elaboration_fault}
use Rattle.elaborate.specs.ModelRules.Passes.{first_fault}
use Rattle.script_text.specs.SimModel.Configuration.{path_of, path_up}
use Rattle.script_text.specs.NamedScript.{is_declared_set, signal_type, type_if, set_type, is_shown_at, is_set_at, value_at, run_timed, show_named, set_valued, set_named, named_form, in_front, name_script}
use Rattle.script_text.specs.ValueTexts.{value_read}
use Rattle.script_text.specs.declared.forms.CommandForm.{CommandForm}
use Rattle.script_text.specs.declared.forms.CommandForm.TheVariants as form
use Rattle.script_text.specs.declared.forms.TextCommand.{TextCommand}
use Rattle.run_input.specs.Acceptance.{CanRun, IsDesignOfSource}

-- what two designs agree in so that a script names the same in both
record Agree (d e : Design) : Type 0 where
  objects : d.objects ≡ e.objects
  signals : d.signals ≡ e.signals
  visible : d.visible ≡ e.visible
  resolution : d.resolution.power ≡ e.resolution.power

same_path : (d e : Design) → Agree d e → (i : ℕ) → path_of d i ≡ path_of e i
same_path d e a i = ap (λ (os : Objects). path_up i os.list i) a.objects

same_signal : (d e : Design) → Agree d e → (id : VisibleId) → signal_type d id ≡ signal_type e id
same_signal d e a (visible_id.Signal n) = ap (λ (ps : List SignalPart). option_map (λ (p : SignalPart). p.value_type) (slice_get ps n)) a.signals
same_signal d e a (visible_id.Resolved n) = refl

same_type : (d e : Design) → Agree d e → (v : Visible) → set_type d v ≡ set_type e v
same_type d e a v =
    ap₂ (λ (os : Objects) (t : Option ValueType). type_if (is_declared_set (slice_get os.list v.object)) t) a.objects (same_signal d e a v.id)

same_shown : (d e : Design) → Agree d e → (path : List ℕ) → is_shown_at d path ≡ is_shown_at e path
same_shown d e a path = fun_ext (λ (v : Visible). ap (λ (p : List ℕ). bytes_eq p path) (same_path d e a v.object))

same_set : (d e : Design) → Agree d e → (path : List ℕ) → is_set_at d path ≡ is_set_at e path
same_set d e a path =
    fun_ext (λ (v : Visible). ap₂ (λ (p : List ℕ) (t : Option ValueType). bytes_eq p path && is_some t) (same_path d e a v.object) (same_type d e a v))

same_value : (d e : Design) → Agree d e → (i : ℕ) (text : List ℕ) → value_at d i text ≡ value_at e i text
same_value d e a i text =
    ap₂ (λ (f : Visible → Option ValueType) (vs : List Visible). option_and_then (λ t. value_read t text) (option_and_then f (slice_get vs i))) (fun_ext (same_type d e a)) a.visible

same_place : (test other : Visible → Bool) (vs ws : List Visible) → test ≡ other → vs ≡ ws → position test vs ≡ position other ws
same_place test other vs ws t v = ap₂ (λ (f : Visible → Bool) (xs : List Visible). position f xs) t v

set_there : (d e : Design) → Agree d e → (line : ℕ) (path text : List ℕ) (place : Option ℕ) → set_named d line path text place ≡ set_named e line path text place
set_there d e a line path text None = refl
set_there d e a line path text (Some i) = ap (set_valued line path i) (same_value d e a i text)

-- a resolution counts by its power alone
same_time : (q r : Resolution) (n : ℕ) (u : TimeUnit) → q.power ≡ r.power → ticks_of n u q ≡ ticks_of n u r
same_time q r n u e = ap (λ (p : ℕ). whole_ticks ((n * femtoseconds_in u) % (10 ^ p)) (n * femtoseconds_in u) (10 ^ p)) e

same_form : (d e : Design) → Agree d e → (line : ℕ) (f : CommandForm) → named_form d line f ≡ named_form e line f
same_form d e a line (form.Run None) = refl
same_form d e a line (form.Run (Some (n, u))) = ap (run_timed line) (same_time d.resolution e.resolution n u a.resolution)
same_form d e a line (form.Set path text) =
    set_there d e a line path text (position (is_set_at d path) d.visible) ∙ ap (set_named e line path text) (same_place (is_set_at d path) (is_set_at e path) d.visible e.visible (same_set d e a path) a.visible)
same_form d e a line (form.Show path) =
    ap (show_named line path) (same_place (is_shown_at d path) (is_shown_at e path) d.visible e.visible (same_shown d e a path) a.visible)

same_script : (d e : Design) → Agree d e → (cs : List TextCommand) → name_script d cs ≡ name_script e cs
same_script d e a [] = refl
same_script d e a (c ∷ cs) = ap₂ in_front (same_form d e a c.line c.form) (same_script d e a cs)

-- a script names the same in all designs of a model
pub same_naming : (m : tree.Source) (d e : Design) → IsDesignOfSource m d → IsDesignOfSource m e → (cs : List TextCommand) → name_script d cs ≡ name_script e cs
same_naming m d e first second cs =
    let is = first.parts in
    let is' = second.parts in
    let objects = is.objects ∙ sym is'.objects in
    let list = ap (λ (os : Objects). os.list) objects in
    same_script d e (record {
      objects = objects;
      signals = is.signals ∙ ap signals_of list ∙ sym is'.signals;
      visible = is.visible ∙ ap visible_of list ∙ sym is'.visible;
      resolution = first.resolution ∙ sym second.resolution;
    }) cs

first_none : {T : Type 0} (o p : Option T) → option_or o p ≡ None → o ≡ None
first_none None p h = refl
first_none (Some x) p h = cc

second_none : {T : Type 0} (o p : Option T) → option_or o p ≡ None → p ≡ None
second_none None p h = h
second_none (Some x) p h = cc

none_too_large : (m : tree.Model) → elaboration_fault m ≡ None → limit_fault m ≡ None
none_too_large m whole = second_none (cycle_fault m) (limit_fault m) (first_none (instances_fault m) (binding.first_fault (objects_of m)) whole)

-- a session can be run of a sound design of a model that is not too large
pub can_run : (m : tree.Model) (d : Design)
    → ((n : tree.Model) (e : Design) → limit_fault n ≡ None → IsDesignOf n e → length e.processes ≤ 65536)
    → ((n : tree.Model) (e : Design) → limit_fault n ≡ None → IsDesignOf n e → e.events ≤ 196608)
    → ((n : tree.Model) (e : Design) → first_fault n ≡ None → IsDesignOf n e → All (λ (p : SemaphorePart). p.start < 2 ^ 31) e.semaphores)
    → first_fault m ≡ None → elaboration_fault m ≡ None → IsDesignOf m d → SoundDesign d → CanRun d
can_run m d processes events starts faultless whole is sound =
    let few = none_too_large m whole in
    let count : d.events ≤ 196608 = events m d few is in
    record {
      sound = sound;
      few = processes m d few is;
      events = omega arith;
      starts = starts m d faultless is;
    }
