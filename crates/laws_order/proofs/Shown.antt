-- What shows of two configurations that are the same.
use Rattle.std.proofs.Common.{◌≡◌, ℕ, ◌∷◌, [], ◌++◌, List, slice_get, Option, Some, None, option_map, map, codes, refl, sym, ap, ◌∙◌}
use Rattle.std.specs.List.{flat_map}
use Rattle.std.proofs.lemmas.Option.{none-some, same_Some}
use Rattle.sim_model.specs.LogicValues.declared.kinds.Value.{Value}
use Rattle.sim_model.specs.LogicValues.ValueText.{text_of}
use Rattle.sim_model.specs.SignalChannel.Drivers.{Driven}
use Rattle.sim_model.specs.LogicValues.declared.kinds.Value.TheVariants as value
use Rattle.sim_model.specs.FlatDesign.declared.design.Visible.{Visible}
use Rattle.sim_model.specs.FlatDesign.declared.design.VisibleId.{VisibleId}
use Rattle.sim_model.specs.FlatDesign.declared.design.VisibleId.TheVariants as visible_id
use Rattle.sim_model.specs.Configuration.{Config, path_of}
use Rattle.sim_model.specs.Reading.{signal_value, resolved_value}
use Rattle.sim_model.specs.Phases.{visible_value, visible_values, with_snapshot}
use Rattle.sim_model.specs.Trace.{vcd, trace_text}
use Rattle.sim_model.specs.Texts.{final_line, final_lines, end_line, closing}
use Rattle.sim_model.specs.declared.plain.Stop.{Stop}
use Rattle.laws_order.specs.Same.{Same}

driven_value : (o r : Option Driven) → option_map (λ (d : Driven). d.value) r ≡ option_map (λ (d : Driven). d.value) o → resolved_value r ≡ resolved_value o
driven_value None None e = refl
driven_value None (Some s) e = absurd (none-some s.value (sym e))
driven_value (Some r) None e = absurd (none-some r.value e)
driven_value (Some r) (Some s) e = ap value.Logic (same_Some s.value r.value e)

map_same : {A B : Type 0} (f g : A → B) → ((a : A) → g a ≡ f a) → (as_ : List A) → map g as_ ≡ map f as_
map_same f g h [] = refl
map_same f g h (a ∷ as_) = ap (λ b. b ∷ map g as_) (h a) ∙ ap (λ bs. f a ∷ bs) (map_same f g h as_)

lines_same : {A B : Type 0} (f g : A → List B) → ((a : A) → g a ≡ f a) → (as_ : List A) → flat_map g as_ ≡ flat_map f as_
lines_same f g h [] = refl
lines_same f g h (a ∷ as_) = ap (λ b. b ++ flat_map g as_) (h a) ∙ ap (λ bs. f a ++ bs) (lines_same f g h as_)

module _ (c x : Config) (h : Same c x) where
  pub value-same : (v : VisibleId) → visible_value x v ≡ visible_value c v
  value-same (visible_id.Signal n) = ap (λ (k : Config). signal_value (slice_get k.channels.signals n)) h.alike.shared
  value-same (visible_id.Resolved n) = driven_value (slice_get c.channels.resolved n) (slice_get x.channels.resolved n) (h.alike.values n)

  pub values-same : visible_values x ≡ visible_values c
  values-same =
      ap (λ (k : Config). map (λ (v : Visible). visible_value x v.id) k.design.visible) h.alike.shared
      ∙ map_same (λ (v : Visible). visible_value c v.id) (λ (v : Visible). visible_value x v.id) (λ v. value-same v.id) c.design.visible

  pub snapshots-same : (with_snapshot x).trace.snapshots ≡ (with_snapshot c).trace.snapshots
  snapshots-same =
      ap (λ (k : Config). k.trace.snapshots ++ (record { time = k.cycle.now; values = visible_values x }) ∷ []) h.alike.shared
      ∙ ap (λ (vs : List Value). c.trace.snapshots ++ (record { time = c.cycle.now; values = vs }) ∷ []) values-same

  pub trace-same : trace_text x ≡ trace_text c
  trace-same = ap (λ (k : Config). vcd k.design (with_snapshot x).trace.snapshots) h.alike.shared ∙ ap (vcd c.design) snapshots-same

  final_same : (v : Visible) → final_line x v ≡ final_line c v
  final_same v =
      ap (λ (k : Config). codes "final " ++ path_of k.design v.object ++ codes " " ++ text_of (visible_value x v.id) ++ 10 ∷ []) h.alike.shared
      ∙ ap (λ (u : Value). codes "final " ++ path_of c.design v.object ++ codes " " ++ text_of u ++ 10 ∷ []) (value-same v.id)

  pub finals-same : final_lines x ≡ final_lines c
  finals-same = ap (λ (k : Config). flat_map (final_line x) k.design.visible) h.alike.shared ∙ lines_same (final_line c) (final_line x) final_same c.design.visible

  pub closing-same : (s : Stop) → closing x s ≡ closing c s
  closing-same s = ap (λ (k : Config). final_lines x ++ end_line k.design k.cycle.now s) h.alike.shared ∙ ap (λ (ls : List ℕ). ls ++ end_line c.design c.cycle.now s) finals-same
