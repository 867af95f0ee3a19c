-- What a kernel tells of the configurations that it stands for.
use Rattle.std.proofs.Common.{◌≡◌, ◌++◌, ℕ, List, [], ◌∷◌, Option, Some, None, refl, ap, ◌∙◌}
use Rattle.std.specs.Prelude.{slice_get, codes}
use Rattle.std.specs.List.{flat_map}
use Rattle.kernel_state.specs.LogicValues.ValueText.{text_of}
use Rattle.flat_design.specs.declared.design.Design.{Design}
use Rattle.flat_design.specs.declared.design.Visible.{Visible}
use Rattle.kernel_state.specs.SimModel.Configuration.{Config, Channels, Cycle, path_of}
use Rattle.kernel_state.specs.SimModel.Steps.{shows, show_line}
use Rattle.kernel_state.specs.SimModel.Texts.{closing, end_line}
use Rattle.kernel_state.specs.SimModel.declared.plain.Stop.{Stop}
use Rattle.kernel_state.specs.Kernel.{StandsFor, whole_design}
use Rattle.kernel_state.specs.declared.kernel.Kernel.{Kernel}
use Rattle.report_texts.specs.ReportViews.{with_line, value_in, line_for, closing_of}

-- both texts by the design, the channels and the time
abbrev line_by : Design → Channels → ℕ → Option Visible → Option (List ℕ)
line_by d x now None = None
line_by d x now (Some v) = Some (show_line now (path_of d v.object) (value_in x v.id))

shows_by : (c : Config) (o : Option Visible) → shows c o ≡ with_line c (line_by c.design c.channels c.cycle.now o)
shows_by c None = refl
shows_by c (Some v) = refl

abbrev closing_by : Design → Channels → ℕ → Stop → List ℕ
closing_by d x now s = flat_map (λ (v : Visible). codes "final " ++ path_of d v.object ++ codes " " ++ text_of (value_in x v.id) ++ 10 ∷ []) d.visible ++ end_line d now s

module _ (k : Kernel) (c : Config) (h : StandsFor k c) where
  now_is : c.cycle.now ≡ k.cycle.now.0
  now_is = ap (λ (y : Cycle). y.now) h.cycle

  line_in : (o : Option Visible) → line_by (whole_design k) k.channels k.cycle.now.0 o ≡ line_for k o
  line_in None = refl
  line_in (Some v) = refl

  pub shown_line : (number : ℕ) → shows c (slice_get c.design.visible number) ≡ with_line c (line_for k (slice_get k.design.visible number))
  shown_line number = shows_by c (slice_get c.design.visible number)
      ∙ ap (with_line c)
      (ap (λ (d : Design). line_by d c.channels c.cycle.now (slice_get d.visible number)) h.design
      ∙ ap (λ (x : Channels). line_by (whole_design k) x c.cycle.now (slice_get k.design.visible number)) h.channels
      ∙ ap (λ (n : ℕ). line_by (whole_design k) k.channels n (slice_get k.design.visible number)) now_is
      ∙ line_in (slice_get k.design.visible number))

  end_in : (s : Stop) → closing_by (whole_design k) k.channels k.cycle.now.0 s ≡ closing_of k s
  end_in s = refl

  closing_in : (s : Stop) → closing c s ≡ closing_by c.design c.channels c.cycle.now s
  closing_in s = refl

  pub closing_is : (s : Stop) → closing c s ≡ closing_of k s
  closing_is s = closing_in s
      ∙ ap (λ (d : Design). closing_by d c.channels c.cycle.now s) h.design
      ∙ ap (λ (x : Channels). closing_by (whole_design k) x c.cycle.now s) h.channels
      ∙ ap (λ (n : ℕ). closing_by (whole_design k) k.channels n s) now_is
      ∙ end_in s
