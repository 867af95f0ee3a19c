-- The path of an instance, by what is kept of it.
use Rattle.std.proofs.Common.{◌≡◌, ℕ, false, List, Option, Some, sym, ap, ◌∙◌, subst}
use Rattle.kernel_state.specs.LogicValues.declared.kinds.Value.{Value}
use Rattle.flat_design.specs.Code as code
use Rattle.flat_design.specs.Code.{Term, arena_of, statement_at}
use Rattle.flat_design.specs.declared.design.Design.{Design}
use Rattle.kernel_state.specs.SimModel.Configuration.{Config, Instance, Cycle, instance_at}
use Rattle.kernel_state.specs.SimModel.Steps.{turn_line}
use Rattle.kernel_state.specs.SimModel.Storing.{print_line}
use Rattle.kernel_state.specs.KernelProcesses.InstanceViews.{shown_at}
use Rattle.kernel_state.specs.KernelProcesses.InstanceViews.{body_at as kept_at}
use Rattle.kernel_state.specs.Processes.{TellsBy, Tells}
use Rattle.kernel_state.specs.Kernel.{Shows, StandsFor, whole_design}
use Rattle.kernel_state.specs.declared.kernel.Kernel.{Kernel}
use Rattle.report_texts.specs.Instances.{path_if, path_at, IsPrintLine, IsTurnLine}

module _ (k : Kernel) (p : ℕ) (c : Config) (i : Instance) (h : StandsFor k c) (there : instance_at c p ≡ Some i) (lives : i.ended ≡ false) where
  pub path_is : i.path ≡ path_at k p
  path_is =
      let tells = subst (λ e. TellsBy (Shows (whole_design k) k.program.now) e (shown_at k.schedule p) (kept_at k.schedule p) i) lives
      (subst (Tells (Shows (whole_design k) k.program.now) (shown_at k.schedule p) (kept_at k.schedule p)) there (h.processes.each p)) in
      tells.kept.1.1.path ∙ sym (ap (path_if (whole_design k)) tells.kept.1.0)

  pub now_is : c.cycle.now ≡ k.cycle.now.0
  now_is = ap (λ (y : Cycle). y.now) h.cycle

pub is_turn : (k : Kernel) (p : ℕ) (line : List ℕ) → line ≡ turn_line k.cycle.now.0 (path_at k p) p → IsTurnLine k p line
is_turn k p line is c i h there lives = is
    ∙ sym (ap (λ (path : List ℕ). turn_line c.cycle.now path p) (path_is k p c i h there lives) ∙ ap (λ (now : ℕ). turn_line now (path_at k p) p) (now_is k p c i h there lives))

pub is_print : (k : Kernel) (p s : ℕ) (v : Option Value) (words line : List ℕ)
    → ((text : List ℕ) (shown : Option Term) → statement_at (arena_of k.program.now.code) s ≡ Some (code.print text shown) → words ≡ text)
    → line ≡ print_line k.cycle.now.0 (path_at k p) words v → IsPrintLine k p s v line
is_print k p s v words line reads is c i text shown h there lives prints =
    is
    ∙ sym (ap (λ (path : List ℕ). print_line c.cycle.now path text v) (path_is k p c i h there lives)
    ∙ ap (λ (now : ℕ). print_line now (path_at k p) text v) (now_is k p c i h there lives)
    ∙ ap (λ (bytes : List ℕ). print_line k.cycle.now.0 (path_at k p) bytes v) (sym (reads text shown (ap (λ (d : Design). statement_at (arena_of d.code) s) (sym h.design) ∙ prints))))
