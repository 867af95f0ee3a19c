-- A value stored in what a name stands for: in a variable, or nowhere; and one stored in a local variable behind a statement that is past.
use Rattle.std.proofs.Common.{◌≡◌, ◌∙◌, ℕ, Option, Some, None, refl, sym, subst}
use Rattle.std.specs.FinMap as map
use Rattle.kernel_view.specs.LogicValues.declared.kinds.Value.{Value}
use Rattle.flat_design.specs.declared.design.Denoted.{Denoted}
use Rattle.flat_design.specs.declared.design.Denoted.TheVariants as denoted
use Rattle.kernel_view.specs.InstanceTable.declared.instances.Instance.{Instance as Entry}
use Rattle.kernel_view.specs.SimModel.Residual.{Residual, in_innermost}
use Rattle.kernel_view.specs.SimModel.Configuration.{Config, Instance, instance_at, with_residual}
use Rattle.kernel_view.specs.SimModel.Statements.{settled_in}
use Rattle.kernel_view.specs.SimModel.Storing.{set_variable, set_denoted, set_local, with_local}
use Rattle.kernel_view.specs.KernelBodies.Strip.{strip}
use Rattle.kernel_view.specs.KernelProcesses.declared.parts.Process.{Process}
use Rattle.kernel_view.specs.KernelState.Kernel.{StandsFor}
use Rattle.kernel_view.specs.KernelState.declared.kernel.Kept.{Kept}
use Rattle.kernel_view.specs.KernelState.declared.kernel.Kernel.{Kernel}
use Rattle.kernel_view.specs.ProcessBodies.Bodies as bodies
use Rattle.kernel_view.specs.ProcessBodies.declared.body.Body.{Body}
use Rattle.kernel_view.proofs.KernelState.Frames.{change-twice, steps_to, with_body}
use Rattle.exec_data.specs.Variables.{number_of}

abbrev pub set_if : Config → Value → Option ℕ → Config
set_if c v None = c
set_if c v (Some n) = set_variable c n v

pub set_is : (c : Config) (d : Denoted) (v : Value) → set_denoted c d v ≡ set_if c v (number_of d)
set_is c denoted.Nothing v = refl
set_is c (denoted.Channel ch) v = refl
set_is c (denoted.Event e) v = refl
set_is c (denoted.Keeper k) v = refl
set_is c (denoted.Memory m) v = refl
set_is c (denoted.Variable n) v = refl
set_is c (denoted.Port n) v = refl
set_is c (denoted.Process p) v = refl
set_is c (denoted.Socket hop forward) v = refl

-- what two moves of a body keep one after the other
pub keeps_on : {a b c : Body} → bodies.Keeps a b → bodies.Keeps b c → bodies.Keeps a c
keeps_on first then = record { code = then.code ∙ first.code; arguments = then.arguments ∙ first.arguments }

module _ (k : Kernel) (p : ℕ) (x : Entry (Process Kept)) (b : Body) (at : map.get k.schedule.table.live p ≡ Some x) (keeps : bodies.Keeps x.body.body.body b) where
  -- finished parts fall away, something is left, and in that a local variable gets a value
  pub stores_local : (c : Config) (i : Instance) → StandsFor k c → instance_at c p ≡ Some i → (r : Residual) (n : ℕ) (v : Value) → strip (in_innermost (with_local n v) r) ≡ bodies.left_in k.program.now b
      → StandsFor (record k { schedule = with_body k p x b at keeps }) (set_local (with_residual (settled_in c p i.residual) p r) p n v)
  stores_local c i h there r n v is =
      let settled = settled_in c p i.residual in
      subst (λ is. StandsFor (record k { schedule = with_body k p x b at keeps }) (record settled { processes = record settled.processes { instances = is } }))
      (sym (change-twice settled.processes.instances p (λ j. record j { residual = r }) (λ j. record j { residual = in_innermost (with_local n v) j.residual })))
      (steps_to k p x b at keeps c i h there (in_innermost (with_local n v) r) is)
