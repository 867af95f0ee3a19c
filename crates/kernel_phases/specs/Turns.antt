-- Whether a body has begun, and that it begins.
use Rattle.std.specs.Prelude.{ℕ, Bool, true, Option, Some, None}
use Rattle.kernel_state.specs.InstanceTable.declared.instances.Instance.{Instance as Entry}
use Rattle.kernel_state.specs.SimModel.Configuration.{Config, Instance, change_instance, arena}
use Rattle.kernel_state.specs.SimModel.Control.{begins}
use Rattle.kernel_state.specs.SimModel.Residual.{begun}
use Rattle.kernel_state.specs.KernelProcesses.declared.parts.Process.{Process}
use Rattle.kernel_state.specs.declared.kernel.Kept.{Kept}

-- where there is no instance there is nothing to begin
abbrev pub is_begun : Option (Entry (Process Kept)) → Bool
is_begun None = true
is_begun (Some x) = x.started

-- a body is at its first statement, and no next trigger is set
abbrev pub restarted : Config → ℕ → Instance → Config
restarted c p i = change_instance c p (λ j. record j { residual = begun (arena c) i.code i.arguments; trigger = None })

-- it begins so
abbrev pub begins_first : Config → ℕ → Instance → Config
begins_first c p i = begins (change_instance c p (λ j. record j { trigger = None })) p i
