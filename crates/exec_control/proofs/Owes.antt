-- A statement that comes next, and what it comes to owe.
use Rattle.std.proofs.Common.{◌≡◌, ℕ, List, sym, ap, ◌∙◌, subst}
use Rattle.exec_data.specs.KernelBodies.Layers.{shown}
use Rattle.exec_data.specs.SimModel.Residual.{settle}
use Rattle.exec_data.specs.SimModel.Configuration.{Config, Instance, arena}
use Rattle.exec_data.specs.SimModel.Statements.{settled_in}
use Rattle.exec_data.specs.SimModel.Control.{targets, with_owed}
use Rattle.exec_data.specs.ProcessBodies.Bodies as bodies
use Rattle.exec_data.specs.KernelState.Kernel.{StandsFor}
use Rattle.exec_data.specs.KernelState.Moves.{HasStatement}
use Rattle.exec_data.specs.KernelState.declared.kernel.Kernel.{Kernel}
use Rattle.exec_data.specs.Entered.{Shows}
use Rattle.exec_data.proofs.KernelState.Reached.{targets_settled}

pub has_statement : (k : Kernel) (p s : ℕ) → Shows k p s → HasStatement k p
has_statement k p s shows kept at = subst bodies.IsStatement (sym (ap shown (shows kept at))) tt

-- these are whom the call reaches
pub owes_targets : (l : Kernel) (c : Config) (p s q : ℕ) (i : Instance) (qs : List ℕ) → qs ≡ targets c q p
    → StandsFor l (with_owed (settled_in c p i.residual) p (settle (arena c) i.residual) s qs)
    → StandsFor l (with_owed (settled_in c p i.residual) p (settle (arena c) i.residual) s (targets (settled_in c p i.residual) q p))
owes_targets l c p s q i qs same stands =
    subst (λ xs. StandsFor l (with_owed (settled_in c p i.residual) p (settle (arena c) i.residual) s xs)) (same ∙ sym (targets_settled c p i.residual q p)) stands
