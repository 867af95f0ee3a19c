use Rattle.std.proofs.Common.{◌≡◌, refl}
use Rattle.flat_design.specs.Code.{statement_of}
use Rattle.flat_design.specs.declared.code.Statement.{Statement}
use Rattle.flat_design.specs.declared.code.Statement.TheVariants as statement
use Rattle.kernel_steps.specs.Owing.{call_of}
use Rattle.kernel_steps.specs.declared.owing.OwedCall.TheVariants as owed
use Rattle.kernel_steps.proofs.owing.call_of.Goals as goal

owes_nothing : (s : Statement) → ((k : _) (who : _) (all : _) → s ≡ statement.Control k who all → ⊥) → ((who : _) (e : _) (all : _) → s ≡ statement.ThrowIt who e all → ⊥)
    → owed.Nothing ≡ call_of (statement_of s)
owes_nothing (statement.Control k who all) controls throws = absurd (controls k who all refl)
owes_nothing (statement.ThrowIt who e all) controls throws = absurd (throws who e all refl)
owes_nothing s controls throws = refl

pub returns-in_default : goal.returns-in_default
returns-in_default c = owes_nothing c.args.statement.now c.in_default.not-Control c.in_default.not-ThrowIt
