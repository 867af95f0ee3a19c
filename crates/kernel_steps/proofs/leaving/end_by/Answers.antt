use Rattle.std.proofs.Common.{◌≡◌, false, refl}
use Rattle.flat_design.specs.Code.{statement_of}
use Rattle.flat_design.specs.declared.code.Statement.{Statement}
use Rattle.flat_design.specs.declared.code.Statement.TheVariants as statement
use Rattle.kernel_steps.specs.Ending.{calls_over}
use Rattle.kernel_steps.proofs.leaving.end_by.Goals as goal

not_over : (s : Statement) → ((socket : _) (n : _) (d : _) → s ≡ statement.BTransport socket n d → ⊥)
    → ((target : _) (socket : _) (n : _) (phase : _) (d : _) → s ≡ statement.NbTransport target socket n phase d → ⊥) → calls_over (statement_of s) ≡ false
not_over (statement.BTransport socket n d) blocking nonblocking = absurd (blocking socket n d refl)
not_over (statement.NbTransport target socket n phase d) blocking nonblocking = absurd (nonblocking target socket n phase d refl)
not_over s blocking nonblocking = refl

pub returns-in_default : goal.returns-in_default
returns-in_default c = not_over c.args.statement.now c.in_default.not-BTransport c.in_default.not-NbTransport
