use Rattle.std.proofs.Common.{◌≡◌, [], refl}
use Rattle.sim_model.specs.FlatDesign.Code.{statement_of}
use Rattle.sim_model.specs.FlatDesign.declared.code.Statement.{Statement}
use Rattle.sim_model.specs.FlatDesign.declared.code.Statement.TheVariants as statement
use Rattle.kernel_bodies.specs.Depths.{handlers_in}
use Rattle.kernel_bodies.proofs.statements.handlers_in.Goals as goal

no_handlers : (s : Statement) → ((b : _) (handlers : _) → s ≡ statement.Try b handlers → ⊥) → [] ≡ handlers_in (statement_of s)
no_handlers (statement.Try b handlers) none = absurd (none b handlers refl)
no_handlers s none = refl

pub returns-in_default : goal.returns-in_default
returns-in_default c = no_handlers c.args.statement.now c.in_default.not-Try
