use Rattle.std.proofs.Common.{◌≡◌, refl}
use Rattle.sim_model.specs.FlatDesign.Code.{statement_of}
use Rattle.sim_model.specs.FlatDesign.declared.code.Statement.{Statement}
use Rattle.sim_model.specs.FlatDesign.declared.code.Statement.TheVariants as statement
use Rattle.kernel_bodies.specs.Around.{around_of}
use Rattle.kernel_bodies.specs.declared.around.Around.TheVariants as around
use Rattle.kernel_bodies.proofs.statements.around.Goals as goal

nothing_around : (s : Statement) → ((e : _) (b : _) → s ≡ statement.While e b → ⊥) → ((b : _) (u : _) → s ≡ statement.Guard b u → ⊥) → ((b : _) (handlers : _) → s ≡ statement.Try b handlers → ⊥) → around.Nothing ≡ around_of (statement_of s)
nothing_around (statement.While e b) loops guards tries = absurd (loops e b refl)
nothing_around (statement.Guard b u) loops guards tries = absurd (guards b u refl)
nothing_around (statement.Try b handlers) loops guards tries = absurd (tries b handlers refl)
nothing_around s loops guards tries = refl

pub returns-in_default : goal.returns-in_default
returns-in_default c = nothing_around c.args.statement.now c.in_default.not-While c.in_default.not-Guard c.in_default.not-Try
