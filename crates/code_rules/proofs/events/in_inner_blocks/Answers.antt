use Rattle.std.proofs.Common.{◌≡◌, ℕ, List, refl}
use Rattle.model_rules.specs.FlatDesign.Code.{statement_of}
use Rattle.model_rules.specs.FlatDesign.Reach.{inner_blocks}
use Rattle.model_rules.specs.FlatDesign.declared.code.Statement.{Statement}
use Rattle.model_rules.specs.FlatDesign.declared.code.Statement.TheVariants as statement
use Rattle.code_rules.specs.Tables.{in_blocks}
use Rattle.code_rules.proofs.events.in_inner_blocks.Goals as goal

no_blocks : (table : List ℕ) (first : ℕ) (s : Statement) → ((e : _) (b : _) (other : _) → s ≡ statement.If e b other → ⊥) → ((e : _) (b : _) → s ≡ statement.While e b → ⊥)
    → ((b : _) (u : _) → s ≡ statement.Guard b u → ⊥) → ((b : _) (handlers : _) → s ≡ statement.Try b handlers → ⊥) → first ≡ in_blocks table first (inner_blocks (statement_of s))
no_blocks table first (statement.If e b other) chooses loops guards tries = absurd (chooses e b other refl)
no_blocks table first (statement.While e b) chooses loops guards tries = absurd (loops e b refl)
no_blocks table first (statement.Guard b u) chooses loops guards tries = absurd (guards b u refl)
no_blocks table first (statement.Try b handlers) chooses loops guards tries = absurd (tries b handlers refl)
no_blocks table first s chooses loops guards tries = refl

pub returns-in_default : goal.returns-in_default
returns-in_default c = no_blocks c.args.table.now c.args.first c.args.statement.now c.in_default.not-If c.in_default.not-While c.in_default.not-Guard c.in_default.not-Try
