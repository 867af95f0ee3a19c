use Rattle.std.proofs.Common.{◌≡◌, ℕ, Option, Some, None, refl}
use Rattle.std.specs.Prelude.{Contains, []}
use Rattle.sim_model.specs.FlatDesign.Code.{Arena, Statement, arena_of, statement_at}
use Rattle.sim_model.specs.FlatDesign.Reach.{inner_blocks}
use Rattle.kernel_bodies.specs.Depths.{blocks_in}
use Rattle.kernel_bodies.proofs.Contained.{nothing_there}
use Rattle.kernel_bodies.proofs.program.Program.new.Goals as goal

by_number : (a : Arena) (b s j : ℕ) (o : Option Statement) (P : Statement → Type 0) → ((x : Statement) → o ≡ Some x → Contains (inner_blocks x) j → P x) → Contains (blocks_in o) j → (x : Statement) × (o ≡ Some x) × Contains (inner_blocks x) j
by_number a b s j None P f q = absurd (nothing_there [] j refl q)
by_number a b s j (Some x) P f q = (x, refl, q)

pub depths_of-requires : goal.depths_of-requires
depths_of-requires c = λ b s j in_block in_statement.
    let a = arena_of c.args.code in
    let w = by_number a b s j (statement_at a s) (λ x. Unit {0}) (λ x e q. tt) in_statement in
    c.requires b j w.0 (record { number = s; listed_there = in_block; found = w.1 }) w.2
