-- What a statement puts around its block.
use Rattle.std.specs.Prelude.{ℕ, Option, Some, None}
use Rattle.sim_model.specs.FlatDesign.Code.{Arena, Statement, statement_at}
use Rattle.sim_model.specs.FlatDesign.Facts.{Inner, no_block, choice, loop, guarded, handled, facts}
use Rattle.kernel_bodies.specs.declared.around.Around.{Around}
use Rattle.kernel_bodies.specs.declared.around.Around.TheVariants as around

abbrev pub around_by : Inner → Around
around_by no_block = around.Nothing
around_by (choice b other) = around.Nothing
around_by (loop b) = around.Loop
around_by (guarded b u) = around.Guard u
around_by (handled b handlers) = around.Try

abbrev pub around_of : Statement → Around
around_of s = around_by (facts s).inner

abbrev pub around_if : Option Statement → Around
around_if None = around.Nothing
around_if (Some s) = around_of s

abbrev pub around_at : Arena → ℕ → Around
around_at a s = around_if (statement_at a s)
