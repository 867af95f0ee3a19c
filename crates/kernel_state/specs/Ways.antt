-- How the caller of a control call is past it.
use Rattle.std.specs.Prelude.{ℕ}
use Rattle.kernel_processes.specs.SimModel.Residual.{Residual, skip, put, taken_off}
use Rattle.kernel_processes.specs.SimModel.Configuration.{Config, with_residual}
use Rattle.process_bodies.specs.Bodies as bodies
use Rattle.kernel_state.specs.Moves.{KeptAt, HasStatement}
use Rattle.kernel_state.specs.declared.kernel.Kernel.{Kernel}
use Rattle.kernel_state.specs.declared.ways.Way.{Way}
use Rattle.kernel_state.specs.declared.ways.Way.TheVariants as way

-- its statement is past; or it owes the call to one less
abbrev pub moved : Way → Residual → Residual
moved way.Past r = put r skip
moved way.TakenOff r = taken_off r

abbrev pub moved_on : Way → Config → ℕ → Residual → Config
moved_on w c p r = with_residual c p (moved w r)

-- a call that is owed comes next in its body
abbrev pub HasOwed : Kernel → ℕ → Type 0
HasOwed k p = KeptAt k p (λ kept. bodies.IsOwed (bodies.next_in k.program.now kept.body))

-- what comes next is a statement, or a call that is owed
abbrev pub MayMoveOn : Way → Kernel → ℕ → Type 0
MayMoveOn way.Past k p = HasStatement k p
MayMoveOn way.TakenOff k p = HasOwed k p
