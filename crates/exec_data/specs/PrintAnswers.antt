-- What a statement that prints answers.
use Rattle.std.specs.Prelude.{◌≡◌, ℕ, List, ◌∷◌, [], ◌++◌, Option, Some, Result, Ok, Err}
use Rattle.kernel_view.specs.LogicValues.declared.kinds.Value.{Value}
use Rattle.flat_design.specs.Code.{Term}
use Rattle.flat_design.specs.declared.faults.RunFault.{RunFault}
use Rattle.kernel_view.specs.SimModel.Configuration.{Config, Instance, line, instance_at, arena}
use Rattle.kernel_view.specs.SimModel.Residual.{settle}
use Rattle.kernel_view.specs.SimModel.Statements.{settled_in}
use Rattle.kernel_view.specs.SimModel.Storing.{print_line, do_print}
use Rattle.kernel_view.specs.KernelState.Kernel.{StandsFor}
use Rattle.kernel_view.specs.KernelState.declared.kernel.Kernel.{Kernel}
use Rattle.kernel_view.specs.Standings.{next_here}

-- The line is the one report that the step adds: the value that it shows is the answer. A run fault is answered as it is, and
-- changes nothing.
abbrev pub FollowsPrint : Kernel → Result (Option Value) RunFault → Config → Instance → List ℕ → Result Config RunFault → Type 0
FollowsPrint new (Ok v) c i text (Ok d) = StandsFor new d × (d.trace.told ≡ c.trace.told ++ line (print_line c.cycle.now i.path text v) ∷ [])
FollowsPrint new (Ok v) c i text (Err f) = ⊥
FollowsPrint new (Err g) c i text (Ok d) = ⊥
FollowsPrint new (Err g) c i text (Err f) = (g ≡ f) × StandsFor new c

-- a print of instance p, in the words of a run
abbrev pub Prints : Kernel → Kernel → Result (Option Value) RunFault → ℕ → List ℕ → Option Term → Type 0
Prints old new answer p text e = (c : Config) (i : Instance) → StandsFor old c → instance_at c p ≡ Some i
    → FollowsPrint new answer c i text
    (do_print (settled_in c p i.residual) p i (settle (arena c) i.residual) (next_here c p i) text e)
