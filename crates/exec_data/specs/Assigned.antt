-- What an assignment to a variable of the module assigns, and to what.
use Rattle.std.specs.Prelude.{ℕ, Result, Ok}
use Rattle.flat_design.specs.Code.{Term}
use Rattle.flat_design.specs.declared.faults.RunFault.{RunFault}
use Rattle.kernel_view.specs.SimModel.Values.{on_ok}
use Rattle.kernel_view.specs.SimModel.Reading.{Here, val, denotes}
use Rattle.exec_data.specs.declared.stored_assignments.Assigned.{Assigned}

-- the value, and what the name of the variable stands for
abbrev pub to_assign : Here → ℕ → Term → Result Assigned RunFault
to_assign h n e = on_ok (val h e) (λ v. Ok (record { value = v; to = denotes h n }))
