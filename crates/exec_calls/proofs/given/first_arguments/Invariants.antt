use Rattle.std.proofs.Common.{◌≡◌, ◌++◌, map, drop, List, Ok}
use Rattle.exec_data.specs.LogicValues.declared.kinds.Value.{Value}
use Rattle.flat_design.specs.Code.{term_of}
use Rattle.exec_data.specs.SimModel.Values.{on_ok}
use Rattle.exec_data.specs.SimModel.Calls.{first_arguments}
use Rattle.exec_data.specs.KernelView.Standings.{Everywhere}
use Rattle.exec_calls.proofs.given.first_arguments.Given as goal

abbrev pub invariant-loop-place : goal.invariant-loop-place
invariant-loop-place l = Everywhere l.k l.p (λ h. (vs : List Value) → first_arguments h l.locals 0 (map term_of l.arguments) ≡ Ok vs
    → on_ok (first_arguments h l.locals l.place (map term_of (drop l.place l.arguments))) (λ us. Ok (l.values ++ us)) ≡ Ok vs)
