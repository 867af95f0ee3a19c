use Rattle.std.proofs.Common.{◌≡◌, drop, map, List, Ok}
use Rattle.exec_data.specs.LogicValues.declared.kinds.Value.{Value}
use Rattle.flat_design.specs.Code.{argument_term}
use Rattle.exec_data.specs.SimModel.Calls.{argument_values}
use Rattle.exec_data.specs.KernelView.Standings.{Everywhere}
use Rattle.exec_calls.proofs.Values.{behind}
use Rattle.exec_calls.proofs.arguments.add_values.Given as goal

abbrev pub invariant-loop-i : goal.invariant-loop-i
invariant-loop-i l = Everywhere l.k l.p (λ h. (vs : List Value) → argument_values h l.locals 0 (map argument_term l.arguments) ≡ Ok vs
    → behind l.values.items (argument_values h l.locals l.i (map argument_term (drop l.i l.arguments))) ≡ Ok vs)
