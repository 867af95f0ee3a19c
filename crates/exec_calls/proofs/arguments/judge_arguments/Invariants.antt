use Rattle.std.proofs.Common.{◌≡◌, drop, map, List}
use Rattle.flat_design.specs.Code.{argument_term}
use Rattle.flat_design.specs.declared.code.Local.{Local}
use Rattle.exec_data.specs.SimModel.Calls.{argument_values}
use Rattle.exec_data.specs.KernelView.Standings.{Everywhere}
use Rattle.exec_calls.proofs.Going.{judged}
use Rattle.exec_calls.proofs.arguments.judge_arguments.Given as goal

abbrev pub invariant-loop-argument : goal.invariant-loop-argument
invariant-loop-argument l = (ls : List Local) → Everywhere l.k l.p (λ h.
    judged (argument_values h ls l.argument-index (map argument_term (drop l.argument-index l.arguments))) ≡ judged (argument_values h ls 0 (map argument_term l.arguments)))
