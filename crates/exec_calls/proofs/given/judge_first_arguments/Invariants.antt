use Rattle.std.proofs.Common.{◌≡◌, drop, map, List}
use Rattle.flat_design.specs.Code.{term_of}
use Rattle.flat_design.specs.declared.code.Local.{Local}
use Rattle.exec_data.specs.SimModel.Calls.{first_arguments}
use Rattle.exec_data.specs.KernelView.Standings.{Everywhere}
use Rattle.exec_calls.proofs.Going.{judged}
use Rattle.exec_calls.proofs.given.judge_first_arguments.Given as goal

abbrev pub invariant-loop-argument : goal.invariant-loop-argument
invariant-loop-argument l = (ls : List Local) → Everywhere l.k l.p (λ h.
    judged (first_arguments h ls l.argument-index (map term_of (drop l.argument-index l.arguments))) ≡ judged (first_arguments h ls 0 (map term_of l.arguments)))
