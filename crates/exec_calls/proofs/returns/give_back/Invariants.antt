use Rattle.std.proofs.Common.{◌≡◌, drop, map}
use Rattle.flat_design.specs.Code.{argument_term}
use Rattle.exec_data.specs.SimModel.Configuration.{Config}
use Rattle.exec_data.specs.SimModel.Reading.{Here}
use Rattle.exec_data.specs.SimModel.Calls.{given_back}
use Rattle.exec_data.specs.KernelBodies.Layers.{call_of}
use Rattle.exec_data.specs.KernelState.Kernel.{StandsFor, IsSound, whole_design}
use Rattle.exec_data.specs.KernelState.Moves.{Lives}
use Rattle.exec_calls.proofs.returns.give_back.Given as goal

abbrev pub invariant-loop-i : goal.invariant-loop-i
invariant-loop-i l = record {
  sound : IsSound l.k;
  lives : Lives l.k l.p;
  design : whole_design l.k ≡ whole_design l.initial.k;
  made : l.k.made ≡ l.initial.k.made;
  moves : (h : Here) → h.config.design ≡ whole_design l.initial.k → h.home ≡ l.home → (c : Config) → StandsFor l.initial.k c
      → (d : Config) × (given_back d l.p h (call_of l.frame) l.i (map argument_term (drop l.i l.arguments)) ≡ given_back c l.p h (call_of l.frame) 0 (map argument_term l.arguments)) × StandsFor l.k d;
}
