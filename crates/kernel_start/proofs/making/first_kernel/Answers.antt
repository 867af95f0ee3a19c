use Rattle.std.proofs.Common.{◌≤◌, List, length, sym, subst}
use Rattle.kernel_state.specs.InstanceTable.declared.TheConstants.{MAX_LIVE}
use Rattle.kernel_state.specs.FlatDesign.declared.design.ProcessPart.{ProcessPart}
use Rattle.kernel_state.specs.SimModel.Configuration.{start}
use Rattle.kernel_state.specs.Kernel.{StandsFor, IsSound}
use Rattle.kernel_start.proofs.Together.{first_stands, first_sound, whole}
use Rattle.kernel_start.proofs.making.first_kernel.Goals as goal

pub first_processes-requires : goal.first_processes-requires
first_processes-requires c = subst (λ (ps : List ProcessPart). length ps ≤ MAX_LIVE) (sym c.as_slice.ensures) c.requires.few

pub returns-in-Ok-first_processes-clause-first : goal.returns-in-Ok-first_processes-clause-first
returns-in-Ok-first_processes-clause-first c script = subst (λ k. StandsFor k (start (record c.args.design { code = c.args.program.now.code }) script)) (sym c.assembled.ensures.parts)
    (first_stands c.args.design c.args.program c.assembled.result.cycle c.in-Ok-first_processes.schedule c.in-Ok.first
    c.assembled.ensures.cycle _ c.in-Ok-first_processes.ensures.adds c.as_slice.ensures
    c.in-Ok.ensures.parents c.in-Ok.ensures.events c.in-Ok.ensures.channels c.in-Ok.ensures.transactions c.in-Ok.ensures.quantum c.in-Ok.ensures.variables c.in-Ok.ensures.memories script)

pub invariant_of-result : goal.invariant_of-result
invariant_of-result c = record {
  sound = subst IsSound (sym c.assembled.ensures.parts)
      (first_sound c.args.design c.args.program c.assembled.result.cycle c.in-Ok-first_processes.schedule c.in-Ok.first _ c.in-Ok-first_processes.ensures.sound c.in-Ok-first_processes.ensures.next
      (subst (λ (ps : List ProcessPart). length ps ≤ MAX_LIVE) (sym c.as_slice.ensures) c.requires.few) c.in-Ok.ensures.within);
}
