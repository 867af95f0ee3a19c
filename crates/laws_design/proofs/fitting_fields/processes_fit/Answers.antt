use Rattle.laws_design.proofs.Processes.{processes_fit}
use Rattle.laws_design.proofs.fitting_fields.processes_fit.Goals as goal

pub returns : goal.returns
returns c = λ m d clean acyclic limits none design. processes_fit m clean acyclic limits none d design
