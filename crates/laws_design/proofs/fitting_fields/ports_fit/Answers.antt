use Rattle.laws_design.proofs.Ports.{ports_fit, no_binding_fault}
use Rattle.laws_design.proofs.fitting_fields.ports_fit.Goals as goal

pub returns : goal.returns
returns c = λ m d none design. ports_fit m d design (no_binding_fault m d design none)
