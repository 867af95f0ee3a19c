use Rattle.laws_code.proofs.Actions.{var_fine, assign_fine, operate_fine, act_fine}
use Rattle.laws_code.proofs.standing_statements.statements_are_typed.Goals as goal

pub returns : goal.returns
returns g =
    record {
      variables = λ h a place answer c s line n t name e r v fit clean. var_fine s c r.names r.known h a place r.functions answer line n t name e v fit clean;
      assignments = λ h a place answer c s line n x e r fit clean. assign_fine s c r.names r.known h a place r.functions answer line n x e fit clean;
      operations = λ h a place answer c s line at n name o r fit clean. operate_fine s c r.names r.known h a place r.functions answer line at n name o fit clean;
      actions = λ h a place answer c s line n x r numbered fit clean. act_fine s c r.names r.known h a place r.functions answer line n x numbered r.returns fit clean;
    }
