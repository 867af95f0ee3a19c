-- Digits as the code keeps them: in a vector, or in none where there are none.
use Rattle.std.specs.Prelude.{Option, Some, None, List, []}
use Rattle.sim_model.specs.LogicValues.declared.kinds.Digit.{Digit}
use Rattle.sim_model.specs.LogicValues.declared.planes.Lv.{Lv}
use Rattle.sim_model.specs.LogicValues.Digits.{digits}
use Rattle.sim_model.specs.LogicValues.Vectors.{digit_by_digit}

abbrev pub listed : Option Lv → List Digit
listed None = []
listed (Some v) = digits v

-- an operator, digit by digit, on two vectors, where there are two
abbrev pub paired : (Digit → Digit → Digit) → Option (Lv × Lv) → List Digit
paired f None = []
paired f (Some p) = digit_by_digit f (digits p.0) (digits p.1)
