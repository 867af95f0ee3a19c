-- The handle that a name holds, by the value of the name in an expression.
use Rattle.std.proofs.Common.{◌≡◌, Result, Ok, Err, refl, ap, ◌∙◌}
use Rattle.kernel_view.specs.LogicValues.declared.kinds.Value.{Value}
use Rattle.kernel_view.specs.LogicValues.declared.kinds.Value.TheVariants as value
use Rattle.flat_design.specs.Code as code
use Rattle.flat_design.specs.declared.names.NameUse.{NameUse}
use Rattle.flat_design.specs.declared.faults.RunFault.{RunFault}
use Rattle.kernel_view.specs.SimModel.Values.{process_handle, widened}
use Rattle.kernel_view.specs.SimModel.Reading.{Here, handle_in, process_of, read_name, read_wide, val}

widened_handle : (v : Value) → process_handle (widened v) ≡ process_handle v
widened_handle (value.Bool b) = refl
widened_handle (value.Int width n) = refl
widened_handle (value.Uint width n) = refl
widened_handle (value.Logic d) = refl
widened_handle (value.Vector v) = refl
widened_handle (value.Moment t) = refl
widened_handle (value.Handle h) = refl
widened_handle (value.Pay p) = refl

wide_handle : (r : Result Value RunFault) → handle_in (read_wide r) process_handle ≡ handle_in r process_handle
wide_handle (Ok v) = widened_handle v
wide_handle (Err f) = refl

pub held : (h : Here) (n : NameUse) (r : Result Value RunFault) → r ≡ val h (code.name n) → handle_in r process_handle ≡ process_of h n
held h n r is = ap (λ x. handle_in x process_handle) is ∙ wide_handle (read_name h n)
