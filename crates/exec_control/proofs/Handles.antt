-- The handle of a process that an expression reads.
use Rattle.std.proofs.Common.{◌≡◌, Result, Ok, Err, refl, ap, ◌∙◌}
use Rattle.exec_data.specs.LogicValues.declared.kinds.Value.{Value}
use Rattle.exec_data.specs.LogicValues.declared.kinds.Value.TheVariants as value
use Rattle.flat_design.specs.Code as code
use Rattle.flat_design.specs.declared.names.NameUse.{NameUse}
use Rattle.flat_design.specs.declared.faults.RunFault.{RunFault}
use Rattle.exec_data.specs.SimModel.Values.{process_handle, widened}
use Rattle.exec_data.specs.SimModel.Reading.{Here, handle_in, process_of, read_name, read_wide, val}

same_handle : (v : Value) → process_handle (widened v) ≡ process_handle v
same_handle (value.Bool b) = refl
same_handle (value.Int width n) = refl
same_handle (value.Uint width n) = refl
same_handle (value.Logic d) = refl
same_handle (value.Vector v) = refl
same_handle (value.Moment t) = refl
same_handle (value.Handle h) = refl
same_handle (value.Pay p) = refl

-- so does whatever was read, or is at fault
wide_handle : (r : Result Value RunFault) → handle_in (read_wide r) process_handle ≡ handle_in r process_handle
wide_handle (Ok v) = same_handle v
wide_handle (Err e) = refl

pub held : (h : Here) (n : NameUse) (r : Result Value RunFault) → r ≡ val h (code.name n) → handle_in r process_handle ≡ process_of h n
held h n r is = ap (λ x. handle_in x process_handle) is ∙ wide_handle (read_name h n)
