-- The values of arguments, one after the other.
use Rattle.std.proofs.Common.{◌≡◌, ℕ, suc, List, [], ◌∷◌, ◌++◌, Option, Some, None, Result, Ok, Err, refl, sym, ap, ◌∙◌, append_assoc, append-nil}
use Rattle.exec_data.specs.LogicValues.declared.kinds.Value.{Value}
use Rattle.flat_design.specs.Code.{ArgumentTerm}
use Rattle.flat_design.specs.declared.code.Local.{Local}
use Rattle.flat_design.specs.declared.code.CodeBody.{CodeBody}
use Rattle.flat_design.specs.declared.faults.RunFault.{RunFault}
use Rattle.exec_data.specs.SimModel.Values.{on_ok}
use Rattle.exec_data.specs.SimModel.Reading.{Here}
use Rattle.exec_data.specs.SimModel.Calls.{locals_in, for_parameter, argument_value, argument_values}
use Rattle.exec_data.specs.KernelBodies.Depths as depths

-- in front of what is still to come
abbrev pub behind : List Value → Result (List Value) RunFault → Result (List Value) RunFault
behind values r = on_ok r (λ vs. Ok (values ++ vs))

pub behind_all : (values : List Value) → behind values (Ok []) ≡ Ok values
behind_all values = ap Ok (append-nil values)

behind_one : (values : List Value) (v : Value) (r : Result (List Value) RunFault) → behind values (on_ok r (λ vs. Ok (v ∷ vs))) ≡ behind (values ++ v ∷ []) r
behind_one values v (Ok vs) = ap Ok (sym (append_assoc values (v ∷ []) vs))
behind_one values v (Err f) = refl

module _ (h : Here) (ls : List Local) (i : ℕ) (x : ArgumentTerm) (xs : List ArgumentTerm) (values : List Value) where
  pub value_added : (v : Value) → Ok v ≡ argument_value h x → behind values (argument_values h ls i (x ∷ xs)) ≡ behind (values ++ for_parameter ls i v ∷ []) (argument_values h ls (suc i) xs)
  value_added v is = ap (λ o. behind values (on_ok o (λ w. on_ok (argument_values h ls (suc i) xs) (λ vs. Ok (for_parameter ls i w ∷ vs))))) (sym is)
      ∙ behind_one values (for_parameter ls i v) (argument_values h ls (suc i) xs)

  pub value_at_fault : (f : RunFault) → Err f ≡ argument_value h x → behind values (argument_values h ls i (x ∷ xs)) ≡ Err f
  value_at_fault f is = ap (λ o. behind values (on_ok o (λ w. on_ok (argument_values h ls (suc i) xs) (λ vs. Ok (for_parameter ls i w ∷ vs))))) (sym is)

-- ---- the parameters of the code that is called

pub same_locals : (o : Option CodeBody) → depths.locals_in o ≡ locals_in o
same_locals None = refl
same_locals (Some b) = refl
