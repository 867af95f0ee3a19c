-- What the functions of a module are in the code.
use Rattle.std.specs.Prelude.{◌≡◌, ⊤, ℕ, ◌+◌, List, [], ◌∷◌, slice_get, Some}
use Rattle.code_rules.specs.ModelTree.Tree as tree
use Rattle.code_rules.specs.ModelTree.declared.types.Parameter.{Parameter}
use Rattle.code_rules.specs.FlatDesign.Code.{Arena}
use Rattle.code_rules.specs.FlatDesign.Typed.{IsFunctionHere, parameters_of}
use Rattle.code_rules.specs.FlatDesign.declared.code.CodeBody.{CodeBody}
use Rattle.code_rules.specs.FlatDesign.declared.code.Local.{Local}
use Rattle.code_rules.specs.ModelRules.Meanings.{variable_type}
use Rattle.code_rules.specs.ModelRules.Scopes.{Scope, function_named}
use Rattle.code_rules.specs.Deeds.{Home, function_number}
use Rattle.code_rules.specs.Bodies.{LocalSource, IsAnswer}

-- parameters are those of a body
abbrev pub AreParameters : List Parameter → List Local → Type 0
AreParameters [] [] = ⊤
AreParameters [] (l ∷ ls) = ⊥
AreParameters (p ∷ ps) [] = ⊥
AreParameters (p ∷ ps) (l ∷ ls) = (variable_type p.var_type ≡ Some l.value_type) × (l.inout ≡ p.inout) × AreParameters ps ls

-- a function is the body of this number
pub record FunctionStands (a : Arena) (place : ℕ) (f : tree.FunctionItem) (number : ℕ) : Type 0 where
  pub body : CodeBody
  pub here : IsFunctionHere a place number body
  pub parameters : AreParameters f.parameters (parameters_of body)
  pub answer : IsAnswer f.answer body.answer

-- so is each that is called by its name at a place
abbrev pub FunctionsStand : Home → Arena → ℕ → Scope → Type 0
FunctionsStand h a place s = (name : List ℕ) (f : tree.FunctionItem) (n : ℕ) → function_named s.items name ≡ Some f → function_number h s name ≡ Some n → FunctionStands a place f n

-- from this number on local variables of the code are these
abbrev pub VariablesStand : List Local → ℕ → List LocalSource → Type 0
VariablesStand ls n [] = ⊤
VariablesStand ls n (x ∷ xs) = ((l : Local) × (slice_get ls n ≡ Some l) × (variable_type x.1 ≡ Some l.value_type)) × VariablesStand ls (n + 1) xs
