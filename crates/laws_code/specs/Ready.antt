-- Where a statement stands, and that its code is typed there.
use Rattle.std.specs.Prelude.{◌≡◌, ℕ, List, Option, Some}
use Rattle.code_rules.specs.FlatDesign.Code.{Statement, Arena}
use Rattle.code_rules.specs.FlatDesign.Denotes.{Context}
use Rattle.code_rules.specs.FlatDesign.Typed.{EachOf, IsTyped}
use Rattle.code_rules.specs.FlatDesign.declared.value_types.ValueType.{ValueType}
use Rattle.code_rules.specs.ModelRules.Scopes.{Scope}
use Rattle.code_rules.specs.Deeds.{Home}
use Rattle.code_rules.specs.Bodies.{IsAnswer}
use Rattle.laws_code.specs.Known.{TypesAreKnown}
use Rattle.laws_code.specs.Standing.{NamesStand}
use Rattle.laws_code.specs.Functions.{FunctionsStand}

-- a scope at which the statements of a body stand: names and functions stand for what they are declared as, types are known,
-- and what is returned is the body's answer
pub record Ready (h : Home) (a : Arena) (place : ℕ) (answer : Option ValueType) (c : Context) (s : Scope) : Type 0 where
  pub names : NamesStand s c
  pub known : TypesAreKnown s
  pub functions : FunctionsStand h a place s
  pub returns : IsAnswer s.answer answer

-- there is code, each statement of which is typed
abbrev pub HasTypedCode : Arena → ℕ → Option ValueType → Context → Option (List Statement) → Type 0
HasTypedCode a place answer c o = (fs : List Statement) × (o ≡ Some fs) × EachOf (IsTyped a place answer c) fs
