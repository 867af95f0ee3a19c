-- What is found at statements themselves.
use Rattle.std.specs.Prelude.{ℕ, Bool, List, [], ◌∷◌, Option}
use Rattle.std.specs.Option.{option_or}
use Rattle.model_tree.specs.Tree as tree
use Rattle.model_tree.specs.declared.faults.Fault.{Fault}
use Rattle.model_tree.specs.declared.faults.Kind.TheVariants as kind
use Rattle.check_actions.specs.ModelRules.Scopes.{Scope}
use Rattle.check_actions.specs.ModelRules.Operators.{is_bool}
use Rattle.check_actions.specs.ModelRules.Types.{type_of}
use Rattle.check_actions.specs.ModelRules.Names.{Used, first, unknown_use, wrong_use, unknown_assigned, wrong_assigned, target_need}
use Rattle.check_actions.specs.ModelRules.Values.{fails}
use Rattle.check_actions.specs.CheckExpressions.Findings.{told, told_if}

-- the name that is assigned, and what it has to be
abbrev pub assigned : tree.Target → List Used
assigned t = (t.name, target_need t.member t.index) ∷ []

-- the names of an assignment's target, and whether its types differ
abbrev pub assign_fault : Scope → ℕ → tree.Target → Bool → Option Fault
assign_fault s line t differs =
    option_or (told kind.UnknownName line (option_or (first (unknown_use s) (assigned t)) (unknown_assigned s t.name t.member)))
    (option_or (told kind.WrongKind line (option_or (first (wrong_use s) (assigned t)) (wrong_assigned s t t.member))) (told_if kind.TypeDiffers line s.around differs))

-- a condition is a truth value
abbrev pub condition_fault : Scope → ℕ → tree.Expression → Option Fault
condition_fault s line e = told_if kind.TypeDiffers line s.around (fails is_bool (type_of s e))
