-- What is so of the names of a model that breaks no rule.
use Rattle.std.specs.Prelude.{◌≡◌, true, Some}
use Rattle.std.specs.List.{AllByRecursion}
use Rattle.code_rules.specs.ModelTree.Tree as tree
use Rattle.code_rules.specs.ModelRules.Scopes.{Scope, meaning_of}
use Rattle.code_rules.specs.ModelRules.declared.meanings.Meaning.{Meaning}
use Rattle.code_rules.specs.ModelRules.Sites.{Site, sites}
use Rattle.code_rules.specs.ModelRules.Names.{Used, uses, meets}

-- a name stands for something, which is what is needed
pub record IsMet (s : Scope) (u : Used) : Type 0 where
  pub meaning : Meaning
  pub known : meaning_of s u.0 ≡ Some meaning
  pub meets_need : meets u.1 meaning ≡ true

-- all names that stand in a construct do
abbrev pub UsesAreMet : Site → Type 0
UsesAreMet x = AllByRecursion (IsMet x.scope) (uses x.part)

abbrev pub AllAreMet : tree.Model → Type 0
AllAreMet m = AllByRecursion UsesAreMet (sites m)
