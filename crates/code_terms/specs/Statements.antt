-- The code of statements as lists of it, and of an index where one is written.
use Rattle.std.specs.Prelude.{List, [], ◌∷◌, Option, Some, None}
use Rattle.flat_design.specs.Code as code
use Rattle.flat_design.specs.Code.{Term}
use Rattle.model_tree.specs.Tree as tree
use Rattle.code_rules.specs.ModelRules.Scopes.{Scope}
use Rattle.code_rules.specs.Terms.{term_of}
use Rattle.code_terms.specs.declared.deeds.Deed.{Deed}
use Rattle.code_terms.specs.declared.deeds.Deed.TheVariants as deed

abbrev pub index_term : Scope → Option tree.Expression → Option Term
index_term s None = None
index_term s (Some e) = term_of s e

-- the statements that a statement becomes
abbrev pub statements_of : Deed → List code.Statement
statements_of (deed.One f) = code.statement_of f ∷ []
statements_of (deed.Two f g) = code.statement_of f ∷ code.statement_of g ∷ []
