-- The names around a body as they are kept, and lists of code.
use Rattle.std.specs.Prelude.{◌≡◌, ℕ, ◌+◌, List, map, option_map, Option}
use Rattle.flat_design.specs.Code.{Term, term_of, ArgumentTerm, argument_term}
use Rattle.flat_design.specs.declared.terms.Expr.{Expr}
use Rattle.flat_design.specs.declared.code.Argument.{Argument}
use Rattle.code_terms.specs.ModelRules.Scopes.{Scope}
use Rattle.code_terms.specs.CodeRules.Deeds as deeds
use Rattle.code_terms.specs.Names.{place_of, body_names}
use Rattle.code_deeds.specs.declared.homes.Home.{Home}

abbrev pub home_of : Home → deeds.Home
home_of h = record { first_body = h.first_body; exceptions = h.exceptions.now }

-- the bodies of the module around are numbered by these names
abbrev pub IsHome : Home → Scope → Type 0
IsHome h s = h.bodies.now ≡ body_names s.items

-- the number of the body of a name, from that of the first body on
abbrev pub numbered_from : ℕ → List (List ℕ) → List ℕ → Option ℕ
numbered_from first names name = option_map (λ n. first + n) (place_of names name)

abbrev pub terms_of : List Expr → List Term
terms_of es = map term_of es

abbrev pub arguments_of : List Argument → List ArgumentTerm
arguments_of xs = map argument_term xs
