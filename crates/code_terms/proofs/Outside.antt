-- A form of an expression, seen from outside.
use Rattle.std.proofs.Common.{◌≡◌, Result, Ok, Err, IfOk, sym, ap, ◌∙◌}
use Rattle.model_tree.specs.Tree as tree
use Rattle.code_rules.specs.ModelRules.Scopes.{Scope}
use Rattle.code_terms.specs.declared.parts.Coded.{Coded}
use Rattle.code_terms.specs.Parts.{Part, part_of, part_at}

pub form_at : {E : Type 0} (s : Scope) (r : Result Coded E) (e x : tree.Expression) (p : Part) → e ≡ x → p ≡ part_at s x → IfOk r (λ part. part_of part ≡ p) → IfOk r (λ part. part_of part ≡ part_at s e)
form_at s (Ok part) e x p same is h = h ∙ is ∙ sym (ap (part_at s) same)
form_at s (Err none) e x p same is h = tt
