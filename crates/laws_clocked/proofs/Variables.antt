-- A local variable that is visible: what is read of it, and what is stored in it.
use Rattle.std.proofs.Common.{◌≡◌, ℕ, List, Some, None, option_map, ap, ◌∙◌}
use Rattle.std.specs.Prelude.{option_and_then}
use Rattle.code_rules.specs.ModelTree.Tree as tree
use Rattle.code_rules.specs.FlatDesign.Code as code
use Rattle.code_rules.specs.FlatDesign.Code.{Term}
use Rattle.code_rules.specs.FlatDesign.declared.code.Store.{Store}
use Rattle.code_rules.specs.FlatDesign.declared.names.NameUse.{NameUse}
use Rattle.code_rules.specs.FlatDesign.declared.names.NameUse.TheVariants as name_use
use Rattle.code_rules.specs.FlatDesign.declared.value_types.ValueType.{ValueType}
use Rattle.code_rules.specs.ModelRules.Scopes.{Scope, Local, local_named, use_of, meaning_of}
use Rattle.code_rules.specs.ModelRules.Operators.{seen_as}
use Rattle.code_rules.specs.ModelRules.Targets.{destination, destination_of, variable_named, held_by}
use Rattle.code_rules.specs.ModelRules.Types as types
use Rattle.code_rules.specs.ModelRules.Types.{type_seen, type_of}
use Rattle.code_rules.specs.ModelRules.declared.meanings.Meaning.TheVariants as meaning
use Rattle.code_rules.specs.Terms.{typed, term_made, term_of, object_if}
use Rattle.code_rules.specs.Deeds.{with_two, store, destination_term}
use Rattle.expanded_text.specs.Clocked.{target_of}
use Rattle.laws_clocked.proofs.Lookups.{use-local, means-local}

-- the name is that of the local variable of this number and type
pub record IsVariable (s : Scope) (x : List ℕ) (k : ℕ) (v : ValueType) : Type 0 where
  pub stands : use_of s x ≡ Some (name_use.Local k)
  pub means : meaning_of s x ≡ Some (meaning.Variable (Some v))

pub variable_is : (s : Scope) (x : List ℕ) (l : Local) (v : ValueType) → local_named s x ≡ Some l → l.value_type ≡ Some v → IsVariable s x l.number v
variable_is s x l v e g = record { stands = use-local s x l e; means = means-local s x l e ∙ ap (λ o. Some (meaning.Variable o)) g }

abbrev pub read_at : ℕ → Term
read_at k = code.name (name_use.Local k)

abbrev pub stored_at : ℕ → ValueType → Store
stored_at k v = record { name = name_use.Local k; value_type = v }

abbrev stored_in : NameUse → ValueType → Store
stored_in n y = record { name = n; value_type = y }

module _ (s : Scope) (x : List ℕ) (k : ℕ) (v : ValueType) (i : IsVariable s x k v) where
  pub variable_read : (line : ℕ) → term_of s (tree.named line x) ≡ Some (read_at k)
  variable_read line = ap (λ m. term_made (object_if None (use_of s x) m)) i.means ∙ ap (λ u. term_made (object_if None u (Some (meaning.Variable (Some v))))) i.stands

  pub variable_typed : (line : ℕ) → typed (type_of s (tree.named line x)) (term_of s (tree.named line x)) ≡ Some (record { type_ = seen_as v; term = read_at k })
  variable_typed line =
      ap (λ m. typed (type_seen (types.object_if m)) (term_made (object_if None (use_of s x) m))) i.means
      ∙ ap (λ u. typed (Some (seen_as v)) (term_made (object_if None u (Some (meaning.Variable (Some v)))))) i.stands

  stored : store s x ≡ Some (stored_at k v)
  stored =
      ap (λ u. with_two stored_in u (variable_named s x)) i.stands
      ∙ ap (λ m. with_two stored_in (Some (name_use.Local k)) (option_and_then held_by m)) i.means

  pub variable_stored : destination_term s (target_of x) (destination_of s (target_of x)) ≡ Some (code.to_name (stored_at k v))
  variable_stored = ap (λ m. destination_term s (target_of x) (destination m None None)) i.means ∙ ap (λ o. option_map code.to_name o) stored
