-- Pieces of a body, walked along one behind the other.
use Rattle.std.proofs.Common.{◌≡◌, ℕ, ◌+◌, Option, Some, None, sym, ap, ◌∙◌}
use Rattle.std.specs.Option.{option_or}
use Rattle.model_tree.specs.declared.faults.Fault.{Fault}
use Rattle.check_actions.specs.ModelRules.Scopes.{Scope, past}
use Rattle.check_actions.specs.CheckExpressions.declared.findings.Finding.{Finding}
use Rattle.check_statements.specs.Walks.{Walks}
use Rattle.check_statements.proofs.Behind.{past_past}

-- a walk that found nothing
pub passed : (fault : Option Fault) (end now : Scope) (found : Option Finding) → found ≡ None → Walks fault end now found → (fault ≡ None) × (now ≡ end)
passed fault end now None e h = h
passed fault end now (Some f) e h = cc

-- the second of two pieces, where nothing was found in the first
pub second_piece : (first : Option Fault) (walk : Scope → Option Fault) (s t : Scope) → first ≡ None → s ≡ t → option_or first (walk t) ≡ walk s
second_piece first walk s t none e = ap (λ o. option_or o (walk t)) none ∙ ap walk (sym e)

-- the place behind two pieces with so many locals
pub behind_two : (m n : ℕ) (s t : Scope) → t ≡ past m s → past (m + n) s ≡ past n t
behind_two m n s t e = sym (past_past m n s) ∙ ap (past n) (sym e)
