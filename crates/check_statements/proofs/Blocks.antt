-- A walk along a statement finds the first broken rule of its constructs.
use Rattle.std.proofs.Common.{◌≡◌, ℕ, List, ◌∷◌, ◌++◌, Option, refl, sym, ap, ◌∙◌}
use Rattle.std.specs.Option.{option_or}
use Rattle.model_tree.specs.Tree as tree
use Rattle.model_tree.specs.declared.faults.Fault.{Fault}
use Rattle.check_actions.specs.ModelRules.Scopes.{Scope, locals_in_block, past, behind, in_unwind}
use Rattle.check_actions.specs.ModelRules.Sites.{Site, site, of_statement, expression_sites, statement_sites, block_sites, else_sites, handler_sites}
use Rattle.check_actions.specs.ModelRules.Passes.{constructs, fault_at, fault_of}
use Rattle.check_statements.specs.Own.{condition_fault}
use Rattle.check_statements.specs.Walked.{in_condition, in_statement, in_block, in_else, in_handlers}
use Rattle.check_statements.proofs.Found.{or_or, fault_append, if_is, while_is}

abbrev found : List Site → Option Fault
found xs = fault_of constructs xs

-- a condition, and what stands behind it
behind_condition : (s : Scope) (line : ℕ) (e : tree.Expression) (x : Site) (more : List Site) → fault_at constructs x ≡ condition_fault s line e
    → found (x ∷ expression_sites s e ++ more) ≡ option_or (in_condition s line e) (found more)
behind_condition s line e x more h =
    ap (λ o. option_or o (found (expression_sites s e ++ more))) h
    ∙ ap (option_or (condition_fault s line e)) (fault_append (expression_sites s e) more)
    ∙ or_or (condition_fault s line e) (found (expression_sites s e)) (found more)

two : (a b : Option Fault) (xs ys : List Site) → found xs ≡ a → found ys ≡ b → found (xs ++ ys) ≡ option_or a b
two a b xs ys h k = fault_append xs ys ∙ ap (λ o. option_or o (found ys)) h ∙ ap (option_or a) k

mutual
  pub walked : (x : tree.Statement) (s : Scope) → found (statement_sites x s) ≡ in_statement x s
  walked (tree.var line t name e) s = refl
  walked (tree.assign line target e) s = refl
  walked (tree.operate line name at o) s = refl
  walked (tree.act line a) s = refl
  walked (tree.if_ line e body other) s =
      let x = site s line (of_statement (tree.if_ line e body other)) in
      let bs = block_sites body s in
      let os = else_sites other (past (locals_in_block body) s) in
      fault_append (x ∷ expression_sites s e ++ bs) os
      ∙ ap (λ o. option_or o (found os)) (behind_condition s line e x bs (if_is s line e body other))
      ∙ sym (or_or (in_condition s line e) (found bs) (found os))
      ∙ ap (λ o. option_or (in_condition s line e) (option_or o (found os))) (walked_block body s)
      ∙ ap (λ o. option_or (in_condition s line e) (option_or (in_block body s) o)) (walked_else other (past (locals_in_block body) s))
  walked (tree.while_ line e body) s = behind_condition s line e (site s line (of_statement (tree.while_ line e body))) (block_sites body s) (while_is s line e body) ∙ ap (option_or (in_condition s line e)) (walked_block body s)
  walked (tree.guard line body undo) s =
      let u = in_unwind (past (locals_in_block body) s) in
      two (in_block body s) (in_block undo u) (block_sites body s) (block_sites undo u) (walked_block body s) (walked_block undo u)
  walked (tree.try_ line body handlers) s =
      let p = past (locals_in_block body) s in
      two (in_block body s) (in_handlers handlers p) (block_sites body s) (handler_sites handlers p) (walked_block body s) (walked_handlers handlers p)

  pub walked_block : (xs : tree.Block) (s : Scope) → found (block_sites xs s) ≡ in_block xs s
  walked_block tree.over s = refl
  walked_block (tree.then x xs) s = two (in_statement x s) (in_block xs (behind x s)) (statement_sites x s) (block_sites xs (behind x s)) (walked x s) (walked_block xs (behind x s))

  walked_else : (o : tree.Else) (s : Scope) → found (else_sites o s) ≡ in_else o s
  walked_else tree.no_else s = refl
  walked_else (tree.else_block body) s = walked_block body s

  walked_handlers : (hs : tree.Handlers) (s : Scope) → found (handler_sites hs s) ≡ in_handlers hs s
  walked_handlers tree.no_more s = refl
  walked_handlers (tree.handler name body more) s =
      let p = past (locals_in_block body) s in
      two (in_block body s) (in_handlers more p) (block_sites body s) (handler_sites more p) (walked_block body s) (walked_handlers more p)
