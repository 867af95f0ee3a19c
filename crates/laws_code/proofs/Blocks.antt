-- Statements, blocks and handlers have code.
use Rattle.std.proofs.Common.{◌≡◌, ℕ, List, [], ◌∷◌, ◌++◌, None}
use Rattle.std.specs.List.{AllByRecursion}
use Rattle.code_rules.specs.ModelTree.Tree as tree
use Rattle.code_rules.specs.ModelRules.Scopes.{Scope, locals_in_block, past, behind, in_unwind}
use Rattle.code_rules.specs.ModelRules.Sites as part
use Rattle.code_rules.specs.ModelRules.Sites.{site, variable_type_sites, expression_sites, option_sites, statement_sites, block_sites, else_sites, handler_sites}
use Rattle.code_rules.specs.ModelRules.Passes.{constructs, fault_of}
use Rattle.code_rules.specs.Deeds.{Home}
use Rattle.code_rules.specs.Bodies.{exceptions_in, exceptions_in_block, exceptions_in_else, exceptions_in_handlers}
use Rattle.laws_code.specs.Known.{TypesAreKnown}
use Rattle.laws_code.proofs.Typed.{parts_none, head_none}
use Rattle.laws_code.specs.HasCode.{AreNumbered, HasCode, BlockHasCode, ElseHasCode, HandlersHaveCode}
use Rattle.laws_code.proofs.Known.{variable_known, local_known}
use Rattle.laws_code.proofs.Parts.{expression_there}
use Rattle.laws_code.proofs.Deeds.{var_there, assign_there, operate_there, act_there}

pub all_parts : {A : Type 0} (P : A → Type 0) (xs ys : List A) → AllByRecursion P (xs ++ ys) → AllByRecursion P xs × AllByRecursion P ys
all_parts P [] ys h = (tt, h)
all_parts P (x ∷ xs) ys h = let p = all_parts P xs ys h.1 in ((h.0, p.0), p.1)

numbered_parts : (h : Home) (xs ys : List (List ℕ)) → AreNumbered h (xs ++ ys) → AreNumbered h xs × AreNumbered h ys
numbered_parts h xs ys n = all_parts _ xs ys n

-- what is visible behind a statement has types
pub behind_known : (x : tree.Statement) (s : Scope) → TypesAreKnown s → fault_of constructs (statement_sites x s) ≡ None → TypesAreKnown (behind x s)
behind_known (tree.var line t name e) s known clean =
    local_known s name t known
    (variable_known s t
    (parts_none (variable_type_sites s t) (option_sites s e)
    (head_none (site s line (part.of_statement (tree.var line t name e))) (variable_type_sites s t ++ option_sites s e) clean).1).0)
behind_known (tree.assign line target e) s known clean = known
behind_known (tree.operate line name at o) s known clean = known
behind_known (tree.act line a) s known clean = known
behind_known (tree.if_ line e body other) s known clean = known
behind_known (tree.while_ line e body) s known clean = known
behind_known (tree.guard line body undo) s known clean = known
behind_known (tree.try_ line body handlers) s known clean = known

mutual
  pub coded : (x : tree.Statement) (h : Home) (s : Scope) → TypesAreKnown s → AreNumbered h (exceptions_in x) → fault_of constructs (statement_sites x s) ≡ None → HasCode x h s
  coded (tree.var line t name e) h s known n clean = var_there s known line t name e clean
  coded (tree.assign line target e) h s known n clean = assign_there s known line target e clean
  coded (tree.operate line name at o) h s known n clean = operate_there s known h line at name o clean
  coded (tree.act line a) h s known n clean = act_there s known h line a n clean
  coded (tree.if_ line e body other) h s known n clean =
      let p = head_none (site s line (part.of_statement (tree.if_ line e body other))) (expression_sites s e ++ block_sites body s ++ else_sites other (past (locals_in_block body) s)) clean in
      let q = parts_none (expression_sites s e ++ block_sites body s) (else_sites other (past (locals_in_block body) s)) p.1 in
      let r = parts_none (expression_sites s e) (block_sites body s) q.0 in
      let m = numbered_parts h (exceptions_in_block body) (exceptions_in_else other) n in
      (expression_there s known e r.0, block_coded body h s known m.0 r.1, else_coded other h (past (locals_in_block body) s) known m.1 q.1)
  coded (tree.while_ line e body) h s known n clean =
      let p = head_none (site s line (part.of_statement (tree.while_ line e body))) (expression_sites s e ++ block_sites body s) clean in
      let q = parts_none (expression_sites s e) (block_sites body s) p.1 in
      (expression_there s known e q.0, block_coded body h s known n q.1)
  coded (tree.guard line body undo) h s known n clean =
      let p = head_none (site s line (part.of_statement (tree.guard line body undo))) (block_sites body s ++ block_sites undo (in_unwind (past (locals_in_block body) s))) clean in
      let q = parts_none (block_sites body s) (block_sites undo (in_unwind (past (locals_in_block body) s))) p.1 in
      let m = numbered_parts h (exceptions_in_block body) (exceptions_in_block undo) n in
      (block_coded body h s known m.0 q.0, block_coded undo h (in_unwind (past (locals_in_block body) s)) known m.1 q.1)
  coded (tree.try_ line body handlers) h s known n clean =
      let p = head_none (site s line (part.of_statement (tree.try_ line body handlers))) (block_sites body s ++ handler_sites handlers (past (locals_in_block body) s)) clean in
      let q = parts_none (block_sites body s) (handler_sites handlers (past (locals_in_block body) s)) p.1 in
      let m = numbered_parts h (exceptions_in_block body) (exceptions_in_handlers handlers) n in
      (block_coded body h s known m.0 q.0, handlers_coded handlers h (past (locals_in_block body) s) known m.1 q.1)

  pub block_coded : (b : tree.Block) (h : Home) (s : Scope) → TypesAreKnown s → AreNumbered h (exceptions_in_block b) → fault_of constructs (block_sites b s) ≡ None → BlockHasCode b h s
  block_coded tree.over h s known n clean = tt
  block_coded (tree.then x xs) h s known n clean =
      let p = parts_none (statement_sites x s) (block_sites xs (behind x s)) clean in
      let m = numbered_parts h (exceptions_in x) (exceptions_in_block xs) n in
      (coded x h s known m.0 p.0, block_coded xs h (behind x s) (behind_known x s known p.0) m.1 p.1)

  else_coded : (o : tree.Else) (h : Home) (s : Scope) → TypesAreKnown s → AreNumbered h (exceptions_in_else o) → fault_of constructs (else_sites o s) ≡ None → ElseHasCode o h s
  else_coded tree.no_else h s known n clean = tt
  else_coded (tree.else_block body) h s known n clean = block_coded body h s known n clean

  handlers_coded : (hs : tree.Handlers) (h : Home) (s : Scope) → TypesAreKnown s → AreNumbered h (exceptions_in_handlers hs) → fault_of constructs (handler_sites hs s) ≡ None → HandlersHaveCode hs h s
  handlers_coded tree.no_more h s known n clean = tt
  handlers_coded (tree.handler name body more) h s known n clean =
      let p = parts_none (block_sites body s) (handler_sites more (past (locals_in_block body) s)) clean in
      let m = numbered_parts h (exceptions_in_block body) (exceptions_in_handlers more) n.1 in
      (n.0, block_coded body h s known m.0 p.0, handlers_coded more h (past (locals_in_block body) s) known m.1 p.1)
