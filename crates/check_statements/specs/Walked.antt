-- The first broken rule in a statement, as a walk along it finds it: at itself, and then in its blocks.
use Rattle.std.specs.Prelude.{ℕ, Option, None}
use Rattle.std.specs.Option.{option_or}
use Rattle.model_tree.specs.Tree as tree
use Rattle.model_tree.specs.declared.faults.Fault.{Fault}
use Rattle.check_actions.specs.ModelRules.Scopes.{Scope, locals_in_block, past, behind, in_unwind}
use Rattle.check_actions.specs.ModelRules.Sites.{expression_sites, statement_sites}
use Rattle.check_actions.specs.ModelRules.Passes.{constructs, fault_of}
use Rattle.check_statements.specs.Own.{condition_fault}

-- a condition, with its parts
abbrev pub in_condition : Scope → ℕ → tree.Expression → Option Fault
in_condition s line e = option_or (condition_fault s line e) (fault_of constructs (expression_sites s e))

abbrev mutual
  pub in_statement : tree.Statement → Scope → Option Fault
  in_statement (tree.var line t name e) s = fault_of constructs (statement_sites (tree.var line t name e) s)
  in_statement (tree.assign line target e) s = fault_of constructs (statement_sites (tree.assign line target e) s)
  in_statement (tree.operate line name at o) s = fault_of constructs (statement_sites (tree.operate line name at o) s)
  in_statement (tree.act line a) s = fault_of constructs (statement_sites (tree.act line a) s)
  in_statement (tree.if_ line e body other) s = option_or (in_condition s line e) (option_or (in_block body s) (in_else other (past (locals_in_block body) s)))
  in_statement (tree.while_ line e body) s = option_or (in_condition s line e) (in_block body s)
  in_statement (tree.guard line body undo) s = option_or (in_block body s) (in_block undo (in_unwind (past (locals_in_block body) s)))
  in_statement (tree.try_ line body handlers) s = option_or (in_block body s) (in_handlers handlers (past (locals_in_block body) s))

  pub in_block : tree.Block → Scope → Option Fault
  in_block tree.over s = None
  in_block (tree.then x xs) s = option_or (in_statement x s) (in_block xs (behind x s))

  pub in_else : tree.Else → Scope → Option Fault
  in_else tree.no_else s = None
  in_else (tree.else_block body) s = in_block body s

  pub in_handlers : tree.Handlers → Scope → Option Fault
  in_handlers tree.no_more s = None
  in_handlers (tree.handler name body more) s = option_or (in_block body s) (in_handlers more (past (locals_in_block body) s))
