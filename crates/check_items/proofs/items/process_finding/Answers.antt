use Rattle.std.proofs.Common.{◌≡◌, ℕ, Option, sym, ◌∙◌}
use Rattle.model_tree.specs.Tree as tree
use Rattle.model_tree.specs.Views.{process_of}
use Rattle.check_statements.specs.ModelRules.Scopes.{Scope}
use Rattle.check_statements.specs.CheckExpressions.Findings.{faults_of}
use Rattle.check_statements.specs.CheckExpressions.declared.findings.Finding.{Finding}
use Rattle.check_statements.specs.Walks.{Walks}
use Rattle.check_statements.specs.CheckNames.Places.{scope_of}
use Rattle.check_items.specs.Whole.{in_process, item_fault}
use Rattle.check_items.proofs.ItemLemmas.{process_is}
use Rattle.check_items.proofs.Walked.{found_by, if_ok}
use Rattle.check_items.proofs.items.process_finding.Goals as goal

-- what is found in a process is what breaks a rule at it, whatever the process
so : (s : Scope) (line : ℕ) (p : tree.ProcessItem) (end now : Scope) (found : Option Finding) → Walks (in_process p s) end now found → faults_of found ≡ item_fault s (tree.process line p)
so s line p end now found w = found_by (in_process p s) end now found w ∙ sym (process_is s line p)

pub returns : goal.returns
returns c =
    if_ok c.in_process.result (λ found w. so (scope_of c.args.place) c.args.line (process_of c.args.process.now) _ _ found w) c.in_process.ensures
