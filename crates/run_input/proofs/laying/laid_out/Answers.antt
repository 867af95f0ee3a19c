use Rattle.model_tree.specs.WholeTree.{source_of}
use Rattle.run_input.proofs.laying.laid_out.Goals as goal

pub returns-in-Ok-page-clause-page : goal.returns-in-Ok-page-clause-page
returns-in-Ok-page-clause-page c =
    record { m = source_of c.in-Ok.tree; accepted = c.in-Ok-judge_tree.ensures.accepted _ c.in-Ok.ensures.reads; page_is = c.in-Ok-page.ensures }

pub returns-clause-fault : goal.returns-clause-fault
returns-clause-fault c = c.in-Err-judge_tree.ensures.fault _ c.in-Ok.ensures.reads
