use Rattle.std.proofs.Common.{◌≡◌, drop}
use Rattle.model_tree.specs.Views.{expressions_of}
use Rattle.model_print.specs.Layout.{put_all}
use Rattle.model_print.specs.Printed.{more_expressions}
use Rattle.model_print.proofs.expressions.more_expressions.Given as goal

-- the page, with what is left, is the page at the end
abbrev pub invariant-loop-e : goal.invariant-loop-e
invariant-loop-e l = put_all l.fn.page (more_expressions (expressions_of l.es)) ≡ put_all l.page (more_expressions (expressions_of (drop l.e-index l.es)))
