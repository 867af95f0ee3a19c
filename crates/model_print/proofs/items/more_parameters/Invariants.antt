use Rattle.std.proofs.Common.{◌≡◌, drop}
use Rattle.model_print.specs.Layout.{put_all}
use Rattle.model_print.specs.Printed.{more_parameters}
use Rattle.model_print.proofs.items.more_parameters.Given as goal

-- the page, with what is left, is the page at the end
abbrev pub invariant-loop-one : goal.invariant-loop-one
invariant-loop-one l = put_all l.fn.page (more_parameters l.parameters) ≡ put_all l.page (more_parameters (drop l.one-index l.parameters))
