use Rattle.std.proofs.Common.{◌≡◌, drop}
use Rattle.model_tree.specs.Views.{modules_of}
use Rattle.model_print.specs.Layout.{put_all}
use Rattle.model_print.specs.Pieces.{each}
use Rattle.model_print.specs.Printed.{module_}
use Rattle.model_print.proofs.items.modules.Given as goal

-- the page, with what is left, is the page at the end
abbrev pub invariant-loop-one : goal.invariant-loop-one
invariant-loop-one l = put_all l.fn.page (each module_ (modules_of l.modules)) ≡ put_all l.page (each module_ (modules_of (drop l.one-index l.modules)))
