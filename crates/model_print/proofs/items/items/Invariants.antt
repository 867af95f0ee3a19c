use Rattle.std.proofs.Common.{◌≡◌, drop, map}
use Rattle.model_tree.specs.Views.{item_of}
use Rattle.model_print.specs.Layout.{put_all}
use Rattle.model_print.specs.Pieces.{each}
use Rattle.model_print.specs.Printed.{item}
use Rattle.model_print.proofs.items.items.Given as goal

-- the page, with what is left, is the page at the end
abbrev pub invariant-loop-one : goal.invariant-loop-one
invariant-loop-one l = put_all l.fn.page (each item (map item_of l.items)) ≡ put_all l.page (each item (map item_of (drop l.one-index l.items)))
