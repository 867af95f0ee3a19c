use Rattle.std.proofs.Common.{◌≡◌, drop}
use Rattle.model_tree.specs.Views.{events_of}
use Rattle.model_print.specs.Layout.{put_all}
use Rattle.model_print.specs.Printed.{more_events}
use Rattle.model_print.proofs.statements.more_events.Given as goal

-- the page, with what is left, is the page at the end
abbrev pub invariant-loop-e : goal.invariant-loop-e
invariant-loop-e l = put_all l.fn.page (more_events (events_of l.events)) ≡ put_all l.page (more_events (events_of (drop l.e-index l.events)))
