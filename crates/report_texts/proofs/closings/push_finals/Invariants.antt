use Rattle.std.proofs.Common.{◌≡◌, ◌++◌, take}
use Rattle.report_texts.specs.ReportViews.{finals_of}
use Rattle.report_texts.proofs.closings.push_finals.Given as goal

-- the lines so far are those of the objects so far
abbrev pub invariant-loop-object : goal.invariant-loop-object
invariant-loop-object l = l.text.items ≡ l.fn.text.items ++ finals_of l.k (take l.object-index l.visible)
