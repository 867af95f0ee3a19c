use Rattle.std.proofs.Common.{◌≡◌, ◌++◌}
use Rattle.expanded_text.specs.Page.{line_ends}
use Rattle.expanded_text.proofs.pages.push_line_ends.Given as goal

abbrev pub invariant-loop : goal.invariant-loop
invariant-loop l = l.page.items ≡ l.initial.page.items ++ line_ends l.counter
