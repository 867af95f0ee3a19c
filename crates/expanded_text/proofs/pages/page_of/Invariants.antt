use Rattle.std.proofs.Common.{◌≡◌, take}
use Rattle.clocked.specs.Expanded.{line_behind}
use Rattle.clocked.specs.Views.{expansion_in}
use Rattle.expanded_text.specs.Page.{tokens_from}
use Rattle.expanded_text.proofs.pages.page_of.Given as goal

abbrev pub invariant-loop-placed : goal.invariant-loop-placed
invariant-loop-placed l = record {
  written : l.page.items ≡ tokens_from 1 (expansion_in (take l.placed-index l.expansion));
  line : l.line ≡ line_behind 1 (expansion_in (take l.placed-index l.expansion));
}
