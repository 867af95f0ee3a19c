use Rattle.std.proofs.Common.{◌<◌, length, ◌∙◌, arith}
use Rattle.expanded_text.proofs.Putting.{tokens_more, line_more}
use Rattle.expanded_text.proofs.pages.page_of.Goals as goal

-- one more token
pub loop-placed-preserved : goal.loop-placed-preserved
loop-placed-preserved c =
    let lt : c.loop-placed.placed-index < length c.args.expansion.now = omega (arith, c.loop-placed-test.true) in
    record {
      written =
          tokens_more c.args.expansion.now c.loop-placed.placed-index c.placed-item.result c.loop-placed.page.items c.push_placed.new.page.items c.loop-placed.line lt c.placed-item.is
          c.loop-placed.invariant.written c.loop-placed.invariant.line c.in_ok-push_placed.ensures;
      line = c.from-line.ensures ∙ line_more c.args.expansion.now c.loop-placed.placed-index c.placed-item.result lt c.placed-item.is;
    }
