use Rattle.std.proofs.Common.{length, get_or, take, ap, ◌∙◌}
use Rattle.std.specs.List.{flat_map}
use Rattle.std.proofs.lemmas.List.{length-set}
use Rattle.design_rules.specs.FlatDesign.declared.objects.Binding.{Binding}
use Rattle.binding.specs.Rows.{row_at}
use Rattle.binding.specs.Ends.{leads}
use Rattle.binding.proofs.Channels.{filled_more, found_right, all_filled}
use Rattle.binding.proofs.ends.all_ends.Goals as goal

pub loop-i-preserved : goal.loop-i-preserved
loop-i-preserved c =
    let os = c.args.objects.now in
    let order = c.args.order.now in
    let k = c.loop-i.i-index in
    let ends = c.loop-i.ends in
    let found = c.in_ok-found.found in
    let is = c.in_ok-found.ensures ∙ ap (λ links. take 65 (flat_map (λ (b : Binding). leads os (row_at ends) b.right) links)) c.row.ensures in
    let right = found_right os c.requires.formed order c.requires.ordered c.args.from.now c.requires.linked ends k found c.loop-i-test.true c.loop-i.invariant.so_far is in
    record {
      long = ap length c.put.ensures ∙ length-set ends (get_or order k 0) found ∙ c.loop-i.invariant.long;
      so_far = filled_more os c.requires.formed order c.requires.ordered ends c.put.new.self k found c.loop-i-test.true c.loop-i.invariant.long c.loop-i.invariant.so_far c.put.ensures right;
    }

pub returns : goal.returns
returns c = all_filled c.args.objects.now c.requires.formed c.args.order.now c.requires.ordered c.loop-i.ends c.loop-i.i-index c.loop-i-test.false c.loop-i.invariant.long c.loop-i.invariant.so_far
