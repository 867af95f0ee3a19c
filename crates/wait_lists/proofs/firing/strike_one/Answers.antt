use Rattle.std.proofs.Common.{◌<◌, length, ◌∙◌, arith}
use Rattle.wait_lists.proofs.Struck.{told-empty, told-full}
use Rattle.wait_lists.proofs.Clearing.{empty-first, full-first}
use Rattle.wait_lists.proofs.firing.strike_one.Goals as goal

pub first_node-requires : goal.first_node-requires
first_node-requires c = omega (arith, c.requires.inside, c.drop_node.ensures.len)

pub returns-then-first_node-clause-shorter : goal.returns-then-first_node-clause-shorter
returns-then-first_node-clause-shorter c s here = c.drop_node.ensures.shorter c.args.at s c.requires.of here

pub returns-else-first_node-clause-shorter : goal.returns-else-first_node-clause-shorter
returns-else-first_node-clause-shorter c s here = c.drop_node.ensures.shorter c.args.at s c.requires.of here

pub returns-then-first_node-clause-cut : goal.returns-then-first_node-clause-cut
returns-then-first_node-clause-cut c = c.drop_node.ensures.cut c.args.at c.requires.of

pub returns-else-first_node-clause-cut : goal.returns-else-first_node-clause-cut
returns-else-first_node-clause-cut c = c.drop_node.ensures.cut c.args.at c.requires.of

pub returns-then-first_node-clause-told : goal.returns-then-first_node-clause-told
returns-then-first_node-clause-told c t there =
    let inside : c.args.at < length c.drop_node.new.kept.waiters.items = omega (arith, c.requires.inside, c.drop_node.ensures.len) in
    let empty = empty-first c.drop_node.new.kept c.drop_node.ensures.sound c.args.at c.first_node.result inside c.first_node.ensures c.if-first_node.true t there in
    c.push_reserved.ensures.items ∙ told-empty c.args.out.now.items c.args.serial t.events empty

pub returns-else-first_node-clause-told : goal.returns-else-first_node-clause-told
returns-else-first_node-clause-told c t there =
    let inside : c.args.at < length c.drop_node.new.kept.waiters.items = omega (arith, c.requires.inside, c.drop_node.ensures.len) in
    told-full c.args.out.now.items c.args.serial t.events (full-first c.drop_node.new.kept c.drop_node.ensures.sound c.args.at c.first_node.result inside c.first_node.ensures c.if-first_node.false t there)
