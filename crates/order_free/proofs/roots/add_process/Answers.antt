use Rattle.std.proofs.Common.{sym, arith}
use Rattle.order_free.proofs.Begun.{none_more, one_begun, home_within}
use Rattle.order_free.proofs.roots.add_process.Goals as goal

pub add_root-requires : goal.add_root-requires
add_root-requires c =
    let few = home_within c.args.design.now c.args.part.now in
    let many = c.requires.before.many in
    let is = c.home_of.ensures in
    omega (arith, few, many, is)

pub returns-in-None : goal.returns-in-None
returns-in-None c = none_more c.args.design.now c.args.p c.args.part.now c.args.rows.now.items c.requires.found c.requires.before (sym c.in-None.ensures)

pub returns-in-Some : goal.returns-in-Some
returns-in-Some c =
    one_begun c.args.design.now c.args.p c.args.part.now c.args.rows.now.items c.requires.found c.requires.before c.in-Some.block c.in-Some.ensures c.add_root.result c.add_root.new.rows.items c.home_of.result c.home_of.ensures
    c.add_root.ensures
