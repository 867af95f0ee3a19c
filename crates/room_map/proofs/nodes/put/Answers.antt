use Rattle.std.proofs.lemmas.List.{length-set}
use Rattle.room_map.proofs.Held.{slice_get-set_same, slice_get-set_other}
use Rattle.room_map.proofs.Sizes.{not_at}
use Rattle.room_map.proofs.nodes.put.Goals as goal

pub returns-clause-there : goal.returns-clause-there
returns-clause-there g c = slice_get-set_same c.args.nodes.now c.args.at c.args.node c.requires

pub returns-clause-changed : goal.returns-clause-changed
returns-clause-changed g c = record {
  others = λ k own. slice_get-set_other c.args.nodes.now c.args.at k c.args.node (not_at c.args.at k own);
  long = length-set c.args.nodes.now c.args.at c.args.node;
}
