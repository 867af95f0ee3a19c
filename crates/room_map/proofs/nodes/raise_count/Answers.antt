use Rattle.std.proofs.lemmas.List.{length-set}
use Rattle.room_map.proofs.Held.{slice_get-set_other}
use Rattle.room_map.proofs.Sizes.{not_at}
use Rattle.room_map.proofs.nodes.raise_count.Goals as goal

pub returns-clause-changed : goal.returns-clause-changed
returns-clause-changed g c = record {
  others = λ k own. slice_get-set_other c.args.nodes.now c.args.at k _ (not_at c.args.at k own);
  long = length-set c.args.nodes.now c.args.at _;
}
