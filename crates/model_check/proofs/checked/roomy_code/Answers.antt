use Rattle.model_tree.specs.WholeTree.{model_of}
use Rattle.model_check.proofs.Raised.{still_apart, still_stand}
use Rattle.model_check.proofs.checked.roomy_code.Goals as goal

pub returns : goal.returns
returns c =
    let before = c.in_ok-code.code in
    let after = c.in_ok-raised.raised in
    let kept = c.in_ok-raised.ensures.kept in
    let back = c.bodies_stay.ensures.back before after kept in
    let made = c.in_ok-code.ensures in
    record {
      reads_back = c.code_stays.ensures (model_of c.args.tree.now) before after kept made.code;
      nested = c.blocks_stay.ensures.nested before after kept made.nested;
      apart = still_apart before after (c.blocks_stay.ensures.stands after before back) (c.bodies_stay.ensures.bodies after before back) made.apart;
      stand = still_stand before after (c.blocks_stay.ensures.stands after before back) (c.blocks_stay.ensures.holds before after kept) (c.bodies_stay.ensures.bodies before after kept) made.stand;
      rooms = c.in_ok-raised.ensures.rooms;
    }
