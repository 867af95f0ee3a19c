use Rattle.std.proofs.Common.{◌∙◌}
use Rattle.timed_queue.proofs.MoveLaws.{same_trans}
use Rattle.timed_queue.proofs.wheel.Wheel.place_anew.Goals as goal

pub placing-preserved : goal.placing-preserved
placing-preserved c =
    let inv = c.placing.invariant in
    record {
      sound = c.place_one.ensures.sound;
      same = same_trans c.args.self.now.nodes.items c.placing.self.nodes.items c.place_one.new.self.nodes.items inv.same c.place_one.ensures.same;
      placed = c.place_one.ensures.placed;
      room = c.place_one.ensures.room ∙ inv.room;
    }
