use Rattle.std.proofs.Common.{arith, ◌∙◌, refl}
use Rattle.timed_queue.proofs.RoomLaws.{grown_refl, grown_trans}
use Rattle.timed_queue.proofs.wheel.Wheel.add_free.Goals as goal

pub nodes-init : goal.nodes-init
nodes-init c = record {
  sound = c.requires.sound;
  longer = omega arith;
  grown = grown_refl c.args.self.now.nodes.items;
  origin = refl;
  room = omega arith;
  capacity = refl;
}

pub nodes-preserved : goal.nodes-preserved
nodes-preserved c =
    let inv = c.nodes.invariant in
    record {
      sound = c.push_free.ensures.sound;
      longer = let a = c.push_free.ensures.longer in let b = inv.longer in omega (arith, a, b);
      grown = grown_trans c.args.self.now.nodes.items c.nodes.self.nodes.items c.push_free.new.self.nodes.items inv.grown c.push_free.ensures.grown;
      origin = c.push_free.ensures.origin ∙ inv.origin;
      room = let a = c.push_free.ensures.room in let b = inv.room in omega (arith, a, b);
      capacity = c.push_free.ensures.capacity ∙ inv.capacity;
    }
