use Rattle.std.proofs.Common.{refl, sym, ap, ◌∙◌, arith}
use Rattle.timed_queue.specs.Placing.{place_at}
use Rattle.timed_queue.proofs.MoveLaws.{same_refl, same_trans, spread_begins, spread_turn, spread_ends, empty_place}
use Rattle.timed_queue.proofs.wheel.Wheel.spread.Goals as goal

pub spreading-init : goal.spreading-init
spreading-init c =
    let w = c.args.self.now in
    record {
      sound = c.requires.sound;
      same = same_refl w.nodes.items;
      spread = spread_begins c.args.place w.origin c.args.t (omega arith) c.requires.late c.requires.is_place w.nodes.items c.requires.settled c.requires.from;
      room = refl;
    }

pub spreading-smaller : goal.spreading-smaller
spreading-smaller c =
    let w = c.args.self.now in let x = c.spreading.self in let inv = c.spreading.invariant in
    let turn = spread_turn c.args.place w.origin c.args.t (omega arith) c.requires.late c.requires.is_place c.requires.high c.requires.low x.nodes.items c.transfer.new.self.nodes.items x.marks.words x.free x.room
    c.next_of-i.result c.place_of-to.result inv.sound (let e = inv.same.as_many in omega (arith, e, c.requires.within)) inv.spread (λ e. c.spreading-test.true (c.next_of.ensures ∙ e)) c.next_of-i.ensures
    (c.place_of-to.ensures.place ∙ ap (λ u. place_at 10 u c.args.t) c.time_of.ensures) c.transfer.ensures.moved in
    turn.2

pub spreading-preserved : goal.spreading-preserved
spreading-preserved c =
    let w = c.args.self.now in let x = c.spreading.self in let inv = c.spreading.invariant in
    let turn = spread_turn c.args.place w.origin c.args.t (omega arith) c.requires.late c.requires.is_place c.requires.high c.requires.low x.nodes.items c.transfer.new.self.nodes.items x.marks.words x.free x.room
    c.next_of-i.result c.place_of-to.result inv.sound (let e = inv.same.as_many in omega (arith, e, c.requires.within)) inv.spread (λ e. c.spreading-test.true (c.next_of.ensures ∙ e)) c.next_of-i.ensures
    (c.place_of-to.ensures.place ∙ ap (λ u. place_at 10 u c.args.t) c.time_of.ensures) c.transfer.ensures.moved in
    record {
      sound = c.transfer.ensures.sound;
      same = same_trans w.nodes.items x.nodes.items c.transfer.new.self.nodes.items inv.same turn.0;
      spread = turn.1;
      room = c.transfer.ensures.room ∙ inv.room;
    }

pub returns-clause-placed : goal.returns-clause-placed
returns-clause-placed c =
    let w = c.args.self.now in let x = c.spreading.self in let inv = c.spreading.invariant in
    spread_ends c.args.place w.origin c.args.t (omega arith) c.requires.late c.requires.is_place x.nodes.items inv.spread
    (empty_place x.nodes.items x.marks.words x.free x.room c.args.place inv.sound c.requires.low (sym c.next_of.ensures ∙ omega (arith, c.spreading-test.false)))
