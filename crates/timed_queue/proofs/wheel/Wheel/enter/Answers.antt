use Rattle.std.proofs.Common.{List, sym, subst}
use Rattle.timed_queue.specs.declared.chains.Node.{Node}
use Rattle.timed_queue.specs.Nodes.{Moved}
use Rattle.timed_queue.specs.Sound.{IsWhole}
use Rattle.timed_queue.proofs.WheelLaws.{q_within, last_within, whole_in, comes}
use Rattle.timed_queue.proofs.wheel.Wheel.enter.Goals as goal

pub link-requires : goal.link-requires
link-requires c =
    let w = c.args.self.now in
    record {
      within = c.requires.within;
      place_in = q_within w.nodes.items w.marks.words w.free w.room c.requires.sound c.args.i c.requires.within c.requires.entry c.requires.loose c.args.place c.requires.low;
      last_in = last_within w.nodes.items w.marks.words w.free w.room c.requires.sound c.args.i c.requires.within c.requires.entry c.requires.loose c.args.place c.requires.low;
    }

pub returns-clause-sound : goal.returns-clause-sound
returns-clause-sound c =
    let w = c.args.self.now in
    subst (λ (ns : List Node). IsWhole ns c.mark.new.self.words w.free w.room) (sym c.link.ensures)
    (whole_in w.nodes.items w.marks.words w.free w.room c.requires.sound c.args.i c.requires.within c.requires.entry c.requires.loose c.args.place c.requires.low c.mark.new.self.words c.mark.ensures)

pub returns-clause-moved : goal.returns-clause-moved
returns-clause-moved c =
    let w = c.args.self.now in
    subst (λ (ns : List Node). Moved w.nodes.items ns c.args.i c.args.place) (sym c.link.ensures)
    (comes w.nodes.items w.marks.words w.free w.room c.requires.sound c.args.i c.requires.within c.requires.entry c.requires.loose c.args.place c.requires.low)
