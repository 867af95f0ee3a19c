use Rattle.std.proofs.Common.{List, sym, subst}
use Rattle.timed_queue.specs.declared.chains.Node.{Node}
use Rattle.timed_queue.specs.Nodes.{Filled}
use Rattle.timed_queue.specs.Sound.{IsWhole}
use Rattle.timed_queue.proofs.FreeLaws.{whole_filled, filled-length, filled-place, filled-name, filled-time, other-name, other-time}
use Rattle.timed_queue.proofs.wheel.Wheel.fill.Goals as goal

pub returns-clause-sound : goal.returns-clause-sound
returns-clause-sound c =
    let w = c.args.self.now in
    subst (λ (ns : List Node). IsWhole ns w.marks.words w.free w.room) (sym c.set_entry.ensures)
    (whole_filled w.nodes.items w.marks.words w.free w.room c.requires.sound c.args.i c.args.name c.args.time c.requires.within)

pub returns-clause-filled : goal.returns-clause-filled
returns-clause-filled c =
    let w = c.args.self.now in let s = c.requires.sound in
    subst (λ (ns : List Node). Filled w.nodes.items ns c.args.i c.args.name c.args.time) (sym c.set_entry.ensures)
    (record {
      as_many = filled-length w.nodes.items w.marks.words w.free w.room s c.args.i c.args.name c.args.time c.requires.within;
      places = filled-place w.nodes.items w.marks.words w.free w.room s c.args.i c.args.name c.args.time c.requires.within;
      name_here = filled-name w.nodes.items w.marks.words w.free w.room s c.args.i c.args.name c.args.time c.requires.within;
      time_here = filled-time w.nodes.items w.marks.words w.free w.room s c.args.i c.args.name c.args.time c.requires.within;
      names = other-name w.nodes.items w.marks.words w.free w.room s c.args.i c.args.name c.args.time c.requires.within;
      times = other-time w.nodes.items w.marks.words w.free w.room s c.args.i c.args.name c.args.time c.requires.within;
    })
