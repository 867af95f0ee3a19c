use Rattle.std.proofs.Common.{◌+◌, List, sym, ap, ◌∙◌, subst}
use Rattle.timed_queue.specs.declared.chains.Node.{Node}
use Rattle.timed_queue.specs.Nodes.{Moved, with_next}
use Rattle.timed_queue.specs.Sound.{IsWhole}
use Rattle.timed_queue.proofs.FreeLaws.{whole_given, moved_given}
use Rattle.timed_queue.proofs.wheel.Wheel.give_free.Goals as goal

pub returns-clause-sound : goal.returns-clause-sound
returns-clause-sound c =
    let w = c.args.self.now in
    let e = c.set_next.ensures ∙ ap (λ (ns : List Node). with_next ns c.args.i w.free) c.set_place.ensures in
    subst (λ (ns : List Node). IsWhole ns w.marks.words c.args.i (w.room + 1)) (sym e)
    (whole_given w.nodes.items w.marks.words w.free w.room c.requires.sound c.args.i c.requires.within c.requires.entry c.requires.loose)

pub returns-clause-moved : goal.returns-clause-moved
returns-clause-moved c =
    let w = c.args.self.now in
    let e = c.set_next.ensures ∙ ap (λ (ns : List Node). with_next ns c.args.i w.free) c.set_place.ensures in
    subst (λ (ns : List Node). Moved w.nodes.items ns c.args.i 704) (sym e)
    (moved_given w.nodes.items w.marks.words w.free w.room c.requires.sound c.args.i c.requires.within c.requires.entry c.requires.loose)
