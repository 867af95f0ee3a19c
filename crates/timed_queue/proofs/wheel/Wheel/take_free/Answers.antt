use Rattle.std.proofs.Common.{◌-◌, ℕ, List, sym, subst}
use Rattle.timed_queue.specs.declared.chains.Node.{Node}
use Rattle.timed_queue.specs.Nodes.{Moved, with_place}
use Rattle.timed_queue.specs.Sound.{IsWhole}
use Rattle.timed_queue.proofs.FreeLaws.{whole_taken, moved_free}
use Rattle.timed_queue.proofs.wheel.Wheel.take_free.Goals as goal

pub next_of-next-requires : goal.next_of-next-requires
next_of-next-requires c = (c.requires.sound.stack.top c.requires.some).0

pub set_place-requires : goal.set_place-requires
set_place-requires c = (c.requires.sound.stack.top c.requires.some).0

pub returns-clause-sound : goal.returns-clause-sound
returns-clause-sound c =
    let w = c.args.self.now in
    let whole = whole_taken w.nodes.items w.marks.words w.free w.room c.requires.sound c.requires.some in
    subst (λ (ns : List Node). IsWhole ns w.marks.words c.next_of-next.result (w.room - 1)) (sym c.set_place.ensures)
    (subst (λ (f : ℕ). IsWhole (with_place w.nodes.items w.free 705) w.marks.words f (w.room - 1)) (sym c.next_of-next.ensures) whole)

pub returns-clause-within : goal.returns-clause-within
returns-clause-within c = (c.requires.sound.stack.top c.requires.some).0

pub returns-clause-entry : goal.returns-clause-entry
returns-clause-entry c = (c.requires.sound.stack.top c.requires.some).1

pub returns-clause-was : goal.returns-clause-was
returns-clause-was c = (c.requires.sound.stack.top c.requires.some).2

pub returns-clause-moved : goal.returns-clause-moved
returns-clause-moved c =
    let w = c.args.self.now in
    subst (λ (ns : List Node). Moved w.nodes.items ns w.free 705) (sym c.set_place.ensures)
    (moved_free w.nodes.items w.marks.words w.free w.room c.requires.sound c.requires.some)
