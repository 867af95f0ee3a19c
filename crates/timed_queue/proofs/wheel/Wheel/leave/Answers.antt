use Rattle.std.proofs.Common.{◌≡◌, ◌≢◌, ℕ, List, length, sym, ap, ◌∙◌, subst, arith}
use Rattle.timed_queue.specs.declared.chains.Node.{Node}
use Rattle.timed_queue.specs.Nodes.{Moved, next_of, unlinked}
use Rattle.timed_queue.specs.Nodes as nodes
use Rattle.timed_queue.specs.Marked.{Marks}
use Rattle.timed_queue.specs.Sound.{IsWhole}
use Rattle.timed_queue.proofs.WheelLaws.{next_in, before_in, moves, out_more, out_last}
use Rattle.timed_queue.proofs.wheel.Wheel.leave.Goals as goal

pub unlink-requires : goal.unlink-requires
unlink-requires c =
    let w = c.args.self.now in
    record {
      within = c.requires.within;
      next_in = next_in w.nodes.items w.marks.words w.free w.room c.requires.sound c.args.i c.requires.within c.requires.entry c.requires.live;
      before_in = before_in w.nodes.items w.marks.words w.free w.room c.requires.sound c.args.i c.requires.within c.requires.entry c.requires.live;
    }

pub next_of-requires : goal.next_of-requires
next_of-requires c =
    let w = c.args.self.now in
    let e = c.place_of-place.ensures in
    let live = c.requires.live in
    let as_many : length c.unlink.new.nodes.items ≡ length w.nodes.items = ap length c.unlink.ensures
    ∙ (moves w.nodes.items w.marks.words w.free w.room c.requires.sound c.args.i c.requires.within c.requires.entry c.requires.live).as_many in
    omega (arith, e, live, as_many, c.requires.within, c.requires.entry)

pub returns-then-next_of-place-clause-sound : goal.returns-then-next_of-place-clause-sound
returns-then-next_of-place-clause-sound c =
    let w = c.args.self.now in
    let at = c.place_of-place.ensures in
    let last : next_of (unlinked w.nodes.items c.args.i) (nodes.place_of w.nodes.items c.args.i) ≡ nodes.place_of w.nodes.items c.args.i =
    ap (next_of (unlinked w.nodes.items c.args.i)) (sym at) ∙ ap (λ (ns : List Node). next_of ns c.place_of-place.result) (sym c.unlink.ensures) ∙ sym c.next_of.ensures ∙ c.if-next_of-place.true ∙ at in
    subst (λ (ns : List Node). IsWhole ns c.unmark.new.self.words w.free w.room) (sym c.unlink.ensures)
    (out_last w.nodes.items w.marks.words w.free w.room c.requires.sound c.args.i c.requires.within c.requires.entry c.requires.live c.unmark.new.self.words
    (subst (λ (p : ℕ). Marks w.marks.words c.unmark.new.self.words p 0) at c.unmark.ensures) last)

pub returns-then-next_of-place-clause-moved : goal.returns-then-next_of-place-clause-moved
returns-then-next_of-place-clause-moved c =
    let w = c.args.self.now in
    subst (λ (ns : List Node). Moved w.nodes.items ns c.args.i 705) (sym c.unlink.ensures)
    (moves w.nodes.items w.marks.words w.free w.room c.requires.sound c.args.i c.requires.within c.requires.entry c.requires.live)

pub returns-else-next_of-place-clause-sound : goal.returns-else-next_of-place-clause-sound
returns-else-next_of-place-clause-sound c =
    let w = c.args.self.now in
    let at = c.place_of-place.ensures in
    let more : next_of (unlinked w.nodes.items c.args.i) (nodes.place_of w.nodes.items c.args.i) ≢ nodes.place_of w.nodes.items c.args.i = λ loop. c.if-next_of-place.false
    (c.next_of.ensures ∙ ap (λ (ns : List Node). next_of ns c.place_of-place.result) c.unlink.ensures ∙ ap (next_of (unlinked w.nodes.items c.args.i)) at ∙ loop ∙ sym at) in
    subst (λ (ns : List Node). IsWhole ns w.marks.words w.free w.room) (sym c.unlink.ensures)
    (out_more w.nodes.items w.marks.words w.free w.room c.requires.sound c.args.i c.requires.within c.requires.entry c.requires.live more)

pub returns-else-next_of-place-clause-moved : goal.returns-else-next_of-place-clause-moved
returns-else-next_of-place-clause-moved c =
    let w = c.args.self.now in
    subst (λ (ns : List Node). Moved w.nodes.items ns c.args.i 705) (sym c.unlink.ensures)
    (moves w.nodes.items w.marks.words w.free w.room c.requires.sound c.args.i c.requires.within c.requires.entry c.requires.live)
