use Rattle.std.proofs.Common.{◌≡◌, ◌∷◌, ap, ◌∙◌, sym, refl, arith, length, drop, set}
use Rattle.wait_lists.specs.Shown.{Shown}
use Rattle.wait_lists.specs.Nodes.{event_of}
use Rattle.wait_lists.specs.Layout.{shown_by}
use Rattle.wait_lists.proofs.Telling.{written_at}
use Rattle.wait_lists.proofs.Refit.{set-here}
use Rattle.wait_lists.proofs.Clearing.{left-here, left-more, shown-there}
use Rattle.wait_lists.proofs.Listing.{drop_whole, one_before, rest_short}
use Rattle.wait_lists.proofs.layout.list_events.Goals as goal

pub loop-k-init : goal.loop-k-init
loop-k-init c = record {
  sound = c.requires.sound;
  places = refl;
  len = refl;
  within = omega arith;
  left = λ s here.
      sym (set-here (shown_by c.args.kept.now) c.args.at s here)
      ∙ ap (λ l. set (shown_by c.args.kept.now) c.args.at (record s { events = l })) ((c.requires.free s here).0 ∙ sym (drop_whole c.args.list.now));
}

pub add_node-requires-clause-room : goal.add_node-requires-clause-room
add_node-requires-clause-room c x found =
    let first = shown-there c.args.kept.now c.args.at c.requires.inside in
    let is = written_at (shown_by c.args.kept.now) (shown_by c.loop-k.kept) c.args.at first.0 x (record first.0 { events = drop c.loop-k.k c.args.list.now }) first.1 (c.loop-k.invariant.left first.0 first.1) found in
    omega (
      arith,
      c.loop-k.invariant.within,
      c.loop-k-test.true,
      ap (λ (y : Shown). length y.events) is,
      ap (λ (y : Shown). y.room) is,
      (c.requires.free first.0 first.1).1,
      rest_short c.loop-k.k c.args.list.now c.loop-k.invariant.within,
    )

pub loop-k-preserved : goal.loop-k-preserved
loop-k-preserved c = record {
  sound = c.add_node.ensures.sound;
  places = c.add_node.ensures.places ∙ c.loop-k.invariant.places;
  len = c.add_node.ensures.len ∙ c.loop-k.invariant.len;
  within = omega (arith, c.loop-k.invariant.within);
  left = λ s here.
      let evs = drop c.loop-k.k c.args.list.now in
      let before = c.loop-k.invariant.left s here in
      let more = c.add_node.ensures.more (record s { events = evs }) (left-here (shown_by c.args.kept.now) (shown_by c.loop-k.kept) c.args.at s here evs before) in
      left-more (shown_by c.args.kept.now) (shown_by c.loop-k.kept) c.args.at s here evs before (shown_by c.add_node.new.kept) (event_of c.event_code.result ∷ evs) more
      ∙ ap (λ l. set (shown_by c.args.kept.now) c.args.at (record s { events = l })) (one_before c.loop-k.k c.event_code.result c.args.list.now (omega (arith, c.loop-k-test.true)) c.loop-k.invariant.within c.event_code.ensures);
}

pub returns-clause-begun : goal.returns-clause-begun
returns-clause-begun c s here =
    let done : c.loop-k.k ≡ 0 = omega (arith, c.loop-k-test.false) in
    c.loop-k.invariant.left s here ∙ ap (λ n. set (shown_by c.args.kept.now) c.args.at (record s { events = drop n c.args.list.now })) done
