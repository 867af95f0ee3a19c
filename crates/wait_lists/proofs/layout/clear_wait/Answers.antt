use Rattle.std.proofs.Common.{◌<◌, ap, ◌∙◌, sym, refl, arith, length, set}
use Rattle.wait_lists.specs.Layout.{shown_by}
use Rattle.wait_lists.proofs.Refit.{set-here}
use Rattle.wait_lists.proofs.Rewritten.{cut-none, cut-more}
use Rattle.wait_lists.proofs.Clearing.{of-first, used-first, empty-first, left-here, left-more, shorter-count}
use Rattle.wait_lists.proofs.layout.clear_wait.Goals as goal

pub loop-first-init : goal.loop-first-init
loop-first-init c = record {
  sound = c.requires.sound;
  places = refl;
  vacant = refl;
  total = refl;
  len = refl;
  left = λ s here. (s.events, sym (set-here (shown_by c.args.kept.now) c.args.at s here));
  first_is = c.first_node-first.ensures;
  cut = cut-none c.args.kept.now c.args.at;
}

pub drop_node-requires-clause-used : goal.drop_node-requires-clause-used
drop_node-requires-clause-used c =
    let inv = c.loop-first.invariant in
    let inside : c.args.at < length c.loop-first.kept.waiters.items = omega (arith, inv.len, c.requires.inside) in
    used-first c.loop-first.kept inv.sound c.args.at c.loop-first.first inside inv.first_is c.loop-first-test.true

pub loop-first-smaller : goal.loop-first-smaller
loop-first-smaller c =
    let inv = c.loop-first.invariant in
    let inside : c.args.at < length c.loop-first.kept.waiters.items = omega (arith, inv.len, c.requires.inside) in
    shorter-count c.loop-first.kept c.drop_node.new.kept c.args.at c.loop-first.first inside
    (λ s here. c.drop_node.ensures.shorter c.args.at s (of-first c.loop-first.kept inv.sound c.args.at c.loop-first.first inside inv.first_is c.loop-first-test.true) here)

pub loop-first-preserved : goal.loop-first-preserved
loop-first-preserved c =
    let inv = c.loop-first.invariant in
    let inside : c.args.at < length c.loop-first.kept.waiters.items = omega (arith, inv.len, c.requires.inside) in
    let of = of-first c.loop-first.kept inv.sound c.args.at c.loop-first.first inside inv.first_is c.loop-first-test.true in
    record {
      sound = c.drop_node.ensures.sound;
      places = c.drop_node.ensures.places ∙ inv.places;
      vacant = c.drop_node.ensures.vacant ∙ inv.vacant;
      total = c.drop_node.ensures.total ∙ inv.total;
      len = c.drop_node.ensures.len ∙ inv.len;
      left = λ s here.
          let before = inv.left s here in
          let less = c.drop_node.ensures.shorter c.args.at (record s { events = before.0 }) of (left-here (shown_by c.args.kept.now) (shown_by c.loop-first.kept) c.args.at s here before.0 before.1) in
          (less.events, left-more (shown_by c.args.kept.now) (shown_by c.loop-first.kept) c.args.at s here before.0 before.1 (shown_by c.drop_node.new.kept) less.events less.is);
      first_is = c.first_node-first-in-loop-first.ensures;
      cut = cut-more c.args.kept.now c.loop-first.kept c.drop_node.new.kept c.args.at inv.cut (c.drop_node.ensures.cut c.args.at of);
    }

pub returns-clause-cleared : goal.returns-clause-cleared
returns-clause-cleared c s here =
    let inv = c.loop-first.invariant in
    let inside : c.args.at < length c.loop-first.kept.waiters.items = omega (arith, inv.len, c.requires.inside) in
    let before = inv.left s here in
    let none_left = empty-first c.loop-first.kept inv.sound c.args.at c.loop-first.first inside inv.first_is c.loop-first-test.false (record s { events = before.0 })
    (left-here (shown_by c.args.kept.now) (shown_by c.loop-first.kept) c.args.at s here before.0 before.1) in
    before.1 ∙ ap (λ l. set (shown_by c.args.kept.now) c.args.at (record s { events = l })) none_left
