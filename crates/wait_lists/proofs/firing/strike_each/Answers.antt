use Rattle.std.proofs.Common.{ℕ, ◌≡◌, ◌<◌, length, not, refl, ap, ◌∙◌, sym, subst, arith}
use Rattle.std.specs.Prelude.{vec_len}
use Rattle.std.proofs.lemmas.List.{length-append}
use Rattle.wait_lists.specs.Shown.{passed_by}
use Rattle.wait_lists.specs.Nodes.{first_in}
use Rattle.wait_lists.specs.Layout.{waits_by}
use Rattle.wait_lists.proofs.Passing.{passed_struck, passed_met}
use Rattle.wait_lists.proofs.Struck.{used-within, neither}
use Rattle.wait_lists.proofs.Going.{going-none, used-next, room-next, stays-within, node-owner, step-stays, step-struck, all-muted}
use Rattle.wait_lists.proofs.firing.strike_each.Goals as goal
use Rattle.wait_lists.proofs.firing.strike_each.Goals.{then-strike, else-strike}

pub loop-i-init : goal.loop-i-init
loop-i-init c = record {
  going = going-none c.args.kept.now c.requires.sound c.args.e c.event_code-code.result c.args.out.now.items c.args.head c.event_code-code.ensures
      (c.requires.begins ∙ ap (first_in c.args.kept.now.heads.events c.args.kept.now.heads.free) (sym c.event_code-code.ensures));
  capacity = refl;
}

pub strike-requires-clause-used : goal.strike-requires-clause-used
strike-requires-clause-used c =
    used-next c.args.kept.now c.loop-i.kept c.args.e c.event_code-code.result c.args.out.now.items c.loop-i.out.items c.loop-i.stays c.loop-i.i c.loop-i.invariant.going c.loop-i-test.true

pub strike-requires-clause-room : goal.strike-requires-clause-room
strike-requires-clause-room c at s of here active =
    let going = c.loop-i.invariant.going in
    let room = room-next c.args.kept.now c.loop-i.kept c.args.e c.event_code-code.result c.args.out.now.items c.loop-i.out.items c.loop-i.stays c.loop-i.i going c.loop-i-test.true at s of here active in
    let len : vec_len c.loop-i.out ≡ length c.loop-i.out.items = c.loop-i.out.ok.0 in
    let old_len : vec_len c.args.out.now ≡ length c.args.out.now.items = c.args.out.now.ok.0 in
    omega (arith, room, ap length going.behind, length-append c.args.out.now.items going.added, c.loop-i.invariant.capacity, c.requires.room)

pub next_behind-i-requires-clause-inside : goal.next_behind-i-requires-clause-inside
next_behind-i-requires-clause-inside c there =
    let going = c.loop-i.invariant.going in
    let used = used-next c.args.kept.now c.loop-i.kept c.args.e c.event_code-code.result c.args.out.now.items c.loop-i.out.items c.loop-i.stays c.loop-i.i going c.loop-i-test.true in
    let own = node-owner c.loop-i.kept going.sound c.loop-i.i used in
    elim c.if-strike.branch [
      | then-strike w ↦
          let before : c.loop-i.i < length c.loop-i.kept.nodes.items = used-within c.loop-i.kept c.loop-i.i used in
          omega (arith, w.stays-is, before, c.strike.ensures.whole w.if-strike.true)
      | else-strike w ↦
          let P : ℕ → Type 0 = λ n. n < length c.strike.new.kept.nodes.items in
          let active = (neither (passed_by own.1) (not own.1.for_all) (sym (c.strike.ensures.stays own.0 own.1 own.2 own.3) ∙ w.if-strike.false)).0 in
          subst P (sym w.stays-is) (stays-within c.args.kept.now c.loop-i.kept c.args.e c.event_code-code.result c.args.out.now.items c.loop-i.out.items c.loop-i.stays c.loop-i.i going c.loop-i-test.true
          own.0 own.1 own.3 active c.strike.new.kept c.strike.ensures.sound (c.strike.ensures.shorter own.0 own.1 own.2 own.3 w.if-strike.false).1 (λ e. there (w.stays-is ∙ e)))
    ]

pub loop-i-smaller : goal.loop-i-smaller
loop-i-smaller c =
    let going = c.loop-i.invariant.going in
    let used = used-next c.args.kept.now c.loop-i.kept c.args.e c.event_code-code.result c.args.out.now.items c.loop-i.out.items c.loop-i.stays c.loop-i.i going c.loop-i-test.true in
    let own = node-owner c.loop-i.kept going.sound c.loop-i.i used in
    elim c.if-strike.branch [
      | then-strike w ↦
          (step-stays c.args.kept.now c.loop-i.kept c.strike.new.kept c.args.e c.event_code-code.result c.args.out.now.items c.loop-i.out.items c.strike.new.out.items c.loop-i.stays c.loop-i.i c.if-strike.stays c.next_behind-i.result
          going c.loop-i-test.true own.0 own.1 own.2 own.3 c.next_behind-i.ensures
          (sym (c.strike.ensures.stays own.0 own.1 own.2 own.3) ∙ w.if-strike.true) c.strike.ensures.sound c.strike.ensures.places
          (c.strike.ensures.passed own.0 own.1 own.2 own.3) (c.strike.ensures.over own.0 own.1 own.2 own.3) w.stays-is).1
      | else-strike w ↦
          (step-struck c.args.kept.now c.loop-i.kept c.strike.new.kept c.args.e c.event_code-code.result c.args.out.now.items c.loop-i.out.items c.strike.new.out.items c.loop-i.stays c.loop-i.i c.if-strike.stays c.next_behind-i.result
          going c.loop-i-test.true own.0 own.1 own.2 own.3 c.next_behind-i.ensures
          (sym (c.strike.ensures.stays own.0 own.1 own.2 own.3) ∙ w.if-strike.false) c.strike.ensures.sound c.strike.ensures.places
          (c.strike.ensures.shorter own.0 own.1 own.2 own.3 w.if-strike.false) (λ t there. c.strike.ensures.told own.0 own.1 t own.2 own.3 w.if-strike.false there) w.stays-is).1
    ]

pub loop-i-preserved : goal.loop-i-preserved
loop-i-preserved c =
    let going = c.loop-i.invariant.going in
    let used = used-next c.args.kept.now c.loop-i.kept c.args.e c.event_code-code.result c.args.out.now.items c.loop-i.out.items c.loop-i.stays c.loop-i.i going c.loop-i-test.true in
    let own = node-owner c.loop-i.kept going.sound c.loop-i.i used in
    elim c.if-strike.branch [
      | then-strike w ↦ record {
        going = (step-stays c.args.kept.now c.loop-i.kept c.strike.new.kept c.args.e c.event_code-code.result c.args.out.now.items c.loop-i.out.items c.strike.new.out.items c.loop-i.stays c.loop-i.i c.if-strike.stays c.next_behind-i.result
            going c.loop-i-test.true own.0 own.1 own.2 own.3 c.next_behind-i.ensures
            (sym (c.strike.ensures.stays own.0 own.1 own.2 own.3) ∙ w.if-strike.true) c.strike.ensures.sound c.strike.ensures.places
            (c.strike.ensures.passed own.0 own.1 own.2 own.3) (c.strike.ensures.over own.0 own.1 own.2 own.3) w.stays-is).0;
        capacity = c.strike.ensures.capacity ∙ c.loop-i.invariant.capacity;
      }
      | else-strike w ↦ record {
        going = (step-struck c.args.kept.now c.loop-i.kept c.strike.new.kept c.args.e c.event_code-code.result c.args.out.now.items c.loop-i.out.items c.strike.new.out.items c.loop-i.stays c.loop-i.i c.if-strike.stays c.next_behind-i.result
            going c.loop-i-test.true own.0 own.1 own.2 own.3 c.next_behind-i.ensures
            (sym (c.strike.ensures.stays own.0 own.1 own.2 own.3) ∙ w.if-strike.false) c.strike.ensures.sound c.strike.ensures.places
            (c.strike.ensures.shorter own.0 own.1 own.2 own.3 w.if-strike.false) (λ t there. c.strike.ensures.told own.0 own.1 t own.2 own.3 w.if-strike.false there) w.stays-is).0;
        capacity = c.strike.ensures.capacity ∙ c.loop-i.invariant.capacity;
      }
    ]

pub returns-clause-struck : goal.returns-clause-struck
returns-clause-struck c =
    let going = c.loop-i.invariant.going in
    passed_struck (waits_by c.args.kept.now) (waits_by c.loop-i.kept) c.args.e going.added going.passed
    (all-muted c.args.kept.now c.loop-i.kept c.args.e c.event_code-code.result c.args.out.now.items c.loop-i.out.items c.loop-i.stays c.loop-i.i going c.loop-i-test.false)

pub returns-clause-met : goal.returns-clause-met
returns-clause-met c =
    let going = c.loop-i.invariant.going in
    passed_met (waits_by c.args.kept.now) (waits_by c.loop-i.kept) c.args.e going.added going.passed
    (all-muted c.args.kept.now c.loop-i.kept c.args.e c.event_code-code.result c.args.out.now.items c.loop-i.out.items c.loop-i.stays c.loop-i.i going c.loop-i-test.false)
    c.args.out.now.items c.loop-i.out.items going.behind
