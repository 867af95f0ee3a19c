use Rattle.std.proofs.Common.{◌≡◌, ◌≤◌, ◌<◌, ◌+◌, List, length, sym, ap, ◌∙◌, subst, arith}
use Rattle.order_free.specs.Spreading as spec
use Rattle.order_free.specs.Spreading.{Spreading, label_at, targets_at, raise_all, all_rises}
use Rattle.order_free.specs.declared.users.Users.{Users}
use Rattle.order_free.proofs.Raised.{Rise, all_rise}
use Rattle.order_free.proofs.Labels.{one_followed, all_followed}
use Rattle.order_free.proofs.spreading.follow.Goals as goal

-- what a block raises
raised : (c : goal.In_ok-raise_all)
    → ◌≡◌ {A = Spreading} (c.raise_all.new.labels.items, c.raise_all.new.listing.items) (raise_all (label_at c.loop-i.labels.items c.index-n.result.now) (targets_at c.args.parts.now c.index-n.result.now) (c.loop-i.labels.items, c.loop-i.listing.items))
raised c =
    let s : Spreading = (c.loop-i.labels.items, c.loop-i.listing.items) in
    c.in_ok-raise_all.ensures
    ∙ ap (λ ns. raise_all c.label_at-x.result ns s) c.targets_of.ensures
    ∙ ap (λ (x : Users). raise_all x (targets_at c.args.parts.now c.index-n.result.now) s) (c.label_at-x.ensures ∙ ap (λ (labels : List Users). label_at labels c.index-n.result.now) c.as_slice.ensures.value)

rise : (c : goal.In_ok-raise_all) → Rise (c.loop-i.labels.items, c.loop-i.listing.items) (c.raise_all.new.labels.items, c.raise_all.new.listing.items)
rise c =
    let s : Spreading = (c.loop-i.labels.items, c.loop-i.listing.items) in
    subst (Rise s) (sym (raised c)) (all_rise (label_at c.loop-i.labels.items c.index-n.result.now) (targets_at c.args.parts.now c.index-n.result.now) s)

below : (c : goal.In_ok-raise_all) → c.loop-i.i < length c.loop-i.listing.items
below c = let test = c.loop-i-test.true in let len = c.len.ensures in omega (arith, test, len)

pub loop-i-smaller : goal.loop-i-smaller
loop-i-smaller c =
    let r = rise c in
    let work = r.work in
    let longer = r.longer in
    let here = below c in
    omega (arith, work, longer, here)

pub loop-i-preserved : goal.loop-i-preserved
loop-i-preserved c =
    let r = rise c in
    let longer = r.longer in
    let here = below c in
    record {
      within = omega (arith, longer, here);
      under_way = λ roots u.
          subst (spec.IsUnderWay c.args.parts.now roots (c.loop-i.i + 1)) (sym (raised c))
          (one_followed c.args.parts.now roots c.loop-i.i (c.loop-i.labels.items, c.loop-i.listing.items) (c.loop-i.invariant.under_way roots u) c.index-n.result.now here c.index-n.ensures);
    }

pub returns : goal.returns
returns c = λ roots u.
    let ended : length c.loop-i.listing.items ≤ c.loop-i.i = (let test = c.loop-i-test.false in let len = c.len.ensures in omega (arith, test, len)) in
    all_followed c.args.parts.now roots c.loop-i.i (c.loop-i.labels.items, c.loop-i.listing.items) (c.loop-i.invariant.under_way roots u) ended
