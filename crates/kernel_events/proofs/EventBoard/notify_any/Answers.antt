use Rattle.std.proofs.Common.{◌≡◌, ◌⊎◌, ◌<◌, ◌≤◌, Bool, true, false, cond, length, set, vec_capacity, refl, sym, ap, ◌∙◌, subst, ⊎_elim, arith}
use Rattle.std.specs.List.{All}
use Rattle.sim_model.specs.EventCore.declared.notifications.Effect.{Effect}
use Rattle.sim_model.specs.EventCore.declared.notifications.Effect.TheVariants as effect
use Rattle.sim_model.specs.EventCore.declared.notifications.Pending.{Pending}
use Rattle.sim_model.specs.EventCore.declared.notifications.When.{When}
use Rattle.sim_model.specs.EventCore.declared.notifications.When.TheVariants as when
use Rattle.sim_model.specs.EventCore.Notifications.{pending_at, notified, comes_first, effect_of}
use Rattle.sim_model.specs.Configuration.{change}
use Rattle.kernel_events.specs.Layout.{IsTied, IsListed, HasOthers}
use Rattle.kernel_events.proofs.Changed.{changed_is, has_time, room_for, same_size, others_listed, below_still, places_still, pending_now, tied_changed, overridden}
use Rattle.kernel_events.proofs.EventBoard.notify_any.Goals as goal

-- what is told, and which survives
fires_or_sets : (w : When) (p : Pending) (x : Effect) → x ≡ effect_of w p → (x ≡ effect.Fire) ⊎ (x ≡ effect.Set) → comes_first w p ≡ true
fires_or_sets when.Immediate p x is told = refl
fires_or_sets when.Delta p x is told = by_test (comes_first when.Delta p) is told
  where
    by_test : (b : Bool) → x ≡ cond b effect.Set effect.Kept → (x ≡ effect.Fire) ⊎ (x ≡ effect.Set) → b ≡ true
    by_test true is told = refl
    by_test false is told = ⊎_elim (λ fire. let h : effect.Kept ≡ effect.Fire = sym is ∙ fire in cc) (λ set. let h : effect.Kept ≡ effect.Set = sym is ∙ set in cc) told
fires_or_sets (when.At t) p x is told = by_test (comes_first (when.At t) p) is told
  where
    by_test : (b : Bool) → x ≡ cond b effect.Set effect.Kept → (x ≡ effect.Fire) ⊎ (x ≡ effect.Set) → b ≡ true
    by_test true is told = refl
    by_test false is told = ⊎_elim (λ fire. let h : effect.Kept ≡ effect.Fire = sym is ∙ fire in cc) (λ set. let h : effect.Kept ≡ effect.Set = sym is ∙ set in cc) told

pub follow-requires : goal.follow-requires
follow-requires c =
    let events = c.self.inside.events in
    let listed = c.self.inside.deltas in
    let timed = c.self.inside.times in
    let n = c.self.inside.size in
    let e = c.args.e in
    let p = c.left_by-left.result in
    let h : e < length events = let size = c.self.invariant.size in omega arith in
    let first = overridden c.args.w (pending_at events e) (fires_or_sets c.args.w (pending_at events e) c.notify.result c.notify.ensures.effect c.in-Fire.is) in
    let now = c.notify.ensures.after ∙ ap (λ x. set events e x) (first ∙ sym c.left_by-left.ensures) in
    record {
      size = same_size events listed timed n c.self.invariant e h p ∙ ap length (sym now);
      inside = subst (λ es. e < length es) (sym now) (let size = c.self.invariant.size in omega (arith, same_size events listed timed n c.self.invariant e h p));
      now = ap (λ es. pending_at es e) now ∙ pending_now events listed timed n c.self.invariant e h p;
      others = subst (λ es. HasOthers es e listed.items) (sym now) (others_listed events listed timed n c.self.invariant e h p);
      below = subst (λ es. All (λ q. q < length es) listed.items) (sym now) (below_still events listed timed n c.self.invariant e h p);
      places = subst (λ es. length es ≤ vec_capacity listed) (sym now) (places_still events listed timed n c.self.invariant e h p);
      room = room_for events listed timed n c.self.invariant e h;
      had = has_time events listed timed n c.self.invariant e h ∙ sym c.has_time-had_time.ensures;
    }

pub invariant_of-self-in-Fire : goal.invariant_of-self-in-Fire
invariant_of-self-in-Fire c =
    let events = c.self.inside.events in
    let h : c.args.e < length events = let size = c.self.invariant.size in omega arith in
    let first = overridden c.args.w (pending_at events c.args.e) (fires_or_sets c.args.w (pending_at events c.args.e) c.notify.result c.notify.ensures.effect c.in-Fire.is) in
    let now = c.notify.ensures.after ∙ ap (λ p. set events c.args.e p) (first ∙ sym c.left_by-left.ensures) in
    subst (λ es. IsTied es c.follow.new.deltas c.follow.new.times c.self.inside.size) (sym now)
    (tied_changed events c.self.inside.deltas c.self.inside.times c.self.inside.size c.self.invariant c.args.e h c.left_by-left.result
    c.follow.new.deltas c.follow.new.times (subst (λ es. IsListed es c.follow.new.deltas) now c.follow.ensures.listed) c.follow.ensures.time)

pub returns-in-Kept : goal.returns-in-Kept
returns-in-Kept c =
    let h : c.args.e < length c.self.inside.events = let size = c.self.invariant.size in omega arith in
    c.notify.ensures.after ∙ changed_is c.self.inside.events c.args.e (notified c.args.w) h ∙ ap (λ es. change es c.args.e (notified c.args.w)) c.self.view_is

pub returns-in-Fire : goal.returns-in-Fire
returns-in-Fire c =
    let h : c.args.e < length c.self.inside.events = let size = c.self.invariant.size in omega arith in
    c.notify.ensures.after ∙ changed_is c.self.inside.events c.args.e (notified c.args.w) h ∙ ap (λ es. change es c.args.e (notified c.args.w)) c.self.view_is
