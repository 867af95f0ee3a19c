use Rattle.std.proofs.Common.{◌<◌, ◌≤◌, length, vec_capacity, sym, ap, ◌∙◌, subst, arith}
use Rattle.std.specs.List.{All}
use Rattle.sim_model.specs.EventCore.declared.notifications.Pending.TheVariants as pending
use Rattle.sim_model.specs.EventCore.Notifications.{pending_at}
use Rattle.sim_model.specs.Configuration.{change}
use Rattle.kernel_events.specs.Layout.{IsTied, IsListed, HasOthers}
use Rattle.kernel_events.proofs.Changed.{changed_is, has_time, room_for, same_size, others_listed, below_still, places_still, pending_now, tied_changed}
use Rattle.kernel_events.proofs.EventBoard.cancel.Goals as goal

pub follow-requires : goal.follow-requires
follow-requires c =
    let events = c.self.inside.events in
    let listed = c.self.inside.deltas in
    let timed = c.self.inside.times in
    let n = c.self.inside.size in
    let e = c.args.e in
    let h : e < length events = let size = c.self.invariant.size in omega arith in
    let now = c.cancel.ensures in
    record {
      size = same_size events listed timed n c.self.invariant e h pending.Nothing ∙ ap length (sym now);
      inside = subst (λ es. e < length es) (sym now) (let size = c.self.invariant.size in omega (arith, same_size events listed timed n c.self.invariant e h pending.Nothing));
      now = ap (λ es. pending_at es e) now ∙ pending_now events listed timed n c.self.invariant e h pending.Nothing;
      others = subst (λ es. HasOthers es e listed.items) (sym now) (others_listed events listed timed n c.self.invariant e h pending.Nothing);
      below = subst (λ es. All (λ q. q < length es) listed.items) (sym now) (below_still events listed timed n c.self.invariant e h pending.Nothing);
      places = subst (λ es. length es ≤ vec_capacity listed) (sym now) (places_still events listed timed n c.self.invariant e h pending.Nothing);
      room = room_for events listed timed n c.self.invariant e h;
      had = has_time events listed timed n c.self.invariant e h ∙ sym c.has_time-had_time.ensures;
    }

pub invariant_of-self : goal.invariant_of-self
invariant_of-self c =
    let events = c.self.inside.events in
    let h : c.args.e < length events = let size = c.self.invariant.size in omega arith in
    subst (λ es. IsTied es c.follow.new.deltas c.follow.new.times c.self.inside.size) (sym c.cancel.ensures)
    (tied_changed events c.self.inside.deltas c.self.inside.times c.self.inside.size c.self.invariant c.args.e h pending.Nothing
    c.follow.new.deltas c.follow.new.times (subst (λ es. IsListed es c.follow.new.deltas) c.cancel.ensures c.follow.ensures.listed) c.follow.ensures.time)

pub returns : goal.returns
returns c =
    let h : c.args.e < length c.self.inside.events = let size = c.self.invariant.size in omega arith in
    c.cancel.ensures ∙ changed_is c.self.inside.events c.args.e (λ x. pending.Nothing) h ∙ ap (λ es. change es c.args.e (λ x. pending.Nothing)) c.self.view_is
