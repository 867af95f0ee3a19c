use Rattle.std.proofs.Common.{◌≡◌, ◌<◌, ◌≤◌, length, set, vec_capacity, sym, ap, ◌∙◌, subst, arith}
use Rattle.std.specs.List.{All}
use Rattle.sim_model.specs.EventCore.declared.notifications.Pending.TheVariants as pending
use Rattle.sim_model.specs.EventCore.declared.notifications.When.TheVariants as when
use Rattle.sim_model.specs.EventCore.Notifications.{pending_at, notified}
use Rattle.sim_model.specs.Configuration.{change}
use Rattle.kernel_events.specs.Layout.{is_nothing, is_timed, IsTied, IsListed, HasOthers}
use Rattle.kernel_events.proofs.Changed.{changed_is, has_time, same_size, others_listed, below_still, places_still, tied_changed, without_none, nothing_is}
use Rattle.kernel_events.proofs.EventBoard.set_delta.Goals as goal

pub list-requires : goal.list-requires
list-requires c =
    let events = c.self.inside.events in
    let listed = c.self.inside.deltas in
    let timed = c.self.inside.times in
    let n = c.self.inside.size in
    let e = c.args.e in
    let h : e < length events = omega (arith, c.requires.inside, ap length c.self.view_is) in
    let nothing : pending_at events e ≡ pending.Nothing = nothing_is (pending_at events e) (ap (λ es. is_nothing (pending_at es e)) c.self.view_is ∙ c.requires.none) in
    let now = c.notify.ensures.after ∙ ap (λ p. set events e (notified when.Delta p)) nothing in
    record {
      size = same_size events listed timed n c.self.invariant e h pending.Delta ∙ ap length (sym now);
      inside = subst (λ es. e < length es) (sym now) (let size = c.self.invariant.size in omega (arith, same_size events listed timed n c.self.invariant e h pending.Delta));
      others = subst (λ es. HasOthers es e listed.items) (sym now) (others_listed events listed timed n c.self.invariant e h pending.Delta);
      below = subst (λ es. All (λ q. q < length es) listed.items) (sym now) (below_still events listed timed n c.self.invariant e h pending.Delta);
      places = subst (λ es. length es ≤ vec_capacity listed) (sym now) (places_still events listed timed n c.self.invariant e h pending.Delta);
    }

pub invariant_of-self : goal.invariant_of-self
invariant_of-self c =
    let events = c.self.inside.events in
    let listed = c.self.inside.deltas in
    let timed = c.self.inside.times in
    let n = c.self.inside.size in
    let e = c.args.e in
    let h : e < length events = omega (arith, c.requires.inside, ap length c.self.view_is) in
    let nothing : pending_at events e ≡ pending.Nothing = nothing_is (pending_at events e) (ap (λ es. is_nothing (pending_at es e)) c.self.view_is ∙ c.requires.none) in
    let now = c.notify.ensures.after ∙ ap (λ p. set events e (notified when.Delta p)) nothing in
    subst (λ es. IsTied es c.list.new.deltas timed n) (sym now)
    (tied_changed events listed timed n c.self.invariant e h pending.Delta c.list.new.deltas timed
    (subst (λ es. IsListed es c.list.new.deltas) now c.list.ensures)
    (without_none timed e (has_time events listed timed n c.self.invariant e h ∙ ap is_timed nothing)))

pub returns : goal.returns
returns c =
    let h : c.args.e < length c.self.inside.events = omega (arith, c.requires.inside, ap length c.self.view_is) in
    c.notify.ensures.after ∙ changed_is c.self.inside.events c.args.e (notified when.Delta) h ∙ ap (λ es. change es c.args.e (notified when.Delta)) c.self.view_is
