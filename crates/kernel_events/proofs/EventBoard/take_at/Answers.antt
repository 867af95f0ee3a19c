use Rattle.std.proofs.Common.{◌≡◌, ◌++◌, ℕ, false, map, sym, ap, ◌∙◌, append-nil}
use Rattle.sim_model.specs.EventCore.Notifications.{pending_at}
use Rattle.sim_model.specs.Phases.{is_at, due_events, without_pending}
use Rattle.kernel_events.specs.Numbered.{fixed}
use Rattle.kernel_events.proofs.DueEvents.{none_is_at, none_due, all_left}
use Rattle.kernel_events.proofs.EventBoard.take_at.Goals as goal

pub returns-then-is_empty-clause-taken : goal.returns-then-is_empty-clause-taken
returns-then-is_empty-clause-taken c =
    let none : (q : ℕ) → is_at c.args.t.0 (pending_at c.self.inside.events q) ≡ false =
    none_is_at c.self.inside.events c.self.inside.deltas c.self.inside.times c.self.inside.size c.self.invariant (c.is_empty.ensures.0 c.if-is_empty.true) c.args.t.0 in
    sym (append-nil (fixed c.args.out.now.items)) ∙ ap (λ es. fixed c.args.out.now.items ++ es) (sym (none_due (is_at c.args.t.0) 0 c.self.inside.events none))
    ∙ ap (λ es. fixed c.args.out.now.items ++ due_events (is_at c.args.t.0) 0 es) c.self.view_is

pub returns-then-is_empty-clause-left : goal.returns-then-is_empty-clause-left
returns-then-is_empty-clause-left c =
    let none : (q : ℕ) → is_at c.args.t.0 (pending_at c.self.inside.events q) ≡ false =
    none_is_at c.self.inside.events c.self.inside.deltas c.self.inside.times c.self.inside.size c.self.invariant (c.is_empty.ensures.0 c.if-is_empty.true) c.args.t.0 in
    sym c.self.view_is ∙ sym (all_left (is_at c.args.t.0) c.self.inside.events none) ∙ ap (λ es. map (without_pending (is_at c.args.t.0)) es) c.self.view_is
