use Rattle.std.proofs.Common.{◌≡◌, ◌++◌, ◌-◌, length, map, take, drop, sym, ap, ◌∙◌, subst, arith}
use Rattle.std.specs.Prelude.{count_by}
use Rattle.sim_model.specs.Phases.{is_at, due_events, without_pending}
use Rattle.kernel_events.specs.Numbered.{fixed}
use Rattle.kernel_events.specs.Layout.{IsTied, nothing_at, AreBelow}
use Rattle.kernel_events.proofs.DueEvents.{due, fixed-append, nothing_left, below-due, behind, keys_due, len_due, tied_at}
use Rattle.kernel_events.proofs.EventBoard.take_those_at.Goals as goal

pub take_due-requires : goal.take_due-requires
take_due-requires c =
    let same = len_due c.self.inside.events c.self.inside.deltas c.self.inside.times c.self.inside.size c.self.invariant c.args.t c.only_marked_places_rise.ensures in
    let room = c.requires.room in
    omega (arith, same, room, ap (λ es. count_by (is_at c.args.t.0) es) c.self.view_is)

pub cancel_all-requires : goal.cancel_all-requires
cancel_all-requires c =
    let events = c.self.inside.events in
    let test = is_at c.args.t.0 in
    let keys = keys_due events c.self.inside.deltas c.self.inside.times c.self.inside.size c.self.invariant c.args.t c.only_marked_places_rise.ensures in
    let s = c.as_slice.result.now in
    let k = c.len-before.result in
    let all : s ≡ c.args.out.now.items ++ due test events = c.as_slice.ensures.value ∙ c.take_due.ensures.order ∙ ap (λ ks. c.args.out.now.items ++ ks) keys in
    let rest : take (length s - k) (drop k s) ≡ due test events = behind test c.args.out.now.items events s k all (c.len-before.ensures ∙ c.args.out.now.ok.0) in
    subst (λ ns. AreBelow (length events) ns) (sym rest) (below-due test events)

pub invariant_of-self : goal.invariant_of-self
invariant_of-self c =
    let events = c.self.inside.events in
    let test = is_at c.args.t.0 in
    let keys = keys_due events c.self.inside.deltas c.self.inside.times c.self.inside.size c.self.invariant c.args.t c.only_marked_places_rise.ensures in
    let s = c.as_slice.result.now in
    let k = c.len-before.result in
    let all : s ≡ c.args.out.now.items ++ due test events = c.as_slice.ensures.value ∙ c.take_due.ensures.order ∙ ap (λ ks. c.args.out.now.items ++ ks) keys in
    let rest : take (length s - k) (drop k s) ≡ due test events = behind test c.args.out.now.items events s k all (c.len-before.ensures ∙ c.args.out.now.ok.0) in
    let left = c.cancel_all.ensures ∙ ap (λ ns. nothing_at ns events) rest ∙ nothing_left test events in
    subst (λ es. IsTied es c.self.inside.deltas c.take_due.new.self c.self.inside.size) (sym left)
    (subst (λ q. IsTied (map (without_pending test) events) c.self.inside.deltas q c.self.inside.size) (sym c.take_due.ensures.left)
    (tied_at events c.self.inside.deltas c.self.inside.times c.self.inside.size c.self.invariant c.args.t c.only_marked_places_rise.ensures))

pub returns-clause-taken : goal.returns-clause-taken
returns-clause-taken c =
    let keys = keys_due c.self.inside.events c.self.inside.deltas c.self.inside.times c.self.inside.size c.self.invariant c.args.t c.only_marked_places_rise.ensures in
    ap fixed (c.take_due.ensures.order ∙ ap (λ ks. c.args.out.now.items ++ ks) keys)
    ∙ fixed-append (is_at c.args.t.0) c.args.out.now.items c.self.inside.events
    ∙ ap (λ es. fixed c.args.out.now.items ++ due_events (is_at c.args.t.0) 0 es) c.self.view_is

pub returns-clause-left : goal.returns-clause-left
returns-clause-left c =
    let events = c.self.inside.events in
    let test = is_at c.args.t.0 in
    let keys = keys_due events c.self.inside.deltas c.self.inside.times c.self.inside.size c.self.invariant c.args.t c.only_marked_places_rise.ensures in
    let s = c.as_slice.result.now in
    let k = c.len-before.result in
    let all : s ≡ c.args.out.now.items ++ due test events = c.as_slice.ensures.value ∙ c.take_due.ensures.order ∙ ap (λ ks. c.args.out.now.items ++ ks) keys in
    let rest : take (length s - k) (drop k s) ≡ due test events = behind test c.args.out.now.items events s k all (c.len-before.ensures ∙ c.args.out.now.ok.0) in
    c.cancel_all.ensures ∙ ap (λ ns. nothing_at ns events) rest ∙ nothing_left test events ∙ ap (λ es. map (without_pending test) es) c.self.view_is
