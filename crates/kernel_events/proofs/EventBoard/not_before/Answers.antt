use Rattle.std.proofs.Common.{◌≡◌, Option, None, Some, refl, ap, ◌∙◌, sym}
use Rattle.std.specs.Prelude.{IsNone, IfNone, IfSome, ◌↔◌}
use Rattle.sim_model.specs.Phases.{earliest_event}
use Rattle.kernel_events.proofs.DueEvents.{empty_from_len}
use Rattle.kernel_events.proofs.Earliest.{none_told, none_timed, bound_told}
use Rattle.kernel_events.proofs.EventBoard.not_before.Goals as goal

none_clause : {X : Type 0} (o : Option X) (A : Type 0) → (o ≡ None → A) → IfNone o A
none_clause None A f = f refl
none_clause (Some b) A f = tt

some_clause : {X : Type 0} (o : Option X) (P : X → Type 0) (Q : X → Type 0) → IfSome o P → ((x : X) → P x → Q x) → IfSome o Q
some_clause None P Q p f = tt
some_clause (Some b) P Q p f = f b p

none_of : {X : Type 0} (o : Option X) (A : Type 0) → (IsNone o ↔ A) → o ≡ None → A
none_of None A is e = is.0 refl
none_of (Some b) A is e = absurd (cc)

pub returns-clause-none : goal.returns-clause-none
returns-clause-none c =
    none_clause c.not_before.result _ (λ e. ap (λ es. earliest_event es None) (sym c.self.view_is)
    ∙ none_told c.self.inside.events c.self.inside.deltas c.self.inside.times c.self.inside.size c.self.invariant (none_of c.not_before.result _ c.not_before.ensures.none e))

pub returns-clause-bound : goal.returns-clause-bound
returns-clause-bound c =
    some_clause c.not_before.result _ _ c.not_before.ensures.bound
    (λ t from u is. bound_told c.self.inside.events c.self.inside.deltas c.self.inside.times c.self.inside.size c.self.invariant t from u (ap (λ es. earliest_event es None) c.self.view_is ∙ is))

pub returns-clause-nothing : goal.returns-clause-nothing
returns-clause-nothing c = λ nothing.
    c.not_before.ensures.none.1 (none_timed c.self.inside.events c.self.inside.deltas c.self.inside.times c.self.inside.size c.self.invariant
    (ap (λ es. earliest_event es None) c.self.view_is ∙ nothing))

pub returns-then-is_empty-clause-none : goal.returns-then-is_empty-clause-none
returns-then-is_empty-clause-none c = ap (λ es. earliest_event es None) (sym c.self.view_is)
    ∙ none_told c.self.inside.events c.self.inside.deltas c.self.inside.times c.self.inside.size c.self.invariant
    (empty_from_len c.self.inside.times.times (c.is_empty.ensures.0 c.if-is_empty.true))
