use Rattle.std.proofs.Common.{◌≡◌, ℕ, Option, None, Some, List, [], refl, sym, ap, ◌∙◌, subst, vec_len}
use Rattle.std.specs.FinSet as set
use Rattle.std.specs.Prelude.{◌||◌, false, option_map}
use Rattle.std.proofs.lemmas.Bool.{eqb-true}
use Rattle.std.proofs.lemmas.List.{nil_from_length}
use Rattle.sim_model.specs.Configuration.{Instance}
use Rattle.kernel_processes.specs.declared.parts.Schedule.{Schedule}
use Rattle.kernel_processes.specs.InstanceViews.{shown_at}
use Rattle.kernel_processes.specs.Woken.{if_there}
use Rattle.kernel_processes.specs.Times.{WakesThose}
use Rattle.kernel_processes.proofs.WakingMoves.{or-nothing}
use Rattle.kernel_processes.proofs.time.wake_due.Goals as goal

as_it_is : (o : Option Instance) → o ≡ option_map (λ i. i) o
as_it_is None = refl
as_it_is (Some i) = refl

nobody_joins : (o : Option Instance) → if_there (λ i. false) o ≡ false
nobody_joins None = refl
nobody_joins (Some i) = refl

wakes_none : {B : Type 0} (s : Schedule B) → WakesThose [] s s
wakes_none s = record {
  shown = λ q. as_it_is (shown_at s q);
  ready = λ q. sym (ap (λ b. set.contains s.ready.members q || b) (nobody_joins (shown_at s q)) ∙ or-nothing (set.contains s.ready.members q));
  bodies = λ q. refl;
  stack = refl;
  next = refl;
}

none_due : {B : Type 0} (s : Schedule B) → vec_len s.due ≡ 0 → s.due.items ≡ []
none_due s none = nil_from_length s.due.items (sym s.due.ok.0 ∙ none)

pub returns-then-is_empty-clause-wakes : goal.returns-then-is_empty-clause-wakes
returns-then-is_empty-clause-wakes g c =
    let none : c.args.s.now.due.items ≡ [] = none_due c.args.s.now (eqb-true (vec_len c.args.s.now.due) 0 (sym c.is_empty.ensures ∙ c.if-is_empty.true)) in
    subst (λ (xs : List ℕ). WakesThose xs c.args.s.now c.args.s.now) (sym none) (wakes_none c.args.s.now)

pub returns-then-is_empty-clause-nobody : goal.returns-then-is_empty-clause-nobody
returns-then-is_empty-clause-nobody g c = none_due c.args.s.now (eqb-true (vec_len c.args.s.now.due) 0 (sym c.is_empty.ensures ∙ c.if-is_empty.true))
