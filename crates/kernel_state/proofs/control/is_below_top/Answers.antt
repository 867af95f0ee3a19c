use Rattle.std.proofs.Common.{◌≡◌, true, false, refl, sym, ap, ◌∙◌, subst, true≢false}
use Rattle.kernel_processes.specs.InstanceViews.{is_on}
use Rattle.kernel_processes.specs.Moved.{IsTop}
use Rattle.kernel_state.proofs.Stacks.{not_below, below_top_is, nobody_below}
use Rattle.kernel_state.proofs.control.is_below_top.Goals as goal

pub returns-then-p-q-clause-below : goal.returns-then-p-q-clause-below
returns-then-p-q-clause-below c = λ d h. sym (not_below c.args.k.now d h c.args.q c.requires.schedule.once (λ on. subst (λ n. IsTop n c.args.k.now.schedule.stack.items) c.if-p-q.true c.in-Some.ensures.some))

pub returns-then-p-q-clause-on : goal.returns-then-p-q-clause-on
returns-then-p-q-clause-on c = λ is. absurd (true≢false (sym is))

pub returns-then-p-q-clause-place : goal.returns-then-p-q-clause-place
returns-then-p-q-clause-place c = λ is on. subst (λ n. IsTop n c.args.k.now.schedule.stack.items) c.if-p-q.true c.in-Some.ensures.some

pub returns-else-p-q-clause-below : goal.returns-else-p-q-clause-below
returns-else-p-q-clause-below c = λ d h. c.is_active.ensures ∙ ap (λ s. is_on s c.args.q) c.as_slice.ensures.value ∙ below_top_is c.args.k.now d h c.in-Some.p c.args.q c.in-Some.ensures.some c.if-p-q.false

pub returns-else-p-q-clause-on : goal.returns-else-p-q-clause-on
returns-else-p-q-clause-on c = λ is. ap (λ s. is_on s c.args.q) (sym c.as_slice.ensures.value) ∙ sym c.is_active.ensures ∙ is

pub returns-else-p-q-clause-place : goal.returns-else-p-q-clause-place
returns-else-p-q-clause-place c = λ is on. absurd (true≢false (sym on ∙ ap (λ s. is_on s c.args.q) (sym c.as_slice.ensures.value) ∙ sym c.is_active.ensures ∙ is))

pub returns-in-None-clause-below : goal.returns-in-None-clause-below
returns-in-None-clause-below c = λ d h. sym (nobody_below c.args.k.now d h c.args.q c.in-None.ensures.none)

pub returns-in-None-clause-on : goal.returns-in-None-clause-on
returns-in-None-clause-on c = λ is. absurd (true≢false (sym is))

pub returns-in-None-clause-place : goal.returns-in-None-clause-place
returns-in-None-clause-place c = λ is on. absurd (true≢false (sym on ∙ ap (λ s. is_on s c.args.q) c.in-None.ensures.none))
