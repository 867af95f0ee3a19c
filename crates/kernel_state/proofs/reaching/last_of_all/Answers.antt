use Rattle.std.proofs.Common.{◌==◌, not, ◌∷◌, [], sym, ap, ◌∙◌}
use Rattle.kernel_processes.specs.InstanceViews.{is_on}
use Rattle.kernel_state.specs.Added.{all_added}
use Rattle.kernel_state.proofs.Reached.{not_last, comes_last}
use Rattle.kernel_state.proofs.reaching.last_of_all.Goals as goal

pub returns-then-not-is_active : goal.returns-then-not-is_active
returns-then-not-is_active c = not_last c.args.serials.items c.args.p (ap (λ xs. is_on xs c.args.p) (sym c.as_slice.ensures.value) ∙ sym c.is_active.ensures ∙ c.if-not-is_active.true)

pub returns : goal.returns
returns c = comes_last c.args.serials.items c.in_ok-found.found.items c.args.p (ap (λ xs. is_on xs c.args.p) (sym c.as_slice.ensures.value) ∙ sym c.is_active.ensures ∙ c.if-not-is_active.false)
    (c.in_ok-found.ensures ∙ ap (λ xs. all_added (λ n. not (n == c.args.p)) xs (c.args.p ∷ [])) c.as_slice-2.ensures.value)
