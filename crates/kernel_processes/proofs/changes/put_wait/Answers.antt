use Rattle.std.proofs.Common.{sym, ap, ◌∙◌}
use Rattle.std.specs.Prelude.{option_copied}
use Rattle.kernel_processes.specs.Moves.{sensitive_of, listed_as}
use Rattle.kernel_processes.specs.InstanceViews.{seen}
use Rattle.wait_lists.specs.Waits as lists
use Rattle.kernel_processes.proofs.Changed.{put_lists, told_as}
use Rattle.kernel_processes.proofs.changes.put_wait.Goals as goal

pub returns-in-Some : goal.returns-in-Some
returns-in-Some g c = told_as c.args.p _ _ c.args.s.now _ (put_lists c.args.s.now c.args.p _ _ c.wait_any.ensures)
    (ap (λ es. record (seen c.args.s.now c.args.p) { wait = lists.any_of es }) (c.as_slice.ensures ∙ ap sensitive_of (sym (sym c.get.ensures.value ∙ ap option_copied c.in-Some.is)))
    ∙ ap (λ w. record (seen c.args.s.now c.args.p) { wait = listed_as w (sensitive_of (seen c.args.s.now c.args.p).entry) }) (sym c.in-Static.is))

pub returns-in-None : goal.returns-in-None
returns-in-None g c = told_as c.args.p _ _ c.args.s.now _ (put_lists c.args.s.now c.args.p _ _ c.leave.ensures)
    (ap (λ es. record (seen c.args.s.now c.args.p) { wait = lists.any_of es }) (ap sensitive_of (sym (sym c.get.ensures.value ∙ ap option_copied c.in-None.is)))
    ∙ ap (λ w. record (seen c.args.s.now c.args.p) { wait = listed_as w (sensitive_of (seen c.args.s.now c.args.p).entry) }) (sym c.in-Static.is))

pub returns-in-Any : goal.returns-in-Any
returns-in-Any g c = told_as c.args.p _ _ c.args.s.now _ (put_lists c.args.s.now c.args.p _ _ c.wait_any-in-Any.ensures)
    (ap (λ es. record (seen c.args.s.now c.args.p) { wait = lists.any_of es }) c.as_slice-in-Any.ensures
    ∙ ap (λ w. record (seen c.args.s.now c.args.p) { wait = listed_as w (sensitive_of (seen c.args.s.now c.args.p).entry) }) (sym c.in-Any.is))

pub returns-in-All : goal.returns-in-All
returns-in-All g c = told_as c.args.p _ _ c.args.s.now _ (put_lists c.args.s.now c.args.p _ _ c.wait_all.ensures)
    (ap (λ es. record (seen c.args.s.now c.args.p) { wait = lists.all_of es }) c.as_slice-in-All.ensures
    ∙ ap (λ w. record (seen c.args.s.now c.args.p) { wait = listed_as w (sensitive_of (seen c.args.s.now c.args.p).entry) }) (sym c.in-All.is))
