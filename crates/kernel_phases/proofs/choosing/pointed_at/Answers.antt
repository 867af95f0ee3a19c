use Rattle.std.proofs.Common.{◌%◌, arith, slice_get, sym, ap, ◌∙◌}
use Rattle.std.specs.FinSet as set
use Rattle.kernel_state.specs.ReadySet.Ready.{rising}
use Rattle.kernel_phases.proofs.Chosen.{place_of_set, nothing_there}
use Rattle.kernel_phases.proofs.choosing.pointed_at.Goals as goal

pub returns-then-n-eq0 : goal.returns-then-n-eq0
returns-then-n-eq0 c =
    let s = c.args.ready.now.members in
    let same = c.len-n.ensures in
    let zero = c.if-n-eq0.true in
    sym (nothing_there s (c.args.word % set.len s) (omega (arith, same, zero)))

pub returns : goal.returns
returns c =
    let s = c.args.ready.now.members in
    c.kth.ensures ∙ ap (λ n. slice_get (rising s) (c.args.word % n)) c.len-n.ensures ∙ sym (place_of_set s (c.args.word % set.len s))
