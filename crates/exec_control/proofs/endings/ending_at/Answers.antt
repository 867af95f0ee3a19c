use Rattle.std.proofs.Common.{◌≡◌, Some, length, sym, ap, ◌∙◌}
use Rattle.std.specs.Option.{option_copied}
use Rattle.std.specs.FinMap as map
use Rattle.exec_data.specs.SimModel.Control.{is_thread}
use Rattle.exec_data.specs.KernelProcesses.Moves.{sensitive_of}
use Rattle.exec_control.specs.Resting.{next_kept}
use Rattle.exec_control.proofs.Ended.{none_kept}
use Rattle.exec_control.proofs.OneInstance.{entry_at}
use Rattle.exec_control.proofs.endings.ending_at.Goals as goal

pub returns-in-Some-clause-thread : goal.returns-in-Some-clause-thread
returns-in-Some-clause-thread c = λ d i h there.
    c.ending_of.ensures.thread ∙ c.is_thread_kind.ensures ∙ ap (λ j. is_thread j.kind) (entry_at c.args.k.now c.args.p c.in-Some.x.now (sym c.get.ensures.value ∙ ap option_copied c.in-Some.is) d i h there)

pub returns-in-Some-clause-unset : goal.returns-in-Some-clause-unset
returns-in-Some-clause-unset c = λ n is.
    let at : map.get c.args.k.now.schedule.table.live c.args.p ≡ Some c.in-Some.x.now = sym c.get.ensures.value ∙ ap option_copied c.in-Some.is in
    ap next_kept at ∙ none_kept c.in-Some.x.now.body.body.trigger (sym c.is_some.ensures ∙ c.ending_of.ensures.unset n is)

pub returns-in-Some-clause-counted : goal.returns-in-Some-clause-counted
returns-in-Some-clause-counted c = λ n is.
    let at : map.get c.args.k.now.schedule.table.live c.args.p ≡ Some c.in-Some.x.now = sym c.get.ensures.value ∙ ap option_copied c.in-Some.is in
    c.ending_of.ensures.counted n is ∙ ap length (c.as_slice.ensures ∙ ap sensitive_of (sym at))
