use Rattle.std.proofs.Common.{sym, ap, ◌∙◌}
use Rattle.std.specs.Option.{option_copied}
use Rattle.exec_data.specs.SimModel.Control.{is_thread}
use Rattle.exec_control.proofs.OneInstance.{entry_at}
use Rattle.exec_control.proofs.instances.is_thread.Goals as goal

pub returns-in-Some : goal.returns-in-Some
returns-in-Some c = λ d i h there. c.is_thread_kind.ensures ∙ ap (λ j. is_thread j.kind) (entry_at c.args.k.now c.args.p c.in-Some.x.now (sym c.get.ensures.value ∙ ap option_copied c.in-Some.is) d i h there)
