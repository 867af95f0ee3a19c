use Rattle.std.proofs.Common.{sym, ap, ◌∙◌}
use Rattle.std.specs.Option.{option_copied}
use Rattle.exec_data.specs.KernelProcesses.Moved.{is_suspended}
use Rattle.exec_control.proofs.OneInstance.{entry_at}
use Rattle.exec_control.proofs.instances.is_suspended.Goals as goal

pub returns-in-Some-clause-held : goal.returns-in-Some-clause-held
returns-in-Some-clause-held c = sym (ap is_suspended (sym c.get.ensures.value ∙ ap option_copied c.in-Some.is))

pub returns-in-Some-clause-shown : goal.returns-in-Some-clause-shown
returns-in-Some-clause-shown c = λ d i h there. ap (λ j. j.suspended) (entry_at c.args.k.now c.args.p c.in-Some.x.now (sym c.get.ensures.value ∙ ap option_copied c.in-Some.is) d i h there)
