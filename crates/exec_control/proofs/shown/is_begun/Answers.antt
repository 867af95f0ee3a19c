use Rattle.std.proofs.Common.{sym, ap, ◌∙◌}
use Rattle.std.specs.Option.{option_copied}
use Rattle.exec_control.proofs.OneInstance.{entry_at}
use Rattle.exec_control.proofs.shown.is_begun.Goals as goal

pub returns-in-Some : goal.returns-in-Some
returns-in-Some c = λ d i h there. ap (λ j. j.started) (entry_at c.args.k.now c.args.q c.in-Some.x.now (sym c.get.ensures.value ∙ ap option_copied c.in-Some.is) d i h there)
