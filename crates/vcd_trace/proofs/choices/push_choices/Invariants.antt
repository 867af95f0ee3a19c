use Rattle.std.proofs.Common.{◌≡◌, ◌++◌, take}
use Rattle.laws_runs.specs.SimModel.Texts.{choice_text}
use Rattle.vcd_trace.proofs.choices.push_choices.Given as goal

-- the lines so far are those of the choices so far
abbrev pub invariant-loop-serial : goal.invariant-loop-serial
invariant-loop-serial l = l.text.items ≡ l.fn.text.items ++ choice_text (take l.serial-index l.serials)
