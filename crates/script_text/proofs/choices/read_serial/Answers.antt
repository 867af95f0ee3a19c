use Rattle.std.proofs.Common.{◌≡◌, ℕ, [], ◌∷◌, ◌++◌, Err, sym, ap, ◌∙◌}
use Rattle.script_text.specs.ChoiceProgress.{SerialGoesOn}
use Rattle.script_text.proofs.ChoiceLemmas.{stops, joins, on_ok}
use Rattle.script_text.proofs.choices.read_serial.Goals as goal

pub returns-in-None-clause-syntax : goal.returns-in-None-clause-syntax
returns-in-None-clause-syntax c ls =
    stops c.args.list.now c.args.number c.args.line.now ls (sym c.serial_read.ensures ∙ c.in-None.is) ∙ ap (λ (n : ℕ). Err n) (sym c.line_number.ensures)

pub returns-in-Some-clause-ok : goal.returns-in-Some-clause-ok
returns-in-Some-clause-ok c =
    on_ok c.add_serial.result (c.add_serial.new.list ≡ c.args.list.now ++ c.in-Some.serial ∷ []) (SerialGoesOn c.args.list.now c.args.number c.args.line.now c.add_serial.new.list)
    (joins c.args.list.now c.args.number c.in-Some.serial c.args.line.now c.add_serial.new.list (sym c.serial_read.ensures ∙ c.in-Some.is))
    c.add_serial.ensures.ok
