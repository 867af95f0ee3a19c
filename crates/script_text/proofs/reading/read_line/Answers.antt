use Rattle.std.proofs.Common.{sym, ◌∙◌}
use Rattle.script_text.specs.Progress.{StopsAt}
use Rattle.script_text.proofs.ProgressLemmas.{stops_unreadable, stops_full, IfSyntax-map}
use Rattle.script_text.proofs.reading.read_line.Goals as goal

pub returns-in-Ok-Unreadable-clause-syntax : goal.returns-in-Ok-Unreadable-clause-syntax
returns-in-Ok-Unreadable-clause-syntax c ls =
    rw c.line_number.ensures
    (stops_unreadable c.args.list.now c.args.number c.args.line.now c.requires (sym c.in-Ok-Unreadable.ensures ∙ c.in-Ok-Unreadable.field-0-is) ls)

pub returns-in-Ok-Command-clause-syntax : goal.returns-in-Ok-Command-clause-syntax
returns-in-Ok-Command-clause-syntax c =
    IfSyntax-map _ _ (StopsAt c.args.list.now c.args.number c.args.line.now)
    (λ n h ls. rw h.1 (stops_full c.args.list.now c.args.number c.args.line.now _ h.0 (sym c.in-Ok-Command.ensures ∙ c.in-Ok-Command.field-0-is) ls))
    c.add.ensures.syntax
