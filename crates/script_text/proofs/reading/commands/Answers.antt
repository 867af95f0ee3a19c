use Rattle.std.proofs.Common.{sym, ◌∙◌}
use Rattle.script_text.proofs.ProgressLemmas.{reads_whole}
use Rattle.script_text.proofs.reading.commands.Goals as goal

pub returns-clause-read : goal.returns-clause-read
returns-clause-read c =
    sym (rw c.in_default.is at c.lines.invariant.reads) ∙ reads_whole c.lines.list c.lines.number c.lines.invariant.within
