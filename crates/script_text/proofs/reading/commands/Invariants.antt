use Rattle.std.proofs.Common.{◌≡◌, ◌+◌, ◌≤◌, length}
use Rattle.std.specs.Option.{option_map_or}
use Rattle.script_text.specs.ScriptText.{read_script}
use Rattle.text_lines.specs.Pieces.{lines_left}
use Rattle.script_text.specs.Progress.{reads_on}
use Rattle.script_text.proofs.reading.commands.Given as goal

abbrev pub invariant-lines : goal.invariant-lines
invariant-lines l = record {
  within : length l.list ≤ 4096;
  reads : reads_on l.list l.number (lines_left l.rest) ≡ read_script l.text;
  counted : l.number + option_map_or (λ bytes. length bytes.now + 1) l.rest 0 ≤ length l.text + 2;
}

abbrev pub decreases-lines : goal.decreases-lines
decreases-lines l = option_map_or (λ bytes. length bytes.now + 1) l.rest 0
