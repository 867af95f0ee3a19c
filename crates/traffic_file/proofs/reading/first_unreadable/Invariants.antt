use Rattle.std.proofs.Common.{◌≡◌, ◌+◌, ◌≤◌, length}
use Rattle.std.specs.Option.{option_map_or}
use Rattle.text_lines.specs.Lines.{lines}
use Rattle.text_lines.specs.Pieces.{lines_left}
use Rattle.traffic_file.specs.BusText.{unreadable_from}
use Rattle.traffic_file.proofs.reading.first_unreadable.Given as goal

abbrev pub invariant-lines : goal.invariant-lines
invariant-lines l = record {
  reads : unreadable_from l.number (lines_left l.rest) ≡ unreadable_from 1 (lines l.text);
  counted : l.number + option_map_or (λ bytes. length bytes.now + 1) l.rest 0 ≤ length l.text + 2;
}

abbrev pub decreases-lines : goal.decreases-lines
decreases-lines l = option_map_or (λ bytes. length bytes.now + 1) l.rest 0
