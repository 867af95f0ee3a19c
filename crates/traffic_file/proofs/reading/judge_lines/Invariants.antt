use Rattle.std.proofs.Common.{◌≡◌, ◌+◌, ◌≤◌, length}
use Rattle.std.specs.Option.{option_map_or}
use Rattle.text_lines.specs.Lines.{lines}
use Rattle.text_lines.specs.Pieces.{lines_left}
use Rattle.traffic_file.specs.BusText.{judged_from, first_so_far}
use Rattle.traffic_file.proofs.reading.judge_lines.Given as goal

abbrev pub invariant-lines : goal.invariant-lines
invariant-lines l = record {
  reads : judged_from l.so_far l.number (lines_left l.rest) ≡ judged_from first_so_far 1 (lines l.text);
  counted : l.number + option_map_or (λ bytes. length bytes.now + 1) l.rest 0 ≤ length l.text + 2;
}

abbrev pub decreases-lines : goal.decreases-lines
decreases-lines l = option_map_or (λ bytes. length bytes.now + 1) l.rest 0
