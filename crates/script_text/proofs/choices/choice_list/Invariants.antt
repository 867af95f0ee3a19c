use Rattle.std.proofs.Common.{◌≡◌, ◌+◌, ◌≤◌, length}
use Rattle.std.specs.Option.{option_map_or}
use Rattle.script_text.specs.ChoiceList.{read_choices, serials_from}
use Rattle.script_text.specs.ChoiceProgress.{list_lines_left, behind_serials}
use Rattle.script_text.proofs.choices.choice_list.Given as goal

abbrev pub invariant-lines : goal.invariant-lines
invariant-lines l = record {
  reads : read_choices l.text ≡ behind_serials l.list (serials_from l.number (list_lines_left l.rest));
  counted : l.number + option_map_or (λ bytes. length bytes.now + 1) l.rest 0 ≤ length l.text + 2;
}

abbrev pub decreases-lines : goal.decreases-lines
decreases-lines l = option_map_or (λ bytes. length bytes.now + 1) l.rest 0
