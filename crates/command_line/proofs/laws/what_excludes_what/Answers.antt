use Rattle.command_line.proofs.Excluded.{one_file, replay_and_choices, replay_and_order}
use Rattle.command_line.proofs.laws.what_excludes_what.Goals as goal

pub returns : goal.returns
returns c = record {
  replay_and_order = replay_and_order;
  replay_and_choices = replay_and_choices;
  one_file = one_file;
}
