use Rattle.command_line.proofs.LineLemmas.{line_given, line_refused}
use Rattle.command_line.proofs.reading.read_line.Goals as goal

pub returns-in-Err : goal.returns-in-Err
returns-in-Err c = line_refused c.args.words.now c.in-Err.stop c.in-Err.ensures

pub returns-in-Some : goal.returns-in-Some
returns-in-Some c = line_given c.args.words.now _ _ c.in-Ok.ensures c.in-Some.ensures

pub returns-in-None : goal.returns-in-None
returns-in-None c = line_given c.args.words.now _ _ c.in-Ok.ensures c.in-None.ensures
