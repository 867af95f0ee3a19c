use Rattle.std.proofs.Common.{refl}
use Rattle.clocked.proofs.turns.resets.Goals as goal

pub returns-in_ok-block_begins-in-LeftBrace : goal.returns-in_ok-block_begins-in-LeftBrace
returns-in_ok-block_begins-in-LeftBrace c = rw c.in-LeftBrace.is (refl, c.in_ok-block_begins-in-LeftBrace.ensures)
