use Rattle.clocked.proofs.putting.tick_before.Goals as goal

pub returns : goal.returns
returns c = rw c.new_word.ensures at c.put.ensures
