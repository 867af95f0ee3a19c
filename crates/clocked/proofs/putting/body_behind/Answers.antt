use Rattle.clocked.proofs.putting.body_behind.Goals as goal

pub returns : goal.returns
returns c = rw (c.new_word.ensures, c.new_word-2.ensures) at c.put.ensures
