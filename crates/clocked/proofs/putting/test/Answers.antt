use Rattle.clocked.proofs.putting.test.Goals as goal

pub returns : goal.returns
returns c = rw c.in-Some.is (rw (c.truth.ensures, c.new_word.ensures) at c.put.ensures)
