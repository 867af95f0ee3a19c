use Rattle.clocked.proofs.putting.reset_body.Goals as goal

pub returns : goal.returns
returns c = rw c.truth.ensures at c.put.ensures
