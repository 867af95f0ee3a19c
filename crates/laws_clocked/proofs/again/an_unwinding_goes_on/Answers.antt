use Rattle.laws_clocked.proofs.Unwinding.{unwinds-from}
use Rattle.laws_clocked.proofs.again.an_unwinding_goes_on.Goals as goal

pub returns : goal.returns
returns z design script sound steps chosen c reached p rest b e s has x r h next throws none n choices d there =
    unwinds-from p b design script sound c (record { steps = steps; choices = chosen; reached = reached }) rest e s has x r h next throws none n choices d there
