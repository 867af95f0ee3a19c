use Rattle.laws_clocked.proofs.Rounded.{none-catches}
use Rattle.laws_clocked.proofs.tries.no_try_of_its_own_catches.Goals as goal

pub returns : goal.returns
returns z design script sound steps chosen c reached p i at b e x r has left bare n none = none-catches design script sound steps chosen c reached p i at b e x r has n none left bare
