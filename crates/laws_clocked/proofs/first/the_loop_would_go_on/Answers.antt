use Rattle.laws_clocked.proofs.Rounded.{true-among, true-unwound}
use Rattle.laws_clocked.proofs.first.the_loop_would_go_on.Goals as goal

pub returns-clause-among : goal.returns-clause-among
returns-clause-among z design script sound steps chosen c reached p i at b e x r has left = true-among design script sound steps chosen c reached p i at b e x r has left

pub returns-clause-unwound : goal.returns-clause-unwound
returns-clause-unwound z design script sound steps chosen c reached p i at b e x r has left = true-unwound design script sound steps chosen c reached p i at b e x r has left
