use Rattle.laws_clocked.proofs.Going.{enters, declares, loops, waits, tests, lowers}
use Rattle.laws_clocked.proofs.spots.ticks_go_on.Goals as goal

pub returns-clause-enters : goal.returns-clause-enters
returns-clause-enters c = enters

pub returns-clause-declares : goal.returns-clause-declares
returns-clause-declares c = declares

pub returns-clause-loops : goal.returns-clause-loops
returns-clause-loops c = loops

pub returns-clause-waits : goal.returns-clause-waits
returns-clause-waits c = waits

pub returns-clause-tests : goal.returns-clause-tests
returns-clause-tests c = tests

pub returns-clause-lowers : goal.returns-clause-lowers
returns-clause-lowers c = lowers
