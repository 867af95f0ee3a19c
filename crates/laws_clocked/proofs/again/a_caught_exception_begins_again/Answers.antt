use Rattle.laws_clocked.proofs.Catching.{is-caught, begins-again}
use Rattle.laws_clocked.proofs.again.a_caught_exception_begins_again.Goals as goal

pub returns-clause-thrown : goal.returns-clause-thrown
returns-clause-thrown z c p rest b e s has x r h next throws none = is-caught c p rest b e has x r h s next throws none

pub returns-clause-unwound : goal.returns-clause-unwound
returns-clause-unwound z c p rest b e has x h v asks is_true = begins-again p rest b e x v asks is_true c has h
