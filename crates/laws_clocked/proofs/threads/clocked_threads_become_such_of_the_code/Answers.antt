use Rattle.laws_clocked.proofs.InCode.{thread_in_code, ticked_in_code}
use Rattle.laws_clocked.proofs.threads.clocked_threads_become_such_of_the_code.Goals as goal

pub returns-clause-written : goal.returns-clause-written
returns-clause-written c m code coded place x there n line p item block ts clocked = thread_in_code m code place n x p block ts clocked coded there line item

pub returns-clause-ticked : goal.returns-clause-ticked
returns-clause-ticked c r m code coded place x there n line p item block ts clocked = ticked_in_code r m code coded place x there n line p item block ts clocked
