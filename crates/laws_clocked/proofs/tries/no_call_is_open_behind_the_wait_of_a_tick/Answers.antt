use Rattle.laws_clocked.proofs.NoCalls.{no-call}
use Rattle.laws_clocked.proofs.tries.no_call_is_open_behind_the_wait_of_a_tick.Goals as goal

pub returns : goal.returns
returns z design script sound steps chosen c reached p t has apart w b x r left = no-call design script sound steps chosen c reached p t has apart w b x r left
