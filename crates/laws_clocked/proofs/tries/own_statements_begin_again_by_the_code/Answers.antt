use Rattle.laws_clocked.proofs.BegunByCode.{begins-thrown, begins-at_level}
use Rattle.laws_clocked.proofs.tries.own_statements_begin_again_by_the_code.Goals as goal

pub returns-clause-thrown : goal.returns-clause-thrown
returns-clause-thrown z design script sound steps chosen c reached p rest b e s x r has none h bare next throws = begins-thrown design script sound steps chosen c reached p rest b e s x r has none h bare next throws

pub returns-clause-at_level : goal.returns-clause-at_level
returns-clause-at_level z design script sound steps chosen x reached p t has apart w now d to before y behind split none_before level b f r is none left =
    begins-at_level design script sound steps chosen x reached p t has apart w now d to before y behind split none_before level b f r is none left
