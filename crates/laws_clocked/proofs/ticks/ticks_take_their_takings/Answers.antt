use Rattle.laws_clocked.proofs.Ticking.{takings-counted}
use Rattle.laws_clocked.proofs.Levels.{levels-at}
use Rattle.laws_clocked.proofs.Waking.{follows-at}
use Rattle.laws_clocked.proofs.Counts.{counted-leaves}
use Rattle.laws_clocked.proofs.ticks.ticks_take_their_takings.Goals as goal

pub returns-clause-counted : goal.returns-clause-counted
returns-clause-counted x design script sound steps chosen c reached p t has n choices e leaves =
    takings-counted design script sound p t c e (record { steps = steps; choices = chosen; reached = reached }) has n choices (counted-leaves design script sound steps chosen c reached p t has n choices e leaves)

pub returns-clause-levels : goal.returns-clause-levels
returns-clause-levels y design script sound steps chosen c reached p t has n choices e leaves k own left x less split there now =
    levels-at design script sound p t c e (record { steps = steps; choices = chosen; reached = reached }) has n choices (counted-leaves design script sound steps chosen c reached p t has n choices e leaves) k own left x less split there now

pub returns-clause-follows : goal.returns-clause-follows
returns-clause-follows y design script sound steps chosen c reached p t has n choices e leaves k own left x less split there now =
    follows-at design script sound p t c e (record { steps = steps; choices = chosen; reached = reached }) has n choices (counted-leaves design script sound steps chosen c reached p t has n choices e leaves) k own left x less split there now
