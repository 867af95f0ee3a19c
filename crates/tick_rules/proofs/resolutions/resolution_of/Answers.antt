use Rattle.tick_rules.specs.Sources.{asked_in}
use Rattle.tick_rules.proofs.Same.{found_power, none_power}
use Rattle.tick_rules.proofs.resolutions.resolution_of.Goals as goal

pub returns-in-Some : goal.returns-in-Some
returns-in-Some c = found_power c.in-Some.resolution (asked_in c.args.head) c.in-Some.ensures

pub returns-in-None : goal.returns-in-None
returns-in-None c = none_power c.picosecond.result (asked_in c.args.head) c.picosecond.ensures c.in-None.ensures
