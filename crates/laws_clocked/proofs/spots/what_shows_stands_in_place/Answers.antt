use Rattle.laws_clocked.proofs.Showing.{shows-next, shows-put, shows-settled, shows-set}
use Rattle.laws_clocked.proofs.spots.what_shows_stands_in_place.Goals as goal

pub returns-clause-next : goal.returns-clause-next
returns-clause-next c = shows-next

pub returns-clause-puts : goal.returns-clause-puts
returns-clause-puts c = shows-put

pub returns-clause-settles : goal.returns-clause-settles
returns-clause-settles c a x r h l = shows-settled a x l r h

pub returns-clause-sets : goal.returns-clause-sets
returns-clause-sets c f x r h none = shows-set f x none r h
