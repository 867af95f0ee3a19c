use Rattle.numbered_slots.proofs.Places.{has-marked_places, increasing-marked_places, length-marked_places}
use Rattle.numbered_slots.proofs.mark_laws.marked_places_are_those_of_the_marks.Goals as goal

pub returns-clause-member : goal.returns-clause-member
returns-clause-member c = has-marked_places

pub returns-clause-rising : goal.returns-clause-rising
returns-clause-rising c = increasing-marked_places

pub returns-clause-count : goal.returns-clause-count
returns-clause-count c = length-marked_places
