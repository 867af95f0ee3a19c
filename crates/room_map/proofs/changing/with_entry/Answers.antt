use Rattle.room_map.proofs.Changes.{alone_enters, nothing_there}
use Rattle.room_map.proofs.changing.with_entry.Goals as goal

pub close_alone-requires-clause-there : goal.close_alone-requires-clause-there
close_alone-requires-clause-there g c = c.requires.1.there

pub close_alone-requires-clause-few : goal.close_alone-requires-clause-few
close_alone-requires-clause-few g c = c.requires.1.under.few

pub returns-then-at-eq-NONE : goal.returns-then-at-eq-NONE
returns-then-at-eq-NONE g c = λ t e. alone_enters t e (nothing_there e.under c.if-at-eq-NONE.true) c.close_alone.ensures.under c.close_alone.ensures.changed
