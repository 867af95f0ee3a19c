use Rattle.laws_order.proofs.below.the_same_goes_on.Goals as goal

pub returns : goal.returns
returns c = record {
  itself = c.being_the_same_is_an_equivalence.ensures.itself;
  flipped = c.being_the_same_is_an_equivalence.ensures.flipped;
  chained = c.being_the_same_is_an_equivalence.ensures.chained;
  begin = c.runs_begin_the_same.ensures;
  steps = c.steps_between_turns_go_on_the_same.ensures;
  turns = c.turns_go_on_the_same.ensures;
  either_order = c.turns_come_to_the_same_in_either_order.ensures;
  values = c.what_is_the_same_shows_the_same.ensures.values;
  trace = c.what_is_the_same_shows_the_same.ensures.trace;
  finals = c.what_is_the_same_shows_the_same.ensures.finals;
  closing_lines = c.what_is_the_same_shows_the_same.ensures.closing;
}
