use Rattle.laws_order.proofs.below.runs_keep_to_turns.Goals as goal

pub returns : goal.returns
returns c = λ d free. record {
  free = free;
  fits = λ script. c.processes_keep_to_themselves.ensures d script free;
  unheard = λ script. c.runs_are_on_their_own.ensures.unheard d script free;
  take_turns = λ script. c.runs_take_turns.ensures d script free;
  turns_run = λ script. c.turns_are_runs.ensures d script free;
  wake_nobody = λ script. c.turns_wake_nobody.ensures d script free;
  phases = λ script. c.evaluation_phases_are_turns.ensures d script free;
  stays_empty = λ script. c.the_stack_stays_empty_between_turns.ensures d script free;
  phases_run = λ script. c.turns_of_a_phase_are_a_run.ensures d script free;
}
