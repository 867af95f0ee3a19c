use Rattle.tlmsim.proofs.Courses.{no_end}
use Rattle.tlmsim.proofs.running.run.Goals as goal

pub returns-clause-orderly : goal.returns-clause-orderly
returns-clause-orderly g c =
    let d = c.args.design in
    let script = c.args.script.now in
    let sound = c.requires.runs.sound in
    record {
      clean = c.runs_are_clean.ensures d script sound;
      nowhere = c.nothing_names_what_has_ended.ensures d script;
      stays = c.what_has_ended_never_runs_again.ensures.stays d script sound;
      kills = c.calls_unwind_what_is_entered.ensures.kill d script sound;
      resets = c.calls_unwind_what_is_entered.ensures.reset d script sound;
      throws = c.calls_unwind_what_is_entered.ensures.throw d script sound;
      all_below = c.all_guards_stand_below_an_end.ensures d script sound;
      once = c.unwind_blocks_run_once.ensures.after d script sound;
      before_the_caller = c.unwinding_ends_before_the_caller_goes_on.ensures.done d script sound;
      lawful = c.histories_are_lawful.ensures d script sound;
      exact = c.faults_of_the_protocol_are_exact.ensures.live d script sound;
      exact_freed = c.faults_of_the_protocol_are_exact.ensures.freed d script sound;
      freed_first = λ n choices x reached. c.a_freed_payload_comes_first.ensures x;
      with_entries = λ n choices x reached. c.protocol_faults_come_with_entries.ensures x;
    }

pub returns-clause-no_end_before : goal.returns-clause-no_end_before
returns-clause-no_end_before g c = no_end c.no_earlier_end.ensures _ _ _ _ _ _ c.run_planned.ensures.ran
