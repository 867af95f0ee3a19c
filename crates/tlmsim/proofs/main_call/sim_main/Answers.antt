use Rattle.std.proofs.Common.{refl, ap}
use Rattle.command_line.specs.SimModel.declared.plain.Stop.TheVariants as stop
use Rattle.tlmsim.proofs.Lines.{end_of, told_no_end, memory_no_end}
use Rattle.tlmsim.proofs.Answered.{of_outcome, of_refusal, of_memory}
use Rattle.tlmsim.proofs.Large.{large_never_ends, large_told}
use Rattle.tlmsim.proofs.main_call.sim_main.Goals as goal

pub returns-in-Ok-clause-answers : goal.returns-in-Ok-clause-answers
returns-in-Ok-clause-answers g c =
    rw c.stop_status.ensures
    (of_outcome c.one_source.ensures _ c.in-Ok.outcome (c.in-Ok.ensures.works _ _ _ _) c.tell_stop.ensures.told (λ end. ap g.E.Sink.faults (c.tell_stop.ensures.silent end))
    (record {
      files = c.in-Ok.ensures.files;
      reads = c.in-Ok.ensures.reads;
      writes = c.in-Ok.ensures.writes;
      out_faults = c.in-Ok.ensures.out_faults;
      err_faults = c.tell_stop.ensures.later;
    }))

pub returns-in-Ok-clause-silent : goal.returns-in-Ok-clause-silent
returns-in-Ok-clause-silent g c = rw c.stop_status.ensures (λ h. c.tell_stop.ensures.silent (end_of c.in-Ok.outcome.stop h))

pub returns-in-Err-Refused-clause-answers : goal.returns-in-Err-Refused-clause-answers
returns-in-Err-Refused-clause-answers g c =
    rw c.new-choices.ensures
    (of_refusal c.one_source.ensures _ _ _ _ _ _ c.in-Err-Refused.field-0-is (c.in-Err-Refused.ensures.works _ _ _ _)
    (record { no_choices = refl; no_steps = refl }) c.tell_refusal.ensures.told
    (record {
      files = c.in-Err-Refused.ensures.files;
      reads = c.in-Err-Refused.ensures.reads;
      writes = c.in-Err-Refused.ensures.writes;
      out_faults = c.in-Err-Refused.ensures.out_faults;
      err_faults = c.tell_refusal.ensures.later;
    }))

pub returns-in-Err-Refused-clause-silent : goal.returns-in-Err-Refused-clause-silent
returns-in-Err-Refused-clause-silent g c = λ h. absurd (told_no_end _ _ _ _ _ _ c.tell_refusal.ensures.told h)

pub returns-in-Err-NoMemory-clause-answers : goal.returns-in-Err-NoMemory-clause-answers
returns-in-Err-NoMemory-clause-answers g c =
    rw c.new-choices.ensures
    (of_memory _ _ _ _ c.in-Err-NoMemory.field-0-is (c.in-Err-NoMemory.ensures.works _ _ _ _)
    (record { no_choices = refl; no_steps = refl }) (rw c.memory_line.ensures at c.try_line.ensures.front)
    (record {
      files = c.in-Err-NoMemory.ensures.files;
      reads = c.in-Err-NoMemory.ensures.reads;
      writes = c.in-Err-NoMemory.ensures.writes;
      out_faults = c.in-Err-NoMemory.ensures.out_faults;
      err_faults = c.try_line.ensures.later;
    }))

pub returns-in-Err-NoMemory-clause-silent : goal.returns-in-Err-NoMemory-clause-silent
returns-in-Err-NoMemory-clause-silent g c = λ h. absurd (memory_no_end h)

pub returns-in-Ok-clause-no_more : goal.returns-in-Ok-clause-no_more
returns-in-Ok-clause-no_more g c = rw c.stop_status.ensures (λ h. absurd (large_never_ends c.in-Ok.outcome.stop h))

pub returns-in-Err-Refused-clause-no_more : goal.returns-in-Err-Refused-clause-no_more
returns-in-Err-Refused-clause-no_more g c =
    λ h. large_told _ _ _ _ _ _ _ c.tell_refusal.ensures.told (rw c.in-Err-Refused.field-0-is at c.in-Err-Refused.ensures.no_more) h

pub returns-in-Err-NoMemory-clause-no_more : goal.returns-in-Err-NoMemory-clause-no_more
returns-in-Err-NoMemory-clause-no_more g c = λ h. absurd (large_never_ends stop.NoMemory h)
