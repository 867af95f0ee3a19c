use Rattle.sim_io.proofs.Chains.{after_told_same, after_told_on, rose_on, text_of_whole}
use Rattle.std.proofs.Common.{arith}
use Rattle.run_input.proofs.Reading.{first_cause, first_took, second_cause, second_took, third_cause, third_took}
use Rattle.run_input.proofs.loading.load.Goals as goal

pub returns-in-Err-clause-cause : goal.returns-in-Err-clause-cause
returns-in-Err-clause-cause g c = first_cause _ _ _ _ _ _ c.in-Err.stop c.in-Err.ensures.files c.in-Err.ensures.cause

pub returns-in-Err-load_text-clause-cause : goal.returns-in-Err-load_text-clause-cause
returns-in-Err-load_text-clause-cause g c =
    let first = c.in-Ok.ensures in
    let second = c.in-Err-load_text.ensures in
    second_cause _ _ _ _ _ _ _ _ _ c.in-Err-load_text.stop (λ rose. rose_on _ _ _ _ first.later rose (omega arith)) first.files second.files (text_of_whole _ _ _ _ _ (after_told_same _) (after_told_on _ _ _ first.files second.files) first.whole) first.within second.cause

pub returns-in-Err-load_replay-clause-cause : goal.returns-in-Err-load_replay-clause-cause
returns-in-Err-load_replay-clause-cause g c =
    let first = c.in-Ok.ensures in
    let second = c.in-Ok-load_text.ensures in
    let third = c.in-Err-load_replay.ensures in
    let before = after_told_on _ _ _ first.files second.files in
    third_cause _ _ _ _ _ _ _ _ _ _ c.in-Err-load_replay.stop (λ rose. rose_on _ _ _ _ (omega arith) rose (omega arith)) before third.files (text_of_whole _ _ _ _ _ (after_told_same _) (after_told_on _ _ _ before third.files) first.whole) first.within (text_of_whole _ _ _ _ _ first.files (after_told_on _ _ _ second.files third.files) second.whole) second.within third.cause

pub returns-in-Err-clause-no_more : goal.returns-in-Err-clause-no_more
returns-in-Err-clause-no_more g c = first_took _ _ _ _ _ _ _ _ c.in-Err.stop c.in-Err.ensures.files c.in-Err.ensures.no_more

pub returns-in-Err-load_text-clause-no_more : goal.returns-in-Err-load_text-clause-no_more
returns-in-Err-load_text-clause-no_more g c =
    second_took _ _ _ _ _ _ _ _ _ c.in-Err-load_text.stop c.in-Ok.ensures.files c.in-Err-load_text.ensures.files c.in-Err-load_text.ensures.no_more

pub returns-in-Err-load_replay-clause-no_more : goal.returns-in-Err-load_replay-clause-no_more
returns-in-Err-load_replay-clause-no_more g c =
    third_took _ _ _ _ _ _ _ _ _ c.in-Err-load_replay.stop (after_told_on _ _ _ c.in-Ok.ensures.files c.in-Ok-load_text.ensures.files) c.in-Err-load_replay.ensures.files c.in-Err-load_replay.ensures.no_more
