use Rattle.std.proofs.Common.{refl, ap, ◌∙◌, w32, to_z, of_z, SFits, rules}
use Rattle.std.proofs.lemmas.Int.{to_z-of_z}
use Rattle.std.proofs.lemmas.Result.{on_ok_weaker}
use Rattle.exec_calls.specs.TransportPhases.History.{Call}
use Rattle.exec_calls.specs.TransportPhases.Phases.{phase_of}
use Rattle.exec_calls.specs.SimModel.Transport.{int_of, history}
use Rattle.exec_calls.specs.KernelTransactions.Answers.{complete_in}
use Rattle.exec_transactions.proofs.Codes.{entered_same, judged_same, call_does, call_breaks}
use Rattle.exec_transactions.proofs.judging.nb_call.Goals as goal

pub returns-clause-answer : goal.returns-clause-answer
returns-clause-answer c = λ d h.
    let t = c.args.t in
    let complete = complete_in d.transactions t in
    let fits : SFits w32 c.code_of.result = search rules in
    let code = to_z w32 (of_z w32 c.code_of.result) in
    judged_same d c.args.hop t (Call t c.args.path code complete c.args.handled) (Call t c.args.path (int_of c.args.phase) complete c.args.handled)
    (call_breaks t c.args.path code (int_of c.args.phase) complete c.args.handled (ap phase_of (to_z-of_z w32 c.code_of.result fits) ∙ c.code_of.ensures.phase) (history d c.args.hop)) c.call.result (c.call.ensures.answer d h)

pub returns-clause-moves : goal.returns-clause-moves
returns-clause-moves c = on_ok_weaker c.call.result (λ moves x h.
    let t = c.args.t in
    let complete = complete_in x t in
    let fits : SFits w32 c.code_of.result = search rules in
    let code = to_z w32 (of_z w32 c.code_of.result) in
    entered_same (Call t c.args.path code complete c.args.handled) (Call t c.args.path (int_of c.args.phase) complete c.args.handled) refl
    (call_does t c.args.path code (int_of c.args.phase) complete c.args.handled (ap phase_of (to_z-of_z w32 c.code_of.result fits) ∙ c.code_of.ensures.phase)) c.call.new.self x c.args.hop (moves x h)) c.call.ensures.moves
