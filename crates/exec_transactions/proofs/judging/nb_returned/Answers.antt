use Rattle.std.proofs.Common.{refl, ap, ◌∙◌, w32, to_z, of_z, SFits, rules}
use Rattle.std.proofs.lemmas.Int.{to_z-of_z}
use Rattle.std.proofs.lemmas.Result.{on_ok_weaker}
use Rattle.exec_calls.specs.TransportPhases.History.{Return}
use Rattle.exec_calls.specs.TransportPhases.Phases.{phase_of, answer_of}
use Rattle.exec_calls.specs.SimModel.Transport.{int_of, history}
use Rattle.exec_calls.specs.KernelTransactions.Answers.{complete_in}
use Rattle.exec_transactions.proofs.Codes.{entered_same, returned_same, return_does, return_breaks}
use Rattle.exec_transactions.proofs.judging.nb_returned.Goals as goal

pub returns-clause-answer : goal.returns-clause-answer
returns-clause-answer c = λ d h.
    let t = c.args.t in
    let complete = complete_in d.transactions t in
    let fits_status : SFits w32 c.code_of.result = search rules in
    let fits_phase : SFits w32 c.code_of-2.result = search rules in
    let status = to_z w32 (of_z w32 c.code_of.result) in
    let phase = to_z w32 (of_z w32 c.code_of-2.result) in
    returned_same d c.args.hop t (Return t status phase complete) (Return t (int_of c.args.status) (int_of c.args.phase) complete)
    (return_breaks t status (int_of c.args.status) phase (int_of c.args.phase) complete (ap answer_of (to_z-of_z w32 c.code_of.result fits_status) ∙ c.code_of.ensures.answer) (ap phase_of (to_z-of_z w32 c.code_of-2.result fits_phase) ∙ c.code_of-2.ensures.phase) (history d c.args.hop))
    c.returned.result (c.returned.ensures.answer d h)

pub returns-clause-moves : goal.returns-clause-moves
returns-clause-moves c = on_ok_weaker c.returned.result (λ moves x h.
    let t = c.args.t in
    let complete = complete_in x t in
    let fits_status : SFits w32 c.code_of.result = search rules in
    let fits_phase : SFits w32 c.code_of-2.result = search rules in
    let status = to_z w32 (of_z w32 c.code_of.result) in
    let phase = to_z w32 (of_z w32 c.code_of-2.result) in
    entered_same (Return t status phase complete) (Return t (int_of c.args.status) (int_of c.args.phase) complete) refl
    (return_does t status (int_of c.args.status) phase (int_of c.args.phase) complete (ap answer_of (to_z-of_z w32 c.code_of.result fits_status) ∙ c.code_of.ensures.answer) (ap phase_of (to_z-of_z w32 c.code_of-2.result fits_phase) ∙ c.code_of-2.ensures.phase))
    c.returned.new.self x c.args.hop (moves x h)) c.returned.ensures.moves
