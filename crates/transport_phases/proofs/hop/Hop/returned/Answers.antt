use Rattle.std.proofs.Common.{◌≡◌, None, ◌∙◌, sym, ap, refl, subst, w32}
use Rattle.std.proofs.lemmas.Int.{to_z-of_z}
use Rattle.transport_phases.specs.Phases.{is_requesting, is_responding, returned, phase_of, answer_of, first_broken, return_rules}
use Rattle.transport_phases.specs.Seats.{MayEnter}
use Rattle.transport_phases.specs.History.{Return}
use Rattle.transport_phases.proofs.HopLemmas.{kept_read, stands_after, return_judged}
use Rattle.transport_phases.proofs.EnterLemmas.{ok_none, return_registered, return_may_request, return_may_respond}
use Rattle.transport_phases.proofs.hop.Hop.returned.Goals as goal

pub returns-in-Err-clause-answer : goal.returns-in-Err-clause-answer
returns-in-Err-clause-answer c = λ h stands.
    sym c.in-Err.is ∙ c.judge_return.ensures
    ∙ return_judged _ _ _ _ _ _ _ _ c.args.complete
    (c.kept-kept.ensures ∙ kept_read c.args.self.now h stands c.args.t)
    (c.others_respond-respond.ensures.history h stands)
    (c.answer_of-answered.ensures ∙ ap answer_of (to_z-of_z w32 c.args.status c.ranges.status))
    (c.phase_of-handed.ensures ∙ ap phase_of (to_z-of_z w32 c.args.phase c.ranges.phase))

pub keep-requires-clause-room : goal.keep-requires-clause-room
keep-requires-clause-room c = λ says.
    let none : first_broken (return_rules c.kept-kept.result.state c.others_respond-respond.result c.answer_of-answered.result c.phase_of-handed.result c.args.complete) ≡ None = ok_none _ (sym c.judge_return.ensures ∙ c.in-Ok.is) in
    return_registered c.args.self.now c.args.t c.kept-kept.result c.kept-kept.ensures c.others_respond-respond.result c.answer_of-answered.result c.phase_of-handed.result c.args.complete none

pub keep-requires-clause-request : goal.keep-requires-clause-request
keep-requires-clause-request c =
    let none : first_broken (return_rules c.kept-kept.result.state c.others_respond-respond.result c.answer_of-answered.result c.phase_of-handed.result c.args.complete) ≡ None = ok_none _ (sym c.judge_return.ensures ∙ c.in-Ok.is) in
    subst (λ k. MayEnter is_requesting c.args.self.now c.args.t k) (sym c.returned.ensures)
    (return_may_request c.args.self.now c.args.t c.kept-kept.result c.kept-kept.ensures c.others_respond-respond.result c.answer_of-answered.result c.phase_of-handed.result c.args.complete none)

pub keep-requires-clause-response : goal.keep-requires-clause-response
keep-requires-clause-response c =
    let none : first_broken (return_rules c.kept-kept.result.state c.others_respond-respond.result c.answer_of-answered.result c.phase_of-handed.result c.args.complete) ≡ None = ok_none _ (sym c.judge_return.ensures ∙ c.in-Ok.is) in
    subst (λ k. MayEnter is_responding c.args.self.now c.args.t k) (sym c.returned.ensures)
    (return_may_respond c.args.self.now c.args.t c.kept-kept.result c.kept-kept.ensures c.others_respond-respond.result c.answer_of-answered.result c.phase_of-handed.result c.args.complete none c.others_respond-respond.ensures.none)

pub returns-clause-answer : goal.returns-clause-answer
returns-clause-answer c = λ h stands.
    sym c.in-Ok.is ∙ c.judge_return.ensures
    ∙ return_judged _ _ _ _ _ _ _ _ c.args.complete
    (c.kept-kept.ensures ∙ kept_read c.args.self.now h stands c.args.t)
    (c.others_respond-respond.ensures.history h stands)
    (c.answer_of-answered.ensures ∙ ap answer_of (to_z-of_z w32 c.args.status c.ranges.status))
    (c.phase_of-handed.ensures ∙ ap phase_of (to_z-of_z w32 c.args.phase c.ranges.phase))

pub returns-clause-ok : goal.returns-clause-ok
returns-clause-ok c = λ h stands.
    let answered : c.answer_of-answered.result ≡ answer_of c.args.status = c.answer_of-answered.ensures ∙ ap answer_of (to_z-of_z w32 c.args.status c.ranges.status) in
    let handed : c.phase_of-handed.result ≡ phase_of c.args.phase = c.phase_of-handed.ensures ∙ ap phase_of (to_z-of_z w32 c.args.phase c.ranges.phase) in
    stands_after c.args.self.now c.keep.new.self h stands (Return c.args.t c.args.status c.args.phase c.args.complete) c.args.t refl c.returned.result
    (c.returned.ensures
    ∙ ap (λ x. returned c.kept-kept.result x c.phase_of-handed.result) answered
    ∙ ap (λ p. returned c.kept-kept.result (answer_of c.args.status) p) handed
    ∙ ap (λ k. returned k (answer_of c.args.status) (phase_of c.args.phase)) (c.kept-kept.ensures ∙ kept_read c.args.self.now h stands c.args.t))
    c.keep.ensures.set
