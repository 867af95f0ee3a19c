use Rattle.std.proofs.Common.{◌≡◌, ◌∙◌, sym, ap, refl, w32}
use Rattle.std.proofs.lemmas.Int.{to_z-of_z}
use Rattle.transport_phases.specs.Phases.{called, phase_of}
use Rattle.transport_phases.specs.History.{Call}
use Rattle.transport_phases.proofs.HopLemmas.{kept_read, stands_after, call_judged}
use Rattle.transport_phases.proofs.hop.Hop.call.Goals as goal

pub returns-in-Err-clause-answer : goal.returns-in-Err-clause-answer
returns-in-Err-clause-answer c = λ h stands.
    sym c.in-Err.is ∙ c.judge_call.ensures
    ∙ call_judged _ _ _ _ _ _ c.args.path _ _ c.args.complete c.args.handled
    (c.kept-kept.ensures ∙ kept_read c.args.self.now h stands c.args.t)
    (c.others_request-request.ensures.history h stands)
    (c.others_respond-respond.ensures.history h stands)
    (c.phase_of-asked.ensures ∙ ap phase_of (to_z-of_z w32 c.args.phase c.ranges.phase))

pub returns-clause-answer : goal.returns-clause-answer
returns-clause-answer c = λ h stands.
    sym c.in-Ok.is ∙ c.judge_call.ensures
    ∙ call_judged _ _ _ _ _ _ c.args.path _ _ c.args.complete c.args.handled
    (c.kept-kept.ensures ∙ kept_read c.args.self.now h stands c.args.t)
    (c.others_request-request.ensures.history h stands)
    (c.others_respond-respond.ensures.history h stands)
    (c.phase_of-asked.ensures ∙ ap phase_of (to_z-of_z w32 c.args.phase c.ranges.phase))

pub returns-clause-ok : goal.returns-clause-ok
returns-clause-ok c = λ h stands.
    let asked : c.phase_of-asked.result ≡ phase_of c.args.phase = c.phase_of-asked.ensures ∙ ap phase_of (to_z-of_z w32 c.args.phase c.ranges.phase) in
    stands_after c.args.self.now c.keep.new.self h stands (Call c.args.t c.args.path c.args.phase c.args.complete c.args.handled) c.args.t refl c.called.result
    (c.called.ensures
    ∙ ap (λ p. called c.kept-kept.result p) asked
    ∙ ap (λ k. called k (phase_of c.args.phase)) (c.kept-kept.ensures ∙ kept_read c.args.self.now h stands c.args.t))
    c.keep.ensures.set
