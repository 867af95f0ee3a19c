use Rattle.std.proofs.Common.{◌<◌, length, ◌++◌, ◌∷◌, [], ◌∙◌, ap, subst, arith, w32, to_z, of_z}
use Rattle.std.proofs.lemmas.Int.{to_z-of_z}
use Rattle.std.proofs.lemmas.Result.{on_ok_weaker}
use Rattle.sim_model.specs.TransportPhases.Phases.{verdict}
use Rattle.sim_model.specs.TransportPhases.History.{Return, StandsFor, broken}
use Rattle.kernel_transactions.proofs.Histories.{enters_there, rules_there}
use Rattle.kernel_transactions.proofs.hop_list.Hops.returned.Goals as goal

pub returns-clause-answer : goal.returns-clause-answer
returns-clause-answer c =
    let within : c.args.hop < length c.self.inside.list.items = omega (arith, c.if-hop-len.false, c.len.ensures, c.self.inside.list.ok.0) in
    rules_there c.self.inside.list.items c.args.self.now c.self.view_is c.args.hop (Return c.args.t c.args.status c.args.phase c.args.complete) within
    c.index_mut.result.now c.index_mut.ensures.value c.returned.result
    (λ h stands. c.returned.ensures.answer h stands
    ∙ ap (λ s. verdict (broken h (Return c.args.t s (to_z w32 (of_z w32 c.args.phase)) c.args.complete))) (to_z-of_z w32 c.args.status c.ranges.status)
    ∙ ap (λ z. verdict (broken h (Return c.args.t c.args.status z c.args.complete))) (to_z-of_z w32 c.args.phase c.ranges.phase))

pub returns-clause-enters : goal.returns-clause-enters
returns-clause-enters c =
    let within : c.args.hop < length c.self.inside.list.items = omega (arith, c.if-hop-len.false, c.len.ensures, c.self.inside.list.ok.0) in
    on_ok_weaker c.returned.result
    (λ moves. enters_there c.self.inside.list.items c.args.self.now c.self.view_is c.args.hop (Return c.args.t c.args.status c.args.phase c.args.complete) within
    c.index_mut.result.now c.returned.new.self c.index_mut.ensures.value
    (λ h stands. subst (λ z. StandsFor c.returned.new.self (h ++ Return c.args.t c.args.status z c.args.complete ∷ [])) (to_z-of_z w32 c.args.phase c.ranges.phase)
    (subst (λ s. StandsFor c.returned.new.self (h ++ Return c.args.t s (to_z w32 (of_z w32 c.args.phase)) c.args.complete ∷ [])) (to_z-of_z w32 c.args.status c.ranges.status) (moves h stands))))
    c.returned.ensures.ok
