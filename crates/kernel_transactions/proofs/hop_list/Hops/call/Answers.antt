use Rattle.std.proofs.Common.{◌<◌, ◌≤◌, length, ◌++◌, ◌∷◌, [], ◌∙◌, ap, subst, arith, w32}
use Rattle.std.proofs.lemmas.Int.{to_z-of_z}
use Rattle.std.proofs.lemmas.Result.{on_ok_weaker}
use Rattle.sim_model.specs.TransportPhases.Phases.{verdict}
use Rattle.sim_model.specs.TransportPhases.History.{Call, StandsFor, broken}
use Rattle.kernel_transactions.proofs.Histories.{enters_there, enters_nowhere, rules_there, rules_nowhere, registered_there, anyway}
use Rattle.kernel_transactions.proofs.hop_list.Hops.call.Goals as goal

pub returns-then-hop-len-clause-answer : goal.returns-then-hop-len-clause-answer
returns-then-hop-len-clause-answer c =
    let past : length c.self.inside.list.items ≤ c.args.hop = omega (arith, c.if-hop-len.true, c.len.ensures, c.self.inside.list.ok.0) in
    rules_nowhere c.self.inside.list.items c.args.self.now c.self.view_is c.args.hop (Call c.args.t c.args.path c.args.phase c.args.complete c.args.handled) past c.first_call.result
    (c.first_call.ensures c.args.t c.args.complete
    ∙ ap (λ z. verdict (broken [] (Call c.args.t c.args.path z c.args.complete c.args.handled))) (to_z-of_z w32 c.args.phase c.ranges.phase))

pub returns-then-hop-len-clause-enters : goal.returns-then-hop-len-clause-enters
returns-then-hop-len-clause-enters c =
    let past : length c.self.inside.list.items ≤ c.args.hop = omega (arith, c.if-hop-len.true, c.len.ensures, c.self.inside.list.ok.0) in
    anyway c.first_call.result (enters_nowhere c.self.inside.list.items c.args.self.now c.self.view_is c.args.hop (Call c.args.t c.args.path c.args.phase c.args.complete c.args.handled) past)

pub call-requires : goal.call-requires
call-requires c =
    let within : c.args.hop < length c.self.inside.list.items = omega (arith, c.if-hop-len.false, c.len.ensures, c.self.inside.list.ok.0) in
    registered_there c.self.inside.list.items c.args.self.now c.self.view_is c.args.hop c.args.t within c.index_mut.result.now c.index_mut.ensures.value c.requires

pub returns-clause-answer : goal.returns-clause-answer
returns-clause-answer c =
    let within : c.args.hop < length c.self.inside.list.items = omega (arith, c.if-hop-len.false, c.len.ensures, c.self.inside.list.ok.0) in
    rules_there c.self.inside.list.items c.args.self.now c.self.view_is c.args.hop (Call c.args.t c.args.path c.args.phase c.args.complete c.args.handled) within
    c.index_mut.result.now c.index_mut.ensures.value c.call.result
    (λ h stands. c.call.ensures.answer h stands
    ∙ ap (λ z. verdict (broken h (Call c.args.t c.args.path z c.args.complete c.args.handled))) (to_z-of_z w32 c.args.phase c.ranges.phase))

pub returns-clause-enters : goal.returns-clause-enters
returns-clause-enters c =
    let within : c.args.hop < length c.self.inside.list.items = omega (arith, c.if-hop-len.false, c.len.ensures, c.self.inside.list.ok.0) in
    on_ok_weaker c.call.result
    (λ moves. enters_there c.self.inside.list.items c.args.self.now c.self.view_is c.args.hop (Call c.args.t c.args.path c.args.phase c.args.complete c.args.handled) within
    c.index_mut.result.now c.call.new.self c.index_mut.ensures.value
    (λ h stands. subst (λ z. StandsFor c.call.new.self (h ++ Call c.args.t c.args.path z c.args.complete c.args.handled ∷ [])) (to_z-of_z w32 c.args.phase c.ranges.phase) (moves h stands)))
    c.call.ensures.ok
