use Rattle.std.proofs.Common.{◌∙◌, sym, ap, refl}
use Rattle.transport_phases.specs.declared.transaction.Kept.{Kept}
use Rattle.transport_phases.specs.declared.transaction.Open.TheVariants.{Blocking}
use Rattle.transport_phases.specs.Phases.{verdict, first_broken, b_call_rules}
use Rattle.transport_phases.specs.History.{BCall}
use Rattle.transport_phases.proofs.HopLemmas.{kept_read, stands_after}
use Rattle.transport_phases.proofs.hop.Hop.b_call.Goals as goal

pub returns-in-Err-clause-answer : goal.returns-in-Err-clause-answer
returns-in-Err-clause-answer c = λ h stands.
    sym c.in-Err.is ∙ c.judge_b_call.ensures
    ∙ ap (λ k. verdict (first_broken (b_call_rules k c.args.handled))) (c.kept-kept.ensures ∙ kept_read c.args.self.now h stands c.args.t)

pub returns-clause-answer : goal.returns-clause-answer
returns-clause-answer c = λ h stands.
    sym c.in-Ok.is ∙ c.judge_b_call.ensures
    ∙ ap (λ k. verdict (first_broken (b_call_rules k c.args.handled))) (c.kept-kept.ensures ∙ kept_read c.args.self.now h stands c.args.t)

pub returns-clause-ok : goal.returns-clause-ok
returns-clause-ok c = λ h stands.
    stands_after c.args.self.now c.keep.new.self h stands (BCall c.args.t c.args.handled) c.args.t refl c.with_call.result
    (c.with_call.ensures
    ∙ ap {A = Kept} {B = Kept} (λ k. record k { call = Blocking }) (c.kept-kept.ensures ∙ kept_read c.args.self.now h stands c.args.t))
    c.keep.ensures.set
