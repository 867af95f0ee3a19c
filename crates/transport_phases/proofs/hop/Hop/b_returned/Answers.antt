use Rattle.std.proofs.Common.{◌∙◌, ap, refl}
use Rattle.transport_phases.specs.declared.transaction.Kept.{Kept}
use Rattle.transport_phases.specs.declared.transaction.Open.TheVariants.{Nothing}
use Rattle.transport_phases.specs.History.{BReturn}
use Rattle.transport_phases.proofs.HopLemmas.{kept_read, stands_after}
use Rattle.transport_phases.proofs.hop.Hop.b_returned.Goals as goal

pub returns-clause-ok : goal.returns-clause-ok
returns-clause-ok c = λ h stands.
    stands_after c.args.self.now c.keep.new.self h stands (BReturn c.args.t c.args.complete) c.args.t refl c.with_call.result
    (c.with_call.ensures
    ∙ ap {A = Kept} {B = Kept} (λ k. record k { call = Nothing }) (c.kept-kept.ensures ∙ kept_read c.args.self.now h stands c.args.t))
    c.keep.ensures.set
