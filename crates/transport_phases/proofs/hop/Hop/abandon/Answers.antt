use Rattle.std.proofs.Common.{refl}
use Rattle.transport_phases.specs.History.{Left}
use Rattle.transport_phases.proofs.HopLemmas.{stands_after}
use Rattle.transport_phases.proofs.hop.Hop.abandon.Goals as goal

pub returns-clause-history : goal.returns-clause-history
returns-clause-history c = λ h stands.
    stands_after c.args.self.now c.keep.new.self h stands (Left c.args.t) c.args.t refl c.fresh.result c.fresh.ensures c.keep.ensures.set
