use Rattle.std.proofs.Common.{sym, ap, ◌∙◌}
use Rattle.payload_pool.specs.Payloads.{with_acquired}
use Rattle.payload_pool.proofs.CountLemmas.{acquired_absent}
use Rattle.payload_pool.proofs.pool.Pool.acquire.Goals as goal

pub returns-in_default-clause-counted : goal.returns-in_default-clause-counted
returns-in_default-clause-counted c = acquired_absent c.self.inside.payloads c.args.t (sym c.in_default.ensures.value) ∙ ap (λ p. with_acquired p c.args.t) c.self.view_is
