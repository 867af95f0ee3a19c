use Rattle.std.proofs.Common.{sym, ap, ◌∙◌}
use Rattle.payload_pool.specs.Payloads.{with_released}
use Rattle.payload_pool.proofs.CountLemmas.{released_absent, released_last}
use Rattle.payload_pool.proofs.pool.Pool.release.Goals as goal

pub returns-in-None-clause-counted : goal.returns-in-None-clause-counted
returns-in-None-clause-counted c = released_absent c.self.inside.payloads c.args.t (sym c.in-None.ensures.value) ∙ ap (λ p. with_released p c.args.t) c.self.view_is

pub returns-then-left-eq0-clause-counted : goal.returns-then-left-eq0-clause-counted
returns-then-left-eq0-clause-counted c =
    c.remove.ensures.removed ∙ released_last c.self.inside.payloads c.args.t c.in-Some.counted.now _ (sym c.in-Some.ensures.value)
    (sym c.saturating_sub-counted.ensures ∙ c.if-left-eq0.true)
    ∙ ap (λ p. with_released p c.args.t) c.self.view_is
