use Rattle.std.proofs.Common.{◌≡◌, ◌∙◌, sym, ap, subst, arith, replicate, []}
use Rattle.std.specs.Ordering.{nat_cmp}
use Rattle.std.specs.FinMap as map
use Rattle.sim_model.specs.PayloadPool.declared.pool.Counted.{Counted}
use Rattle.std.proofs.lemmas.Option.{none-some}
use Rattle.kernel_transactions.specs.Hops.{StandsForHops}
use Rattle.kernel_transactions.proofs.Histories.{fresh_hops}
use Rattle.kernel_transactions.proofs.TransactionBoard.new.Goals as goal

pub returns-clause-transactions : goal.returns-clause-transactions
returns-clause-transactions c = record {
  payloads = record { each = λ t. ap (λ m. map.get m t) c.new-3.ensures.empty ∙ map.get-empty nat_cmp t; next = c.new-3.ensures.first };
  hops = subst (λ rows. StandsForHops rows (replicate c.args.hops [])) (sym c.in_ok-hops.ensures) (fresh_hops c.args.hops);
}

pub returns-clause-within : goal.returns-clause-within
returns-clause-within c = record {
  numbers = omega (arith, c.new-3.ensures.first);
  counts = λ t d there. absurd (none-some d (sym (ap (λ m. map.get m t) c.new-3.ensures.empty ∙ map.get-empty nat_cmp t) ∙ there));
  live = let none : map.len c.new-3.result.live ≡ 0 = ap map.len c.new-3.ensures.empty ∙ map.len-empty nat_cmp Counted in omega arith;
}
