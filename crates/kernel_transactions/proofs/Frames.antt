-- One lemma for each part of a board that moves while the others stay.
use Rattle.std.proofs.Common.{◌≡◌, ℕ, List, [], ◌∷◌, Some, refl, sym, ap, ◌∙◌, subst}
use Rattle.std.proofs.lemmas.Option.{same_Some}
use Rattle.sim_model.specs.PayloadPool.declared.payload.Payload.{Payload}
use Rattle.sim_model.specs.PayloadPool.Payloads as pool
use Rattle.sim_model.specs.TransportPhases.Rows.{Rows}
use Rattle.sim_model.specs.TransportPhases.History.{Left}
use Rattle.sim_model.specs.Payloads.{Payloads, payload_of, with_payload}
use Rattle.sim_model.specs.Configuration.{Config, Transactions}
use Rattle.sim_model.specs.Calls.{with_entry, with_left}
use Rattle.sim_model.specs.declared.plain.Via.{Via}
use Rattle.kernel_transactions.specs.Board.{StandsForPool, AreKept, left}
use Rattle.kernel_transactions.proofs.Pools.{written, payload_read}

pub pool_moves : (p q new : pool.Payloads) (rows : List Rows) (x : Transactions) (ps : Payloads) → new ≡ q → StandsForPool q ps → AreKept p rows x
    → AreKept new rows (record x { pool = ps })
pool_moves p q new rows x ps same stands kept = record { payloads = subst (λ r. StandsForPool r ps) (sym same) stands; hops = kept.hops }

-- a live payload is written
pub write_moves : (p : pool.Payloads) (rows : List Rows) (x : Transactions) → AreKept p rows x → (t : ℕ) (before after : Payload) → pool.payload_of p t ≡ Some before
    → (f : Payload → Payload) → after ≡ f before → (q : Payload) → payload_of x.pool t ≡ Some q → AreKept (pool.with_payload p t after) rows (record x { pool = with_payload x.pool t (f q) })
write_moves p rows x kept t before after there f is q live =
    let same : before ≡ q = same_Some before q (sym there ∙ payload_read p x.pool kept.payloads t ∙ live) in
    pool_moves p (pool.with_payload p t (f q)) (pool.with_payload p t after) rows x (with_payload x.pool t (f q)) (ap (pool.with_payload p t) (is ∙ ap f same))
    (written p x.pool kept.payloads t (f q)) kept

-- calls that an unwinding leaves
pub left_is : (c : Config) (vias : List Via) → with_left c vias ≡ record c { transactions = left c.transactions vias }
left_is c [] = refl
left_is c (via ∷ more) = left_is (with_entry c via.hop (Left via.payload)) more
