-- Statements that use a payload.
use Rattle.std.proofs.Common.{◌≡◌, ◌≤◌, ◌<◌, ◌+◌, ◌-◌, ◌^◌, ℕ, Bool, true, false, Some, refl, sym, ap, subst, arith, true≢false}
use Rattle.std.specs.Prelude.{Result, Ok, Err}
use Rattle.kernel_processes.specs.PayloadPool.declared.payload.Payload.{Payload}
use Rattle.kernel_processes.specs.FlatDesign.declared.faults.RunFault.{RunFault}
use Rattle.kernel_processes.specs.SimModel.Values.{on_ok}
use Rattle.kernel_processes.specs.SimModel.Residual.{Residual, settle}
use Rattle.kernel_processes.specs.SimModel.Payloads.{Payloads, payload_of, with_payload}
use Rattle.kernel_processes.specs.SimModel.Configuration.{Config, Instance, instance_at, arena}
use Rattle.kernel_processes.specs.SimModel.Reading.{live_payload}
use Rattle.kernel_processes.specs.SimModel.Statements.{settled_in}
use Rattle.kernel_processes.specs.SimModel.Storing.{passes, set_payload}
use Rattle.kernel_processes.specs.SimModel.Transport.{with_pool}
use Rattle.kernel_transactions.specs.Board as board
use Rattle.kernel_transactions.specs.Board.{StandsForTransactions, SameQuantum, IsWithin}
use Rattle.kernel_transactions.specs.Answers.{use_of}
use Rattle.kernel_transactions.specs.declared.TransactionBoard.{TransactionBoard}
use Rattle.kernel_state.specs.Kernel.{StandsFor, IsSound}
use Rattle.kernel_state.specs.Moves.{Steps, Follows, Does}
use Rattle.kernel_state.specs.declared.kernel.Kernel.{Kernel}
use Rattle.kernel_state.proofs.Frames.{transactions_move, within_more}
use Rattle.kernel_state.proofs.Offsprings.{made_moves}

-- ---- what a use leads to

abbrev is_used : Result Unit RunFault → Bool
is_used (Ok u) = true
is_used (Err f) = false

abbrev fault_or : Result Unit RunFault → RunFault → RunFault
fault_or (Ok u) f = f
fault_or (Err g) f = g

abbrev done : Payload → Result Unit RunFault
done q = Ok tt

module _ (l : Kernel) (d : Config) where
  -- what follows where a use goes on, and where it does not
  pub went_by : {A : Type 0} (x : Result A RunFault) (u : A → Result Unit RunFault) (g : A → Result Config RunFault) → on_ok x u ≡ Ok tt
      → ((a : A) → x ≡ Ok a → u a ≡ Ok tt → Follows l (Ok tt) d (g a)) → Follows l (Ok tt) d (on_ok x g)
  went_by (Ok a) u g is follows = follows a refl is
  went_by (Err f) u g is follows = absurd (true≢false (sym (ap is_used is)))

  pub failed_by : {A : Type 0} (x : Result A RunFault) (u : A → Result Unit RunFault) (g : A → Result Config RunFault) (f : RunFault) → on_ok x u ≡ Err f → StandsFor l d
      → ((a : A) → x ≡ Ok a → u a ≡ Err f → Follows l (Err f) d (g a)) → Follows l (Err f) d (on_ok x g)
  failed_by (Ok a) u g f is stands follows = follows a refl is
  failed_by (Err e) u g f is stands follows = (sym (ap (λ r. fault_or r f) is), stands)

  -- of a payload that is live
  pub live_by : (x : Result Payload RunFault) (e : Payload → Config) → on_ok x done ≡ Ok tt → ((q : Payload) → x ≡ Ok q → StandsFor l (e q)) → Follows l (Ok tt) d (on_ok x (λ q. Ok (e q)))
  live_by x e is stands = went_by x done (λ q. Ok (e q)) is (λ q at u. stands q at)

  -- and of one that was freed
  pub freed_by : (x : Result Payload RunFault) (f : RunFault) (e : Payload → Result Config RunFault) → on_ok x done ≡ Err f → StandsFor l d → Follows l (Err f) d (on_ok x e)
  freed_by x f e is stands = failed_by x done e f is stands (λ q at u. absurd (true≢false (ap is_used u)))

abbrev pub LivePayloadsAreFound : Type 0
LivePayloadsAreFound = (c : Config) (t : ℕ) (q : Payload) → live_payload c t ≡ Ok q → payload_of c.transactions.pool t ≡ Some q

-- what a kernel made so far leaves room for one more
pub within_room : (k : Kernel) → IsSound k → k.made < 2 ^ 31 + 2 → IsWithin (2 ^ 32 - 2) k.transactions
within_room k sound room = within_more k.made (2 ^ 32 - 2) k.transactions (omega (arith, room)) sound.payloads

-- ---- the pool moves, and the statement is past

module _ (k : Kernel) (b : TransactionBoard) (m : ℕ) where
  pub pool_sound : IsSound k → k.made ≤ m → IsWithin m b → IsSound (record k { transactions = b; made = m })
  pool_sound sound more within = record {
    schedule = sound.schedule;
    bodies = sound.bodies;
    nobody_due = sound.nobody_due;
    serials = let old = sound.serials in omega (arith, old, more);
    payloads = within;
  }

  module _ (f : Payloads → Payloads) (moves : board.Moves k.transactions b (λ x. record x { pool = f x.pool })) (same : SameQuantum k.transactions b) where
    pub pool_then : (p : ℕ) (l : Kernel) → Steps (record k { transactions = b; made = m }) l p (λ c q i r. passes c q r) → Steps k l p (λ c q i r. with_pool (passes c q r) (f c.transactions.pool))
    pool_then p l next c i h there =
        next (record c { transactions = record c.transactions { pool = f c.transactions.pool } }) i
        (made_moves (record k { transactions = b }) m (record c { transactions = record c.transactions { pool = f c.transactions.pool } })
        (transactions_move k c h b (record c.transactions { pool = f c.transactions.pool }) (moves c.transactions h.transactions) same)) there

    pub pool_does : (t p : ℕ) (l : Kernel) → ((c : Config) → StandsForTransactions k.transactions c.transactions → use_of c t ≡ Ok tt) → Steps (record k { transactions = b; made = m }) l p (λ c q i r. passes c q r)
        → Does k l (Ok tt) p (λ c q i r. on_ok (live_payload c t) (λ x. Ok (with_pool (passes c q r) (f c.transactions.pool))))
    pool_does t p l live next c i h there = live_by l c (live_payload c t) (λ x. with_pool (passes (settled_in c p i.residual) p (settle (arena c) i.residual)) (f c.transactions.pool)) (live c h.transactions)
        (λ x at. pool_then p l next c i h there)

  -- a live payload is written
  module _ (t : ℕ) (f : Payload → Payload) (writes : board.Writes k.transactions b t f) (same : SameQuantum k.transactions b) where
    pub write_then : (p : ℕ) (l : Kernel) → Steps (record k { transactions = b; made = m }) l p (λ c q i r. passes c q r) → (c : Config) (i : Instance) → StandsFor k c → instance_at c p ≡ Some i
        → (x : Payload) → payload_of c.transactions.pool t ≡ Some x → StandsFor l (set_payload (passes (settled_in c p i.residual) p (settle (arena c) i.residual)) t (f x))
    write_then p l next c i h there x at =
        next (record c { transactions = record c.transactions { pool = with_payload c.transactions.pool t (f x) } }) i
        (made_moves (record k { transactions = b }) m (record c { transactions = record c.transactions { pool = with_payload c.transactions.pool t (f x) } })
        (transactions_move k c h b (record c.transactions { pool = with_payload c.transactions.pool t (f x) }) (writes c.transactions x h.transactions at) same)) there

    pub write_does : (p : ℕ) (l : Kernel) → LivePayloadsAreFound → ((c : Config) → StandsForTransactions k.transactions c.transactions → use_of c t ≡ Ok tt)
        → Steps (record k { transactions = b; made = m }) l p (λ c q i r. passes c q r) → Does k l (Ok tt) p (λ c q i r. on_ok (live_payload c t) (λ x. Ok (set_payload (passes c q r) t (f x))))
    write_does p l found live next c i h there = live_by l c (live_payload c t) (λ x. set_payload (passes (settled_in c p i.residual) p (settle (arena c) i.residual)) t (f x)) (live c h.transactions)
        (λ x at. write_then p l next c i h there x (found c t x at))

-- what is refused changes nothing
module _ (k : Kernel) (b : TransactionBoard) (same : b ≡ k.transactions) where
  pub refused_sound : IsSound k → IsSound (record k { transactions = b })
  refused_sound sound = subst (λ x. IsSound (record k { transactions = x })) (sym same) sound

  pub refused_does : (t p : ℕ) (f : RunFault) (e : Config → ℕ → Instance → Residual → Payload → Result Config RunFault) → ((c : Config) → StandsForTransactions k.transactions c.transactions → use_of c t ≡ Err f)
      → Does k (record k { transactions = b }) (Err f) p (λ c q i r. on_ok (live_payload c t) (e c q i r))
  refused_does t p f e freed c i h there = freed_by (record k { transactions = b }) c (live_payload c t) f (e (settled_in c p i.residual) p (record i { residual = settle (arena c) i.residual }) (settle (arena c) i.residual)) (freed c h.transactions)
      (subst (λ x. StandsFor (record k { transactions = x }) c) (sym same) h)
