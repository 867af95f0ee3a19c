-- A payload and a memory move together.
use Rattle.std.proofs.Common.{◌≡◌, ℕ, zero, suc, List, [], ◌∷◌, slice_get, slice_set, Option, Some, None, Result, Ok, Err, refl, sym, ap, ◌∙◌, subst}
use Rattle.std.specs.Prelude.{OnErr, unwrap_or}
use Rattle.std.specs.Global.{Vec}
use Rattle.exec_calls.specs.PayloadPool.Transfer.{carried, memory_after}
use Rattle.exec_calls.specs.PayloadPool.declared.payload.Payload.{Payload}
use Rattle.flat_design.specs.declared.faults.RunFault.{RunFault}
use Rattle.exec_calls.specs.SimModel.Values.{on_ok}
use Rattle.exec_calls.specs.SimModel.Residual.{Residual, settle}
use Rattle.exec_calls.specs.SimModel.Payloads.{payload_of, with_payload}
use Rattle.exec_calls.specs.SimModel.Configuration.{Config, Transactions, arena}
use Rattle.exec_calls.specs.SimModel.Statements.{settled_in}
use Rattle.exec_calls.specs.SimModel.Reading.{live_payload, memory_at}
use Rattle.exec_calls.specs.SimModel.Storing.{passes, set_memory, set_payload}
use Rattle.exec_calls.specs.KernelTransactions.Board as board
use Rattle.exec_calls.specs.KernelTransactions.Board.{StandsForTransactions, SameQuantum, StaysWithin}
use Rattle.exec_calls.specs.KernelTransactions.Answers.{use_of}
use Rattle.exec_calls.specs.KernelTransactions.declared.TransactionBoard.{TransactionBoard}
use Rattle.exec_calls.specs.KernelState.Kernel.{StandsFor, IsSound}
use Rattle.exec_calls.specs.KernelState.Moves.{Steps, Does}
use Rattle.exec_calls.specs.KernelState.declared.kernel.Kernel.{Kernel}
use Rattle.exec_calls.proofs.KernelState.Uses.{LivePayloadsAreFound, live_by, freed_by}
use Rattle.exec_transactions.specs.Carried.{bytes_of, with_bytes}

-- ---- the bytes of a memory, taken out and put back

set-twice : (xs : List (List ℕ)) (n : ℕ) (a b : List ℕ) → slice_set (slice_set xs n a) n b ≡ slice_set xs n b
set-twice [] n a b = refl
set-twice (x ∷ xs) zero a b = refl
set-twice (x ∷ xs) (suc n) a b = ap (λ ys. x ∷ ys) (set-twice xs n a b)

set-back : (xs : List (List ℕ)) (n : ℕ) → slice_set xs n (unwrap_or (slice_get xs n) []) ≡ xs
set-back [] n = refl
set-back (x ∷ xs) zero = refl
set-back (x ∷ xs) (suc n) = ap (λ ys. x ∷ ys) (set-back xs n)

pub put_twice : (ms : List (List ℕ)) (m : Option ℕ) (a b : List ℕ) → with_bytes (with_bytes ms m a) m b ≡ with_bytes ms m b
put_twice ms None a b = refl
put_twice ms (Some n) a b = set-twice ms n a b

pub put_back : (ms : List (List ℕ)) (m : Option ℕ) (a : List ℕ) → with_bytes (with_bytes ms m a) m (bytes_of ms m) ≡ ms
put_back ms None a = refl
put_back ms (Some n) a = set-twice ms n a (unwrap_or (slice_get ms n) []) ∙ set-back ms n

-- ---- in a configuration

abbrev after_carry : Config → ℕ → Option ℕ → Payload → Config
after_carry c t m q = record c {
  transactions = record c.transactions { pool = with_payload c.transactions.pool t (carried q (bytes_of c.store.memories m)) };
  store = record c.store { memories = with_bytes c.store.memories m (memory_after q (bytes_of c.store.memories m)) };
}

carried_is : (c : Config) (p : ℕ) (r : Residual) (t : ℕ) (m : Option ℕ) (q : Payload) → set_payload (set_memory (passes c p r) m (memory_after q (memory_at c m))) t (carried q (memory_at c m)) ≡ after_carry (passes c p r) t m q
carried_is c p r t None q = refl
carried_is c p r t (Some n) q = refl

-- ---- in a kernel

module _ (k : Kernel) (b : TransactionBoard) (ms : Vec (List ℕ)) where
  pub carried_sound : IsSound k → StaysWithin k.transactions b → IsSound (record k { transactions = b; memories = ms })
  carried_sound sound within = record {
    schedule = sound.schedule;
    bodies = sound.bodies;
    nobody_due = sound.nobody_due;
    serials = sound.serials;
    payloads = within k.made sound.payloads;
  }

  stands_so : (c : Config) → StandsFor k c → (x : Transactions) → StandsForTransactions b x → SameQuantum k.transactions b → (xs : List (List ℕ)) → ms.items ≡ xs
      → StandsFor (record k { transactions = b; memories = ms }) (record c { transactions = x; store = record c.store { memories = xs } })
  stands_so c h x stands same xs is = record {
    design = h.design;
    cycle = h.cycle;
    processes = h.processes;
    parents = h.parents;
    events = h.events;
    channels = h.channels;
    transactions = stands;
    quantum = same ∙ h.quantum;
    variables = h.variables;
    memories = sym is;
  }

  module _ (same : SameQuantum k.transactions b) (t p : ℕ) (m : Option ℕ) where
    module _ (writes : board.Writes k.transactions b t (λ q. carried q (bytes_of k.memories.items m)))
        (left : (x : Transactions) (q : Payload) → StandsForTransactions k.transactions x → payload_of x.pool t ≡ Some q → ms.items ≡ with_bytes k.memories.items m (memory_after q (bytes_of k.memories.items m))) where
      carry_moves : (c : Config) → StandsFor k c → (q : Payload) → payload_of c.transactions.pool t ≡ Some q → StandsFor (record k { transactions = b; memories = ms }) (after_carry c t m q)
      carry_moves c h q at = stands_so c h (after_carry c t m q).transactions
          (subst (λ (xs : List (List ℕ)). StandsForTransactions b (record c.transactions { pool = with_payload c.transactions.pool t (carried q (bytes_of xs m)) })) (sym h.memories) (writes c.transactions q h.transactions at))
          same (after_carry c t m q).store.memories
          (left c.transactions q h.transactions at ∙ sym (ap (λ (xs : List (List ℕ)). with_bytes xs m (memory_after q (bytes_of xs m))) h.memories))

      -- the payload is live
      pub carry_does : LivePayloadsAreFound → ((c : Config) → StandsForTransactions k.transactions c.transactions → use_of c t ≡ Ok tt)
          → (l : Kernel) → Steps (record k { transactions = b; memories = ms }) l p (λ c q i r. passes c q r)
          → Does k l (Ok tt) p (λ c q i r. on_ok (live_payload c t) (λ x. Ok (set_payload (set_memory (passes c q r) m (memory_after x (memory_at c m))) t (carried x (memory_at c m)))))
      carry_does found live l next c i h there =
          let d = settled_in c p i.residual in
          let r = settle (arena c) i.residual in
          live_by l c (live_payload c t) (λ x. set_payload (set_memory (passes d p r) m (memory_after x (memory_at d m))) t (carried x (memory_at d m))) (live c h.transactions)
          (λ x at. subst (StandsFor l) (sym (carried_is d p r t m x)) (next (after_carry c t m x) i (carry_moves c h x (found c t x at)) there))

    -- it was freed, and nothing changes
    pub carry_refused : b ≡ k.transactions → ms.items ≡ k.memories.items → (f : RunFault) → ((c : Config) → StandsForTransactions k.transactions c.transactions → use_of c t ≡ Err f)
        → Does k (record k { transactions = b; memories = ms }) (Err f) p (λ c q i r. on_ok (live_payload c t) (λ x. Ok (set_payload (set_memory (passes c q r) m (memory_after x (memory_at c m))) t (carried x (memory_at c m)))))
    carry_refused kept left f freed c i h there =
        let d = settled_in c p i.residual in
        let r = settle (arena c) i.residual in
        freed_by (record k { transactions = b; memories = ms }) c (live_payload c t) f (λ x. Ok (set_payload (set_memory (passes d p r) m (memory_after x (memory_at d m))) t (carried x (memory_at d m)))) (freed c h.transactions)
        (stands_so c h c.transactions (subst (λ y. StandsForTransactions y c.transactions) (sym kept) h.transactions) same c.store.memories (left ∙ sym h.memories))

-- what follows of a fault
pub on_err : (A B : Type 0) (o : Result Unit RunFault) → OnErr o A → (A → B) → OnErr o B
on_err A B (Ok u) has f = has
on_err A B (Err e) has f = f has
