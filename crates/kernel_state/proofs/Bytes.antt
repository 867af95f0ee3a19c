-- A byte of a payload is written.
use Rattle.std.proofs.Common.{◌≡◌, ℕ, Bool, true, false, length, refl, sym, ap, ◌∙◌, subst, true≢false}
use Rattle.std.specs.Prelude.{nat_lt, Result, Ok, Err, if◌then◌else◌}
use Rattle.kernel_processes.specs.FlatDesign.declared.faults.RunFault.{RunFault}
use Rattle.kernel_processes.specs.FlatDesign.declared.faults.RunFault.TheVariants as fault
use Rattle.kernel_processes.specs.FlatDesign.declared.names.PayloadBytes.{PayloadBytes}
use Rattle.kernel_processes.specs.SimModel.Values.{on_ok, index_within}
use Rattle.kernel_processes.specs.SimModel.Residual.{settle}
use Rattle.kernel_processes.specs.SimModel.Configuration.{Config, arena}
use Rattle.kernel_processes.specs.SimModel.Reading.{live_payload}
use Rattle.kernel_processes.specs.SimModel.Statements.{settled_in}
use Rattle.kernel_processes.specs.SimModel.Storing.{passes, bytes_in, set_payload, with_byte}
use Rattle.kernel_transactions.specs.Board as board
use Rattle.kernel_transactions.specs.Board.{StandsForTransactions, SameQuantum}
use Rattle.kernel_transactions.specs.declared.TransactionBoard.{TransactionBoard}
use Rattle.kernel_state.specs.Kernel.{StandsFor}
use Rattle.kernel_state.specs.Moves.{Steps, Does}
use Rattle.kernel_state.specs.declared.kernel.Kernel.{Kernel}
use Rattle.kernel_state.proofs.Uses.{LivePayloadsAreFound, went_by, failed_by, write_then}

abbrev number_or : Result ℕ RunFault → ℕ → ℕ
number_or (Ok n) m = n
number_or (Err f) m = m

abbrev is_number : Result ℕ RunFault → Bool
is_number (Ok n) = true
is_number (Err f) = false

abbrev is_done : Result Unit RunFault → Bool
is_done (Ok u) = true
is_done (Err f) = false

-- an index within a size is answered as it is
index_by : (b : Bool) (i n k : ℕ) → (if b then Ok i else Err (fault.IndexRange i n)) ≡ Ok k → i ≡ k
index_by true i n k is = ap (λ r. number_or r k) is
index_by false i n k is = absurd (true≢false (sym (ap is_number is)))

index_is : (i n k : ℕ) → index_within i n ≡ Ok k → i ≡ k
index_is i n k is = index_by (nat_lt i n) i n k is

module _ (k : Kernel) (b : TransactionBoard) where
  abbrev is_written : Config → ℕ → PayloadBytes → ℕ → Result Unit RunFault
  is_written c t part at = on_ok (live_payload c t) (λ x. on_ok (index_within at (length (bytes_in part x))) (λ n. Ok tt))

  pub byte_does : (m t : ℕ) (part : PayloadBytes) (at byte : ℕ) → board.Writes k.transactions b t (with_byte part at byte) → SameQuantum k.transactions b → (p : ℕ) (l : Kernel) → LivePayloadsAreFound
      → ((c : Config) → StandsForTransactions k.transactions c.transactions → is_written c t part at ≡ Ok tt) → Steps (record k { transactions = b; made = m }) l p (λ c q i r. passes c q r)
      → Does k l (Ok tt) p (λ c q i r. on_ok (live_payload c t) (λ x. on_ok (index_within at (length (bytes_in part x))) (λ n. Ok (set_payload (passes c q r) t (with_byte part n byte x)))))
  byte_does m t part at byte writes same p l found done next c i h there =
      let past = passes (settled_in c p i.residual) p (settle (arena c) i.residual) in
      went_by l c (live_payload c t) (λ x. on_ok (index_within at (length (bytes_in part x))) (λ n. Ok tt)) (λ x. on_ok (index_within at (length (bytes_in part x))) (λ n. Ok (set_payload past t (with_byte part n byte x)))) (done c h.transactions)
      (λ x live inside. went_by l c (index_within at (length (bytes_in part x))) (λ n. Ok tt) (λ n. Ok (set_payload past t (with_byte part n byte x))) inside
      (λ n is over. subst (λ n. StandsFor l (set_payload past t (with_byte part n byte x))) (index_is at (length (bytes_in part x)) n is)
      (write_then k b m t (with_byte part at byte) writes same p l next c i h there x (found c t x live))))

  pub byte_refused : b ≡ k.transactions → (t : ℕ) (part : PayloadBytes) (at byte p : ℕ) (f : RunFault) → ((c : Config) → StandsForTransactions k.transactions c.transactions → is_written c t part at ≡ Err f)
      → Does k (record k { transactions = b }) (Err f) p (λ c q i r. on_ok (live_payload c t) (λ x. on_ok (index_within at (length (bytes_in part x))) (λ n. Ok (set_payload (passes c q r) t (with_byte part n byte x)))))
  byte_refused same t part at byte p f refused c i h there =
      let past = passes (settled_in c p i.residual) p (settle (arena c) i.residual) in
      let stands = subst (λ y. StandsFor (record k { transactions = y }) c) (sym same) h in
      failed_by (record k { transactions = b }) c (live_payload c t) (λ x. on_ok (index_within at (length (bytes_in part x))) (λ n. Ok tt)) (λ x. on_ok (index_within at (length (bytes_in part x))) (λ n. Ok (set_payload past t (with_byte part n byte x)))) f (refused c h.transactions) stands
      (λ x live inside. failed_by (record k { transactions = b }) c (index_within at (length (bytes_in part x))) (λ n. Ok tt) (λ n. Ok (set_payload past t (with_byte part n byte x))) f inside stands
      (λ n is over. absurd (true≢false (ap is_done over))))
