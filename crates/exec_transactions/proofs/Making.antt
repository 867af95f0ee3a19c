-- A payload that is made is held by what a name stands for.
use Rattle.std.specs.Prelude.{IsOk}
use Rattle.std.proofs.Common.{◌≡◌, ℕ, length, Some, Result, Ok, Err, refl, sym, ap, ◌∙◌, subst, true≢false}
use Rattle.exec_calls.specs.LogicValues.declared.kinds.Value.{Value}
use Rattle.exec_calls.specs.LogicValues.declared.kinds.Value.TheVariants as value
use Rattle.flat_design.specs.Denotes.{denoted_at}
use Rattle.flat_design.specs.declared.names.NameUse.{NameUse}
use Rattle.flat_design.specs.declared.names.NameUse.TheVariants as name_use
use Rattle.flat_design.specs.declared.value_types.ValueType.TheVariants as type
use Rattle.flat_design.specs.declared.faults.RunFault.{RunFault}
use Rattle.exec_calls.specs.SimModel.Values.{on_ok}
use Rattle.exec_calls.specs.SimModel.Residual.{settle}
use Rattle.exec_calls.specs.SimModel.Payloads.{with_made}
use Rattle.exec_calls.specs.SimModel.Configuration.{Config, Transactions, arena}
use Rattle.exec_calls.specs.SimModel.Statements.{settled_in}
use Rattle.exec_calls.specs.SimModel.Reading.{Here, here}
use Rattle.exec_calls.specs.SimModel.Storing.{passes, set_name, set_denoted, stored}
use Rattle.exec_calls.specs.SimModel.Transport.{with_pool, size_within, may_make}
use Rattle.exec_calls.specs.KernelTransactions.Board as board
use Rattle.exec_calls.specs.KernelTransactions.Board.{StandsForTransactions, SameQuantum}
use Rattle.exec_calls.specs.KernelTransactions.Answers.{Makes, number_made}
use Rattle.exec_calls.specs.KernelTransactions.declared.payloads.MakeStop.{MakeStop}
use Rattle.exec_calls.specs.KernelTransactions.declared.payloads.MakeStop.TheVariants as made
use Rattle.exec_calls.specs.KernelTransactions.declared.TransactionBoard.{TransactionBoard}
use Rattle.exec_calls.specs.KernelState.Kernel.{StandsFor}
use Rattle.exec_calls.specs.KernelState.Moves.{Moves, Steps}
use Rattle.exec_calls.specs.KernelState.Stopping.{FollowsBut, DoesOrStops, NoFault}
use Rattle.exec_calls.specs.KernelState.declared.stops.StatementStop.TheVariants as stop
use Rattle.exec_calls.specs.KernelState.declared.kernel.Kernel.{Kernel}
use Rattle.exec_calls.proofs.KernelState.Frames.{transactions_move}
use Rattle.exec_calls.proofs.KernelState.Offsprings.{made_moves}
use Rattle.exec_calls.specs.KernelView.Standings.{next_here}
use Rattle.exec_calls.proofs.KernelView.Stopped.{refused}
use Rattle.exec_transactions.specs.Sized.{made_into, makes_sized, stop_as}

-- names stand for the same in the same instance of a module of the same design
same_name : (d : Config) (p : ℕ) (g h : Here) (n : NameUse) (v : Value) → g.config.design ≡ h.config.design → g.home ≡ h.home → set_name d p g n v ≡ set_name d p h n v
same_name d p g h (name_use.Local i) v design home = refl
same_name d p g h (name_use.Declared i) v design home =
    ap (λ y. set_denoted d (denoted_at y g.home i) v) design ∙ ap (λ y. set_denoted d (denoted_at h.config.design y i) v) home

given_by : {A : Type 0} (r : Result A RunFault) → IsOk r → (x : A) × (r ≡ Ok x)
given_by (Ok x) is = (x, refl)
given_by (Err f) is = absurd (true≢false (sym is))

abbrev MakingIsAnswered : Type 0
MakingIsAnswered = (c : Config) (len enables : ℕ) (f : ℕ → ℕ → Result Config RunFault)
    → on_ok (size_within 1 len) (λ x. on_ok (size_within 0 enables) (λ y. on_ok (may_make c) (λ ok. f x y))) ≡ on_ok (number_made c len enables) (λ t. f len enables)

module _ (k : Kernel) (b : TransactionBoard) (len enables : ℕ) (law : MakingIsAnswered) (p : ℕ) (n : NameUse) where
  -- it was made
  pub made_does : board.Moves k.transactions b (λ x. record x { pool = with_made x.pool len enables }) → SameQuantum k.transactions b
      → (m t : ℕ) → ((x : Transactions) → StandsForTransactions k.transactions x → t ≡ length x.pool)
      → ((c : Config) → StandsForTransactions k.transactions c.transactions → number_made c len enables ≡ Ok t)
      → (l : Kernel) → Steps (record k { transactions = b; made = m }) l p (λ c q i r. stored (passes c q r) q (here c q i r) (record { name = n; value_type = type.Payload }) (value.Pay (Some t)))
      → DoesOrStops k l (Ok tt) p (λ c q i r. makes_sized c q r (here c q i r) n len enables)
  made_does moves same m t number answer l next c i h there =
      let d = settled_in c p i.residual in
      let r = settle (arena c) i.residual in
      let after = with_pool (passes d p r) (with_made c.transactions.pool len enables) in
      let e = record c { transactions = record c.transactions { pool = with_made c.transactions.pool len enables } } in
      subst (FollowsBut NoFault l (Ok tt) c)
      (sym (law d len enables (λ x y. Ok (made_into d p r (next_here c p i) n x y)) ∙ ap (λ o. on_ok o (λ z. Ok (made_into d p r (next_here c p i) n len enables))) (answer d h.transactions)))
      (subst (StandsFor l)
      (same_name after p (next_here e p i) (next_here c p i) n (value.Pay (Some t)) refl refl ∙ ap (λ z. set_name after p (next_here c p i) n (value.Pay (Some z))) (number c.transactions h.transactions))
      (next e i (made_moves (record k { transactions = b }) m e (transactions_move k c h b e.transactions (moves c.transactions h.transactions) same)) there))

  -- it was not, and nothing changes
  module _ (same : b ≡ k.transactions) where
    stays : Moves k (record k { transactions = b }) (λ c. c)
    stays c h = subst (λ y. StandsFor (record k { transactions = y }) c) (sym same) h

    unmade_does : (f : RunFault) → ((c : Config) → StandsForTransactions k.transactions c.transactions → number_made c len enables ≡ Err f)
        → DoesOrStops k (record k { transactions = b }) (Err (stop.Fault f)) p (λ c q i r. makes_sized c q r (here c q i r) n len enables)
    unmade_does f answer c i h there =
        let d = settled_in c p i.residual in
        let r = settle (arena c) i.residual in
        subst (FollowsBut NoFault (record k { transactions = b }) (Err (stop.Fault f)) c)
        (sym (law d len enables (λ x y. Ok (made_into d p r (next_here c p i) n x y)) ∙ ap (λ o. on_ok o (λ z. Ok (made_into d p r (next_here c p i) n len enables))) (answer d h.transactions)))
        (refl, stays c h)

    -- there was no memory for it
    lacks : ((c : Config) → StandsForTransactions k.transactions c.transactions → IsOk (number_made c len enables))
        → DoesOrStops k (record k { transactions = b }) (Err stop.NoMemory) p (λ c q i r. makes_sized c q r (here c q i r) n len enables)
    lacks may c i h there =
        let d = settled_in c p i.residual in
        let r = settle (arena c) i.residual in
        let number = given_by (number_made d len enables) (may d h.transactions) in
        refused NoFault (record k { transactions = b }) c (made_into d p r (next_here c p i) n len enables) (makes_sized d p r (next_here c p i) n len enables)
        (law d len enables (λ x y. Ok (made_into d p r (next_here c p i) n x y)) ∙ ap (λ o. on_ok o (λ z. let e : Config = made_into d p r (next_here c p i) n len enables in let done : Result Config RunFault = Ok e in done)) number.1)
        (stays c h)

    pub unmade : (s : MakeStop) → ((c : Config) → StandsForTransactions k.transactions c.transactions → Makes (Err s) (number_made c len enables))
        → DoesOrStops k (record k { transactions = b }) (Err (stop_as s)) p (λ c q i r. makes_sized c q r (here c q i r) n len enables)
    unmade (made.Fault f) answers = unmade_does f answers
    unmade made.NoMemory answers = lacks answers
