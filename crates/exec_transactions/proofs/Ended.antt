-- What is handed back where a transport call ends.
use Rattle.std.proofs.Common.{◌≡◌, ℕ, Option, Some, Result, Ok, Err, option_map, refl, sym, ap, ◌∙◌, subst}
use Rattle.std.specs.Prelude.{unwrap_or}
use Rattle.exec_calls.specs.LogicValues.declared.kinds.Value.{Value}
use Rattle.exec_calls.specs.LogicValues.declared.kinds.Value.TheVariants as value
use Rattle.exec_calls.specs.TransportPhases.History.{Entry, BReturn, Return}
use Rattle.flat_design.specs.declared.names.NameUse.{NameUse}
use Rattle.flat_design.specs.declared.code.Store.{Store as Target}
use Rattle.flat_design.specs.declared.faults.RunFault.{RunFault}
use Rattle.exec_calls.specs.SimModel.Values.{on_ok}
use Rattle.exec_calls.specs.SimModel.Residual.{Residual, Frame, skip, put, settle}
use Rattle.exec_calls.specs.SimModel.Configuration.{Config, Instance, Transactions, arena, instance_at, with_residual}
use Rattle.exec_calls.specs.SimModel.Statements.{settled_in, leaves_call, handed_back, calling_statement, via_ends}
use Rattle.exec_calls.specs.SimModel.Reading.{Here, here}
use Rattle.exec_calls.specs.SimModel.Calls.{with_entry}
use Rattle.exec_calls.specs.SimModel.Storing.{passes, set_name, stored_if}
use Rattle.exec_calls.specs.SimModel.Transport.{int_of, judged_return, complete_now}
use Rattle.exec_calls.specs.SimModel.declared.plain.Via.{Via}
use Rattle.exec_calls.proofs.KernelProcesses.Wakes.{change-here}
use Rattle.exec_calls.specs.KernelTransactions.Board as board
use Rattle.exec_calls.specs.KernelTransactions.Board.{StandsForTransactions, SameQuantum, entered}
use Rattle.exec_calls.specs.KernelTransactions.Answers.{JudgesReturn}
use Rattle.exec_calls.specs.KernelTransactions.declared.TransactionBoard.{TransactionBoard}
use Rattle.exec_calls.specs.KernelState.Kernel.{StandsFor}
use Rattle.exec_calls.specs.KernelState.Moves.{Steps, Follows, Does}
use Rattle.exec_calls.specs.KernelState.declared.kernel.Kernel.{Kernel}
use Rattle.exec_transactions.specs.Ending.{ending_of, IsBTransport, IsNbTransport}
use Rattle.exec_transactions.specs.declared.endings.Ending.{Ending}
use Rattle.exec_transactions.proofs.Called.{board_enters}

-- the instance, once its frame is gone
past_there : (c : Config) (p : ℕ) (i : Instance) (r n : Residual) → instance_at c p ≡ Some i → instance_at (with_residual (settled_in c p r) p n) p ≡ Some (record i { residual = n })
past_there c p i r n there =
    change-here (settled_in c p r).processes.instances p (λ (j : Instance). record j { residual = n })
    ∙ ap (option_map (λ (j : Instance). record j { residual = n })) (change-here c.processes.instances p (λ (j : Instance). record j { residual = settle (arena c) r }) ∙ ap (option_map (λ (j : Instance). record j { residual = settle (arena c) r })) there)

-- where the statement stands that called
abbrev pub back_here : Config → ℕ → Instance → Residual → Here
back_here c p i r = here (passes c p r) p i (put r skip)

-- whatever is handed back to the statement that called
abbrev pub HandsBack : Kernel → Kernel → ℕ → (Config → Here → Config) → Type 0
HandsBack old new p store = (c : Config) (i : Instance) (h : Here) → StandsFor old c → instance_at c p ≡ Some i → h.config.design ≡ c.design → h.home ≡ (here c p i i.residual).home → StandsFor new (store c h)

module _ (k : Kernel) (b : TransactionBoard) (p hop t : ℕ) (e : Transactions → Entry) (store : Config → Here → Config) where
  -- the return is judged, the frame is taken away, and then this is stored
  pub returned_does : ((c : Config) → StandsForTransactions k.transactions c.transactions → JudgesReturn (Ok tt) c hop (e c.transactions) t) → board.Moves k.transactions b (λ x. entered x hop (e x)) → SameQuantum k.transactions b
      → (m : Kernel) → Steps (record k { transactions = b }) m p (λ c q i r. passes c q r) → (l : Kernel) → HandsBack m l p store
      → Does k l (Ok tt) p (λ c q i r. on_ok (judged_return (passes c q r) hop (e c.transactions) t) (λ y. Ok (store y (back_here c q i r))))
  returned_does judges moves same m leaves l hands c i h there =
      let first = settled_in c p i.residual in
      let left = settle (arena c) i.residual in
      let past = passes first p left in
      subst (λ o. Follows l (Ok tt) c (on_ok o (λ y. Ok (store y (back_here first p (record i { residual = left }) left))))) (sym (judges past h.transactions))
      (hands (with_entry past hop (e c.transactions)) (record i { residual = put left skip }) (back_here first p (record i { residual = left }) left)
      (leaves (with_entry c hop (e c.transactions)) i (board_enters k b hop e moves same c h) there) (past_there c p i i.residual (put left skip) there) refl refl)

  -- the return is at fault
  pub refused_does : (f : RunFault) → ((c : Config) → StandsForTransactions k.transactions c.transactions → JudgesReturn (Err f) c hop (e c.transactions) t) → b ≡ k.transactions
      → Does k (record k { transactions = b }) (Err f) p (λ c q i r. on_ok (judged_return (passes c q r) hop (e c.transactions) t) (λ y. Ok (store y (back_here c q i r))))
  refused_does f judges same c i h there =
      let first = settled_in c p i.residual in
      let left = settle (arena c) i.residual in
      subst (λ o. Follows (record k { transactions = b }) (Err f) c (on_ok o (λ y. Ok (store y (back_here first p (record i { residual = left }) left))))) (sym (judges (passes first p left) h.transactions))
      (refl, subst (λ x. StandsFor (record k { transactions = x }) c) (sym same) h)

-- ---- the statement that called, and what it gets

-- what a `b_transport` gets
abbrev pub b_handed : Config → ℕ → Instance → Residual → NameUse → Value → Via → Result Config RunFault
b_handed c p i r d delay via =
    on_ok (judged_return (passes c p r) via.hop (BReturn via.payload (complete_now (passes c p r) via.payload)) via.payload) (λ y. Ok (set_name y p (back_here c p i r) d delay))

-- and an `nb_transport`
abbrev pub nb_handed : Config → ℕ → Instance → Residual → Option Target → NameUse → NameUse → Value → Value → Value → Via → Result Config RunFault
nb_handed c p i r target phase d answer step delay via =
    on_ok (judged_return (passes c p r) via.hop (Return via.payload (int_of answer) (int_of step) (complete_now (passes c p r) via.payload)) via.payload) (λ y.
    Ok (stored_if (set_name (set_name y p (back_here c p i r) phase step) p (back_here c p i r) d delay) p (back_here c p i r) target answer))

module _ (l : Kernel) (answer : Result Unit RunFault) (old c : Config) (p : ℕ) (i : Instance) (r : Residual) (x : Frame) (e : Ending) (seen : e ≡ ending_of (arena c) x) where
  pub b_ends : (d : NameUse) → IsBTransport d (calling_statement c x.call)
      → Follows l answer old (via_ends (passes c p r) e.via (b_handed c p i r d (unwrap_or e.first (value.Moment 0)))) → Follows l answer old (leaves_call c p i r x)
  b_ends d called follows =
      subst (λ o. Follows l answer old (handed_back (passes c p r) p (back_here c p i r) x o)) (sym called.is)
      (subst (λ (y : Ending). Follows l answer old (via_ends (passes c p r) y.via (b_handed c p i r d (unwrap_or y.first (value.Moment 0))))) seen follows)

  pub nb_ends : (target : Option Target) (phase d : NameUse) → IsNbTransport target phase d (calling_statement c x.call)
      → Follows l answer old (via_ends (passes c p r) e.via (nb_handed c p i r target phase d e.answer (unwrap_or e.first (value.Int 32 0)) (unwrap_or e.second (value.Moment 0)))) → Follows l answer old (leaves_call c p i r x)
  nb_ends target phase d called follows =
      subst (λ o. Follows l answer old (handed_back (passes c p r) p (back_here c p i r) x o)) (sym called.is)
      (subst (λ (y : Ending). Follows l answer old (via_ends (passes c p r) y.via (nb_handed c p i r target phase d y.answer (unwrap_or y.first (value.Int 32 0)) (unwrap_or y.second (value.Moment 0))))) seen follows)
