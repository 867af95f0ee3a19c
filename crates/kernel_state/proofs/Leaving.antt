-- The transport calls that an unwinding leaves.
use Rattle.std.proofs.Common.{◌≡◌, ◌<◌, ◌+◌, ℕ, zero, suc, List, [], ◌∷◌, ◌++◌, take, length, slice_get, Option, Some, None, refl, sym, ap, ◌∙◌, subst, arith, true≢false}
use Rattle.std.specs.Prelude.{is_some, unwrap_or}
use Rattle.std.specs.FinMap as map
use Rattle.kernel_processes.specs.InstanceTable.declared.instances.Instance.{Instance as Entry}
use Rattle.kernel_processes.specs.FlatDesign.Code.{Arena, arena_of}
use Rattle.process_bodies.proofs.KernelBodies.Strips.{strip-left_by_unw}
use Rattle.kernel_processes.specs.SimModel.Unwinding.{left_by_unw}
use Rattle.kernel_processes.specs.SimModel.Configuration.{Config, Instance, instance_at}
use Rattle.kernel_processes.specs.SimModel.Calls.{with_left}
use Rattle.kernel_processes.specs.SimModel.declared.plain.Via.{Via}
use Rattle.process_bodies.specs.Bodies.{left_of, left_in}
use Rattle.kernel_processes.specs.declared.parts.Process.{Process}
use Rattle.kernel_transactions.specs.Board as board
use Rattle.kernel_transactions.specs.Board.{StandsForTransactions, SameQuantum, left}
use Rattle.kernel_transactions.specs.declared.TransactionBoard.{TransactionBoard}
use Rattle.kernel_state.specs.Kernel.{StandsFor}
use Rattle.kernel_state.specs.Moves.{MovesAt}
use Rattle.kernel_state.specs.declared.kernel.Kept.{Kept}
use Rattle.kernel_state.specs.declared.kernel.Kernel.{Kernel}
use Rattle.kernel_state.proofs.Frames.{transactions_move, left_before}

-- ---- one of a list after another

pub here_below : {A : Type 0} (xs : List A) (n : ℕ) (x : A) → slice_get xs n ≡ Some x → n < length xs
here_below [] n x at = absurd (true≢false (ap is_some (sym at)))
here_below (y ∷ xs) zero x at = omega arith
here_below (y ∷ xs) (suc n) x at = let below = here_below xs n x at in omega (arith, below)

take-more : {A : Type 0} (xs : List A) (n : ℕ) (x : A) → slice_get xs n ≡ Some x → take (suc n) xs ≡ take n xs ++ x ∷ []
take-more [] n x at = absurd (true≢false (ap is_some (sym at)))
take-more (y ∷ xs) zero x at = ap (λ o. unwrap_or o y ∷ []) at
take-more (y ∷ xs) (suc n) x at = ap (λ ys. y ∷ ys) (take-more xs n x at)

one_more : (n : ℕ) → n + 1 ≡ suc n
one_more n = omega arith

pub one_more_taken : {A : Type 0} (xs : List A) (n : ℕ) (x : A) → slice_get xs n ≡ Some x → take (n + 1) xs ≡ take n xs ++ x ∷ []
one_more_taken xs n x at = ap (λ m. take m xs) (one_more n) ∙ take-more xs n x at

pub all_taken : {A : Type 0} (xs : List A) (n : ℕ) → slice_get xs n ≡ None → take n xs ≡ xs
all_taken [] zero none = refl
all_taken [] (suc n) none = refl
all_taken (x ∷ xs) zero none = absurd (true≢false (ap is_some none))
all_taken (x ∷ xs) (suc n) none = ap (λ ys. x ∷ ys) (all_taken xs n none)

-- ---- those of an instance

-- such calls change the transactions of a configuration alone
abbrev pub LeftCallsEnd : Type 0
LeftCallsEnd = (c : Config) (vias : List Via) → with_left c vias ≡ record c { transactions = left c.transactions vias }

module _ (k : Kernel) (p : ℕ) (x : Entry (Process Kept)) (at : map.get k.schedule.table.live p ≡ Some x) (b : TransactionBoard)
    (moves : (a : Arena) → board.Moves k.transactions b (λ y. left y (left_by_unw (left_of a x.body.body.body)))) (same : SameQuantum k.transactions b) (calls : LeftCallsEnd) where
  same_calls : (c : Config) (i : Instance) → StandsFor k c → instance_at c p ≡ Some i → left_by_unw (left_in k.program.now x.body.body.body) ≡ left_by_unw i.residual
  same_calls c i h there = sym (ap left_by_unw (left_before k p x at c i h there)) ∙ strip-left_by_unw i.residual

  pub left_moves : MovesAt k (record k { transactions = b }) p (λ c i. with_left c (left_by_unw i.residual))
  left_moves c i h there = subst (StandsFor (record k { transactions = b })) (sym (calls c (left_by_unw i.residual)))
      (transactions_move k c h b (left c.transactions (left_by_unw i.residual))
      (subst (λ vs. StandsForTransactions b (left c.transactions vs)) (same_calls c i h there) (moves (arena_of k.program.now.code) c.transactions h.transactions)) same)
