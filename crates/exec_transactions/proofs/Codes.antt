-- Entries that do the same to a history: codes of other numbers that are the same phases and answers.
use Rattle.std.proofs.Common.{◌≡◌, ◌==◌, ℕ, ℤ, Bool, List, [], ◌∷◌, ◌++◌, slice_get, Option, Some, None, Result, Ok, Err, option_map, refl, sym, ap, ◌∙◌, subst, ⊎_elim}
use Rattle.std.specs.Prelude.{if◌then◌else◌}
use Rattle.std.proofs.lemmas.Bool.{cases_eq}
use Rattle.exec_calls.specs.TransportPhases.declared.phases.Path.{Path}
use Rattle.exec_calls.specs.TransportPhases.declared.phases.Rule.{Rule}
use Rattle.exec_calls.specs.TransportPhases.declared.transaction.Kept.{Kept}
use Rattle.exec_calls.specs.TransportPhases.Phases.{phase_of, answer_of, fresh, called, returned, first_broken, call_rules, return_rules}
use Rattle.exec_calls.specs.TransportPhases.Rows.{Rows, row_of}
use Rattle.exec_calls.specs.TransportPhases.History.{Entry, Call, Return, transaction, after_entry, kept_from, kept_of, state_of, other_requests, other_responds, broken}
use Rattle.flat_design.specs.declared.faults.RunFault.{RunFault}
use Rattle.exec_calls.specs.SimModel.Values.{on_ok}
use Rattle.exec_calls.specs.SimModel.Configuration.{Config, Transactions, change}
use Rattle.exec_calls.specs.SimModel.Calls.{with_entry}
use Rattle.exec_calls.specs.SimModel.Transport.{history, judged_by, for_freed}
use Rattle.exec_calls.proofs.KernelProcesses.Wakes.{change-here, change-other}
use Rattle.exec_calls.specs.KernelTransactions.Board.{StandsForTransactions, entered}
use Rattle.exec_calls.specs.KernelTransactions.Hops.{StandsForHop, StandsForHops}
use Rattle.exec_calls.specs.KernelTransactions.Answers.{Judges, JudgesReturn}
use Rattle.exec_calls.specs.KernelTransactions.declared.TransactionBoard.{TransactionBoard}

module _ (e f : Entry) (who : transaction e ≡ transaction f) (does : (k : Kept) → after_entry e k ≡ after_entry f k) where
  kept_same : (t : ℕ) (h : List Entry) (k : Kept) → kept_from t k (h ++ e ∷ []) ≡ kept_from t k (h ++ f ∷ [])
  kept_same t [] k = ap (λ n. if n == t then after_entry e k else k) who ∙ ap (λ (x : Kept). if transaction f == t then x else k) (does k)
  kept_same t (x ∷ h) k = kept_same t h (if transaction x == t then after_entry x k else k)

  hop_same : (r : Option Rows) (o : Option (List Entry)) → StandsForHop r (option_map (λ h. h ++ e ∷ []) o) → StandsForHop r (option_map (λ h. h ++ f ∷ []) o)
  hop_same None None stands = stands
  hop_same None (Some h) stands = stands
  hop_same (Some rows) None stands = stands
  hop_same (Some rows) (Some h) stands = λ t. stands t ∙ ap row_of (kept_same t h fresh)

  hops_same : (rows : List Rows) (hs : List (List Entry)) (hop : ℕ) → StandsForHops rows (change hs hop (λ h. h ++ e ∷ [])) → StandsForHops rows (change hs hop (λ h. h ++ f ∷ []))
  hops_same rows hs hop stands n = ⊎_elim
      (λ same. subst (λ m. StandsForHop (slice_get rows m) (slice_get (change hs hop (λ h. h ++ f ∷ [])) m)) (sym same)
      (subst (StandsForHop (slice_get rows hop)) (sym (change-here hs hop (λ h. h ++ f ∷ [])))
      (hop_same (slice_get rows hop) (slice_get hs hop) (subst (StandsForHop (slice_get rows hop)) (change-here hs hop (λ h. h ++ e ∷ [])) (stands hop)))))
      (λ apart. subst (StandsForHop (slice_get rows n)) (change-other hs hop n (λ h. h ++ e ∷ []) apart ∙ sym (change-other hs hop n (λ h. h ++ f ∷ []) apart)) (stands n))
      (cases_eq n hop)

  pub entered_same : (b : TransactionBoard) (x : Transactions) (hop : ℕ) → StandsForTransactions b (entered x hop e) → StandsForTransactions b (entered x hop f)
  entered_same b x hop stands = record { payloads = stands.payloads; hops = hops_same b.hops x.hops hop stands.hops }

-- they break the same rule
module _ (c : Config) (hop t : ℕ) (e f : Entry) (same : broken (history c hop) e ≡ broken (history c hop) f) where
  judged_by_same : (answer : Result Unit RunFault) (o : Option Rule) → judged_by c hop e t o ≡ on_ok answer (λ ok. Ok (with_entry c hop e)) → judged_by c hop f t o ≡ on_ok answer (λ ok. Ok (with_entry c hop f))
  judged_by_same (Ok u) None is = refl
  judged_by_same (Err g) None is = absurd cc
  judged_by_same (Ok u) (Some p) is = absurd cc
  judged_by_same (Err g) (Some p) is = is

  pub judged_same : (answer : Result Unit RunFault) → Judges answer c hop e t → Judges answer c hop f t
  judged_same answer is = ap (judged_by c hop f t) (sym same) ∙ judged_by_same answer (broken (history c hop) e) is

  returned_by_same : (answer : Result Unit RunFault) (o : Option Rule) → for_freed c t (judged_by c hop e t o) ≡ on_ok answer (λ ok. Ok (with_entry c hop e))
      → for_freed c t (judged_by c hop f t o) ≡ on_ok answer (λ ok. Ok (with_entry c hop f))
  returned_by_same (Ok u) None is = refl
  returned_by_same (Err g) None is = absurd cc
  returned_by_same (Ok u) (Some p) is = absurd cc
  returned_by_same (Err g) (Some p) is = is

  pub returned_same : (answer : Result Unit RunFault) → JudgesReturn answer c hop e t → JudgesReturn answer c hop f t
  returned_same answer is = ap (λ o. for_freed c t (judged_by c hop f t o)) (sym same) ∙ returned_by_same answer (broken (history c hop) e) is

-- ---- calls whose phases are the same

module _ (t : ℕ) (path : Path) (a b : ℤ) (complete handled : Bool) (same : phase_of a ≡ phase_of b) where
  pub call_does : (k : Kept) → after_entry (Call t path a complete handled) k ≡ after_entry (Call t path b complete handled) k
  call_does k = ap (called k) same

  pub call_breaks : (h : List Entry) → broken h (Call t path a complete handled) ≡ broken h (Call t path b complete handled)
  call_breaks h = ap (λ x. first_broken (call_rules (kept_of h t) (other_requests h t) (other_responds h t) path x complete handled)) same

-- ---- returns whose answers and phases are the same

module _ (t : ℕ) (s r a b : ℤ) (complete : Bool) (answers : answer_of s ≡ answer_of r) (same : phase_of a ≡ phase_of b) where
  pub return_does : (k : Kept) → after_entry (Return t s a complete) k ≡ after_entry (Return t r b complete) k
  return_does k = ap (λ x. returned k x (phase_of a)) answers ∙ ap (returned k (answer_of r)) same

  pub return_breaks : (h : List Entry) → broken h (Return t s a complete) ≡ broken h (Return t r b complete)
  return_breaks h = ap (λ x. first_broken (return_rules (state_of h t) (other_responds h t) x (phase_of a) complete)) answers
      ∙ ap (λ x. first_broken (return_rules (state_of h t) (other_responds h t) (answer_of r) x complete)) same
