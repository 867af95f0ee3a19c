use Rattle.std.proofs.Common.{◌≡◌, ◌+◌, ◌++◌, ℕ, zero, suc, Bool, true, false, cond, not, List, [], ◌∷◌, Option, Some, None, length, set, drop, slice_get, refl, sym, ap, ◌∙◌, arith, eq-eqb, eqb-true, true≢false}
use Rattle.std.specs.Prelude.{option_map, ◌==◌}
use Rattle.std.proofs.lemmas.Bool.{not-false}
use Rattle.kernel_events.specs.LogicValues.declared.kinds.Value.{Value}
use Rattle.kernel_events.specs.FifoSync.Fifos.{Queued, available, free, readable, after_read, after_write}
use Rattle.kernel_events.specs.FifoSync.Locks.{is_unlocked, is_owner, locked_by, unlocked_by, is_used_up}
use Rattle.kernel_events.specs.SimModel.Configuration.{change, changed_at}
use Rattle.kernel_events.specs.SimModel.Channels.{taken_from}
use Rattle.kernel_channels.proofs.laws.what_is_not_done_changes_nothing.Goals as goal

-- what is written again is as it was
same_there : {A : Type 0} (xs : List A) (n : ℕ) (x : A) → slice_get xs n ≡ Some x → set xs n x ≡ xs
same_there [] n x is = refl
same_there (y ∷ xs) zero x is = let same : y ≡ x = cc in ap (λ z. z ∷ xs) (sym same)
same_there (y ∷ xs) (suc n) x is = ap (λ zs. y ∷ zs) (same_there xs n x is)

-- where the answer says that nothing was done, and then the call changes nothing
module _ {A B : Type 0} (f : A → A) (answer : A → B) (no : B) (stays : (x : A) → answer x ≡ no → f x ≡ x) where
  unchanged : (xs : List A) (n : ℕ) → option_map answer (slice_get xs n) ≡ Some no → change xs n f ≡ xs
  unchanged xs n is = by_case (slice_get xs n) refl is
    where
      by_case : (o : Option A) → slice_get xs n ≡ o → option_map answer o ≡ Some no → changed_at xs n f o ≡ xs
      by_case None at told = refl
      by_case (Some x) at told =
          let same : answer x ≡ no = cc in
          ap (λ y. set xs n y) (stays x same) ∙ same_there xs n x at

none_read : (q : Queued) → readable q ≡ None → after_read q ≡ q
none_read q is = by_test (available q == 0) refl is
  where
    first : (vs : List Value) → slice_get vs 0 ≡ None → length vs ≡ 0
    first [] none = refl
    first (v ∷ vs) none = absurd cc

    by_test : (b : Bool) → (available q == 0) ≡ b → cond b None (slice_get q.unread 0) ≡ None → cond b q (record q { unread = drop 1 q.unread; read = q.read + 1 }) ≡ q
    by_test true at told = refl
    by_test false at told = absurd (true≢false (sym (nothing_there (first q.unread told)) ∙ at))
      where
        nothing_there : length q.unread ≡ 0 → (available q == 0) ≡ true
        nothing_there none = eq-eqb (available q) 0 (omega (arith, none))

none_written : (v : Value) (q : Queued) → not (free q == 0) ≡ false → after_write q v ≡ q
none_written v q is = ap (λ b. cond b q (record q { unread = q.unread ++ v ∷ []; written = q.written + 1 })) (not-false (free q == 0) is)

not_locked : (p : ℕ) (m : Option ℕ) → is_unlocked m ≡ false → locked_by p m ≡ m
not_locked p None is = absurd (true≢false is)
not_locked p (Some owner) is = refl

not_unlocked : (p : ℕ) (m : Option ℕ) → is_owner p m ≡ false → unlocked_by p m ≡ m
not_unlocked p m is = ap (λ b. cond b None m) is

none_taken : (v : ℕ) → not (is_used_up v) ≡ false → taken_from v ≡ v
none_taken v is = let none : v ≡ 0 = eqb-true v 0 (not-false (is_used_up v) is) in omega (arith, none)

pub returns-clause-read : goal.returns-clause-read
returns-clause-read c = unchanged after_read readable None none_read

pub returns-clause-write : goal.returns-clause-write
returns-clause-write c = λ qs n v. unchanged (λ q. after_write q v) (λ q. not (free q == 0)) false (none_written v) qs n

pub returns-clause-lock : goal.returns-clause-lock
returns-clause-lock c = λ ms n p. unchanged (locked_by p) is_unlocked false (not_locked p) ms n

pub returns-clause-unlock : goal.returns-clause-unlock
returns-clause-unlock c = λ ms n p. unchanged (unlocked_by p) (is_owner p) false (not_unlocked p) ms n

pub returns-clause-wait : goal.returns-clause-wait
returns-clause-wait c = unchanged taken_from (λ v. not (is_used_up v)) false none_taken
