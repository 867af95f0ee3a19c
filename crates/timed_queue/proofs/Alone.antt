-- What a queue shows whose only name is kept beside the others, and what each change makes of it.
use Rattle.std.proofs.Common.{◌≡◌, ◌≢◌, ◌⊎◌, ℕ, ◌+◌, ◌-◌, ◌<◌, Bool, true, false, cond, List, [], ◌∷◌, ◌++◌, Option, None, Some, refl, sym, ap, ◌∙◌, subst, ⊎_elim, arith, eq-eqb, ne_eqb, true≢false}
use Rattle.std.specs.Prelude.{is_some, ◌==◌, count_by}
use Rattle.std.proofs.lemmas.Bool.{cases_eq, eqb-true}
use Rattle.std.proofs.lemmas.List.{append-nil}
use Rattle.std.proofs.lemmas.List.Sums.{sum_by-cons}
use Rattle.std.specs.List.Sorted.{IsSorted}
use Rattle.std.specs.Ordering.{nat_cmp}
use Rattle.std.specs.Cmp.{nat_cmp_total}
use Rattle.std.specs.FinMap as maps
use Rattle.sim_time.specs.declared.moments.Time.{Time}
use Rattle.timed_queue.specs.Timed.{Timed, is_at, is_due, due_at, without_due, with_time, IsEarliest, AddsEach}
use Rattle.timed_queue.specs.Timed as timed
use Rattle.timed_queue.specs.declared.Only.{Only}
use Rattle.timed_queue.specs.Alone.{with_only, IsAlone, MayBeAlone}
use Rattle.timed_queue.proofs.MapLemmas.{same_gets, get-inserted, get-removed}
use Rattle.timed_queue.proofs.Due.{left_none, left_one, none_due, once-due_at, len-due_at}
use Rattle.timed_queue.proofs.SortLaws.{sorted_keys}

-- ---- the only name as it is kept

pub shown_alone : {o : Option Only} {v : Timed} {e : Only} (q : Timed) → o ≡ Some e → with_only o q ≡ v → with_time q e.name e.time ≡ v
shown_alone q is view = ap (λ o. with_only o q) (sym is) ∙ view

pub is_alone : {o : Option Only} {e : Only} (q : Timed) → o ≡ Some e → MayBeAlone o q → IsAlone q
is_alone q is alone = subst (λ o. MayBeAlone o q) is alone

pub becomes_alone : {o : Option Only} {v : Timed} (q : Timed) (name : ℕ) → o ≡ None → with_only o q ≡ v → maps.len q.times ≡ 0 → (maps.contains_key v.times name ≡ true) ⊎ (0 < v.spare) → IsAlone q
becomes_alone {v = v} q name is view none room =
    let same : q ≡ v = ap (λ o. with_only o q) (sym is) ∙ view in
    let empty : q.times ≡ maps.empty = maps.empty_of_len q.times none in
    record {
      none = empty;
      room = ⊎_elim
          (λ there. absurd (true≢false (sym there ∙ ap (λ (w : Timed). maps.contains_key w.times name) (sym same) ∙ ap is_some (ap (λ m. maps.get m name) empty ∙ maps.get-empty nat_cmp name))))
          (λ some. subst (λ (w : Timed). 0 < w.spare) (sym same) some)
          room;
    }

-- where no name passes the test, none is added
pub adds_none : (old : List ℕ) (test : ℕ → Bool) → ((p : ℕ) → test p ≡ false) → AddsEach old old test
adds_none old test none = record { added = []; behind = sym (append-nil old); once = λ p. sym (ap (λ b. cond b 1 0) (none p)) }

-- a name that is not there is taken out without a change
pub without_absent : (q : Timed) (name : ℕ) → maps.contains_key q.times name ≡ false → q ≡ timed.without q name
without_absent q name none = λ i. record {
  times = same_gets (maps.remove q.times name) q.times (λ p. sym (get-removed q.times name p ∙ gone p (p == name) refl)) i;
  spare = sym (ap (λ b. cond b (q.spare + 1) q.spare) none) i;
}
  where
    nothing : (o : Option Time) → is_some o ≡ false → None ≡ o
    nothing None h = refl
    nothing (Some u) h = absurd (true≢false h)

    gone : (p : ℕ) (b : Bool) → (p == name) ≡ b → cond b None (maps.get q.times p) ≡ maps.get q.times p
    gone p true is = nothing (maps.get q.times p) (ap (λ k. is_some (maps.get q.times k)) (eqb-true p name is) ∙ none)
    gone p false is = refl

module _ (q : Timed) (alone : IsAlone q) (n : ℕ) (t : Time) where
  abbrev lone : Timed
  lone = with_time q n t

  get-none : (p : ℕ) → maps.get q.times p ≡ None
  get-none p = ap (λ m. maps.get m p) alone.none ∙ maps.get-empty nat_cmp p

  get-alone : (p : ℕ) → maps.get lone.times p ≡ cond (p == n) (Some t) None
  get-alone p = get-inserted q.times n t p ∙ ap (λ o. cond (p == n) (Some t) o) (get-none p)

  pub get_here : (p : ℕ) → p ≡ n → maps.get lone.times p ≡ Some t
  get_here p same = get-alone p ∙ ap (λ b. cond b (Some t) None) (eq-eqb p n same)

  get_other : (p : ℕ) → p ≢ n → maps.get lone.times p ≡ None
  get_other p apart = get-alone p ∙ ap (λ b. cond b (Some t) None) (ne_eqb p n apart)

  has_none : (p : ℕ) → maps.contains_key q.times p ≡ false
  has_none p = ap is_some (get-none p)

  pub has_it : (p : ℕ) → p ≡ n → maps.contains_key lone.times p ≡ true
  has_it p same = ap is_some (get_here p same)

  pub has_no_other : (p : ℕ) → p ≢ n → maps.contains_key lone.times p ≡ false
  has_no_other p apart = ap is_some (get_other p apart)

  pub spare-alone : lone.spare ≡ q.spare - 1
  spare-alone = ap (λ b. cond b q.spare (q.spare - 1)) (has_none n)

  pub len-alone : maps.len lone.times ≡ 1
  len-alone = maps.len-insert nat_cmp_total q.times n t ∙ ap (λ b. cond b (maps.len q.times) (maps.len q.times + 1)) (has_none n) ∙ ap (λ m. maps.len m + 1) alone.none ∙ ap (λ k. k + 1) (maps.len-empty nat_cmp Time)

  pub renewed : (u : Time) → with_time q n u ≡ with_time lone n u
  renewed u = λ i. record {
    times = same_gets (maps.insert lone.times n u) (maps.insert q.times n u) (λ p.
        get-inserted q.times n u p ∙ again p (p == n) refl ∙ sym (get-inserted lone.times n u p)) i;
    spare = sym (ap (λ b. cond b lone.spare (lone.spare - 1)) (has_it n refl)) i;
  }
    where
      again : (p : ℕ) (b : Bool) → (p == n) ≡ b → cond b (Some u) (maps.get q.times p) ≡ cond b (Some u) (maps.get lone.times p)
      again p true is = refl
      again p false is = get-none p ∙ sym (get-alone p ∙ ap (λ b. cond b (Some t) None) is)

  pub cleared : q ≡ timed.without lone n
  cleared = λ i. record {
    times = same_gets (maps.remove lone.times n) q.times (λ p. get-none p ∙ sym (get-removed lone.times n p ∙ gone p (p == n) refl)) i;
    spare = sym again i;
  }
    where
      gone : (p : ℕ) (b : Bool) → (p == n) ≡ b → cond b None (maps.get lone.times p) ≡ None
      gone p true is = refl
      gone p false is = get-alone p ∙ ap (λ b. cond b (Some t) None) is

      again : cond (maps.contains_key lone.times n) (lone.spare + 1) lone.spare ≡ q.spare
      again = let room = alone.room in ap (λ b. cond b (lone.spare + 1) lone.spare) (has_it n refl) ∙ ap (λ k. k + 1) spare-alone ∙ omega (arith, room)

  some_same : {A : Type 0} {x y : A} → Some x ≡ Some y → x ≡ y
  some_same h = cc

  pub time_here : (name : ℕ) (other : Time) → maps.get lone.times name ≡ Some other → t ≡ other
  time_here name other e = ⊎_elim
      (λ (same : name ≡ n). some_same (sym (get_here name same) ∙ e))
      (λ (apart : name ≢ n). let no : None ≡ Some other = sym (get_other name apart) ∙ e in cc)
      (cases_eq name n)

  pub earliest-alone : IsEarliest lone.times t
  earliest-alone = record {
    held = (n, get_here n refl);
    least = λ name other e. let same : t.0 ≡ other.0 = ap (λ (u : Time). u.0) (time_here name other e) in omega (arith, same);
  }

  pub some_there : lone.times ≡ maps.empty → ⊥
  some_there none = let no : None ≡ Some t = sym (maps.get-empty nat_cmp n) ∙ ap (λ m. maps.get m n) (sym none) ∙ get_here n refl in cc

  -- ---- what is due

  module _ (u : Time) where
    pub due_alone : t.0 ≡ u.0 → (p : ℕ) → is_due lone.times u p ≡ (p == n)
    due_alone at p = ap (is_at u) (get-alone p) ∙ by_test (p == n)
      where
        by_test : (b : Bool) → is_at u (cond b (Some t) None) ≡ b
        by_test true = eq-eqb t.0 u.0 at
        by_test false = refl

    pub none_alone : t.0 ≢ u.0 → (p : ℕ) → is_due lone.times u p ≡ false
    none_alone apart p = ap (is_at u) (get-alone p) ∙ by_test (p == n)
      where
        by_test : (b : Bool) → is_at u (cond b (Some t) None) ≡ false
        by_test true = ne_eqb t.0 u.0 apart
        by_test false = refl

    module _ (at : t.0 ≡ u.0) where
      due_itself : is_due lone.times u n ≡ true
      due_itself = due_alone at n ∙ eq-eqb n n refl

      pub left_alone : q ≡ without_due lone u
      left_alone =
          sym (left_none q u (none_due q.times u (ap maps.len alone.none ∙ maps.len-empty nat_cmp Time)))
          ∙ ap (λ r. without_due r u) cleared ∙ left_one lone u n due_itself

      counted : (p : ℕ) → count_by (λ x. x == p) (n ∷ []) ≡ cond (is_due lone.times u p) 1 0
      counted p =
          sum_by-cons (λ x. cond (x == p) 1 0) n [] ∙ ⊎_elim
          (λ (same : n ≡ p). ap (λ b. cond b 1 0 + 0) (eq-eqb n p same) ∙ sym (ap (λ b. cond b 1 0) (due_alone at p ∙ eq-eqb p n (sym same))))
          (λ (apart : n ≢ p). ap (λ b. cond b 1 0 + 0) (ne_eqb n p apart) ∙ sym (ap (λ b. cond b 1 0) (due_alone at p ∙ ne_eqb p n (λ e. apart (sym e)))))
          (cases_eq n p)

      pub adds_alone : (old new : List ℕ) → new ≡ old ++ n ∷ [] → AddsEach old new (is_due lone.times u)
      adds_alone old new behind = record { added = n ∷ []; behind = behind; once = counted }

      one_sorted : IsSorted nat_cmp (n ∷ [])
      one_sorted = λ k d low high. absurd (omega (arith, high))

      pub keys_alone : n ∷ [] ≡ maps.keys (due_at lone.times u)
      keys_alone = sorted_keys (due_at lone.times u) (n ∷ []) one_sorted (λ p. counted p ∙ sym (once-due_at lone.times u p))

      pub one_due : 0 < maps.len (due_at lone.times u)
      one_due = let e = len-due_at lone.times u n due_itself in omega (arith, e)
