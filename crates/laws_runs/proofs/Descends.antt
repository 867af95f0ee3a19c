-- One pass over the parents finds an instance and all that comes of it, the greatest serial first.
use Rattle.std.proofs.Common.{◌≡◌, ◌≢◌, ◌<◌, ◌≤◌, ◌+◌, ◌-◌, ◌==◌, ◌||◌, ◌&&◌, ◌⊎◌, inl, inr, ℕ, zero, suc, Bool, true, false, not, cond, List, [], ◌∷◌, ◌++◌, filter, drop, get_or, slice_get, Option, Some, None, refl, sym, ap, ◌∙◌, subst, arith, ⊎_elim, true≢false}
use Rattle.std.specs.List.{All, AllPairs}
use Rattle.std.proofs.lemmas.Bool.{cases_eq, cases_lt, eq-eqb, eqb-true, ne_eqb, or_cases, or_right, and_parts, and_from}
use Rattle.std.proofs.lemmas.Option.{none-some, same_Some}
use Rattle.std.proofs.lemmas.List.Elements.{All-cons, All-weaker, filter_passes}
use Rattle.std.proofs.lemmas.List.Kept.{AllPairs-cons, AllPairs-filter}
use Rattle.std.proofs.lemmas.List.Quantifiers.{all_pairs_push}
use Rattle.std.proofs.lemmas.List.Folds.{list_any-append, list_any_at}
use Rattle.std.proofs.lemmas.Map.Views.{any-filter_same}
use Rattle.sim_model.specs.Configuration.{Config, Instance, instance_at}
use Rattle.sim_model.specs.Waits.{holds, without}
use Rattle.sim_model.specs.Control.{is_live, found_with, descended, with_descendants, last_if, targets}
use Rattle.sim_model.specs.Clean.{IsLive, CleanProcesses}
use Rattle.laws_runs.specs.Descendants.{ComesOf, child, further, IsFor, StandsBefore}

-- ---- lists

dropped_at : {A : Type 0} (xs : List A) (k i : ℕ) → slice_get xs (k + i) ≡ slice_get (drop k xs) i
dropped_at xs zero i = let e : zero + i ≡ i = omega arith in ap (slice_get xs) e
dropped_at [] (suc k) i = refl
dropped_at (x ∷ xs) (suc k) i = let e : suc k + i ≡ suc (k + i) = omega arith in ap (slice_get (x ∷ xs)) e ∙ dropped_at xs k i

held_here : (xs : List ℕ) (x m : ℕ) → x ≡ m → holds (x ∷ xs) m ≡ true
held_here xs x m same = ap (λ b. b || holds xs m) (eq-eqb x m same)

-- what passes a test that depends on the number alone
held_passing : (f : ℕ → Bool) (xs : List ℕ) (n : ℕ) → holds (filter f xs) n ≡ (f n && holds xs n)
held_passing f xs n = any-filter_same (λ k. k == n) f (f n) (λ k e. ap f (eqb-true k n e)) xs

-- ---- the pass

module _ (parents : List (Option ℕ)) (q : ℕ) where
  abbrev pub OfLine : ℕ → Type 0
  OfLine n = (n ≡ q) ⊎ ComesOf parents q n

  -- of all below k those have been found that are q or come of it
  record Found (k : ℕ) (found : List ℕ) : Type 0 where
    below : All (λ m. m < k) found
    falls : AllPairs (λ n m. m < n) found
    only : (m : ℕ) → holds found m ≡ true → OfLine m
    all : (m : ℕ) → m < k → OfLine m → holds found m ≡ true

  module _ (smaller : (n m : ℕ) → slice_get parents n ≡ Some (Some m) → m < n) where
    pub later : (n : ℕ) → ComesOf parents q n → q < n
    later _ (child n at) = smaller n q at
    later _ (further m n of at) = let a = later m of in let b = smaller n m at in omega (arith, a, b)

    -- the parent of what comes of q is q or comes of it, and is smaller
    record HasParent (n : ℕ) : Type 0 where
      parent : ℕ
      at : slice_get parents n ≡ Some (Some parent)
      less : parent < n
      line : OfLine parent

    parent_of : (n : ℕ) → ComesOf parents q n → HasParent n
    parent_of _ (child n at) = record { parent = q; at = at; less = smaller n q at; line = inl refl }
    parent_of _ (further m n of at) = record { parent = m; at = at; less = smaller n m at; line = inr of }

    skipped : (k : ℕ) (found : List ℕ) → Found k found → (OfLine k → ⊥) → Found (suc k) found
    skipped k found f not_here = record {
      below = All-weaker (λ m. m < k) (λ m. m < suc k) (λ m less. omega (arith, less)) found f.below;
      falls = f.falls;
      only = f.only;
      all = λ m less of. ⊎_elim
          (λ before. f.all m before of)
          (λ after. let e : m ≡ k = omega (arith, less, after) in absurd (not_here (subst OfLine e of)))
          (cases_lt m k);
    }

    taken : (k : ℕ) (found : List ℕ) → Found k found → OfLine k → Found (suc k) (k ∷ found)
    taken k found f here = record {
      below = All-cons (λ m. m < suc k) k found (omega arith) (All-weaker (λ m. m < k) (λ m. m < suc k) (λ m less. omega (arith, less)) found f.below);
      falls = AllPairs-cons (λ n m. m < n) k found f.below f.falls;
      only = λ m held. ⊎_elim (λ same. subst OfLine (eqb-true k m same) here) (λ behind. f.only m behind) (or_cases (k == m) (holds found m) held);
      all = λ m less of. ⊎_elim
          (λ before. or_right (k == m) (holds found m) (f.all m before of))
          (λ after. held_here found k m (omega (arith, less, after)))
          (cases_lt m k);
    }

    module _ (k : ℕ) (found : List ℕ) (after : q < k) (f : Found k found) where
      no_line : ((p : ℕ) → slice_get parents k ≡ Some (Some p) → holds found p ≡ true → ⊥) → OfLine k → ⊥
      no_line apart (inl same) = omega (arith, same, after)
      no_line apart (inr of) = let h = parent_of k of in apart h.parent h.at (f.all h.parent h.less h.line)

      line_by : (p : ℕ) → slice_get parents k ≡ Some (Some p) → OfLine p → OfLine k
      line_by p at (inl same) = inr (child k (at ∙ ap (λ n. Some (Some n)) same))
      line_by p at (inr of) = inr (further p k of at)

      one_more : (parent : Option ℕ) → slice_get parents k ≡ Some parent → Found (suc k) (found_with k parent found)
      one_more None at = skipped k found f (no_line (λ p is held. none-some p (same_Some None (Some p) (sym at ∙ is))))
      one_more (Some p) at = by (holds found p) refl
        where
          by : (b : Bool) → holds found p ≡ b → Found (suc k) (cond b (k ∷ found) found)
          by true held = taken k found f (line_by p at (f.only p held))
          by false free = skipped k found f (no_line (λ o is held.
              let same : o ≡ p = same_Some o p (same_Some (Some o) (Some p) (sym is ∙ at)) in
              true≢false (sym held ∙ ap (holds found) same ∙ free)))

    -- of all those have been found that are q or come of it
    pub record Whole (found : List ℕ) : Type 0 where
      pub falls : AllPairs (λ n m. m < n) found
      pub only : (m : ℕ) → holds found m ≡ true → OfLine m
      pub all : (m : ℕ) → OfLine m → holds found m ≡ true

    -- the rest of the parents, from k on
    abbrev StandsFrom : ℕ → List (Option ℕ) → Type 0
    StandsFrom k rest = (i : ℕ) → slice_get parents (k + i) ≡ slice_get rest i

    walked : (rest : List (Option ℕ)) (k : ℕ) (found : List ℕ) → StandsFrom k rest → q < k → Found k found → Whole (descended k rest found)
    walked [] k found left after f = record {
      falls = f.falls;
      only = f.only;
      all = λ m of. ⊎_elim (λ before. f.all m before of) (λ behind. absurd (none_behind m behind of)) (cases_lt m k);
    }
      where
        none_behind : (m : ℕ) → k ≤ m → OfLine m → ⊥
        none_behind m behind (inl same) = omega (arith, same, after, behind)
        none_behind m behind (inr of) =
            let h = parent_of m of in
            let e : k + (m - k) ≡ m = omega (arith, behind) in
            none-some (Some h.parent) (sym (left (m - k)) ∙ ap (slice_get parents) e ∙ h.at)
    walked (parent ∷ rest) k found left after f =
        let e : k ≡ k + 0 = omega arith in
        walked rest (suc k) (found_with k parent found)
        (λ i. let next : suc k + i ≡ k + suc i = omega arith in ap (slice_get parents) next ∙ left (suc i))
        (omega (arith, after))
        (one_more k found after f parent (ap (slice_get parents) e ∙ left 0))

    first : Found (suc q) (q ∷ [])
    first = record {
      below = All-cons (λ m. m < suc q) q [] (omega arith) (λ k d less. absurd (omega (arith, less)));
      falls = AllPairs-cons (λ n m. m < n) q [] (λ k d less. absurd (omega (arith, less))) (λ i j d one two. absurd (omega (arith, two)));
      only = λ m held. ⊎_elim (λ same. inl (sym (eqb-true q m same))) (λ none. absurd (true≢false (sym none))) (or_cases (q == m) false held);
      all = λ m less of. ⊎_elim (λ same. held_here [] q m (sym same)) (λ comes. let more = later m comes in absurd (omega (arith, more, less))) of;
    }

    pub whole : Whole (with_descendants parents q)
    whole = walked (drop (suc q) parents) (suc q) (q ∷ []) (dropped_at parents (suc q)) (omega arith) first

-- ---- the caller last

module _ (p : ℕ) (xs : List ℕ) where
  held_last : (n : ℕ) → holds (last_if xs p) n ≡ holds xs n
  held_last n = by (holds xs p) refl
    where
      moved : holds xs p ≡ true → (e : (n ≡ p) ⊎ (n ≡ p → ⊥)) → ((not (n == p) && holds xs n) || ((p == n) || false)) ≡ holds xs n
      moved has (inl same) =
          ap (λ b. (not b && holds xs n) || ((p == n) || false)) (eq-eqb n p same) ∙ ap (λ b. b || false) (eq-eqb p n (sym same))
          ∙ sym has ∙ ap (holds xs) (sym same)
      moved has (inr apart) =
          ap (λ b. (not b && holds xs n) || ((p == n) || false)) (ne_eqb n p apart)
          ∙ ap (λ b. holds xs n || (b || false)) (ne_eqb p n (λ e. apart (sym e))) ∙ no_more (holds xs n)
        where
          no_more : (b : Bool) → (b || (false || false)) ≡ b
          no_more true = refl
          no_more false = refl

      by : (b : Bool) → holds xs p ≡ b → holds (cond b (without xs p ++ p ∷ []) xs) n ≡ holds xs n
      by true has =
          list_any-append (λ x. x == n) (without xs p) (p ∷ [])
          ∙ ap (λ b. b || ((p == n) || false)) (held_passing (λ x. not (x == p)) xs n)
          ∙ moved has (cases_eq n p)
      by false has = refl

  ordered_last : AllPairs (λ n m. m < n) xs → AllPairs (StandsBefore p) (last_if xs p)
  ordered_last falls = by (holds xs p) refl
    where
      others : All (λ n. n ≢ p) (without xs p)
      others = All-weaker (λ n. not (n == p) ≡ true) (λ n. n ≢ p)
          (λ n other same. true≢false (sym other ∙ ap not (eq-eqb n p same)))
          (without xs p) (filter_passes (λ x. not (x == p)) xs)

      by : (b : Bool) → holds xs p ≡ b → AllPairs (StandsBefore p) (cond b (without xs p ++ p ∷ []) xs)
      by true has =
          all_pairs_push (StandsBefore p) (without xs p) p
          (λ i j d less within.
          (others i d (omega (arith, less, within)), inr (AllPairs-filter (λ n m. m < n) (λ x. not (x == p)) xs falls i j d less within)))
          (λ k d within. (others k d within, inl refl))
      by false lacks = λ i j d less within. (
        (λ same. true≢false (sym (list_any_at (λ x. x == p) xs i d (omega (arith, less, within)) (eq-eqb (get_or xs i d) p same)) ∙ lacks)),
        inr (falls i j d less within),
      )

-- ---- the targets

live_at : (c : Config) (n : ℕ) (o : Option Instance) → instance_at c n ≡ o → is_live o ≡ true → IsLive c.processes n
live_at c n None at live = absurd (true≢false (sym live))
live_at c n (Some i) at live = record { instance = i; made = at; lives = alive i.ended live }
  where
    alive : (b : Bool) → not b ≡ true → b ≡ false
    alive true e = sym e
    alive false e = refl

at_live : (c : Config) (n : ℕ) → IsLive c.processes n → is_live (instance_at c n) ≡ true
at_live c n live = ap is_live live.made ∙ ap not live.lives

module _ (c : Config) (clean : CleanProcesses c.processes) where
  abbrev living : ℕ → Bool
  living n = is_live (instance_at c n)

  module _ (q p : ℕ) where
    abbrev family : List ℕ
    family = with_descendants c.processes.parents q

    line : Whole c.processes.parents q clean.parents family
    line = whole c.processes.parents q clean.parents

    pub only-reached : (n : ℕ) → holds (targets c q p) n ≡ true → IsFor c q n
    only-reached n = by (living q) refl
      where
        by : (b : Bool) → living q ≡ b → holds (cond b (last_if (filter living family) p) []) n ≡ true → IsFor c q n
        by false over held = absurd (true≢false (sym held))
        by true live held =
            let parts = and_parts (living n) (holds family n) (sym (held_passing living family n) ∙ sym (held_last p (filter living family) n) ∙ held) in
            record { target_lives = live_at c q (instance_at c q) refl live; lives = live_at c n (instance_at c n) refl parts.0; comes = line.only n parts.1 }

    pub all-reached : (n : ℕ) → IsFor c q n → holds (targets c q p) n ≡ true
    all-reached n for =
        ap (λ b. holds (cond b (last_if (filter living family) p) []) n) (at_live c q for.target_lives)
        ∙ held_last p (filter living family) n
        ∙ held_passing living family n
        ∙ and_from (living n) (holds family n) (at_live c n for.lives) (line.all n for.comes)

    pub ordered-targets : AllPairs (StandsBefore p) (targets c q p)
    ordered-targets = by (living q)
      where
        by : (b : Bool) → AllPairs (StandsBefore p) (cond b (last_if (filter living family) p) [])
        by true = ordered_last p (filter living family) (AllPairs-filter (λ n m. m < n) living family line.falls)
        by false = λ i j d less within. absurd (omega (arith, within))

  pub later-line : (q n : ℕ) → ComesOf c.processes.parents q n → q < n
  later-line q n of = later c.processes.parents q clean.parents n of
