-- Marked modules: they have the module at a place, and all that have it are marked.
use Rattle.std.proofs.Common.{◌≡◌, ◌<◌, ◌≤◌, ◌+◌, ◌-◌, ◌⊎◌, ℕ, zero, suc, Bool, true, false, cond, List, [], ◌∷◌, length, replicate, Option, Some, refl, sym, ap, ◌∙◌, subst, inl, inr, arith}
use Rattle.std.specs.Prelude.{◌==◌, ◌||◌, slice_set, Contains}
use Rattle.std.specs.List.{find, flat_map, list_any}
use Rattle.std.proofs.lemmas.Bool.{false≢true, cases_lt}
use Rattle.std.proofs.lemmas.List.{length-map, length-replicate}
use Rattle.std.proofs.lemmas.Option.{slice_get_past}
use Rattle.check_names.specs.ModelTree.Tree as tree
use Rattle.design_rules.specs.declared.made.Made.{Made}
use Rattle.design_rules.specs.Forms.{items_in}
use Rattle.design_rules.specs.ObjectFaults.{made_by, made_at, has_within, leads_to, first_of_itself}
use Rattle.elaborate_objects.specs.Marks.{made_of, row_of, is_marked, meets, count_of, AreFound, KeepsFound, IsClosed}
use Rattle.elaborate_objects.proofs.Closed.{any_from, or_cases, marked_only, none_marked, count_more, count_within, row_is, nothing_in}

or_true : (a b : Bool) → (a ≡ true) ⊎ (b ≡ true) → (a || b) ≡ true
or_true true b h = refl
or_true false b (inl h) = absurd (false≢true h)
or_true false b (inr h) = h

any_in : {X : Type 0} (p : X → Bool) (xs : List X) (x : X) → Contains xs x → p x ≡ true → list_any p xs ≡ true
any_in p [] x at h = absurd (nothing_in x at)
any_in p (y ∷ ys) x (zero, below, is) h = or_true (p y) (list_any p ys) (inl (ap p is ∙ h))
any_in p (y ∷ ys) x (suc k, below, is) h = or_true (p y) (list_any p ys) (inr (any_in p ys x (k, omega arith, is) h))

-- two tests with one answer
find_agree : (p q : Made → Bool) → ((x : Made) → p x ≡ q x) → (xs : List Made) → find p xs ≡ find q xs
find_agree p q same [] = refl
find_agree p q same (x ∷ xs) =
    ap (λ b. cond b (Some x) (find p xs)) (same x) ∙ ap (λ (o : Option Made). cond (q x) (Some x) o) (find_agree p q same xs)

same_bools : (a b : Bool) → (a ≡ true → b ≡ true) → (b ≡ true → a ≡ true) → a ≡ b
same_bools true b f g = sym (f refl)
same_bools false true f g = g refl
same_bools false false f g = refl

module _ (ms : List tree.Module) (place : ℕ) where
  -- one instance more
  more_has : (n j : ℕ) → has_within n ms place j ≡ true → has_within (suc n) ms place j ≡ true
  unfolding has_within
  more_has zero j h = cc
  more_has (suc n) j h =
      let w = any_from (λ (x : Made). x.place == place || has_within n ms place x.place) (made_at ms j) h in
      any_in (λ (x : Made). x.place == place || has_within (suc n) ms place x.place) (made_at ms j) w.0 w.1
      (or_true (w.0.place == place) (has_within (suc n) ms place w.0.place)
      (elim (or_cases (w.0.place == place) (has_within n ms place w.0.place) w.2) [
        | inl same ↦ inl same
        | inr deeper ↦ inr (more_has n w.0.place deeper)
      ]))

  all_has : (n d j : ℕ) → has_within n ms place j ≡ true → has_within (n + d) ms place j ≡ true
  all_has n zero j h = let e : n ≡ n + 0 = omega arith in subst (λ k. has_within k ms place j ≡ true) e h
  all_has n (suc d) j h = let e : suc (n + d) ≡ n + suc d = omega arith in subst (λ k. has_within k ms place j ≡ true) e (more_has (n + d) j (all_has n d j h))

  -- what has an instance of a module that has it
  next_has : (marks : List Bool) (k : ℕ) → AreFound ms place marks → list_any (meets place marks) (made_at ms k) ≡ true → has_within (suc (count_of marks)) ms place k ≡ true
  unfolding has_within
  next_has marks k found h =
      let w = any_from (meets place marks) (made_at ms k) h in
      any_in (λ (x : Made). x.place == place || has_within (count_of marks) ms place x.place) (made_at ms k) w.0 w.1
      (or_true (w.0.place == place) (has_within (count_of marks) ms place w.0.place)
      (elim (or_cases (w.0.place == place) (is_marked marks w.0.place) w.2) [
        | inl same ↦ inl same
        | inr marked ↦ inr (found w.0.place marked)
      ]))

  pub found_one : (marks : List Bool) (k : ℕ) → k < length marks → is_marked marks k ≡ false → list_any (meets place marks) (made_at ms k) ≡ true
      → AreFound ms place marks → AreFound ms place (slice_set marks k true)
  found_one marks k below new met found j marked =
      let e : suc (count_of marks) ≡ count_of (slice_set marks k true) = let c = count_more marks k below new in omega (arith, c) in
      subst (λ n. has_within n ms place j ≡ true) e
      (elim (marked_only marks k j marked) [
        | inl before ↦ more_has (count_of marks) j (found j before)
        | inr same ↦ subst (λ i. has_within (suc (count_of marks)) ms place i ≡ true) (sym same) (next_has marks k found met)
      ])

  -- past the modules there are no instances
  made_past : (j : ℕ) → length ms ≤ j → made_at ms j ≡ []
  made_past j past = ap (λ (o : Option tree.Module). flat_map (made_by ms) (items_in o)) (slice_get_past ms j past)

  module _ (made : List (List Made)) (is : made ≡ made_of ms) (marks : List Bool) (long : length marks ≡ length ms) (closed : IsClosed made place marks) where
    closed_at : (j : ℕ) → list_any (meets place marks) (made_at ms j) ≡ true → is_marked marks j ≡ true
    closed_at j h =
        elim (cases_lt j (length ms)) [
          | inl below ↦
              closed j (subst (λ n. j < n) (sym long) below) (subst (λ (row : List Made). list_any (meets place marks) row ≡ true) (sym (row_is ms made j is)) h)
          | inr past ↦ absurd (false≢true (ap (list_any (meets place marks)) (sym (made_past j past)) ∙ h))
        ]

    all_marked : (n j : ℕ) → has_within n ms place j ≡ true → is_marked marks j ≡ true
    unfolding has_within
    all_marked zero j h = cc
    all_marked (suc n) j h =
        let w = any_from (λ (x : Made). x.place == place || has_within n ms place x.place) (made_at ms j) h in
        closed_at j
        (any_in (meets place marks) (made_at ms j) w.0 w.1
        (or_true (w.0.place == place) (is_marked marks w.0.place)
        (elim (or_cases (w.0.place == place) (has_within n ms place w.0.place) w.2) [
          | inl same ↦ inl same
          | inr deeper ↦ inr (all_marked n w.0.place deeper)
        ])))

    pub first_marked : AreFound ms place marks → find (meets place marks) (row_of made place) ≡ first_of_itself ms place
    first_marked found =
        ap (find (meets place marks)) (row_is ms made place is)
        ∙ find_agree (meets place marks) (leads_to ms place)
        (λ x. ap (λ b. x.place == place || b)
        (same_bools (is_marked marks x.place) (has_within (length ms) ms place x.place)
        (λ marked.
        let few = count_within marks in
        let e : count_of marks + (length ms - count_of marks) ≡ length ms = omega (arith, few, long) in
        subst (λ n. has_within n ms place x.place ≡ true) e (all_has (count_of marks) (length ms - count_of marks) x.place (found x.place marked)))
        (all_marked (length ms) x.place)))
        (made_at ms place)

pub found_first : (ms : List tree.Module) (place n : ℕ) → AreFound ms place (replicate n false)
found_first ms place n k marked = absurd (false≢true (sym (none_marked [] n k) ∙ marked))

-- what is found from no marks on
pub itself_found : (ms : List tree.Module) (made : List (List Made)) → made ≡ made_of ms → (place : ℕ) (old new : List Bool) → old ≡ replicate (length made) false
    → length new ≡ length old → KeepsFound made place old new → IsClosed made place new → find (meets place new) (row_of made place) ≡ first_of_itself ms place
itself_found ms made is place old new none kept keeps closed =
    let long : length new ≡ length ms =
    kept ∙ ap (λ (bs : List Bool). length bs) none ∙ length-replicate (length made) false ∙ ap (λ (t : List (List Made)). length t) is
    ∙ length-map ms (λ (m : tree.Module). flat_map (made_by ms) m.items) in
    first_marked ms place made is new long closed (keeps ms is (subst (AreFound ms place) (sym none) (found_first ms place (length made))))
