-- The names with one time: what their map has, and what is left once the least of them is taken out.
use Rattle.std.proofs.Common.{◌≡◌, ℕ, ◌+◌, ◌-◌, ◌≢◌, ◌≤◌, ◌<◌, Bool, true, false, cond, not, List, [], ◌∷◌, length, Option, Some, None, refl, sym, ap, ◌∙◌, subst, ⊎_elim, arith, eq-eqb, ne_eqb, true≢false}
use Rattle.std.specs.Prelude.{is_some, ◌==◌, count_by, map as map_list}
use Rattle.std.proofs.lemmas.Bool.{cases_eq}
use Rattle.std.proofs.lemmas.List.{length-map}
use Rattle.std.proofs.lemmas.List.Sums.{sum_by-cons}
use Rattle.std.specs.declared.cmp.Ordering.{Ordering}
use Rattle.std.specs.declared.cmp.Ordering.TheVariants.{Less, Equal, Greater}
use Rattle.std.specs.Ordering.{nat_cmp, is_eq}
use Rattle.std.specs.Cmp.{nat_cmp_total, unsigned_tied, ranked, tied_itself}
use Rattle.std.specs.FinMap as maps
use Rattle.std.specs.FinMap.{find}
use Rattle.room_map.specs.Entries.{IsRising, AllAbove, without}
use Rattle.room_map.proofs.Rising.{find-above, without-above, above_from, above_at}
use Rattle.room_map.proofs.Maps.{rising-entries, entries-remove, len-retain_keys-le}
use Rattle.sim_time.specs.declared.moments.Time.{Time}
use Rattle.timed_queue.specs.Timed.{Timed, is_at, is_due, due_at, without_due}
use Rattle.timed_queue.specs.Timed as timed
use Rattle.timed_queue.proofs.MapLemmas.{same_gets, get-removed, get-retained}

module _ {X : Type 0} where
  keys_of : List (ℕ × X) → List ℕ
  keys_of es = map_list (λ e. e.0) es

  -- ---- rising entries

  keys-first_of : (k : ℕ) (es : List (ℕ × X)) → IsRising nat_cmp es → is_some (find nat_cmp k es) ≡ true → ((q : ℕ) → is_some (find nat_cmp q es) ≡ true → k ≤ q)
      → map_list (λ e. e.0) es ≡ k ∷ map_list (λ e. e.0) (without nat_cmp k es)
  keys-first_of k [] rises there first = absurd (true≢false (sym there))
  keys-first_of k (e ∷ es) rises there first = by_order (nat_cmp k e.0) refl
    where
      below : k ≤ e.0
      below = first e.0 (ap (λ w. is_some (cond (is_eq w) (Some e.1) (find nat_cmp e.0 es))) (tied_itself nat_cmp_total e.0))

      by_order : (w : Ordering) → nat_cmp k e.0 ≡ w → map_list (λ e. e.0) (e ∷ es) ≡ k ∷ map_list (λ e. e.0) (without nat_cmp k (e ∷ es))
      by_order Less h = absurd (true≢false (sym there ∙ ap is_some (find-above nat_cmp_total k (e ∷ es) (above_from nat_cmp_total k e es h rises.0))))
      by_order Equal h =
          (λ i. sym (ranked k e.0 Equal (sym h)) i ∷ map_list (λ e. e.0) es)
          ∙ sym (ap (λ w. k ∷ map_list (λ e. e.0) (cond (is_eq w) (without nat_cmp k es) (e ∷ without nat_cmp k es))) h
          ∙ ap (λ s. k ∷ map_list (λ e. e.0) s) (without-above nat_cmp_total k es (above_at nat_cmp_total k e es h rises.0)))
      by_order Greater h = let above : e.0 < k = ranked k e.0 Greater (sym h) in absurd (omega (arith, above, below))

  count-keys : (p : ℕ) (es : List (ℕ × X)) → IsRising nat_cmp es → count_by (λ x. x == p) (map_list (λ e. e.0) es) ≡ cond (is_some (find nat_cmp p es)) 1 0
  count-keys p [] rises = refl
  count-keys p (e ∷ es) rises =
      sum_by-cons (λ x. cond (x == p) 1 0) e.0 (map_list (λ e. e.0) es)
      ∙ ap (λ n. cond (e.0 == p) 1 0 + n) (count-keys p es rises.1)
      ∙ ⊎_elim here there (cases_eq e.0 p)
      ∙ ap (λ b. cond (is_some (cond b (Some e.1) (find nat_cmp p es))) 1 0) (sym (unsigned_tied p e.0))
    where
      here : e.0 ≡ p → cond (e.0 == p) 1 0 + cond (is_some (find nat_cmp p es)) 1 0 ≡ cond (is_some (cond (p == e.0) (Some e.1) (find nat_cmp p es))) 1 0
      here same =
          ap (λ b. cond b 1 0 + cond (is_some (find nat_cmp p es)) 1 0) (eq-eqb e.0 p same)
          ∙ ap (λ o. 1 + cond (is_some o) 1 0) (find-above nat_cmp_total p es (subst (λ n. AllAbove nat_cmp n es) same rises.0))
          ∙ sym (ap (λ b. cond (is_some (cond b (Some e.1) (find nat_cmp p es))) 1 0) (eq-eqb p e.0 (sym same)))

      there : e.0 ≢ p → cond (e.0 == p) 1 0 + cond (is_some (find nat_cmp p es)) 1 0 ≡ cond (is_some (cond (p == e.0) (Some e.1) (find nat_cmp p es))) 1 0
      there apart =
          ap (λ b. cond b 1 0 + cond (is_some (find nat_cmp p es)) 1 0) (ne_eqb e.0 p apart)
          ∙ omega arith
          ∙ sym (ap (λ b. cond (is_some (cond b (Some e.1) (find nat_cmp p es))) 1 0) (ne_eqb p e.0 (λ same. apart (sym same))))

  -- the least key is the first one
  pub keys-first : (m : maps.FinMap nat_cmp X) (k : ℕ) → is_some (maps.get m k) ≡ true → ((q : ℕ) → is_some (maps.get m q) ≡ true → k ≤ q)
      → maps.keys m ≡ k ∷ maps.keys (maps.remove m k)
  keys-first m k there first =
      keys-first_of k (maps.entries m) (rising-entries nat_cmp_total m) (ap is_some (sym (maps.get-entries m k)) ∙ there)
      (λ q is. first q (ap is_some (maps.get-entries m q) ∙ is))
      ∙ ap (λ es. k ∷ map_list (λ e. e.0) es) (sym (entries-remove nat_cmp_total maps.nat_cmp-IsAntisymmetric m k))

  pub len-keys : (m : maps.FinMap nat_cmp X) → maps.len m ≡ length (maps.keys m)
  len-keys m = maps.len-entries m ∙ sym (length-map (maps.entries m) (λ e. e.0))

-- ---- the names with one time

module _ (m : maps.FinMap nat_cmp Time) (t : Time) where
  get-due_at : (q : ℕ) → maps.get (due_at m t) q ≡ cond (is_due m t q) (maps.get m q) None
  get-due_at q = get-retained m (is_due m t) q

  has-due_at : (q : ℕ) → is_some (maps.get (due_at m t) q) ≡ is_due m t q
  has-due_at q = ap is_some (get-due_at q) ∙ by_case (maps.get m q)
    where
      by_test : (u : Time) (b : Bool) → is_some (cond b (Some u) None) ≡ b
      by_test u true = refl
      by_test u false = refl

      by_case : (o : Option Time) → is_some (cond (is_at t o) o None) ≡ is_at t o
      by_case None = refl
      by_case (Some u) = by_test u (u.0 == t.0)

  pub once-due_at : (p : ℕ) → count_by (λ x. x == p) (maps.keys (due_at m t)) ≡ cond (is_due m t p) 1 0
  once-due_at p =
      count-keys p (maps.entries (due_at m t)) (rising-entries nat_cmp_total (due_at m t))
      ∙ ap (λ o. cond (is_some o) 1 0) (sym (maps.get-entries (due_at m t) p)) ∙ ap (λ b. cond b 1 0) (has-due_at p)

  pub held-due_at : maps.len (due_at m t) ≤ maps.len m
  held-due_at = len-retain_keys-le nat_cmp_total maps.nat_cmp-IsAntisymmetric m (is_due m t)

  module _ (none : (q : ℕ) → is_due m t q ≡ false) where
    pub no_due : due_at m t ≡ maps.empty
    no_due = same_gets maps.empty (due_at m t) (λ q. get-due_at q ∙ ap (λ b. cond b (maps.get m q) None) (none q) ∙ sym (maps.get-empty nat_cmp q))

    pub no_keys : maps.keys (due_at m t) ≡ []
    no_keys = no_items (maps.keys (due_at m t)) (sym (len-keys (due_at m t)) ∙ ap maps.len no_due ∙ maps.len-empty nat_cmp Time)
      where
        no_items : (ks : List ℕ) → length ks ≡ 0 → ks ≡ []
        no_items [] h = refl
        no_items (k ∷ ks) h = absurd (omega (arith, h))

    all_stay : maps.retain_keys m (λ q. not (is_due m t q)) ≡ m
    all_stay = same_gets m (maps.retain_keys m (λ q. not (is_due m t q))) (λ q.
        get-retained m (λ q. not (is_due m t q)) q ∙ ap (λ b. cond (not b) (maps.get m q) None) (none q))

  module _ (name : ℕ) (is : is_due m t name ≡ true) where
    due_left : due_at (maps.remove m name) t ≡ maps.remove (due_at m t) name
    due_left = same_gets (maps.remove (due_at m t) name) (due_at (maps.remove m name) t) (λ q.
        get-retained (maps.remove m name) (is_due (maps.remove m name) t) q
        ∙ ap (λ o. cond (is_at t o) o None) (get-removed m name q)
        ∙ by_test q (q == name)
        ∙ sym (get-removed (due_at m t) name q))
      where
        by_test : (q : ℕ) (b : Bool) → cond (is_at t (cond b None (maps.get m q))) (cond b None (maps.get m q)) None ≡ cond b None (maps.get (due_at m t) q)
        by_test q true = refl
        by_test q false = sym (get-due_at q)

    pub len-due_at : maps.len (due_at m t) ≡ maps.len (due_at (maps.remove m name) t) + 1
    len-due_at =
        let d = due_at m t in
        let e : maps.len (due_at (maps.remove m name) t) ≡ maps.len (maps.remove d name) = ap maps.len due_left in
        let f : maps.len (maps.remove d name) ≡ maps.len d - 1 = maps.len-remove nat_cmp_total d name ∙ ap (λ b. cond b (maps.len d - 1) (maps.len d)) (has-due_at name ∙ is) in
        let some : maps.len d ≢ 0 = λ none. true≢false (sym (has-due_at name ∙ is) ∙ ap (λ n. is_some (maps.get n name)) (maps.empty_of_len d none) ∙ ap is_some (maps.get-empty nat_cmp name)) in
        omega (arith, e, f, some)

    pub due-removed : (p : ℕ) → is_due (maps.remove m name) t p ≡ cond (p == name) false (is_due m t p)
    due-removed p = ap (is_at t) (get-removed m name p) ∙ by_test (p == name)
      where
        by_test : (b : Bool) → is_at t (cond b None (maps.get m p)) ≡ cond b false (is_at t (maps.get m p))
        by_test true = refl
        by_test false = refl

    there : maps.contains_key m name ≡ true
    there = by_case (maps.get m name) is
      where
        by_case : (o : Option Time) → is_at t o ≡ true → is_some o ≡ true
        by_case None h = absurd (true≢false (sym h))
        by_case (Some u) h = refl

    others_stay : maps.retain_keys (maps.remove m name) (λ q. not (is_due (maps.remove m name) t q)) ≡ maps.retain_keys m (λ q. not (is_due m t q))
    others_stay = same_gets (maps.retain_keys m (λ q. not (is_due m t q))) (maps.retain_keys (maps.remove m name) (λ q. not (is_due (maps.remove m name) t q))) (λ q.
        get-retained (maps.remove m name) (λ q. not (is_due (maps.remove m name) t q)) q
        ∙ ap (λ o. cond (not (is_at t o)) o None) (get-removed m name q)
        ∙ ⊎_elim
        (λ same. ap (λ b. cond (not (is_at t (cond b None (maps.get m q)))) (cond b None (maps.get m q)) None) (eq-eqb q name same)
        ∙ sym (ap (λ b. cond (not b) (maps.get m q) None) (ap (is_due m t) same ∙ is)))
        (λ apart. ap (λ b. cond (not (is_at t (cond b None (maps.get m q)))) (cond b None (maps.get m q)) None) (ne_eqb q name apart))
        (cases_eq q name)
        ∙ sym (get-retained m (λ q. not (is_due m t q)) q))

-- where there is no name none has this time
pub none_due : (m : maps.FinMap nat_cmp Time) (t : Time) → maps.len m ≡ 0 → (q : ℕ) → is_due m t q ≡ false
none_due m t none q = ap (is_at t) (ap (λ n. maps.get n q) (maps.empty_of_len m none) ∙ maps.get-empty nat_cmp q)

-- nor where each name has a later time
pub none_early : (m : maps.FinMap nat_cmp Time) (t : Time) (bound : ℕ) → ((name : ℕ) (other : Time) → maps.get m name ≡ Some other → bound ≤ other.0) → t.0 < bound → (q : ℕ) → is_due m t q ≡ false
none_early m t bound from early q = by_case (maps.get m q) refl
  where
    by_case : (o : Option Time) → maps.get m q ≡ o → is_at t o ≡ false
    by_case None h = refl
    by_case (Some u) h = ne_eqb u.0 t.0 (λ same. let later = from q u h in omega (arith, later, early, same))

pub left_none : (q : Timed) (t : Time) → ((p : ℕ) → is_due q.times t p ≡ false) → without_due q t ≡ q
left_none q t none = λ i. record {
  times = all_stay q.times t none i;
  spare = nothing_more i;
}
  where
    nothing_more : q.spare + maps.len (due_at q.times t) ≡ q.spare
    nothing_more = omega (arith, ap maps.len (no_due q.times t none), maps.len-empty nat_cmp Time)

pub left_one : (q : Timed) (t : Time) (name : ℕ) → is_due q.times t name ≡ true → without_due (timed.without q name) t ≡ without_due q t
left_one q t name is = λ i. record {
  times = others_stay q.times t name is i;
  spare = as_many i;
}
  where
    as_many : cond (maps.contains_key q.times name) (q.spare + 1) q.spare + maps.len (due_at (maps.remove q.times name) t) ≡ q.spare + maps.len (due_at q.times t)
    as_many = ap (λ b. cond b (q.spare + 1) q.spare + maps.len (due_at (maps.remove q.times name) t)) (there q.times t name is) ∙ omega (arith, len-due_at q.times t name is)
