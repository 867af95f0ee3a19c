-- What a set shows whose members are kept as a row, and what each change makes of it.
use Rattle.std.proofs.Common.{◌≡◌, ◌≢◌, ◌⊎◌, ℕ, zero, suc, ◌+◌, ◌-◌, ◌^◌, ◌<◌, ◌≤◌, Bool, true, false, cond, not, ◌&&◌, ◌||◌, List, [], ◌∷◌, length, Option, None, Some, refl, sym, ap, ◌∙◌, subst, ⊎_elim, arith, true≢false}
use Rattle.std.specs.Prelude.{slice_get, ◌==◌, nat_lt}
use Rattle.std.proofs.lemmas.Bool.{cases_eq, cases_lt, lt-ltb, le-ltb}
use Rattle.std.specs.Ordering.{nat_cmp, eq_by_cmp}
use Rattle.std.specs.Cmp.{nat_cmp_total}
use Rattle.std.specs.FinSet as set
use Rattle.std.specs.FinSet.{FinSet, contains, insert, remove, len, from_list}
use Rattle.ready_set.specs.Ready.{Ready, rising, with_member, without_member}
use Rattle.ready_set.specs.Layout.{AllAbove, IsRising}
use Rattle.ready_set.specs.Row.{row, in_row, with_row, IsRow}
use Rattle.ready_set.proofs.Rising.{has, tied, same_ties, other_ties_not, above_all}
use Rattle.ready_set.proofs.Shown.{same_members, contains-set_of, with_again, rising-set_of, len-set_of}

-- ---- the numbers of a row

pub row-more : (a n : ℕ) → row a (suc n) ≡ a ∷ row (a + 1) n
unfolding row
row-more a n = refl

pub row-none : (a : ℕ) → row a 0 ≡ []
unfolding row
row-none a = refl

above-row : (b a n : ℕ) → b < a → AllAbove b (row a n)
unfolding row
above-row b a zero h = tt
above-row b a (suc n) h = (h, above-row b (a + 1) n (omega (arith, h)))

pub rising-row : (a n : ℕ) → IsRising (row a n)
unfolding row
rising-row a zero = tt
rising-row a (suc n) = (above-row a (a + 1) n (omega arith), rising-row (a + 1) n)

pub length-row : (a n : ℕ) → length (row a n) ≡ n
unfolding row
length-row a zero = refl
length-row a (suc n) = omega (arith, length-row (a + 1) n)

pub in-row : (a n k : ℕ) → k < n → slice_get (row a n) k ≡ Some (a + k)
unfolding row
in-row a zero k h = absurd (omega (arith, h))
in-row a (suc n) zero h = ap Some (omega arith)
in-row a (suc n) (suc k) h = in-row (a + 1) n k (omega (arith, h)) ∙ ap Some (omega arith)

pub past-row : (a n k : ℕ) → n ≤ k → slice_get (row a n) k ≡ None
unfolding row
past-row a zero k h = refl
past-row a (suc n) zero h = absurd (omega (arith, h))
past-row a (suc n) (suc k) h = past-row (a + 1) n k (omega (arith, h))

pub has-before : (a n q : ℕ) → q < a → has q (row a n) ≡ false
has-before a n q h = above_all q (row a n) (above-row q a n h)

pub has-behind : (a n q : ℕ) → a + n ≤ q → has q (row a n) ≡ false
unfolding row
has-behind a zero q h = refl
has-behind a (suc n) q h = ap (λ b. b || has q (row (a + 1) n)) (other_ties_not q a (λ e. omega (arith, e, h))) ∙ has-behind (a + 1) n q (omega (arith, h))

pub has-within : (a n q : ℕ) → a ≤ q → q < a + n → has q (row a n) ≡ true
unfolding row
has-within a zero q low high = absurd (omega (arith, low, high))
has-within a (suc n) q low high = ⊎_elim
    (λ (same : q ≡ a). ap (λ b. b || has q (row (a + 1) n)) (same_ties q a same))
    (λ (apart : q ≢ a). ap (λ b. b || has q (row (a + 1) n)) (other_ties_not q a apart) ∙ has-within (a + 1) n q (omega (arith, low, apart)) (omega (arith, high)))
    (cases_eq q a)

-- with one more behind the last
has-more : (a n q : ℕ) → has q (row a (n + 1)) ≡ (eq_by_cmp nat_cmp q (a + n) || has q (row a n))
has-more a n q = ⊎_elim
    (λ (same : q ≡ a + n). has-within a (n + 1) q (omega (arith, same)) (omega (arith, same)) ∙ sym (ap (λ b. b || has q (row a n)) (same_ties q (a + n) same)))
    (λ (apart : q ≢ a + n). elsewhere apart ∙ sym (ap (λ b. b || has q (row a n)) (other_ties_not q (a + n) apart)))
    (cases_eq q (a + n))
  where
    elsewhere : q ≢ a + n → has q (row a (n + 1)) ≡ has q (row a n)
    elsewhere apart = ⊎_elim
        (λ (low : q < a). has-before a (n + 1) q low ∙ sym (has-before a n q low))
        (λ (high : a ≤ q). ⊎_elim
        (λ (within : q < a + n). has-within a (n + 1) q high (omega (arith, within)) ∙ sym (has-within a n q high within))
        (λ (past : a + n ≤ q). has-behind a (n + 1) q (omega (arith, past, apart)) ∙ sym (has-behind a n q past))
        (cases_lt q (a + n)))
        (cases_lt q a)

-- from the first on, what is below the last one is there
pub below-last : (a n q : ℕ) → a ≤ q → nat_lt q (a + n) ≡ has q (row a n)
below-last a n q low = ⊎_elim
    (λ (within : q < a + n). lt-ltb q (a + n) within ∙ sym (has-within a n q low within))
    (λ (past : a + n ≤ q). le-ltb q (a + n) past ∙ sym (has-behind a n q past))
    (cases_lt q (a + n))

-- ---- what is shown of it

or_false : (b : Bool) → (b || false) ≡ b
or_false true = refl
or_false false = refl

not_or : (e h : Bool) → (e ≡ true → h ≡ false) → h ≡ (not e && (e || h))
not_or true h none = none refl
not_or false h none = refl

kept_by : (a b : Bool) → (a ≡ true → b ≡ false) → (not a && b) ≡ b
kept_by true b none = sym (none refl)
kept_by false b none = refl

-- to take out what is no member changes nothing
pub without_absent : (r : Ready) (q : ℕ) → contains r.members q ≡ false → r ≡ without_member r q
without_absent r q none = λ i. record {
  members = same_members r.members (remove r.members q) (λ k.
      sym (kept_by (eq_by_cmp nat_cmp k q) (contains r.members k) (λ is. ap (contains r.members) (tied k q is) ∙ none))
      ∙ sym (set.contains-remove nat_cmp_total r.members q k)) i;
  spare = sym (ap (λ b. cond b (r.spare + 1) r.spare) none) i;
}

-- a set with no row shows what the others show
pub shown_bare : (a n : ℕ) {v : Ready} (r : Ready) → n ≡ 0 → with_row a n r ≡ v → r ≡ v
shown_bare a n r none view = (λ i. record { members = ap (λ m. in_row a m r.members) (sym none) i; spare = same i }) ∙ view
  where
    same : r.spare ≡ r.spare - n
    same = omega (arith, none)

module _ (r : Ready) (none : r.members ≡ set.empty) where
  pub shows : (a n q : ℕ) → contains (with_row a n r).members q ≡ has q (row a n)
  shows a zero q = ap (λ s. contains s q) none ∙ set.contains-empty nat_cmp q ∙ sym (ap (has q) (row-none a))
  shows a (suc n) q = contains-set_of (row a (suc n)) q

  -- one more behind the last
  pub shown-more : (a n : ℕ) → n < r.spare → with_row a (n + 1) r ≡ with_member (with_row a n r) (a + n)
  shown-more a n room = λ i. record {
    members = same_members _ _ (λ q.
        shows a (n + 1) q ∙ has-more a n q ∙ ap (λ b. eq_by_cmp nat_cmp q (a + n) || b) (sym (shows a n q))
        ∙ sym (set.contains-insert nat_cmp_total (with_row a n r).members (a + n) q)) i;
    spare = (one_less ∙ sym (ap (λ b. cond b (r.spare - n) (r.spare - n - 1)) (shows a n (a + n) ∙ has-behind a n (a + n) (omega arith)))) i;
  }
    where
      one_less : r.spare - (n + 1) ≡ r.spare - n - 1
      one_less = omega arith

  -- one more before the first
  pub shown-earlier : (p a n : ℕ) → p + 1 ≡ a → n < r.spare → with_row p (n + 1) r ≡ with_member (with_row a n r) p
  shown-earlier p a n before room = λ i. record {
    members = same_members _ _ (λ q.
        shows p (n + 1) q ∙ ap (λ m. has q (row p m)) (omega arith) ∙ ap (has q) (row-more p n) ∙ ap (λ b. eq_by_cmp nat_cmp q p || has q (row b n)) before
        ∙ ap (λ b. eq_by_cmp nat_cmp q p || b) (sym (shows a n q)) ∙ sym (set.contains-insert nat_cmp_total (with_row a n r).members p q)) i;
    spare = (one_less ∙ sym (ap (λ b. cond b (r.spare - n) (r.spare - n - 1)) (shows a n p ∙ has-before a n p (omega (arith, before))))) i;
  }
    where
      one_less : r.spare - (n + 1) ≡ r.spare - n - 1
      one_less = omega arith

  pub shown-again : (a n p : ℕ) → a ≤ p → p < a + n → with_row a n r ≡ with_member (with_row a n r) p
  shown-again a n p low high = with_again (with_row a n r) p (shows a n p ∙ has-within a n p low high)

  -- the first one gone
  pub shown-later : (a n : ℕ) → 0 < n → n ≤ r.spare → with_row (a + 1) (n - 1) r ≡ without_member (with_row a n r) a
  shown-later a zero some room = absurd (omega (arith, some))
  shown-later a (suc n) some room = λ i. record {
    members = same_members _ _ (λ q.
        shows (a + 1) (suc n - 1) q ∙ ap (λ m. has q (row (a + 1) m)) (omega arith)
        ∙ not_or (eq_by_cmp nat_cmp q a) (has q (row (a + 1) n)) (λ is. has-before (a + 1) n q (let e = tied q a is in omega (arith, e)))
        ∙ ap (λ xs. not (eq_by_cmp nat_cmp q a) && has q xs) (sym (row-more a n))
        ∙ ap (λ b. not (eq_by_cmp nat_cmp q a) && b) (sym (shows a (suc n) q))
        ∙ sym (set.contains-remove nat_cmp_total (with_row a (suc n) r).members a q)) i;
    spare = (one_more ∙ sym (ap (λ b. cond b (r.spare - suc n + 1) (r.spare - suc n)) (shows a (suc n) a ∙ has-within a (suc n) a (omega arith) (omega arith)))) i;
  }
    where
      one_more : r.spare - (suc n - 1) ≡ r.spare - suc n + 1
      one_more = omega (arith, room)

  -- the last one gone
  pub shown-less : (a n p : ℕ) → 0 < n → n ≤ r.spare → p + 1 ≡ a + n → with_row a (n - 1) r ≡ without_member (with_row a n r) p
  shown-less a zero p some room last = absurd (omega (arith, some))
  shown-less a (suc n) p some room last =
      let e : p ≡ a + n = omega (arith, last) in
      let m : suc n - 1 ≡ n = omega arith in
      let more : suc n ≡ n + 1 = omega arith in
      λ i. record {
        members = same_members _ _ (λ q.
            shows a (suc n - 1) q ∙ ap (λ m. has q (row a m)) m
            ∙ not_or (eq_by_cmp nat_cmp q p) (has q (row a n)) (λ is. has-behind a n q (let s = tied q p is in omega (arith, s, e)))
            ∙ ap (λ x. not (eq_by_cmp nat_cmp q p) && (eq_by_cmp nat_cmp q x || has q (row a n))) e
            ∙ ap (λ b. not (eq_by_cmp nat_cmp q p) && b) (sym (has-more a n q) ∙ ap (λ m. has q (row a m)) (sym more) ∙ sym (shows a (suc n) q))
            ∙ sym (set.contains-remove nat_cmp_total (with_row a (suc n) r).members p q)) i;
        spare = (one_more ∙ sym (ap (λ b. cond b (r.spare - suc n + 1) (r.spare - suc n)) (shows a (suc n) p ∙ has-within a (suc n) p (omega (arith, e)) (omega (arith, e))))) i;
      }
    where
      one_more : r.spare - (suc n - 1) ≡ r.spare - suc n + 1
      one_more = omega (arith, room)

  pub shown-absent : (a n p : ℕ) → (p < a) ⊎ (a + n ≤ p) → with_row a n r ≡ without_member (with_row a n r) p
  shown-absent a n p outside = without_absent (with_row a n r) p (shows a n p ∙ ⊎_elim (has-before a n p) (has-behind a n p) outside)

-- a row of at least one number
module _ (a n : ℕ) (some : 0 < n) (r : Ready) where
  listed : (with_row a n r).members ≡ from_list (row a n)
  listed = by_count n some
    where
      by_count : (n : ℕ) → 0 < n → (with_row a n r).members ≡ from_list (row a n)
      by_count zero some = absurd (omega (arith, some))
      by_count (suc n) some = refl

  pub rising-shown : rising (with_row a n r).members ≡ row a n
  rising-shown = ap rising listed ∙ rising-set_of (row a n) (rising-row a n)

  pub len-shown : len (with_row a n r).members ≡ n
  len-shown = ap len listed ∙ len-set_of (row a n) (rising-row a n) ∙ length-row a n

-- ---- a row that stands for a set, and what a call makes of it

-- the first member of all
pub begins : (a n p : ℕ) (r : Ready) {v : Ready} → n ≡ 0 → with_row a n r ≡ v → r.members ≡ set.empty → ((contains v.members p ≡ true) ⊎ (0 < v.spare)) → p < 2 ^ 32 - 1
    → IsRow p 1 r × (with_row p 1 r ≡ with_member v p)
begins a n p r {v} no_row view none room below =
    let same : r ≡ v = shown_bare a n r no_row view in
    let some : 0 < r.spare = subst (λ (w : Ready). 0 < w.spare) (sym same) (left v same room) in
    let first : with_row p 1 r ≡ with_member (with_row p 0 r) p = shown-more r none p 0 some ∙ ap (with_member (with_row p 0 r)) (omega arith) in (
      record { none = λ _. none; room = omega (arith, some); below = omega (arith, below) },
      first ∙ ap (λ w. with_member w p) (sym (shown_bare p 0 r refl refl) ∙ same),
    )
  where
    left : (v : Ready) → r ≡ v → (contains v.members p ≡ true) ⊎ (0 < v.spare) → 0 < v.spare
    left v same = ⊎_elim
        (λ there. absurd (true≢false (sym there ∙ ap (λ (w : Ready). contains w.members p) (sym same) ∙ ap (λ s. contains s p) none ∙ set.contains-empty nat_cmp p)))
        (λ some. some)

module _ (a n p : ℕ) (r : Ready) (k : IsRow a n r) (some : 0 < n) {v : Ready} (view : with_row a n r ≡ v) where
  others : r.members ≡ set.empty
  others = k.none some

  told : has p (row a n) ≡ contains v.members p
  told = sym (shows r others a n p) ∙ ap (λ (w : Ready). contains w.members p) view

  pub not_before : p < a → false ≡ contains v.members p
  not_before h = sym (has-before a n p h) ∙ told

  pub not_behind : a + n ≤ p → false ≡ contains v.members p
  not_behind h = sym (has-behind a n p h) ∙ told

  pub there : a ≤ p → p < a + n → true ≡ contains v.members p
  there low high = sym (has-within a n p low high) ∙ told

  pub told_below : a ≤ p → nat_lt p (a + n) ≡ contains v.members p
  told_below low = below-last a n p low ∙ told

  pub put_again : a ≤ p → p < a + n → v ≡ with_member v p
  put_again low high = with_again v p (sym (there low high))

  pub take_absent : (p < a) ⊎ (a + n ≤ p) → v ≡ without_member v p
  take_absent outside = without_absent v p (sym (⊎_elim not_before not_behind outside))

  pub take_first : p ≡ a → IsRow (a + 1) (n - 1) r × (with_row (a + 1) (n - 1) r ≡ without_member v p)
  take_first first =
      let room = k.room in
      let below = k.below in (
        record { none = λ _. others; room = omega (arith, room); below = omega (arith, below, some) },
        shown-later r others a n some room ∙ ap (without_member (with_row a n r)) (sym first) ∙ ap (λ w. without_member w p) view,
      )

  pub take_last : p + 1 ≡ a + n → IsRow a (n - 1) r × (with_row a (n - 1) r ≡ without_member v p)
  take_last last =
      let room = k.room in
      let below = k.below in (
        record { none = λ _. others; room = omega (arith, room); below = omega (arith, below) },
        shown-less r others a n p some room last ∙ ap (λ w. without_member w p) view,
      )

  module _ (room : (contains v.members p ≡ true) ⊎ (0 < v.spare)) where
    one_more : has p (row a n) ≡ false → n < r.spare
    one_more absent = ⊎_elim
        (λ is. absurd (true≢false (sym is ∙ sym told ∙ absent)))
        (λ (left : 0 < v.spare). let same = ap (λ (w : Ready). w.spare) view in omega (arith, left, same))
        room

    pub put_behind : p < 2 ^ 32 - 1 → p ≡ a + n → IsRow a (n + 1) r × (with_row a (n + 1) r ≡ with_member v p)
    put_behind below behind =
        let more : n < r.spare = one_more (has-behind a n p (omega (arith, behind))) in (
          record { none = λ _. others; room = omega (arith, more); below = omega (arith, below, behind) },
          shown-more r others a n more ∙ ap (with_member (with_row a n r)) (sym behind) ∙ ap (λ w. with_member w p) view,
        )

    pub put_before : p + 1 ≡ a → IsRow p (n + 1) r × (with_row p (n + 1) r ≡ with_member v p)
    put_before before =
        let more : n < r.spare = one_more (has-before a n p (omega (arith, before))) in
        let below = k.below in (
          record { none = λ _. others; room = omega (arith, more); below = omega (arith, below, before) },
          shown-earlier r others p a n before more ∙ ap (λ w. with_member w p) view,
        )

-- one more of a row that is put in number by number
pub step : (a n p : ℕ) (r s t : Ready) → IsRow a n r → 0 < n → a ≤ p → p < a + n → s ≡ with_row a (p - a) r → t ≡ with_member s p → t ≡ with_row a (p + 1 - a) r
step a n p r s t k some low high is put =
    let room = k.room in
    put ∙ ap (λ w. with_member w p) is ∙ ap (with_member (with_row a (p - a) r)) (omega (arith, low))
    ∙ sym (shown-more r (k.none some) a (p - a) (omega (arith, room, high, some))) ∙ ap (λ m. with_row a m r) (omega (arith, low))
