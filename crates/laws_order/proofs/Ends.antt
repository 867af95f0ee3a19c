-- What the ends of a fifo show after a read and a write, and what a driver shows.
use Rattle.std.proofs.Common.{◌≡◌, ◌+◌, ◌-◌, ◌==◌, ◌≤◌, ℕ, zero, suc, Bool, true, false, cond, List, [], ◌∷◌, ◌++◌, length, take, drop, slice_get, Option, Some, None, position, refl, sym, ap, ◌∙◌, arith, length-append, length-drop, true≢false}
use Rattle.std.proofs.lemmas.List.{take-append-le, drop-take}
use Rattle.std.proofs.lemmas.Bool.{eqb-true}
use Rattle.sim_model.specs.LogicValues.declared.kinds.Value.{Value}
use Rattle.sim_model.specs.LogicValues.declared.kinds.Digit.{Digit}
use Rattle.sim_model.specs.SignalChannel.Drivers.{Driven, driven_at, driven_by}
use Rattle.sim_model.specs.FifoSync.Fifos.{Queued, available, free, readable, after_read, after_write}
use Rattle.laws_order.specs.Sees.{in_reach}

-- a test, and what follows of both answers
by_test : {A : Type 0} (P : A → Type 0) (b : Bool) (x y : A) → (b ≡ true → P x) → (b ≡ false → P y) → P (cond b x y)
by_test P true x y one two = one refl
by_test P false x y one two = two refl

is_more : (n : ℕ) → (n == 0) ≡ false → (m : ℕ) × (n ≡ 1 + m)
is_more zero some = absurd (true≢false some)
is_more (suc n) some = (n, omega arith)

module _ (q : Queued) where
  abbrev read_once : Queued
  read_once = record q { unread = drop 1 q.unread; read = q.read + 1 }

  reach_shorter : (m : ℕ) → available q ≡ 1 + m → in_reach read_once ≡ drop 1 (in_reach q)
  reach_shorter m is =
      let cut : length (drop 1 q.unread) ≡ length q.unread - 1 = length-drop 1 q.unread in
      let fewer : available read_once ≡ m = omega (arith, cut, is) in
      ap (λ k. take k (drop 1 q.unread)) fewer ∙ sym (drop-take 1 m q.unread) ∙ ap (λ k. drop 1 (take k q.unread)) (sym is)

  reach_none : available q ≡ 0 → in_reach q ≡ drop 1 (in_reach q)
  reach_none none = ap (λ k. take k q.unread) none ∙ sym (ap (λ k. drop 1 (take k q.unread)) none)

  -- a read takes the oldest value away
  pub reach-read : in_reach (after_read q) ≡ drop 1 (in_reach q)
  reach-read =
      by_test (λ (r : Queued). in_reach r ≡ drop 1 (in_reach q)) (available q == 0) q read_once (λ e. reach_none (eqb-true (available q) 0 e)) (λ e. let m = is_more (available q) e in reach_shorter m.0 m.1)

  free_read : (m : ℕ) → available q ≡ 1 + m → free read_once ≡ free q
  free_read m is =
      let cut : length (drop 1 q.unread) ≡ length q.unread - 1 = length-drop 1 q.unread in
      omega (arith, cut, is)

  -- and makes no place free yet
  pub free-read : free (after_read q) ≡ free q
  free-read = by_test (λ (r : Queued). free r ≡ free q) (available q == 0) q read_once (λ e. refl) (λ e. let m = is_more (available q) e in free_read m.0 m.1)

  module _ (v : Value) where
    abbrev written_once : Queued
    written_once = record q { unread = q.unread ++ v ∷ []; written = q.written + 1 }

    reach_written : in_reach written_once ≡ in_reach q
    reach_written =
        let longer : length (q.unread ++ v ∷ []) ≡ length q.unread + 1 = length-append q.unread (v ∷ []) in
        let as_many : available written_once ≡ available q = omega (arith, longer) in
        let within : available q ≤ length q.unread = omega arith in
        ap (λ k. take k (q.unread ++ v ∷ [])) as_many ∙ take-append-le (available q) q.unread (v ∷ []) within

    -- a value that is written cannot be read yet
    pub reach-written : in_reach (after_write q v) ≡ in_reach q
    reach-written = by_test (λ (r : Queued). in_reach r ≡ in_reach q) (free q == 0) q written_once (λ e. refl) (λ e. reach_written)

    -- and takes a place
    pub free-written : free (after_write q v) ≡ free q - 1
    free-written =
        by_test (λ (r : Queued). free r ≡ free q - 1) (free q == 0) q written_once
        (λ e. let none = eqb-true (free q) 0 e in omega (arith, none))
        (λ e. let longer : length (q.unread ++ v ∷ []) ≡ length q.unread + 1 = length-append q.unread (v ∷ []) in omega (arith, longer))

-- ---- what can be read shows what a read gives

first_of : (m : ℕ) (xs : List Value) → slice_get (take (1 + m) xs) 0 ≡ slice_get xs 0
first_of m [] = none_of (1 + m)
  where
    none_of : (k : ℕ) → ◌≡◌ {A = Option Value} (slice_get (take k []) 0) None
    none_of zero = refl
    none_of (suc k) = refl
first_of m (x ∷ xs) = ap (λ k. slice_get (take k (x ∷ xs)) 0) (one_more m)
  where
    one_more : (m : ℕ) → 1 + m ≡ suc m
    one_more m = omega arith

pub readable-shown : (q : Queued) → readable q ≡ slice_get (in_reach q) 0
readable-shown q =
    by_test (λ o. o ≡ slice_get (in_reach q) 0) (available q == 0) None (slice_get q.unread 0) (λ e. sym (ap (λ k. slice_get (take k q.unread) 0) (eqb-true (available q) 0 e) ∙ nothing q.unread))
    (λ e. let m = is_more (available q) e in sym (ap (λ k. slice_get (take k q.unread) 0) m.1 ∙ first_of m.0 q.unread))
  where
    nothing : (xs : List Value) → slice_get (take 0 xs) 0 ≡ None
    nothing [] = refl
    nothing (x ∷ xs) = refl

-- ---- a read and a write of one fifo, in either order

module _ (q : Queued) (v : Value) where
  available_written : available (after_write q v) ≡ available q
  available_written =
      by_test (λ (r : Queued). available r ≡ available q) (free q == 0) q (written_once q v) (λ e. refl)
      (λ e. let longer : length (q.unread ++ v ∷ []) ≡ length q.unread + 1 = length-append q.unread (v ∷ []) in omega (arith, longer))

  drop_written : (m : ℕ) → available q ≡ 1 + m → drop 1 (q.unread ++ v ∷ []) ≡ drop 1 q.unread ++ v ∷ []
  drop_written m is = drop_cons q.unread (omega (arith, is))
    where
      drop_cons : (xs : List Value) → 1 ≤ length xs → drop 1 (xs ++ v ∷ []) ≡ drop 1 xs ++ v ∷ []
      drop_cons [] some = absurd (omega (arith, some))
      drop_cons (x ∷ xs) some = refl

  read_of : (b w : Bool) → (available q == 0) ≡ b → (free q == 0) ≡ w → after_read (after_write q v) ≡ after_write (after_read q) v
  read_of b w is full =
      let one : (available (after_write q v) == 0) ≡ b = ap (λ n. n == 0) available_written ∙ is in
      let two : (free (after_read q) == 0) ≡ w = ap (λ n. n == 0) (free-read q) ∙ full in
      ap (λ t. cond t (after_write q v) (read_once (after_write q v))) one ∙ by b w is full ∙ sym (ap (λ t. cond t (after_read q) (written_once (after_read q) v)) two)
    where
      by : (b w : Bool) → (available q == 0) ≡ b → (free q == 0) ≡ w → cond b (after_write q v) (read_once (after_write q v)) ≡ cond w (after_read q) (written_once (after_read q) v)
      by true true is full = ap (λ t. cond t q (written_once q v)) full ∙ sym (ap (λ t. cond t q (read_once q)) is)
      by true false is full = ap (λ t. cond t q (written_once q v)) full ∙ ap (λ r. written_once r v) (sym (ap (λ t. cond t q (read_once q)) is))
      by false true is full = ap read_once (ap (λ t. cond t q (written_once q v)) full) ∙ sym (ap (λ t. cond t q (read_once q)) is)
      by false false is full =
          let m = is_more (available q) is in
          ap read_once (ap (λ t. cond t q (written_once q v)) full) ∙ ap (λ vs. record (read_once (written_once q v)) { unread = vs }) (drop_written m.0 m.1) ∙ ap (λ r. written_once r v) (sym (ap (λ t. cond t q (read_once q)) is))

  pub read-written : after_read (after_write q v) ≡ after_write (after_read q) v
  read-written = read_of (available q == 0) (free q == 0) refl refl

driven_value : (p : ℕ) (d : Digit) (r : Driven) (o : Option ℕ) → (driven_at p d r o).value ≡ r.value
driven_value p d r None = refl
driven_value p d r (Some i) = refl

-- a driver that is set shows in no value yet
pub driven-value : (p : ℕ) (d : Digit) (r : Driven) → (driven_by p d r).value ≡ r.value
driven-value p d r = driven_value p d r (position (λ w. w == p) r.writers)
