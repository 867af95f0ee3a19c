-- Marked modules: what they have is marked, and none has itself.
use Rattle.std.proofs.Common.{◌≡◌, ◌<◌, ◌≤◌, ◌+◌, ◌⊎◌, ℕ, zero, suc, Bool, true, false, List, [], ◌∷◌, length, cond, replicate, Option, Some, None, refl, sym, ap, ◌∙◌, subst, inl, inr, arith}
use Rattle.std.specs.Prelude.{◌==◌, ◌||◌, ◌&&◌, not, slice_get, slice_set, unwrap_or, option_map, Contains}
use Rattle.std.specs.List.{find, flat_map, list_any, list_all}
use Rattle.std.specs.Option.{option_or}
use Rattle.std.proofs.lemmas.Bool.{eqb-true, false≢true}
use Rattle.std.proofs.lemmas.List.Elements.{Contains-append_right}
use Rattle.std.proofs.lemmas.List.{length-map, length-replicate}
use Rattle.std.proofs.lemmas.Option.{slice_get-map}
use Rattle.check_names.specs.ModelTree.Tree as tree
use Rattle.check_names.specs.ModelTree.declared.faults.Kind.TheVariants as kind
use Rattle.design_rules.specs.declared.made.Made.{Made}
use Rattle.design_rules.specs.Forms.{items_in}
use Rattle.design_rules.specs.ObjectFaults.{made_by, made_at, has_within, leads_to, fault_at, cycle_from}
use Rattle.elaborate_objects.specs.Marks.{made_of, row_of, is_marked, number_if, count_of, AreSettled, KeepsSettled}

head_in : {X : Type 0} (x : X) (xs : List X) → Contains (x ∷ xs) x
head_in x xs = (0, omega arith, refl)

tail_in : {X : Type 0} (x y : X) (ys : List X) → Contains ys x → Contains (y ∷ ys) x
tail_in x y ys h = Contains-append_right (y ∷ []) ys x h

pub nothing_in : {X : Type 0} (x : X) → Contains [] x → ⊥
nothing_in x (k, below, is) = omega arith

-- one that passes a test, and all that do
any_in : {X : Type 0} (p : X → Bool) (x : X) (xs : List X) (b : Bool) → p x ≡ b
    → (list_any p xs ≡ true → (y : X) × Contains xs y × (p y ≡ true)) → (b || list_any p xs) ≡ true → (y : X) × Contains (x ∷ xs) y × (p y ≡ true)
any_in p x xs true e rest h = (x, head_in x xs, e)
any_in p x xs false e rest h = let w = rest h in (w.0, tail_in w.0 x xs w.1, w.2)

pub any_from : {X : Type 0} (p : X → Bool) (xs : List X) → list_any p xs ≡ true → (x : X) × Contains xs x × (p x ≡ true)
any_from p [] h = cc
any_from p (x ∷ xs) h = any_in p x xs (p x) refl (any_from p xs) h

and_true : (a b : Bool) → (a && b) ≡ true → (a ≡ true) × (b ≡ true)
and_true true b h = (refl, h)
and_true false b h = cc

pub each_all : {X : Type 0} (p : X → Bool) (xs : List X) → list_all p xs ≡ true → (x : X) → Contains xs x → p x ≡ true
each_all p [] h x at = absurd (nothing_in x at)
each_all p (y ∷ ys) h x (zero, below, is) = subst (λ z. p z ≡ true) is (and_true (p y) (list_all p ys) h).0
each_all p (y ∷ ys) h x (suc k, below, is) = each_all p ys (and_true (p y) (list_all p ys) h).1 x (k, omega arith, is)

pub or_cases : (a b : Bool) → (a || b) ≡ true → (a ≡ true) ⊎ (b ≡ true)
or_cases true b h = inl refl
or_cases false b h = inr h

-- marks
pub marked_only : (marks : List Bool) (k j : ℕ) → is_marked (slice_set marks k true) j ≡ true → (is_marked marks j ≡ true) ⊎ (j ≡ k)
marked_only [] k j h = inl h
marked_only (b ∷ bs) zero zero h = inr refl
marked_only (b ∷ bs) zero (suc j) h = inl h
marked_only (b ∷ bs) (suc k) zero h = inl h
marked_only (b ∷ bs) (suc k) (suc j) h = elim (marked_only bs k j h) [ inl there ↦ inl there | inr same ↦ inr (ap suc same) ]

pub marked_still : (marks : List Bool) (k j : ℕ) → is_marked marks j ≡ true → is_marked (slice_set marks k true) j ≡ true
marked_still [] k j h = cc
marked_still (b ∷ bs) zero zero h = refl
marked_still (b ∷ bs) zero (suc j) h = h
marked_still (b ∷ bs) (suc k) zero h = h
marked_still (b ∷ bs) (suc k) (suc j) h = marked_still bs k j h

pub count_more : (marks : List Bool) (k : ℕ) → k < length marks → is_marked marks k ≡ false → count_of (slice_set marks k true) ≡ count_of marks + 1
count_more [] k below h = absurd (omega arith)
count_more (b ∷ bs) zero below h = let none = ap number_if h in omega (arith, none)
count_more (b ∷ bs) (suc k) below h = let rest = count_more bs k (omega arith) h in omega (arith, rest)

count_if : (b : Bool) → number_if b ≤ 1
count_if true = omega arith
count_if false = omega arith

pub count_within : (marks : List Bool) → count_of marks ≤ length marks
count_within [] = omega arith
count_within (b ∷ bs) = let one = count_if b in let rest = count_within bs in omega (arith, one, rest)

not_true : (b : Bool) → not b ≡ true → b ≡ false
not_true true h = cc
not_true false h = refl

pub ready_parts : (a b : Bool) → (not a && b) ≡ true → (a ≡ false) × (b ≡ true)
ready_parts a b h = let w = and_true (not a) b h in (not_true a w.0, w.1)

-- the table of instances
made_some : (ms : List tree.Module) (m : Option tree.Module)
    → unwrap_or (option_map (λ (x : tree.Module). flat_map (made_by ms) x.items) m) [] ≡ flat_map (made_by ms) (items_in m)
made_some ms None = refl
made_some ms (Some m) = refl

pub row_is : (ms : List tree.Module) (made : List (List Made)) (k : ℕ) → made ≡ made_of ms → row_of made k ≡ made_at ms k
row_is ms made k is =
    ap (λ (t : List (List Made)). row_of t k) is
    ∙ ap (λ (o : Option (List Made)). unwrap_or o []) (slice_get-map (λ (m : tree.Module). flat_map (made_by ms) m.items) ms k)
    ∙ made_some ms (slice_get ms k)

none_or : (p : Made → Bool) (x : Made) (xs : List Made) (b : Bool) → (list_any p xs ≡ false → find p xs ≡ None) → (b || list_any p xs) ≡ false
    → cond b (Some x) (find p xs) ≡ None
none_or p x xs true rest h = cc
none_or p x xs false rest h = rest h

find_none : (p : Made → Bool) (xs : List Made) → list_any p xs ≡ false → find p xs ≡ None
find_none p [] h = refl
find_none p (x ∷ xs) h = none_or p x xs (p x) (find_none p xs) h

module _ (ms : List tree.Module) where
  -- what a marked module has is marked
  has_marked : (marks : List Bool) → ((k : ℕ) (x : Made) → is_marked marks k ≡ true → Contains (made_at ms k) x → is_marked marks x.place ≡ true)
      → (n j p : ℕ) → is_marked marks j ≡ true → has_within n ms p j ≡ true → is_marked marks p ≡ true
  unfolding has_within
  has_marked marks closed zero j p marked h = cc
  has_marked marks closed (suc n) j p marked h =
      let w = any_from (λ (x : Made). x.place == p || has_within n ms p x.place) (made_at ms j) h in
      let next = closed j w.0 marked w.1 in
      elim (or_cases (w.0.place == p) (has_within n ms p w.0.place) w.2) [
        | inl same ↦ subst (λ i. is_marked marks i ≡ true) (eqb-true w.0.place p same) next
        | inr deeper ↦ has_marked marks closed n w.0.place p next deeper
      ]

  -- a module that is not marked, and all whose instances are of marked ones, has not itself
  not_itself : (marks : List Bool) → AreSettled ms marks → (k n : ℕ) → is_marked marks k ≡ false
      → ((x : Made) → Contains (made_at ms k) x → is_marked marks x.place ≡ true) → (b : Bool) → has_within n ms k k ≡ b → has_within n ms k k ≡ false
  unfolding has_within
  not_itself marks settled k n new all false e = e
  not_itself marks settled k zero new all true e = cc
  not_itself marks settled k (suc n) new all true e =
      let w = any_from (λ (x : Made). x.place == k || has_within n ms k x.place) (made_at ms k) e in
      let next = all w.0 w.1 in
      elim (or_cases (w.0.place == k) (has_within n ms k w.0.place) w.2) [
        | inl same ↦ absurd (false≢true (sym new ∙ subst (λ i. is_marked marks i ≡ true) (eqb-true w.0.place k same) next))
        | inr deeper ↦ absurd (false≢true (sym new ∙ has_marked marks settled.closed n w.0.place k next deeper))
      ]

  pub settled_one : (marks : List Bool) (k : ℕ) → is_marked marks k ≡ false → list_all (λ (x : Made). is_marked marks x.place) (made_at ms k) ≡ true
      → AreSettled ms marks → AreSettled ms (slice_set marks k true)
  settled_one marks k new all settled =
      let each = each_all (λ (x : Made). is_marked marks x.place) (made_at ms k) all in
      record {
        closed = λ j x marked at.
            marked_still marks k x.place
            (elim (marked_only marks k j marked) [
              | inl before ↦ settled.closed j x before at
              | inr same ↦ each x (subst (λ i. Contains (made_at ms i) x) same at)
            ]);
        apart = λ j n marked.
            elim (marked_only marks k j marked) [
              | inl before ↦ settled.apart j n before
              | inr same ↦ subst (λ i. has_within n ms i i ≡ false) (sym same) (not_itself marks settled k n new each (has_within n ms k k) refl)
            ];
      }

  -- where all are marked there is no cycle
  pub none_on_cycle : (marks : List Bool) → AreSettled ms marks → (place : ℕ) (more : List tree.Module)
      → ((k : ℕ) → k < length more → is_marked marks (place + k) ≡ true) → cycle_from ms place more ≡ None
  unfolding has_within
  none_on_cycle marks settled place [] all = refl
  none_on_cycle marks settled place (m ∷ more) all =
      let e : place + 0 ≡ place = omega arith in
      let marked = subst (λ i. is_marked marks i ≡ true) e (all 0 (omega arith)) in
      let none = find_none (leads_to ms place) (made_at ms place) (settled.apart place (suc (length ms)) marked) in
      ap (λ (o : Option Made). option_or (option_map (fault_at m) o) (cycle_from ms (place + 1) more)) none
      ∙ none_on_cycle marks settled (place + 1) more
      (λ k below. let f : place + suc k ≡ place + 1 + k = omega arith in subst (λ i. is_marked marks i ≡ true) f (all (suc k) (omega arith)))

  pub none_marked : (n k : ℕ) → is_marked (replicate n false) k ≡ false
  none_marked zero k = refl
  none_marked (suc n) zero = refl
  none_marked (suc n) (suc k) = none_marked n k

  pub settled_first : (n : ℕ) → AreSettled ms (replicate n false)
  settled_first n = record {
    closed = λ k x marked at. absurd (false≢true (sym (none_marked n k) ∙ marked));
    apart = λ k m marked. absurd (false≢true (sym (none_marked n k) ∙ marked));
  }

pub none_settled : (ms : List tree.Module) (made : List (List Made)) → made ≡ made_of ms → (old new : List Bool) → old ≡ replicate (length made) false
    → KeepsSettled made old new → ((k : ℕ) → k < length old → is_marked new k ≡ true) → cycle_from ms 0 ms ≡ None
none_settled ms made is old new none keeps all =
    let long : length old ≡ length ms =
    ap (λ (bs : List Bool). length bs) none ∙ length-replicate (length made) false ∙ ap (λ (t : List (List Made)). length t) is
    ∙ length-map ms (λ (m : tree.Module). flat_map (made_by ms) m.items) in
    none_on_cycle ms new (keeps ms is (subst (AreSettled ms) (sym none) (settled_first ms (length made)))) 0 ms
    (λ k below. let e : k ≡ 0 + k = omega arith in subst (λ i. is_marked new i ≡ true) e (all k (subst (λ n. k < n) (sym long) below)))
