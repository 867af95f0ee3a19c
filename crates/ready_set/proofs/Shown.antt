-- What a set shows, after each change of its vector.
use Rattle.std.proofs.Common.{◌≡◌, ℕ, ◌+◌, ◌-◌, Bool, true, false, cond, not, ◌&&◌, ◌||◌, List, [], ◌∷◌, length, refl, sym, ap, ◌∙◌, arith, true≢false}
use Rattle.std.specs.Prelude.{filter, ◌==◌, nat_lt, Some, None, Option, is_some}
use Rattle.std.proofs.lemmas.Map.Views.{any-filter_same}
use Rattle.std.specs.Ordering.{nat_cmp, eq_by_cmp}
use Rattle.std.specs.Cmp.{nat_cmp_total, unsigned_tied}
use Rattle.std.specs.Ordering.{is_eq}
use Rattle.std.specs.Cmp.{ranked}
use Rattle.std.specs.declared.cmp.Ordering.TheVariants.{Less, Equal, Greater}
use Rattle.std.specs.FinMap.{find, put}
use Rattle.std.specs.FinMap.Entries.{by_order, is_some-find}
use Rattle.room_map.specs.Entries as entries
use Rattle.room_map.specs.Entries.{without}
use Rattle.std.specs.FinSet as set
use Rattle.std.specs.FinSet.{FinSet, contains, insert, remove, items, len, from_list}
use Rattle.ready_set.specs.Ready.{Ready, placed, rising, with_member, without_member}
use Rattle.ready_set.specs.Layout.{AllAbove, IsRising, is_other, keys_of}
use Rattle.ready_set.proofs.Rising.{has, tied, above_all, has-placed, has-in_order, rising-in_order, same_rising}

abbrev set_of : List ℕ → FinSet nat_cmp
set_of xs = from_list xs

pub same_members : (s t : FinSet nat_cmp) → ((q : ℕ) → contains s q ≡ contains t q) → s ≡ t
same_members s t alike = set.same_set nat_cmp_total set.nat_cmp-IsAntisymmetric s t alike

pub contains-set_of : (xs : List ℕ) (q : ℕ) → contains (set_of xs) q ≡ has q xs
contains-set_of xs q = set.contains-from_list nat_cmp_total xs q

pub set-placed : (p : ℕ) (xs : List ℕ) → set_of (placed p xs) ≡ insert (set_of xs) p
set-placed p xs = same_members _ _ (λ q.
    contains-set_of (placed p xs) q ∙ has-placed q p xs ∙ ap (λ b. eq_by_cmp nat_cmp q p || b) (sym (contains-set_of xs q))
    ∙ sym (set.contains-insert nat_cmp_total (set_of xs) p q))

other : (p q k : ℕ) → eq_by_cmp nat_cmp q k ≡ true → is_other p k ≡ not (eq_by_cmp nat_cmp q p)
other p q k is = ap (λ n. not (p == n)) (sym (tied q k is)) ∙ ap not (sym (unsigned_tied p q) ∙ sym (set_ties p q))
  where
    set_ties : (p q : ℕ) → eq_by_cmp nat_cmp q p ≡ eq_by_cmp nat_cmp p q
    set_ties p q = unsigned_tied q p ∙ Rattle.std.specs.Cmp.nat_eq_equiv.symm q p ∙ sym (unsigned_tied p q)

pub set-cut : (p : ℕ) (xs : List ℕ) → set_of (filter (is_other p) xs) ≡ remove (set_of xs) p
set-cut p xs = same_members _ _ (λ q.
    contains-set_of (filter (is_other p) xs) q
    ∙ any-filter_same (eq_by_cmp nat_cmp q) (is_other p) (not (eq_by_cmp nat_cmp q p)) (λ k is. other p q k is) xs
    ∙ ap (λ b. not (eq_by_cmp nat_cmp q p) && b) (sym (contains-set_of xs q))
    ∙ sym (set.contains-remove nat_cmp_total (set_of xs) p q))

-- a list that rises is the rising order of its set
pub rising-set_of : (xs : List ℕ) → IsRising xs → rising (set_of xs) ≡ xs
rising-set_of xs rises = same_rising (rising (set_of xs)) xs (rising-in_order (items (set_of xs))) rises (λ q.
    has-in_order q (items (set_of xs)) ∙ sym (set.contains-items (set_of xs) q) ∙ contains-set_of xs q)

pub len-set_of : (xs : List ℕ) → IsRising xs → len (set_of xs) ≡ length xs
len-set_of [] rises = set.len-empty nat_cmp
len-set_of (x ∷ xs) rises =
    set.len-insert nat_cmp_total (set_of xs) x
    ∙ ap (λ b. cond b (len (set_of xs)) (len (set_of xs) + 1)) (contains-set_of xs x ∙ above_all x xs rises.0)
    ∙ omega (arith, len-set_of xs rises.1)

or-same : (a b : Bool) → (a ≡ true → b ≡ true) → (a || b) ≡ b
or-same true b is = sym (is refl)
or-same false b is = refl

insert_member : (s : FinSet nat_cmp) (p : ℕ) → contains s p ≡ true → insert s p ≡ s
insert_member s p there = same_members _ _ (λ q.
    set.contains-insert nat_cmp_total s p q ∙ or-same (eq_by_cmp nat_cmp q p) (contains s q) (λ is. ap (contains s) (tied q p is) ∙ there))

-- to put a member in changes nothing
pub with_again : (r : Ready) (p : ℕ) → contains r.members p ≡ true → r ≡ with_member r p
with_again r p there = λ i. record { members = sym (insert_member r.members p there) i; spare = sym (ap (λ b. cond b r.spare (r.spare - 1)) there) i }

-- ---- entries, and their keys

-- what a set with these entries and this room shows
abbrev pub shown : List (ℕ × Unit {0}) → ℕ → Ready
shown es spare = record { members = from_list (keys_of es); spare = spare }

above-keys : (b : ℕ) (es : List (ℕ × Unit {0})) → entries.AllAbove nat_cmp b es → AllAbove b (keys_of es)
above-keys b [] above = tt
above-keys b (e ∷ es) above = (ranked b e.0 Less (sym above.0), above-keys b es above.1)

pub rising-keys : (es : List (ℕ × Unit {0})) → entries.IsRising nat_cmp es → IsRising (keys_of es)
rising-keys [] rises = tt
rising-keys (e ∷ es) rises = (above-keys e.0 es rises.0, rising-keys es rises.1)

pub keys-put : (p : ℕ) (es : List (ℕ × Unit {0})) → keys_of (put nat_cmp p tt es) ≡ placed p (keys_of es)
keys-put p [] = refl
keys-put p (e ∷ es) = by_tests (nat_lt p e.0) (p == e.0) (keys-put p es)
  where
    by_tests : (a b : Bool) → keys_of (put nat_cmp p tt es) ≡ placed p (keys_of es)
        → keys_of (by_order (cond a Less (cond b Equal Greater)) ((p, tt) ∷ e ∷ es) ((e.0, tt) ∷ es) (e ∷ put nat_cmp p tt es))
        ≡ cond a (p ∷ e.0 ∷ keys_of es) (cond b (e.0 ∷ keys_of es) (e.0 ∷ placed p (keys_of es)))
    by_tests true b rest = refl
    by_tests false true rest = refl
    by_tests false false rest = ap (λ ks. e.0 ∷ ks) rest

pub keys-without : (p : ℕ) (es : List (ℕ × Unit {0})) → keys_of (without nat_cmp p es) ≡ filter (is_other p) (keys_of es)
keys-without p [] = refl
keys-without p (e ∷ es) =
    ap (λ b. keys_of (cond b (without nat_cmp p es) (e ∷ without nat_cmp p es))) (unsigned_tied p e.0) ∙ by_test (p == e.0) (keys-without p es)
  where
    by_test : (b : Bool) → keys_of (without nat_cmp p es) ≡ filter (is_other p) (keys_of es)
        → keys_of (cond b (without nat_cmp p es) (e ∷ without nat_cmp p es)) ≡ cond (not b) (e.0 ∷ filter (is_other p) (keys_of es)) (filter (is_other p) (keys_of es))
    by_test true rest = rest
    by_test false rest = ap (λ ks. e.0 ∷ ks) rest

pub has-find : (p : ℕ) (es : List (ℕ × Unit {0})) → is_some (find nat_cmp p es) ≡ contains (set_of (keys_of es)) p
has-find p es = is_some-find nat_cmp p es ∙ sym (contains-set_of (keys_of es) p)

pub absent : (p : ℕ) (es : List (ℕ × Unit {0})) → contains (set_of (keys_of es)) p ≡ false → find nat_cmp p es ≡ None
absent p es none = nothing (find nat_cmp p es) (has-find p es ∙ none)
  where
    nothing : (o : Option (Unit {0})) → is_some o ≡ false → o ≡ None
    nothing None h = refl
    nothing (Some u) h = absurd (true≢false h)

-- ---- what a change shows

pub shown-put : (p : ℕ) (es new : List (ℕ × Unit {0})) (spare spare' : ℕ) → new ≡ put nat_cmp p tt es → spare' + 1 ≡ spare → contains (set_of (keys_of es)) p ≡ false
    → shown new spare' ≡ with_member (shown es spare) p
shown-put p es new spare spare' is less none = λ i. record {
  members = (ap (λ ks. set_of ks) (ap keys_of is ∙ keys-put p es) ∙ set-placed p (keys_of es)) i;
  spare = (one_less ∙ sym (ap (λ b. cond b spare (spare - 1)) none)) i;
}
  where
    one_less : spare' ≡ spare - 1
    one_less = omega arith

pub shown-without : (p : ℕ) (es new : List (ℕ × Unit {0})) (spare spare' : ℕ) (b : Bool) → new ≡ without nat_cmp p es → b ≡ is_some (find nat_cmp p es)
    → spare' ≡ cond b (spare + 1) spare → shown new spare' ≡ without_member (shown es spare) p
shown-without p es new spare spare' b is there more = λ i. record {
  members = (ap (λ ks. set_of ks) (ap keys_of is ∙ keys-without p es) ∙ set-cut p (keys_of es)) i;
  spare = (more ∙ ap (λ b. cond b (spare + 1) spare) (there ∙ has-find p es)) i;
}
