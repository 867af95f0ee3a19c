-- What is read of the nodes where one is taken out of its ring or put into one.
use Rattle.std.proofs.Common.{◌≡◌, ◌≢◌, ℕ, ◌<◌, List, length, set, length-set, get_or-set_same, get_or-set_other, refl, sym, ap, ◌∙◌, ⊎_elim, arith}
use Rattle.std.proofs.lemmas.Bool.{cases_eq}
use Rattle.timed_queue.specs.declared.chains.Node.{Node}
use Rattle.timed_queue.specs.Nodes.{blank, node_at, next_of, before_of, with_place, with_next, with_before, unlinked, standing, linked, Moved}

-- a field that the new node has as the old one had it
pub kept : (f : Node → ℕ) (ns : List Node) (b : ℕ) (v : Node) → b < length ns → f v ≡ f (node_at ns b) → (j : ℕ) → f (node_at (set ns b v) j) ≡ f (node_at ns j)
kept f ns b v within same j = ⊎_elim
    (λ (here : j ≡ b). ap (λ k. f (node_at (set ns b v) k)) here ∙ ap f (get_or-set_same ns b v blank within) ∙ same ∙ ap (λ k. f (node_at ns k)) (sym here))
    (λ (apart : j ≢ b). ap f (get_or-set_other ns b j v blank apart))
    (cases_eq j b)

pub changed : (f : Node → ℕ) (ns : List Node) (b : ℕ) (v : Node) → b < length ns → f (node_at (set ns b v) b) ≡ f v
changed f ns b v within = ap f (get_or-set_same ns b v blank within)

pub other : (f : Node → ℕ) (ns : List Node) (b : ℕ) (v : Node) (j : ℕ) → j ≢ b → f (node_at (set ns b v) j) ≡ f (node_at ns j)
other f ns b v j apart = ap f (get_or-set_other ns b j v blank apart)

abbrev place : Node → ℕ
place n = n.place

abbrev next : Node → ℕ
next n = n.next

abbrev before : Node → ℕ
before n = n.before

abbrev name : Node → ℕ
name n = n.name

abbrev time : Node → ℕ
time n = n.time

module _ (ns : List Node) (i : ℕ) (within : i < length ns) (next_in : next_of ns i < length ns) (before_in : before_of ns i < length ns) where
  abbrev one : List Node
  one = with_next ns (before_of ns i) (next_of ns i)

  abbrev two : List Node
  two = with_before one (next_of ns i) (before_of ns i)

  abbrev v1 : Node
  v1 = record (node_at ns (before_of ns i)) { next = next_of ns i }

  abbrev v2 : Node
  v2 = record (node_at one (next_of ns i)) { before = before_of ns i }

  abbrev v3 : Node
  v3 = record (node_at two i) { place = 705 }

  len1 : length one ≡ length ns
  len1 = length-set ns (before_of ns i) v1

  len2 : length two ≡ length ns
  len2 = length-set one (next_of ns i) v2 ∙ len1

  in2 : next_of ns i < length one
  in2 = omega (arith, len1, next_in)

  in3 : i < length two
  in3 = omega (arith, len2, within)

  all_kept : (f : Node → ℕ) → f v1 ≡ f (node_at ns (before_of ns i)) → f v2 ≡ f (node_at one (next_of ns i)) → f v3 ≡ f (node_at two i) → (j : ℕ)
      → f (node_at (set two i v3) j) ≡ f (node_at ns j)
  all_kept f e1 e2 e3 j = kept f two i v3 in3 e3 j ∙ kept f one (next_of ns i) v2 in2 e2 j ∙ kept f ns (before_of ns i) v1 before_in e1 j

  pub moved_out : Moved ns (unlinked ns i) i 705
  unfolding unlinked
  moved_out = record {
    as_many = length-set two i v3 ∙ len2;
    here = changed place two i v3 in3;
    others = λ j apart. other place two i v3 j apart ∙ kept place one (next_of ns i) v2 in2 refl j ∙ kept place ns (before_of ns i) v1 before_in refl j;
    names = all_kept name refl refl refl;
    times = all_kept time refl refl refl;
  }

  pub out_next_at : next_of (unlinked ns i) (before_of ns i) ≡ next_of ns i
  unfolding unlinked
  out_next_at = kept next two i v3 in3 refl (before_of ns i) ∙ kept next one (next_of ns i) v2 in2 refl (before_of ns i) ∙ changed next ns (before_of ns i) v1 before_in

  pub out_next_other : (j : ℕ) → j ≢ before_of ns i → next_of (unlinked ns i) j ≡ next_of ns j
  unfolding unlinked
  out_next_other j apart = kept next two i v3 in3 refl j ∙ kept next one (next_of ns i) v2 in2 refl j ∙ other next ns (before_of ns i) v1 j apart

  pub out_before_at : before_of (unlinked ns i) (next_of ns i) ≡ before_of ns i
  unfolding unlinked
  out_before_at = kept before two i v3 in3 refl (next_of ns i) ∙ changed before one (next_of ns i) v2 in2

  pub out_before_other : (j : ℕ) → j ≢ next_of ns i → before_of (unlinked ns i) j ≡ before_of ns j
  unfolding unlinked
  out_before_other j apart = kept before two i v3 in3 refl j ∙ other before one (next_of ns i) v2 j apart ∙ kept before ns (before_of ns i) v1 before_in refl j

module _ (ns : List Node) (i q : ℕ) (within : i < length ns) (q_in : q < length ns) (last_in : before_of ns q < length ns) where
  abbrev s1 : List Node
  s1 = with_next ns (before_of ns q) i

  abbrev s2 : List Node
  s2 = with_before s1 q i

  abbrev s3 : List Node
  s3 = with_place s2 i q

  abbrev s4 : List Node
  s4 = with_next s3 i q

  abbrev u1 : Node
  u1 = record (node_at ns (before_of ns q)) { next = i }

  abbrev u2 : Node
  u2 = record (node_at s1 q) { before = i }

  abbrev u3 : Node
  u3 = record (node_at s2 i) { place = q }

  abbrev u4 : Node
  u4 = record (node_at s3 i) { next = q }

  abbrev u5 : Node
  u5 = record (node_at s4 i) { before = before_of ns q }

  l1 : length s1 ≡ length ns
  l1 = length-set ns (before_of ns q) u1

  l2 : length s2 ≡ length ns
  l2 = length-set s1 q u2 ∙ l1

  l3 : length s3 ≡ length ns
  l3 = length-set s2 i u3 ∙ l2

  l4 : length s4 ≡ length ns
  l4 = length-set s3 i u4 ∙ l3

  i2 : q < length s1
  i2 = omega (arith, l1, q_in)

  i3 : i < length s2
  i3 = omega (arith, l2, within)

  i4 : i < length s3
  i4 = omega (arith, l3, within)

  i5 : i < length s4
  i5 = omega (arith, l4, within)

  pub moved_in : Moved ns (linked ns i q) i q
  unfolding linked standing
  moved_in = record {
    as_many = length-set s4 i u5 ∙ l4;
    here = kept place s4 i u5 i5 refl i ∙ kept place s3 i u4 i4 refl i ∙ changed place s2 i u3 i3;
    others = λ j apart. kept place s4 i u5 i5 refl j ∙ kept place s3 i u4 i4 refl j ∙ other place s2 i u3 j apart ∙ kept place s1 q u2 i2 refl j ∙ kept place ns (before_of ns q) u1 last_in refl j;
    names = λ j. kept name s4 i u5 i5 refl j ∙ kept name s3 i u4 i4 refl j ∙ kept name s2 i u3 i3 refl j ∙ kept name s1 q u2 i2 refl j ∙ kept name ns (before_of ns q) u1 last_in refl j;
    times = λ j. kept time s4 i u5 i5 refl j ∙ kept time s3 i u4 i4 refl j ∙ kept time s2 i u3 i3 refl j ∙ kept time s1 q u2 i2 refl j ∙ kept time ns (before_of ns q) u1 last_in refl j;
  }

  pub in_next_last : before_of ns q ≢ i → next_of (linked ns i q) (before_of ns q) ≡ i
  unfolding linked standing
  in_next_last apart = kept next s4 i u5 i5 refl (before_of ns q) ∙ other next s3 i u4 (before_of ns q) apart ∙ kept next s2 i u3 i3 refl (before_of ns q) ∙ kept next s1 q u2 i2 refl (before_of ns q)
      ∙ changed next ns (before_of ns q) u1 last_in

  pub in_next_at : next_of (linked ns i q) i ≡ q
  unfolding linked standing
  in_next_at = kept next s4 i u5 i5 refl i ∙ changed next s3 i u4 i4

  pub in_next_other : (j : ℕ) → j ≢ before_of ns q → j ≢ i → next_of (linked ns i q) j ≡ next_of ns j
  unfolding linked standing
  in_next_other j far apart = kept next s4 i u5 i5 refl j ∙ other next s3 i u4 j apart ∙ kept next s2 i u3 i3 refl j ∙ kept next s1 q u2 i2 refl j ∙ other next ns (before_of ns q) u1 j far

  pub in_before_head : q ≢ i → before_of (linked ns i q) q ≡ i
  unfolding linked standing
  in_before_head apart = other before s4 i u5 q apart ∙ kept before s3 i u4 i4 refl q ∙ kept before s2 i u3 i3 refl q ∙ changed before s1 q u2 i2

  pub in_before_at : before_of (linked ns i q) i ≡ before_of ns q
  unfolding linked standing
  in_before_at = changed before s4 i u5 i5

  pub in_before_other : (j : ℕ) → j ≢ q → j ≢ i → before_of (linked ns i q) j ≡ before_of ns j
  unfolding linked standing
  in_before_other j far apart = other before s4 i u5 j apart ∙ kept before s3 i u4 i4 refl j ∙ kept before s2 i u3 i3 refl j ∙ other before s1 q u2 j far ∙ kept before ns (before_of ns q) u1 last_in refl j
