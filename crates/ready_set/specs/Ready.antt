-- What a contract sees of a `ReadySet`.
use Rattle.std.specs.Prelude.{◌≡◌, ◌≤◌, ℕ, true, ◌+◌, ◌-◌, ◌==◌, nat_lt, List, [], ◌∷◌, if◌then◌else◌, refl}
use Rattle.std.specs.Ordering.{nat_cmp}
use Rattle.std.specs.Coded.{Coded, code_by, coded×, coded_ℕ}
use Rattle.std.specs.FinSet as set

-- the serials in the set, and for how many more there is room
pub record Ready : Type 0 where
  pub members : set.FinSet nat_cmp
  pub spare : ℕ

-- a set is stored as the pair of its fields
abbrev pub ready_code : Coded Ready
ready_code =
    code_by
    (set.FinSet nat_cmp × ℕ)
    (coded× (set.code coded_ℕ) coded_ℕ)
    (λ r. (r.members, r.spare))
    (λ p. record { members = p.0; spare = p.1 })
    (λ _. refl)

-- p in its place among numbers that rise, once
abbrev pub placed : ℕ → List ℕ → List ℕ
placed p [] = p ∷ []
placed p (x ∷ xs) = if nat_lt p x then p ∷ x ∷ xs else (if p == x then x ∷ xs else x ∷ placed p xs)

-- each number once, in rising order
abbrev pub in_order : List ℕ → List ℕ
in_order [] = []
in_order (x ∷ xs) = placed x (in_order xs)

-- the members in rising order
abbrev pub rising : set.FinSet nat_cmp → List ℕ
rising s = in_order (set.items s)

-- a member, and no member is less
pub record IsLeast (s : set.FinSet nat_cmp) (p : ℕ) : Type 0 where
  pub member : set.contains s p ≡ true
  pub least : (q : ℕ) → set.contains s q ≡ true → p ≤ q

-- p is a member now, and takes a place where it was none
abbrev pub with_member : Ready → ℕ → Ready
with_member r p = record {
  members = set.insert r.members p;
  spare = if set.contains r.members p then r.spare else r.spare - 1;
}

-- p is no member now, and the place that it took is spare again
abbrev pub without_member : Ready → ℕ → Ready
without_member r p = record {
  members = set.remove r.members p;
  spare = if set.contains r.members p then r.spare + 1 else r.spare;
}
