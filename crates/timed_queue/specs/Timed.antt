-- What a contract sees of a `TimedQueue`.
use Rattle.std.specs.Prelude.{◌≡◌, ℕ, ◌+◌, ◌-◌, ◌≤◌, Bool, false, not, ◌==◌, List, ◌++◌, Option, None, Some, if◌then◌else◌, count_by, refl}
use Rattle.std.specs.Ordering.{nat_cmp}
use Rattle.std.specs.Coded.{Coded, code_by, coded×, coded_ℕ}
use Rattle.std.specs.FinMap as map
use Rattle.sim_time.specs.declared.moments.Time.{Time}
use Rattle.sim_time.specs.contracts.moments.Time as time

-- the time of each name, and for how many more names there is room
pub record Timed : Type 0 where
  pub times : map.FinMap nat_cmp Time
  pub spare : ℕ

-- a queue is stored as the pair of its fields
abbrev pub timed_code : Coded Timed
timed_code =
    code_by
    (map.FinMap nat_cmp Time × ℕ)
    (coded× (map.code coded_ℕ time.the_row.coded) coded_ℕ)
    (λ q. (q.times, q.spare))
    (λ p. record { times = p.0; spare = p.1 })
    (λ _. refl)

-- the name has this time now, and takes a place where it had none
abbrev pub with_time : Timed → ℕ → Time → Timed
with_time q name t = record {
  times = map.insert q.times name t;
  spare = if map.contains_key q.times name then q.spare else q.spare - 1;
}

-- the name has no time, and the place that it took is spare again
abbrev pub without : Timed → ℕ → Timed
without q name = record {
  times = map.remove q.times name;
  spare = if map.contains_key q.times name then q.spare + 1 else q.spare;
}

-- some name has this time, and none has an earlier one
pub record IsEarliest (times : map.FinMap nat_cmp Time) (t : Time) : Type 0 where
  pub held : (name : ℕ) × (map.get times name ≡ Some t)
  pub least : (name : ℕ) (other : Time) → map.get times name ≡ Some other → t.0 ≤ other.0

abbrev pub is_at : Time → Option Time → Bool
is_at t None = false
is_at t (Some other) = other.0 == t.0

-- the name has this very time
abbrev pub is_due : map.FinMap nat_cmp Time → Time → ℕ → Bool
is_due times t name = is_at t (map.get times name)

-- the names with this very time
abbrev pub due_at : map.FinMap nat_cmp Time → Time → map.FinMap nat_cmp Time
due_at times t = map.retain_keys times (is_due times t)

-- the names with another time stay, and the places of those with this one are spare again
abbrev pub without_due : Timed → Time → Timed
without_due q t = record {
  times = map.retain_keys q.times (λ name. not (is_due q.times t name));
  spare = q.spare + map.len (due_at q.times t);
}

-- behind the old list the new one has, in some order, each number that passes the test, once
pub record AddsEach (old new : List ℕ) (test : ℕ → Bool) : Type 0 where
  pub added : List ℕ
  pub behind : new ≡ old ++ added
  pub once : (p : ℕ) → count_by (λ x. x == p) added ≡ (if test p then 1 else 0)
