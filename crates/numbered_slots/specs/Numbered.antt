-- What a contract sees of `Slots`.
use Rattle.std.specs.Prelude.{◌≡◌, ℕ, ◌+◌, ◌≤◌, None, refl}
use Rattle.std.specs.Ordering.{nat_cmp}
use Rattle.std.specs.Coded.{Coded, code_by, coded×, coded_ℕ}
use Rattle.std.specs.FinMap as map

-- the live values by number, and the number that the next one gets
pub record Numbered (T : Type 0) : Type 0 where
  pub live : map.FinMap nat_cmp T
  pub next : ℕ

-- they are stored as the pair of the fields
abbrev pub numbered_code : {T : Type 0} → Coded T → Coded (Numbered T)
numbered_code {T} value =
    code_by
    (map.FinMap nat_cmp T × ℕ)
    (coded× (map.code coded_ℕ value) coded_ℕ)
    (λ n. (n.live, n.next))
    (λ p. record { live = p.0; next = p.1 })
    (λ _. refl)

module _ {T : Type 0} where
  -- no number from the next one on is live
  abbrev pub HasFreshNext : Numbered T → Type 0
  HasFreshNext n = (number : ℕ) → n.next ≤ number → map.get n.live number ≡ None

  -- a value more, under the next number
  abbrev pub with_inserted : Numbered T → T → Numbered T
  with_inserted n value = record {
    live = map.insert n.live n.next value;
    next = n.next + 1;
  }

  -- without the value of this number
  abbrev pub without : Numbered T → ℕ → Numbered T
  without n number = record n { live = map.remove n.live number }

  -- this value under a number
  abbrev pub with_value : Numbered T → ℕ → T → Numbered T
  with_value n number value = record n { live = map.insert n.live number value }
