-- Where a time stands in a wheel: in one of 64 places on one of 11 levels. No public clause cites this module.
use Rattle.std.specs.Prelude.{ℕ, zero, suc, ◌+◌, ◌-◌, ◌*◌, ◌/◌, ◌%◌, ◌==◌, nat_lt, if◌then◌else◌}

-- with n levels above this one: the place of the last digit to the base 64, where all digits above it are the origin's; else the place
-- on a level above
unfoldable pub place_at : ℕ → ℕ → ℕ → ℕ
place_at zero t origin = t % 64
place_at (suc n) t origin = if t / 64 == origin / 64 then t % 64 else 64 + place_at n (t / 64) (origin / 64)

-- the first time that stands in this place
unfoldable pub start_at : ℕ → ℕ → ℕ → ℕ
start_at zero place origin = origin / 64 * 64 + place
start_at (suc n) place origin = if nat_lt place 64 then origin / 64 * 64 + place else 64 * start_at n (place - 64) (origin / 64)
