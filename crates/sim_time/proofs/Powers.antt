-- Powers of ten.
use Rattle.std.specs.Prelude.{ℕ, zero, suc, ◌^◌, ◌<◌}
use Rattle.std.proofs.Common.{arith}

-- a power of ten is more than nothing
pub ten_is_some : (n : ℕ) → 0 < 10 ^ n
ten_is_some zero = omega arith
ten_is_some (suc n) = let more = ten_is_some n in omega (arith, more)
