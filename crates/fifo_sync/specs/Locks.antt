-- What a contract sees of a `Mutex` (IEEE 1666-2011, 6.27) and of a `Semaphore` (6.29): its owner, if there is one, and its value.
use Rattle.std.specs.Prelude.{ℕ, ◌==◌, ℤ, pos, neg_ℤ, Bool, true, false, Option, None, Some, if◌then◌else◌}

-- what a call answers that can fail: 0 where it was done, and -1 where not
abbrev pub answer : Bool → ℤ
answer true = pos 0
answer false = neg_ℤ (pos 1)

-- whether nobody owns the mutex
abbrev pub is_unlocked : Option ℕ → Bool
is_unlocked None = true
is_unlocked (Some owner) = false

-- whether p owns the mutex
abbrev pub is_owner : ℕ → Option ℕ → Bool
is_owner p None = false
is_owner p (Some owner) = owner == p

-- p owns it, if nobody did
abbrev pub locked_by : ℕ → Option ℕ → Option ℕ
locked_by p None = Some p
locked_by p (Some owner) = Some owner

-- nobody owns it, if p did
abbrev pub unlocked_by : ℕ → Option ℕ → Option ℕ
unlocked_by p m = if is_owner p m then None else m

-- whether nothing is left to take
abbrev pub is_used_up : ℕ → Bool
is_used_up n = n == 0
