-- Who uses something: nobody, one process, or more than one.
use Rattle.std.specs.Prelude.{◌≢◌, ◌==◌, ◌&&◌, ⊤, ℕ, Bool, true, false, List, slice_get, unwrap_or, if◌then◌else◌}
use Rattle.order_free.specs.declared.users.Users.{Users}
use Rattle.order_free.specs.declared.users.Users.TheVariants as users

-- whether the users of the first are among those of the second
abbrev pub is_within : Users → Users → Bool
is_within users.Nobody y = true
is_within (users.One p) users.Nobody = false
is_within (users.One p) (users.One q) = p == q
is_within (users.One p) users.Many = true
is_within users.Many users.Nobody = false
is_within users.Many (users.One q) = false
is_within users.Many users.Many = true

abbrev pub joined : Users → Users → Users
joined users.Nobody y = y
joined (users.One p) users.Nobody = users.One p
joined (users.One p) (users.One q) = (if p == q then users.One p else users.Many)
joined (users.One p) users.Many = users.Many
joined users.Many y = users.Many

abbrev pub is_somebody : Users → Bool
is_somebody users.Nobody = false
is_somebody (users.One p) = true
is_somebody users.Many = true

abbrev pub is_many : Users → Bool
is_many users.Nobody = false
is_many (users.One p) = false
is_many users.Many = true

-- those that are told have a property
abbrev pub Shows : (ℕ → Type 0) → Users → Type 0
Shows P users.Nobody = ⊤
Shows P (users.One p) = P p
Shows P users.Many = (p : ℕ) × (q : ℕ) × (p ≢ q) × P p × P q

-- the users under a number: nobody where the list has ended
abbrev pub users_in : List Users → ℕ → Users
users_in xs n = unwrap_or (slice_get xs n) users.Nobody

-- one cancels, and who cancels or notifies is more than one
abbrev pub is_clash : Users → Users → Bool
is_clash cancelled notified = is_somebody cancelled && is_many (joined cancelled notified)
