-- Which parts of the rule are broken by what is noted.
use Rattle.std.specs.Prelude.{◌≡◌, ◌<◌, ℕ, true}
use Rattle.order_free.specs.declared.uses.Use.{Use}
use Rattle.order_free.specs.declared.uses.Use.TheVariants as used
use Rattle.order_free.specs.Free.{IsStored, IsEnd}
use Rattle.order_free.specs.Users.{is_somebody, is_many, is_clash}
use Rattle.order_free.specs.Tables.{users_at}
use Rattle.order_free.specs.declared.tables.Tables.{Tables}
use Rattle.order_free.specs.declared.verdicts.Verdict.{Verdict}
use Rattle.order_free.specs.declared.verdicts.Verdict.TheVariants as verdict

pub data Broken (t : Tables) (rule : ℕ) : Type 0 where
  first : rule ≡ 1 → is_somebody t.unfit ≡ true → Broken t rule
  second : rule ≡ 2 → is_somebody t.watches ≡ true → Broken t rule
  third : rule ≡ 3 → (u : Use) → IsStored u → is_many (users_at t u) ≡ true → Broken t rule
  fourth : rule ≡ 4 → (u : Use) → IsEnd u → is_many (users_at t u) ≡ true → Broken t rule
  fifth : rule ≡ 5 → (e : ℕ) → is_clash (users_at t (used.Cancels e)) (users_at t (used.Notifies e)) ≡ true → Broken t rule

-- the first part that is broken, if one is
abbrev pub Judges : Tables → Verdict → Type 0
Judges t verdict.Yes = (k : ℕ) → Broken t k → ⊥
Judges t (verdict.No rule) = Broken t rule × ((k : ℕ) → k < rule → Broken t k → ⊥)
