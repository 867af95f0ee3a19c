-- What `Slots` ends as, where a `&mut` to one of its values is returned.
use Rattle.std.specs.Prelude.{ℕ, Option}
use Rattle.std.specs.Borrow.{LendsIf, Fml, RattleType, MutBor}
use Rattle.numbered_slots.specs.Numbered.{Numbered, with_value}
use Rattle.numbered_slots.specs.contracts.slots.Slots as slots

-- the number has the last value written through the borrow, and at `None` all stays as it is
abbrev pub lends_value : (T : RattleType) → MutBor (Numbered T.Denot) → ℕ → Option (MutBor T.Denot) → Fml
lends_value T s number r = LendsIf (slots.the_row T) T s r (with_value s.now number) s.now
