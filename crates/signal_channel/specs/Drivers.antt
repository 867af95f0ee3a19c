-- Resolved signals (IEEE 1666-2011, 6.13): one driver for each process that wrote.
use Rattle.std.specs.Prelude.{ℕ, ◌&&◌, ◌==◌, not, List, [], ◌∷◌, ◌++◌, Option, None, Some, position, slice_set, refl}
use Rattle.std.specs.Coded.{Coded, code_by, coded×, coded_list, coded_ℕ}
use Rattle.logic_values.specs.declared.kinds.Digit.{Digit}
use Rattle.logic_values.specs.declared.kinds.Digit.TheVariants.{X}
use Rattle.logic_values.specs.declared.kinds.Value.TheVariants.{Logic}
use Rattle.logic_values.specs.contracts.kinds.Digit as digit
use Rattle.logic_values.specs.LogicTables.{resolved}
use Rattle.logic_values.specs.SameValue.{is_same}
use Rattle.signal_channel.specs.Edges.{is_one, is_zero}
use Rattle.signal_channel.specs.declared.signal.Changed.{Changed}

-- the serials of the processes that wrote, by their first writes, at the same places what each drives,
-- and the value that is read
pub record Driven : Type 0 where
  pub writers : List ℕ
  pub drivers : List Digit
  pub value : Digit

-- it is stored as its fields
abbrev pub driven_code : Coded Driven
driven_code =
    code_by
    (List ℕ × (List Digit × Digit))
    (coded× (coded_list coded_ℕ) (coded× (coded_list digit.the_row.coded) digit.the_row.coded))
    (λ r. (r.writers, (r.drivers, r.value)))
    (λ p. record { writers = p.0; drivers = p.1.0; value = p.1.1 })
    (λ _. refl)

-- nobody drives it, and it is unknown
abbrev pub undriven : Driven
undriven = record { writers = []; drivers = []; value = X }

-- the driver at the place of the process has this digit, or the process has a driver from now on
abbrev pub driven_at : ℕ → Digit → Driven → Option ℕ → Driven
driven_at p d r None = record { writers = r.writers ++ p ∷ []; drivers = r.drivers ++ d ∷ []; value = r.value }
driven_at p d r (Some i) = record { writers = r.writers; drivers = slice_set r.drivers i d; value = r.value }

-- the process drives this digit
abbrev pub driven_by : ℕ → Digit → Driven → Driven
driven_by p d r = driven_at p d r (position (λ w. w == p) r.writers)

-- what the drivers make of it; it is unknown until somebody drives it
abbrev pub resolution : List Digit → Digit
resolution [] = X
resolution (d ∷ ds) = resolved (d ∷ ds)

-- an update: the value is what the drivers make of it
abbrev pub resettled : Driven → Driven
resettled r = record { writers = r.writers; drivers = r.drivers; value = resolution r.drivers }

-- what becomes of a value is announced: that it changed, that it became 1, that it became 0
abbrev pub edges : Digit → Digit → Changed
edges old new = record {
  changed = not (is_same (Logic old) (Logic new));
  pos = not (is_same (Logic old) (Logic new)) && is_one (Logic new);
  neg = not (is_same (Logic old) (Logic new)) && is_zero (Logic new);
}
