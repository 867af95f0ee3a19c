-- What `is_same` tells apart is not equal, and what is not equal it tells apart.
use Rattle.std.proofs.Common.{◌≡◌, ◌≢◌, ◌↔◌, ◌∙◌, true, not, sym, ap, true≢false}
use Rattle.std.proofs.lemmas.Bool.{and_parts, false_from_ne_true, not-true, not_from_false}
use Rattle.std.specs.Cmp.Derive.{both_true}
use Rattle.logic_values.specs.declared.kinds.Digit.{Digit}
use Rattle.logic_values.specs.declared.kinds.Value.{Value}
use Rattle.logic_values.specs.declared.kinds.Value.TheVariants.{Logic}
use Rattle.logic_values.specs.SameValue.{is_same}
use Rattle.logic_values.proofs.SameValueLaws.{same_exactly_equal}
use Rattle.signal_channel.specs.Drivers.{edges}
use Rattle.signal_channel.specs.Signals.{differs}
use Rattle.signal_channel.specs.declared.signal.Signal.{Signal}

pub not_same_not_equal : (a b : Value) → not (is_same a b) ≡ true → a ≢ b
not_same_not_equal a b h e = true≢false (sym ((same_exactly_equal a b).1 e) ∙ not-true (is_same a b) h)

pub not_equal_not_same : (a b : Value) → a ≢ b → not (is_same a b) ≡ true
not_equal_not_same a b h = not_from_false (is_same a b) (false_from_ne_true (is_same a b) (λ e. h ((same_exactly_equal a b).0 e)))

pub differs_exactly : (s : Signal) → (differs s ≡ true) ↔ ((s.asked ≡ true) × (s.value ≢ s.next))
differs_exactly s = (
  λ h. let p = and_parts s.asked (not (is_same s.value s.next)) h in (p.0, not_same_not_equal s.value s.next p.1),
  λ p. both_true p.0 (not_equal_not_same s.value s.next p.1),
)

-- a digit is told by the value that it is
abbrev digit_in : Value → Digit → Digit
digit_in (Logic d) e = d
digit_in v e = e

pub edges_exactly : (old new : Digit) → ((edges old new).changed ≡ true) ↔ (old ≢ new)
edges_exactly old new = (
  λ h e. not_same_not_equal (Logic old) (Logic new) h (ap Logic e),
  λ h. not_equal_not_same (Logic old) (Logic new) (λ e. h (apart e)),
)
  where
    apart : Logic old ≡ Logic new → old ≡ new
    apart e = ap (λ v. digit_in v old) e
