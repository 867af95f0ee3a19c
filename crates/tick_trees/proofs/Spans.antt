-- One time as its number of resolutions.
use Rattle.std.proofs.Common.{◌≡◌, ℕ, zero, suc, ◌*◌, ◌/◌, ◌%◌, ◌^◌, Bool, true, false, not, nat_lt, if◌then◌else◌, Option, Some, None, Result, Ok, Err, refl, sym, ap, ap₂, ◌∙◌, true≢false, mul_assoc, arith}
use Rattle.std.proofs.Math.Nat.{mul-mod_left, mul-div_cancel}
use Rattle.model_tree.specs.SimTime.Times.{time_of, femtoseconds_in, picoseconds_in, femtoseconds_of, within_range, whole_ticks, ticks_of}
use Rattle.model_tree.specs.SimTime.declared.moments.Resolution.{Resolution}
use Rattle.model_tree.specs.SimTime.declared.moments.Time.{Time}
use Rattle.model_tree.specs.SimTime.declared.moments.Unit.{Unit as TimeUnit}
use Rattle.model_tree.specs.SimTime.declared.moments.Unit.TheVariants as unit
use Rattle.model_tree.specs.SimTime.declared.moments.UnitStop.{UnitStop}
use Rattle.model_tree.specs.SimTime.declared.moments.UnitStop.TheVariants as stop
use Rattle.model_tree.specs.Languages.{in_unit, is_femtoseconds, may_have}
use Rattle.model_tree.specs.Limits.{is_number}
use Rattle.tick_trees.specs.Ticks.{past_range, span_of, ticks_span}
use Rattle.model_tree.specs.declared.items.Head.{Head}
use Rattle.model_tree.specs.declared.items.Head.TheVariants as head
use Rattle.model_tree.specs.declared.types.Span.{Span}
use Rattle.tick_trees.specs.Laws.{seen, whole}

-- a number of resolutions, by whether it is below 2^64
abbrev counted : ℕ → Bool → Result Time UnitStop
counted n below = within_range (if below then Some (record { 0 = n }) else None)

counted_number : (n : ℕ) (b : Bool) → nat_lt n (2 ^ 64) ≡ b → is_number (span_of (counted n b)).count ≡ true
counted_number n true e = e
counted_number n false e = refl

whole_number : (rest length resolution : ℕ) → is_number (span_of (whole_ticks rest length resolution)).count ≡ true
whole_number zero length resolution = counted_number (length / resolution) (nat_lt (length / resolution) (2 ^ 64)) refl
whole_number (suc rest) length resolution = refl

pub ticks_are_numbers : (r : Resolution) (s : Span) → is_number (ticks_span r s).count ≡ true
ticks_are_numbers r s = whole_number ((s.count * femtoseconds_in s.unit) % femtoseconds_of r) (s.count * femtoseconds_in s.unit) (femtoseconds_of r)

not_femtoseconds : (x : Result Time UnitStop) → not (is_femtoseconds (span_of x).unit) ≡ true
not_femtoseconds (Ok t) = refl
not_femtoseconds (Err stop.Inexact) = refl
not_femtoseconds (Err stop.Range) = refl

pub ticks_may_stand : (h : Head) (r : Resolution) (s : Span) → may_have h (in_unit (ticks_span r s).unit) ≡ true
ticks_may_stand head.First r s = not_femtoseconds (ticks_of s.count s.unit r)
ticks_may_stand (head.Second x) r s = refl

seen_counted : (n : ℕ) (b : Bool) → nat_lt n (2 ^ 64) ≡ b → seen (span_of (counted n b)) ≡ whole (counted n b)
seen_counted n true e = let one : n * 1 ≡ n = omega arith in ap time_of one ∙ ap (λ below. if below then Some (record { 0 = n }) else None) e
seen_counted n false e = refl

seen_whole : (rest length resolution : ℕ) → seen (span_of (whole_ticks rest length resolution)) ≡ whole (whole_ticks rest length resolution)
seen_whole zero length resolution = seen_counted (length / resolution) (nat_lt (length / resolution) (2 ^ 64)) refl
seen_whole (suc rest) length resolution = refl

pub ticks_seen : (r : Resolution) (s : Span) → seen (ticks_span r s) ≡ whole (ticks_of s.count s.unit r)
ticks_seen r s = seen_whole ((s.count * femtoseconds_in s.unit) % femtoseconds_of r) (s.count * femtoseconds_in s.unit) (femtoseconds_of r)

-- at a picosecond

thousands : (u : TimeUnit) → is_femtoseconds u ≡ false → femtoseconds_in u ≡ picoseconds_in u * 1000
thousands unit.Fs h = absurd (true≢false h)
thousands unit.Ps h = refl
thousands unit.Ns h = refl
thousands unit.Us h = refl
thousands unit.Ms h = refl
thousands unit.S h = refl

whole_within : (t : Option Time) → whole (within_range t) ≡ t
whole_within None = refl
whole_within (Some t) = refl

thousand_fold : (n : ℕ) → whole_ticks ((n * 1000) % 1000) (n * 1000) 1000 ≡ within_range (time_of n)
thousand_fold n =
    ap (λ rest. whole_ticks rest (n * 1000) 1000) (mul-mod_left n 1000)
    ∙ ap (λ ticks. within_range (time_of ticks)) (mul-div_cancel n {n = 1000} (omega arith))

at_picosecond : (r : Resolution) (n : ℕ) (u : TimeUnit) → r.power ≡ 3 → is_femtoseconds u ≡ false → ticks_of n u r ≡ within_range (time_of (n * picoseconds_in u))
at_picosecond r n u e h =
    let long : n * femtoseconds_in u ≡ n * picoseconds_in u * 1000 = ap (λ k. n * k) (thousands u h) ∙ sym (mul_assoc n (picoseconds_in u) 1000) in
    ap₂ (λ length resolution. whole_ticks (length % resolution) length resolution) long (ap (λ k. 10 ^ k) e) ∙ thousand_fold (n * picoseconds_in u)

pub seen_at_picosecond : (r : Resolution) (s : Span) → r.power ≡ 3 → is_femtoseconds s.unit ≡ false → seen (ticks_span r s) ≡ seen s
seen_at_picosecond r s e h = ticks_seen r s ∙ ap whole (at_picosecond r s.count s.unit e h) ∙ whole_within (seen s)

past_again : (r : Resolution) → r.power ≡ 3 → ticks_span r past_range ≡ past_range
past_again r e = ap span_of (at_picosecond r 18446744073709551615 unit.S e refl)

counted_again : (r : Resolution) (n : ℕ) (b : Bool) → r.power ≡ 3 → nat_lt n (2 ^ 64) ≡ b → ticks_span r (span_of (counted n b)) ≡ span_of (counted n b)
counted_again r n true e h =
    let one : n * 1 ≡ n = omega arith in
    ap span_of (at_picosecond r n unit.Ps e refl) ∙ ap (λ k. span_of (within_range (time_of k))) one ∙ ap (λ below. span_of (counted n below)) h
counted_again r n false e h = past_again r e

whole_again : (r : Resolution) (rest length resolution : ℕ) → r.power ≡ 3 → ticks_span r (span_of (whole_ticks rest length resolution)) ≡ span_of (whole_ticks rest length resolution)
whole_again r zero length resolution e = counted_again r (length / resolution) (nat_lt (length / resolution) (2 ^ 64)) e refl
whole_again r (suc rest) length resolution e = past_again r e

-- ticks are ticks at a picosecond
pub ticks_again : (r q : Resolution) (s : Span) → r.power ≡ 3 → ticks_span r (ticks_span q s) ≡ ticks_span q s
ticks_again r q s e = whole_again r ((s.count * femtoseconds_in s.unit) % femtoseconds_of q) (s.count * femtoseconds_in s.unit) (femtoseconds_of q) e
