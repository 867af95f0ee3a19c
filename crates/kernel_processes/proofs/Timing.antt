-- Who has a time-out, and what a wake leaves of one that may have none.
use Rattle.std.proofs.Common.{◌≡◌, ◌||◌, not, ℕ, Bool, true, false, Option, Some, None, refl, ap, ◌∙◌, true≢false}
use Rattle.std.specs.Prelude.{if◌then◌else◌}
use Rattle.std.specs.FinMap as map
use Rattle.instance_table.specs.declared.instances.Instance.{Instance as Entry}
use Rattle.instance_table.specs.declared.instances.Deadline.{Deadline}
use Rattle.instance_table.specs.declared.instances.Deadline.TheVariants as due
use Rattle.kernel_processes.specs.InstanceViews.{Seen, seen}
use Rattle.kernel_processes.specs.Sound.{Fits, FitsAs, time_of, is_zero}
use Rattle.kernel_processes.specs.Moves.{heard, heard_seen, has_end, is_heard, is_timed, met_by, met, Changes, HasNoTimeOut, IsTimedSo}
use Rattle.kernel_processes.specs.declared.parts.Process.{Process}
use Rattle.kernel_processes.specs.declared.parts.Schedule.{Schedule}

no_end : (d : Deadline) → has_end d ≡ false → d ≡ due.None
no_end due.None off = refl
no_end due.Delta off = absurd (true≢false off)
no_end (due.At t) off = absurd (true≢false off)

module _ {B : Type 0} where
  timed_as : (o : Option (Entry (Process B))) (x : Seen B) → FitsAs o x → is_timed o ≡ false → (x.time ≡ None) × (x.zero ≡ false)
  timed_as None x nobody off = (nobody.time, nobody.zero)
  timed_as (Some y) x kept off = (kept.time ∙ ap time_of (no_end y.deadline off), kept.zero ∙ ap is_zero (no_end y.deadline off))

  -- where the parts agree, an instance has a time-out only where a time is to end its wait
  pub timed_so : (x : Seen B) → Fits x → IsTimedSo x
  timed_so x fits = timed_as x.entry x fits

  timed_by : (o : Option (Entry (Process B))) (x : Seen B) → IsTimedSo x → IsTimedSo (met_by o x)
  timed_by None x so = so
  timed_by (Some y) x so = by y.disabled
    where
      by : (b : Bool) → IsTimedSo (if b then x else record x { entry = Some (heard y); time = None; zero = false; ready = x.ready || not y.suspended })
      by true = so
      by false = λ off. (refl, refl)

  -- so it is behind a wake
  pub timed_met : (x : Seen B) → IsTimedSo x → IsTimedSo (met x)
  timed_met x so = timed_by x.entry x so

  -- where no time was to end its wait, it has no time-out behind what a wake makes of its entry
  pub untimed_heard : (s t : Schedule B) (p : ℕ) → Changes p heard_seen s t → IsTimedSo (seen s p) → is_timed (map.get s.table.live p) ≡ false → HasNoTimeOut p t
  untimed_heard s t p ch so off = record { time = ap (λ x. x.time) ch.here ∙ (so off).0; zero = ap (λ x. x.zero) ch.here ∙ (so off).1 }

  -- the wait lists may be told of a wake once it was met
  left_by : (o : Option (Entry (Process B))) (x : Seen B) → record (met_by o x) { wait = None } ≡ met_by o (record x { wait = None })
  left_by None x = refl
  left_by (Some y) x = by y.disabled
    where
      by : (b : Bool) → record (if b then x else record x { entry = Some (heard y); time = None; zero = false; ready = x.ready || not y.suspended }) { wait = None }
          ≡ (if b then record x { wait = None } else record x { entry = Some (heard y); wait = None; time = None; zero = false; ready = x.ready || not y.suspended })
      by true = refl
      by false = refl

  pub left_met : (x : Seen B) → record (met x) { wait = None } ≡ met (record x { wait = None })
  left_met x = left_by x.entry x

  -- what cannot hear is as it was
  deaf_by : (o : Option (Entry (Process B))) (x : Seen B) → is_heard o ≡ false → met_by o x ≡ x
  deaf_by None x off = refl
  deaf_by (Some y) x off = by y.disabled off
    where
      by : (b : Bool) → not b ≡ false → (if b then x else record x { entry = Some (heard y); time = None; zero = false; ready = x.ready || not y.suspended }) ≡ x
      by true off = refl
      by false off = absurd (true≢false off)

  pub deaf_met : (x : Seen B) → is_heard x.entry ≡ false → met x ≡ x
  deaf_met x off = deaf_by x.entry x off
