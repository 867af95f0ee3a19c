-- What a wake and an event do, told instance by instance.
use Rattle.std.specs.Prelude.{◌≡◌, ℕ, ◌==◌, Bool, true, false, not, ◌&&◌, ◌||◌, List, [], ◌∷◌, slice_get, length, option_map, Option, Some, None, if◌then◌else◌}
use Rattle.wait_lists.specs.EventCore.declared.event.Ev.{Ev}
use Rattle.sim_model.specs.Configuration.{Config, Instance, Wait, waits_for_nothing, waits_statically, waits_for_any, waits_for_all}
use Rattle.sim_model.specs.Waits.{is_among, struck, freed, holds, is_active}

-- a wake has no effect on an instance that has ended, is active or is disabled
abbrev pub is_deaf : Bool → Instance → Bool
is_deaf active i = (i.ended || active) || i.disabled

-- a wake that has an effect ends the wait; where the instance is suspended it is kept
abbrev pub roused : Instance → Instance
roused i = if i.suspended then record (freed i) { kept = true } else freed i

-- an instance after a wake, and whether that makes it runnable
abbrev pub after_wake : Bool → Instance → Instance
after_wake active i = if is_deaf active i then i else roused i

abbrev pub joins : Bool → Instance → Bool
joins active i = not (is_deaf active i) && not i.suspended

-- what an event leaves of an instance: of a wait for all it takes itself away, and the last one wakes
abbrev pub after_last : Bool → Instance → List Ev → Instance
after_last active i [] = after_wake active i
after_last active i (e ∷ es) = record i { wait = waits_for_all (e ∷ es) }

abbrev pub after_named : Ev → Bool → Instance → Wait → Instance
after_named e active i waits_for_nothing = i
after_named e active i waits_statically = if is_among e i.static then after_wake active i else i
after_named e active i (waits_for_any es) = if is_among e es then after_wake active i else i
after_named e active i (waits_for_all es) = if is_among e es then after_last active i (struck e es) else i

abbrev pub after_event : Ev → Bool → Instance → Instance
after_event e active i = if i.disabled then i else after_named e active i i.wait

-- whether an event is the one that ends a wait
abbrev pub is_empty : List Ev → Bool
is_empty [] = true
is_empty (e ∷ es) = false

abbrev pub ends_wait : Ev → Instance → Wait → Bool
ends_wait e i waits_for_nothing = false
ends_wait e i waits_statically = is_among e i.static
ends_wait e i (waits_for_any es) = is_among e es
ends_wait e i (waits_for_all es) = is_among e es && is_empty (struck e es)

abbrev pub joins_by : Ev → Bool → Instance → Bool
joins_by e active i = ends_wait e i i.wait && joins active i

-- a test of an instance that is there
abbrev pub if_there : (Instance → Bool) → Option Instance → Bool
if_there f None = false
if_there f (Some i) = f i

-- From one configuration to another, only instances and the runnable list may change: each instance becomes what f makes of
-- it, and those join that pass the test. Both know the serial and whether the instance is active.
pub record Rouses (f : ℕ → Bool → Instance → Instance) (joining : ℕ → Bool → Instance → Bool) (c d : Config) : Type 0 where
  pub instances : (q : ℕ) → slice_get d.processes.instances q ≡ option_map (f q (is_active c q)) (slice_get c.processes.instances q)
  pub runnable : (q : ℕ) → holds d.processes.runnable q ≡ (holds c.processes.runnable q || if_there (joining q (is_active c q)) (slice_get c.processes.instances q))
  pub others : d ≡ record c { processes = record c.processes { runnable = d.processes.runnable; instances = d.processes.instances } }
  pub serials : length d.processes.instances ≡ length c.processes.instances

-- at one serial alone
abbrev pub at_only : ℕ → (Bool → Instance → Instance) → ℕ → Bool → Instance → Instance
at_only p f q active i = if q == p then f active i else i

abbrev pub joins_only : ℕ → (Bool → Instance → Bool) → ℕ → Bool → Instance → Bool
joins_only p f q active i = (q == p) && f active i
