-- Who waits for what, and what an event or the end of a time wakes (IEEE 1666-2011, 4.2.1 and 5.10).
use Rattle.std.specs.Prelude.{ℕ, suc, ◌==◌, ◌+◌, Bool, true, not, ◌||◌, List, [], ◌∷◌, ◌++◌, filter, drop, Option, Some, None, Result, Ok, if◌then◌else◌}
use Rattle.std.specs.List.{list_any}
use Rattle.flat_design.specs.EventCore.Ev.{same_event}
use Rattle.flat_design.specs.EventCore.declared.event.Ev.{Ev}
use Rattle.flat_design.specs.EventCore.declared.notifications.When.{When}
use Rattle.flat_design.specs.EventCore.Notifications.{notified}
use Rattle.flat_design.specs.declared.faults.RunFault.{RunFault}
use Rattle.sim_model.specs.Configuration.{Config, Instance, Wait, waits_for_nothing, waits_statically, waits_for_any, waits_for_all, Deadline, no_deadline, next_delta, at_time, change, change_instance, instance_at, with_runnable, with_stack}
use Rattle.sim_model.specs.Values.{on_ok, time_within}

abbrev pub is_among : Ev → List Ev → Bool
is_among e es = list_any (same_event e) es

abbrev pub holds : List ℕ → ℕ → Bool
holds ps p = list_any (λ q. q == p) ps

-- all of these but this one
abbrev pub without : List ℕ → ℕ → List ℕ
without ps p = filter (λ q. not (q == p)) ps

abbrev pub struck : Ev → List Ev → List Ev
struck e es = filter (λ x. not (same_event e x)) es

-- a list in which each event stands once, where it first stood
abbrev pub once : List Ev → List Ev
once [] = []
once (e ∷ es) = e ∷ struck e (once es)

-- a process waits no more
abbrev pub freed : Instance → Instance
freed i = record i { wait = waits_for_nothing; deadline = no_deadline }

abbrev pub is_active : Config → ℕ → Bool
is_active c p = holds c.processes.stack p

-- the runnable list with p, which stands there once: an event and the end of a time may come together
abbrev pub joined : List ℕ → ℕ → List ℕ
joined ps p = if holds ps p then ps else ps ++ p ∷ []

-- a wake has no effect on an instance that has ended, is active or is disabled; it is kept where the instance is suspended;
-- and else it makes it runnable
abbrev pub woken : Config → ℕ → Instance → Config
woken c p i = if i.suspended then change_instance c p (λ j. record (freed j) { kept = true }) else with_runnable (change_instance c p freed) (joined c.processes.runnable p)

abbrev pub wake_instance : Config → ℕ → Option Instance → Config
wake_instance c p None = c
wake_instance c p (Some i) = if (i.ended || is_active c p) || i.disabled then c else woken c p i

abbrev pub wake : Config → ℕ → Config
wake c p = wake_instance c p (instance_at c p)

-- what an event does to an instance that is not disabled, by how it waits
abbrev pub left_of_all : Config → ℕ → List Ev → Config
left_of_all c p [] = wake c p
left_of_all c p (e ∷ es) = change_instance c p (λ i. record i { wait = waits_for_all (e ∷ es) })

abbrev pub reaches : Config → Ev → ℕ → Instance → Wait → Config
reaches c e p i waits_for_nothing = c
reaches c e p i waits_statically = if is_among e i.static then wake c p else c
reaches c e p i (waits_for_any es) = if is_among e es then wake c p else c
reaches c e p i (waits_for_all es) = if is_among e es then left_of_all c p (struck e es) else c

abbrev pub reach_instance : Config → Ev → ℕ → Option Instance → Config
reach_instance c e p None = c
reach_instance c e p (Some i) = if i.disabled then c else reaches c e p i i.wait

-- an event goes over all serials
abbrev pub fire_each : Ev → ℕ → List Instance → Config → Config
fire_each e p [] c = c
fire_each e p (i ∷ is) c = fire_each e (suc p) is (reach_instance c e p (instance_at c p))

abbrev pub fire : Config → Ev → Config
fire c e = fire_each e 0 c.processes.instances c

-- events fire one after another
abbrev pub fire_all : List Ev → Config → Config
fire_all [] c = c
fire_all (e ∷ es) c = fire_all es (fire c e)

-- time-outs wake one after another
abbrev pub wake_all : List ℕ → Config → Config
wake_all [] c = c
wake_all (p ∷ ps) c = wake_all ps (wake c p)

-- when a wait for so long ends: a time of 0 is the next delta notification phase
abbrev pub deadline_in : ℕ → ℕ → Result Deadline RunFault
deadline_in now t = if t == 0 then Ok next_delta else on_ok (time_within (now + t)) (λ u. Ok (at_time u))

-- the top of the stack leaves it
abbrev pub leaves_stack : Config → Config
leaves_stack c = with_stack c (drop 1 c.processes.stack)

-- the active instance waits so, and leaves the stack
abbrev pub waits : Config → ℕ → Wait → Deadline → Config
waits c p w d = leaves_stack (change_instance c p (λ i. record i { wait = w; deadline = d }))

-- a notification of an event of the design's objects
abbrev pub notify : Config → ℕ → When → Config
notify c e w = record c { events = change c.events e (notified w) }
