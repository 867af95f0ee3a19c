-- Whole runs: the configuration after so many steps, the rules of choices, and how a session ends.
use Rattle.std.specs.Prelude.{◌≡◌, ℕ, zero, suc, ◌+◌, ◌-◌, ◌%◌, ◌==◌, Bool, true, false, not, nat_lt, nat_le, List, [], ◌∷◌, filter, find, length, slice_get, Option, Some, None, if◌then◌else◌}
use Rattle.rand_core.specs.Pcg32Seed.{pcg32_seed}
use Rattle.rand_pcg.specs.Lcg.{Lcg}
use Rattle.rand_pcg.specs.Pcg.{pcg32, pcg32_of_seed}
use Rattle.sim_model.specs.Configuration.{Config}
use Rattle.sim_model.specs.Waits.{holds}
use Rattle.sim_model.specs.Steps.{Outcome, went, faulted, takes, ended, step, taking}
use Rattle.sim_model.specs.declared.plain.Rule.{Rule}
use Rattle.sim_model.specs.declared.plain.Rule.TheVariants as rule
use Rattle.sim_model.specs.declared.plain.Stop.{Stop}
use Rattle.sim_model.specs.declared.plain.Stop.TheVariants as stop

-- on from an instance that was taken
abbrev pub took : Option Config → (Config → Option Config) → Option Config
took None on = None
took (Some d) on = on d

-- on from a step of a configuration with the choices that are left, of which a taking uses the first
abbrev pub and_then : Outcome → Config → List ℕ → (List ℕ → Config → Option Config) → Option Config
and_then (went d) c choices on = on choices d
and_then (faulted f) c choices on = None
and_then takes c [] on = None
and_then takes c (p ∷ choices) on = took (taking c p) (on choices)
and_then ended c choices on = None

-- the configuration after n steps, the takings among them using these choices in order and all of them; there is none where a
-- step is a fault, a choice is not runnable or the session had ended before
abbrev pub after : ℕ → List ℕ → Config → Option Config
after zero [] c = Some c
after zero (p ∷ choices) c = None
after (suc n) choices c = and_then (step c) c choices (after n)

-- A rule of choices is a machine: what it holds, which of the runnable serials it picks, and what it holds then.
pub data Chooser : Type 0 where
  least : Chooser
  greatest : Chooser
  seeded : Lcg → Chooser
  listed : List ℕ → Chooser

abbrev pub chooser_of : Rule → Chooser
chooser_of rule.First = least
chooser_of rule.Last = greatest
chooser_of (rule.Seed seed) = seeded (pcg32_of_seed (pcg32_seed 16 seed))
chooser_of (rule.Replay choices) = listed choices

-- of serials without doubles, in rising order, the one at a place from 0: so many are less
abbrev pub less_than : List ℕ → ℕ → ℕ
less_than ps p = length (filter (λ q. nat_lt q p) ps)

abbrev pub at_place : List ℕ → ℕ → Option ℕ
at_place ps k = find (λ p. less_than ps p == k) ps

abbrev pub first_of : List ℕ → Option ℕ
first_of [] = None
first_of (p ∷ ps) = Some p

abbrev pub rest_of : List ℕ → List ℕ
rest_of [] = []
rest_of (p ∷ ps) = ps

-- a seeded rule takes one word of its generator for each taking
abbrev pub picked : Chooser → List ℕ → Option ℕ
picked least runnable = at_place runnable 0
picked greatest runnable = at_place runnable (length runnable - 1)
picked (seeded g) runnable = at_place runnable ((pcg32 g).0 % length runnable)
picked (listed choices) runnable = first_of choices

abbrev pub held_then : Chooser → Chooser
held_then least = least
held_then greatest = greatest
held_then (seeded g) = seeded (pcg32 g).1
held_then (listed choices) = listed (rest_of choices)

-- what holds of a taking, and of the run from there on
abbrev pub took_as : Option Config → Type 0 → (Config → Type 0) → Type 0
took_as None is_picked on = ⊥
took_as (Some d) is_picked on = is_picked × on d

abbrev pub ruled_on : Outcome → Chooser → Config → List ℕ → (Chooser → List ℕ → Config → Type 0) → Type 0
ruled_on (went d) k c choices on = on k choices d
ruled_on (faulted f) k c choices on = ⊥
ruled_on takes k c [] on = ⊥
ruled_on takes k c (p ∷ choices) on = took_as (taking c p) (picked k c.processes.runnable ≡ Some p) (on (held_then k) choices)
ruled_on ended k c choices on = ⊥

-- in a run of n steps with these choices, each choice is what the rule picks from the serials that are runnable in the
-- configuration in which it is taken
abbrev pub RuledFrom : ℕ → Chooser → List ℕ → Config → Type 0
RuledFrom zero k choices c = choices ≡ []
RuledFrom (suc n) k choices c = ruled_on (step c) k c choices (RuledFrom n)

abbrev pub Ruled : Rule → ℕ → List ℕ → Config → Type 0
Ruled r n choices c = RuledFrom n (chooser_of r) choices c

-- How a session ends in a configuration, n of at most so many steps and t takings having been made, by the first that fits:
-- the model stopped it; the script was carried out; the budget is used up; a listed choice is missing or not runnable; a
-- run fault. There is none where it goes on.

abbrev pub missing : List ℕ → Option ℕ → Bool
missing runnable None = true
missing runnable (Some p) = not (holds runnable p)

abbrev pub stop_taking : Config → Rule → ℕ → Option Stop
stop_taking c rule.First t = None
stop_taking c rule.Last t = None
stop_taking c (rule.Seed seed) t = None
stop_taking c (rule.Replay choices) t = if missing c.processes.runnable (slice_get choices t) then Some (stop.Replay (t + 1)) else None

abbrev pub stop_at : Config → Rule → ℕ → Outcome → Option Stop
stop_at c r t (went d) = None
stop_at c r t (faulted f) = Some (stop.Fault f)
stop_at c r t takes = stop_taking c r t
stop_at c r t ended = Some (if c.cycle.stopped then stop.Stopped else stop.Done)

abbrev pub stop_within : Config → Rule → ℕ → Bool → Outcome → Option Stop
stop_within c r t false o = stop_at c r t o
stop_within c r t true (went d) = Some stop.Budget
stop_within c r t true (faulted f) = Some stop.Budget
stop_within c r t true takes = Some stop.Budget
stop_within c r t true ended = stop_at c r t ended

abbrev pub stop_of : Config → Rule → ℕ → ℕ → ℕ → Option Stop
stop_of c r t n budget = stop_within c r t (nat_le budget n) (step c)
