-- When a session ends as done.
use Rattle.std.proofs.Common.{◌≡◌, ℕ, Bool, true, false, cond, Option, Some, None, nat_le, refl, sym, ap, ◌∙◌, subst}
use Rattle.std.specs.Prelude.{⊤}
use Rattle.sim_model.specs.Configuration.{Config}
use Rattle.sim_model.specs.Steps.{Outcome, went, faulted, takes, ended, step}
use Rattle.sim_model.specs.Runs.{stop_taking, stop_within, stop_of}
use Rattle.sim_model.specs.declared.plain.Rule.{Rule}
use Rattle.sim_model.specs.declared.plain.Rule.TheVariants as rule
use Rattle.sim_model.specs.declared.plain.Stop.{Stop}
use Rattle.sim_model.specs.declared.plain.Stop.TheVariants as stop
use Rattle.laws_order.specs.Evaluations.{IsDone}

abbrev IsDoneStop : Option Stop → Type 0
IsDoneStop None = ⊥
IsDoneStop (Some stop.Done) = ⊤
IsDoneStop (Some stop.Stopped) = ⊥
IsDoneStop (Some stop.Budget) = ⊥
IsDoneStop (Some (stop.Replay place)) = ⊥
IsDoneStop (Some (stop.Fault f)) = ⊥
IsDoneStop (Some stop.WriteFault) = ⊥
IsDoneStop (Some stop.NoMemory) = ⊥

ended_within : (c : Config) (r : Rule) (t : ℕ) (b : Bool) → stop_within c r t b ended ≡ Some (cond c.cycle.stopped stop.Stopped stop.Done)
ended_within c r t true = refl
ended_within c r t false = refl

pub done-stops : (c : Config) (r : Rule) (t n budget : ℕ) → IsDone c → stop_of c r t n budget ≡ Some stop.Done
done-stops c r t n budget done = ap (stop_within c r t (nat_le budget n)) done.is_ended ∙ ended_within c r t (nat_le budget n) ∙ ap (λ b. Some (cond b stop.Stopped stop.Done)) done.not_stopped

by_missing : (b : Bool) (t : ℕ) → IsDoneStop (cond b (Some (stop.Replay t)) None) → ⊥
by_missing true t h = h
by_missing false t h = h

taking_goes : (c : Config) (r : Rule) (t : ℕ) → IsDoneStop (stop_taking c r t) → ⊥
taking_goes c rule.First t h = h
taking_goes c rule.Last t h = h
taking_goes c (rule.Seed seed) t h = h
taking_goes c (rule.Replay choices) t h = by_missing _ _ h

ended_done : (c : Config) (b : Bool) → c.cycle.stopped ≡ b → step c ≡ ended → IsDoneStop (Some (cond b stop.Stopped stop.Done)) → IsDone c
ended_done c true is at h = absurd h
ended_done c false is at h = record { is_ended = at; not_stopped = is }

done_within : (c : Config) (r : Rule) (t : ℕ) (b : Bool) (o : Outcome) → step c ≡ o → IsDoneStop (stop_within c r t b o) → IsDone c
done_within c r t false (went d) is h = absurd h
done_within c r t false (faulted f) is h = absurd h
done_within c r t false takes is h = absurd (taking_goes c r t h)
done_within c r t false ended is h = ended_done c c.cycle.stopped refl is h
done_within c r t true (went d) is h = absurd h
done_within c r t true (faulted f) is h = absurd h
done_within c r t true takes is h = absurd h
done_within c r t true ended is h = ended_done c c.cycle.stopped refl is h

pub stops-done : (c : Config) (r : Rule) (t n budget : ℕ) → stop_of c r t n budget ≡ Some stop.Done → IsDone c
stops-done c r t n budget is = done_within c r t (nat_le budget n) (step c) refl (subst IsDoneStop (sym is) tt)
