-- What writing a line, and trying another behind it, leaves on a sink.
use Rattle.std.proofs.Common.{◌≡◌, ◌<◌, ◌≤◌, ⊎_elim, ℕ, Bool, true, false, ◌||◌, nat_eq, List, length, take, Option, Result, Ok, Err, subst, sym, ap, ◌∙◌, refl, arith}
use Rattle.std.proofs.lemmas.Bool.{false≢true}
use Rattle.std.proofs.Math.Seq.{take-length}
use Rattle.session.specs.SimIo.Contents.{Grew}
use Rattle.session.specs.SimIo.Writes.{TookOf}
use Rattle.session.specs.SimIo.declared.outside.Trouble.{Trouble}
use Rattle.session.proofs.SimIo.Chains.{grew_on}
use Rattle.session.specs.Course.{IsEnd}
use Rattle.session.specs.Fronts.{WroteFront}
use Rattle.command_line.specs.SimModel.declared.plain.Stop.{Stop}
use Rattle.command_line.specs.SimModel.declared.plain.Stop.TheVariants as stop
use Rattle.traffic_file.specs.declared.stops.BusStop.{BusStop}
use Rattle.traffic_file.specs.declared.stops.BusStop.TheVariants as bus_stop
use Rattle.run_input.specs.ResultTexts.ErrLines.{err_line, model_line, script_line, bus_line}
use Rattle.run_input.specs.ResultTexts.declared.refusals.ModelFault.{ModelFault}
use Rattle.run_input.specs.ResultTexts.declared.refusals.ModelFault.TheVariants as model_fault
use Rattle.run_input.specs.ResultTexts.declared.refusals.ScriptFault.{ScriptFault}
use Rattle.run_input.specs.ResultTexts.declared.refusals.ScriptFault.TheVariants as script_fault
use Rattle.run_input.specs.ResultTexts.declared.refusals.Refusal.{Refusal}
use Rattle.run_input.specs.ResultTexts.declared.refusals.Refusal.TheVariants as refusal
use Rattle.tlmsim.specs.Telling.{Tells, WroteCut, refusal_status}
use Rattle.tlmsim.specs.Headline.{IsRunStatus, stop_status}

-- a line that was tried left a front of it
pub front_taken : (old new : Option (List ℕ)) (line : List ℕ) (result : Result Unit Trouble) → TookOf old new line result → WroteFront old new line
front_taken old new line (Ok done) took =
    let P : List ℕ → Type 0 = λ bytes. Grew old new bytes in
    (length line, omega arith, subst P (took.2 ∙ sym (take-length line)) took.1)
front_taken old new line (Err e) took =
    let P : List ℕ → Type 0 = λ bytes. Grew old new bytes in
    let below : took.2.0 < length line = took.2.1 in
    (took.2.0, omega arith, subst P took.2.2 took.1)

-- a line that was written is there whole
pub whole_taken : (old new : Option (List ℕ)) (line : List ℕ) (done : Unit) → TookOf old new line (Ok done) → Grew old new line
whole_taken old new line done took = let P : List ℕ → Type 0 = λ bytes. Grew old new bytes in subst P took.2 took.1

-- a line that was cut, and behind it a front of another
pub cut_taken : (old mid new : Option (List ℕ)) (line cause : List ℕ) (e : Trouble) → TookOf old mid line (Err e) → WroteFront mid new cause → WroteCut old new line cause
cut_taken old mid new line cause e took front =
    let P : List ℕ → Type 0 = λ bytes. Grew old mid bytes in
    (took.2.0, front.0, took.2.1, front.1, grew_on old mid new (take took.2.0 line) (take front.0 cause) (subst P took.2.2 took.1) front.2)

-- no line is empty
model_some : (f : ModelFault) → 0 < length (model_line f)
model_some (model_fault.Syntax line) = omega arith
model_some (model_fault.Rule f) = omega arith

script_some : (f : ScriptFault) → 0 < length (script_line f)
script_some (script_fault.Syntax line) = omega arith
script_some (script_fault.Command f) = omega arith

bus_some : (f : BusStop) → 0 < length (bus_line f)
bus_some (bus_stop.Syntax line) = omega arith
bus_some (bus_stop.Refused kind line name) = omega arith
bus_some bus_stop.NoMemory = omega arith

line_some : (r : Refusal) → 0 < length (err_line r)
line_some refusal.Usage = omega arith
line_some (refusal.Read file) = omega arith
line_some (refusal.Model f) = model_some f
line_some (refusal.Script f) = script_some f
line_some (refusal.Replay line) = omega arith
line_some (refusal.Bus f) = bus_some f
line_some (refusal.TooLarge file) = omega arith

-- a line that was not begun
pub cut_before : (old new : Option (List ℕ)) (r : Refusal) (cause : List ℕ) → WroteFront old new cause → WroteCut old new (err_line r) cause
cut_before old new r cause front = (0, front.0, line_some r, front.1, front.2)

-- the statuses of a run that ended
pub is_end : ℕ → Bool
is_end n = nat_eq n 0 || (nat_eq n 5 || (nat_eq n 6 || nat_eq n 9))

pub not_end : (n : ℕ) → is_end n ≡ false → IsRunStatus n → ⊥
unfolding is_end
not_end n none h =
    let other : (m : ℕ) → is_end m ≡ true → n ≡ m → ⊥ = λ m is e. false≢true (sym none ∙ ap is_end e ∙ is) in
    ⊎_elim (other 0 refl) (⊎_elim (other 5 refl) (⊎_elim (other 6 refl) (other 9 refl))) h

refusal_no_end : (r : Refusal) → is_end (refusal_status r) ≡ false
unfolding is_end
refusal_no_end refusal.Usage = refl
refusal_no_end (refusal.Read file) = refl
refusal_no_end (refusal.Model f) = refl
refusal_no_end (refusal.Script f) = refl
refusal_no_end (refusal.Replay line) = refl
refusal_no_end (refusal.Bus f) = refl
refusal_no_end (refusal.TooLarge file) = refl

-- a refusal that is told has none of them
pub told_no_end : (r : Refusal) (old new : Option (List ℕ)) (faults faults' status : ℕ) → Tells r old new faults faults' status → IsRunStatus status → ⊥
unfolding is_end
told_no_end r old new faults faults' status told =
    ⊎_elim (λ whole. not_end status (ap is_end whole.0 ∙ refusal_no_end r))
    (⊎_elim (λ cut. not_end status (ap is_end cut.0)) (λ cut. not_end status (ap is_end cut.0))) told

-- its status is 10 at most
refusal_bound : (r : Refusal) → refusal_status r ≤ 10
refusal_bound refusal.Usage = omega arith
refusal_bound (refusal.Read file) = omega arith
refusal_bound (refusal.Model f) = omega arith
refusal_bound (refusal.Script f) = omega arith
refusal_bound (refusal.Replay line) = omega arith
refusal_bound (refusal.Bus f) = omega arith
refusal_bound (refusal.TooLarge file) = omega arith

pub told_bound : (r : Refusal) (old new : Option (List ℕ)) (faults faults' status : ℕ) → Tells r old new faults faults' status → status ≤ 10
told_bound r old new faults faults' status told =
    ⊎_elim (λ whole. subst (λ n. n ≤ 10) (sym whole.0) (refusal_bound r))
    (⊎_elim (λ cut. omega (arith, cut.0)) (λ cut. omega (arith, cut.0))) told

-- nor has want of memory
pub memory_no_end : IsRunStatus 8 → ⊥
unfolding is_end
memory_no_end = not_end 8 refl

-- a session with such a status has an end of the run itself
pub end_of : (s : Stop) → IsRunStatus (stop_status s) → IsEnd s
unfolding is_end
end_of stop.Done h = tt
end_of stop.Stopped h = tt
end_of stop.Budget h = tt
end_of (stop.Replay place) h = tt
end_of (stop.Fault f) h = tt
end_of stop.WriteFault h = absurd (not_end 7 refl h)
end_of stop.NoMemory h = absurd (not_end 8 refl h)
