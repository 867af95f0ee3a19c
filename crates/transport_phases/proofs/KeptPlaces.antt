-- What a hop keeps of a transaction whose letters lead to a place.
use Rattle.std.proofs.Common.{◌≡◌, ℕ, Bool, true, false, List, [], ◌∷◌, Option, None, Some, refl, ap, ◌∙◌, cond}
use Rattle.std.specs.Prelude.{◌==◌, if◌then◌else◌, map}
use Rattle.std.specs.List.{filter}
use Rattle.transport_phases.specs.declared.phases.Path.{Path}
use Rattle.transport_phases.specs.declared.phases.Path.TheVariants.{Forward, Backward}
use Rattle.transport_phases.specs.declared.phases.Phase.{Phase}
use Rattle.transport_phases.specs.declared.phases.Phase.TheVariants.{BeginReq, EndReq, BeginResp, EndResp}
use Rattle.transport_phases.specs.declared.phases.Answer.{Answer}
use Rattle.transport_phases.specs.declared.phases.Answer.TheVariants.{Accepted, Updated, Completed}
use Rattle.transport_phases.specs.Phases.{called, returned, phase_of, answer_of}
use Rattle.transport_phases.specs.History.{Entry, Call, Return, BCall, BReturn, Left, transaction, after_entry, kept_from, kept_of}
use Rattle.transport_phases.specs.Words.{letter_called, letter_answered, letter_of, letters_of}
use Rattle.transport_phases.proofs.Places.{Place, Between, kept_at, Step, Route, here, go, blocked, unblocked, blocking_left, request, request_accepted, request_ended, request_answered, request_completed, request_left, request_end, request_end_accepted, request_end_left, response_early, response, response_accepted, response_ended, response_completed, response_left, response_end, response_end_accepted, response_end_completed, response_end_left}

call_step : {p q : Place} (path : Path) (phase : Option Phase) → Step p (letter_called path phase) q
    → called (kept_at p) phase ≡ kept_at q
call_step Forward None s = elim s [ ]
call_step Forward (Some BeginReq) request = refl
call_step Forward (Some EndReq) s = elim s [ ]
call_step Forward (Some BeginResp) s = elim s [ ]
call_step Forward (Some EndResp) response_end = refl
call_step Backward None s = elim s [ ]
call_step Backward (Some BeginReq) s = elim s [ ]
call_step Backward (Some EndReq) request_end = refl
call_step Backward (Some BeginResp) response_early = refl
call_step Backward (Some BeginResp) response = refl
call_step Backward (Some EndResp) s = elim s [ ]

return_step : {p q : Place} (answer : Option Answer) (phase : Option Phase) → Step p (letter_answered answer phase) q
    → returned (kept_at p) answer phase ≡ kept_at q
return_step None phase s = elim s [ ]
return_step (Some Accepted) phase request_accepted = refl
return_step (Some Accepted) phase request_end_accepted = refl
return_step (Some Accepted) phase response_accepted = refl
return_step (Some Accepted) phase response_end_accepted = refl
return_step (Some Updated) None s = elim s [ ]
return_step (Some Updated) (Some BeginReq) s = elim s [ ]
return_step (Some Updated) (Some EndReq) request_ended = refl
return_step (Some Updated) (Some BeginResp) request_answered = refl
return_step (Some Updated) (Some EndResp) response_ended = refl
return_step (Some Completed) phase request_completed = refl
return_step (Some Completed) phase response_completed = refl
return_step (Some Completed) phase response_end_completed = refl

entry_step : {p q : Place} (e : Entry) → Step p (letter_of e) q → after_entry e (kept_at p) ≡ kept_at q
entry_step (Call t path phase complete handled) s = call_step path (phase_of phase) s
entry_step (Return t status phase complete) s = return_step (answer_of status) (phase_of phase) s
entry_step (BCall t handled) blocked = refl
entry_step (BReturn t complete) unblocked = refl
entry_step (Left t) blocking_left = refl
entry_step (Left t) request_left = refl
entry_step (Left t) request_end_left = refl
entry_step (Left t) response_left = refl
entry_step (Left t) response_end_left = refl

-- what is kept along the letters of a history
abbrev Along : ℕ → List Entry → Place → Type 0
Along t h q = (p : Place) → Route p (letters_of h t) q → kept_from t (kept_at p) h ≡ kept_at q

entry_along : {p q : Place} (t : ℕ) (e : Entry) (h : List Entry) → Along t h q → (b : Bool)
    → Route p (map letter_of (cond b (e ∷ filter (λ x. transaction x == t) h) (filter (λ x. transaction x == t) h))) q
    → kept_from t (if b then after_entry e (kept_at p) else kept_at p) h ≡ kept_at q
entry_along t e h later true (go {q = r} s route) = ap (λ k. kept_from t k h) (entry_step e s) ∙ later r route
entry_along {p = p} t e h later false route = later p route

kept_along : (p : Place) {q : Place} (t : ℕ) (h : List Entry) → Route p (letters_of h t) q
    → kept_from t (kept_at p) h ≡ kept_at q
kept_along p t [] here = refl
kept_along p t (e ∷ h) route = entry_along t e h (λ r route. kept_along r t h route) (transaction e == t) route

-- a transaction stands where its letters lead
pub kept_there : {p : Place} (h : List Entry) (t : ℕ) → Route Between (letters_of h t) p → kept_of h t ≡ kept_at p
kept_there h t route = kept_along Between t h route
