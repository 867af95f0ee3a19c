-- Which entries open a call, and that none was open before.
use Rattle.std.proofs.Common.{◌≡◌, ℕ, Bool, true, List, [], ◌∷◌, ◌++◌, Option, Some, None, refl, ap, ◌∙◌}
use Rattle.std.specs.Prelude.{ℤ}
use Rattle.sim_model.specs.TransportPhases.declared.phases.Path.{Path}
use Rattle.sim_model.specs.TransportPhases.declared.phases.Path.TheVariants.{Forward, Backward}
use Rattle.sim_model.specs.TransportPhases.declared.phases.Phase.{Phase}
use Rattle.sim_model.specs.TransportPhases.declared.phases.Phase.TheVariants.{BeginReq, EndReq, BeginResp, EndResp}
use Rattle.sim_model.specs.TransportPhases.declared.transaction.Open.TheVariants.{Nothing, NonBlocking, Blocking}
use Rattle.sim_model.specs.TransportPhases.declared.transaction.Kept.{Kept}
use Rattle.sim_model.specs.TransportPhases.Phases.{phase_of}
use Rattle.sim_model.specs.TransportPhases.History.{Entry, Call, BCall, is_open, broken}
use Rattle.sim_model.specs.TransportPhases.Words.{Calls, Blocks, letter_called}
use Rattle.sim_model.specs.TransportPhases.Lawful.{Lawful}
use Rattle.sim_model.proofs.TransportPhases.Places.{Place, call_at, Step, blocked, request, request_end, response_early, response, response_end}
use Rattle.sim_model.proofs.TransportPhases.WordRoutes.{row_route}
use Rattle.sim_model.proofs.TransportPhases.KeptPlaces.{kept_there}
use Rattle.sim_model.proofs.TransportPhases.Entries.{entry_onward}
use Rattle.laws_runs.proofs.Histories.{kept-here}

calls_from : {p q : Place} (phase : Phase) → Step p (Calls phase) q → call_at p ≡ Nothing
calls_from BeginReq request = refl
calls_from EndReq request_end = refl
calls_from BeginResp response_early = refl
calls_from BeginResp response = refl
calls_from EndResp response_end = refl

called_from : {p q : Place} (path : Path) (phase : Option Phase) → Step p (letter_called path phase) q → call_at p ≡ Nothing
called_from Forward (Some BeginReq) s = calls_from BeginReq s
called_from Forward (Some EndResp) s = calls_from EndResp s
called_from Backward (Some EndReq) s = calls_from EndReq s
called_from Backward (Some BeginResp) s = calls_from BeginResp s
called_from Forward None s = elim s [ ]
called_from Forward (Some EndReq) s = elim s [ ]
called_from Forward (Some BeginResp) s = elim s [ ]
called_from Backward None s = elim s [ ]
called_from Backward (Some BeginReq) s = elim s [ ]
called_from Backward (Some EndResp) s = elim s [ ]

blocked_from : {p q : Place} → Step p Blocks q → call_at p ≡ Nothing
blocked_from blocked = refl

module _ (h : List Entry) (l : Lawful h) where
  -- an entry that breaks no rule and is a call comes where no call of its transaction is open, and is handled
  pub call-closed : (t : ℕ) (path : Path) (phase : ℤ) (complete handled : Bool) → broken h (Call t path phase complete handled) ≡ None → (is_open h t ≡ Nothing) × (handled ≡ true)
  call-closed t path phase complete handled unbroken =
      let place = row_route (l.words t) in
      let stands = kept_there h t place.1 in
      let on = entry_onward h (Call t path phase complete handled) place.0 stands tt unbroken in
      (ap (λ (k : Kept). k.call) stands ∙ called_from path (phase_of phase) on.0.1, on.2)

  pub b_call-closed : (t : ℕ) (handled : Bool) → broken h (BCall t handled) ≡ None → (is_open h t ≡ Nothing) × (handled ≡ true)
  b_call-closed t handled unbroken =
      let place = row_route (l.words t) in
      let stands = kept_there h t place.1 in
      let on = entry_onward h (BCall t handled) place.0 stands tt unbroken in
      (ap (λ (k : Kept). k.call) stands ∙ blocked_from on.0.1, on.2)

-- it opens one
pub call-opened : (h : List Entry) (t : ℕ) (path : Path) (phase : ℤ) (complete handled : Bool) → is_open (h ++ Call t path phase complete handled ∷ []) t ≡ NonBlocking
call-opened h t path phase complete handled = ap (λ (k : Kept). k.call) (kept-here h (Call t path phase complete handled) t refl)

pub b_call-opened : (h : List Entry) (t : ℕ) (handled : Bool) → is_open (h ++ BCall t handled ∷ []) t ≡ Blocking
b_call-opened h t handled = ap (λ (k : Kept). k.call) (kept-here h (BCall t handled) t refl)
