-- What a statement does with what it asks for.
use Rattle.std.proofs.Common.{◌≡◌, ℕ, List, [], ◌∷◌, length, Option, None, Result, Ok, Err, refl, sym, ap, ◌∙◌, subst, arith}
use Rattle.std.specs.Prelude.{slice_index_or}
use Rattle.flat_design.specs.Code as code
use Rattle.flat_design.specs.Code.{EventTerm}
use Rattle.flat_design.specs.declared.faults.RunFault.{RunFault}
use Rattle.kernel_view.specs.EventCore.declared.event.Ev.{Ev}
use Rattle.kernel_view.specs.SimModel.Values.{on_ok}
use Rattle.kernel_view.specs.SimModel.Configuration.{Config, Deadline, no_deadline, Trigger, waits_for_any}
use Rattle.kernel_view.specs.SimModel.Reading.{Here, place_in}
use Rattle.kernel_view.specs.SimModel.Waiting.{awaited, event_of, events_at}
use Rattle.kernel_view.specs.KernelState.Kernel.{StandsFor}
use Rattle.kernel_view.specs.KernelState.Stopping.{FollowsBut, NoFault}
use Rattle.kernel_view.specs.KernelState.declared.kernel.Kernel.{Kernel}
use Rattle.kernel_view.specs.KernelState.declared.stops.StatementStop.TheVariants as stop
use Rattle.exec_events.specs.Requests.{ends}

module _ (k : Kernel) (c : Config) (f : Trigger → Config) where
  -- its events and its end are those of the definition
  pub goes_on : (t : Trigger) (r : Result Trigger RunFault) → Ok t.deadline ≡ ends r → ((u : Trigger) → r ≡ Ok u → t.wait ≡ u.wait) → StandsFor k (f t) → FollowsBut NoFault k (Ok tt) c (on_ok r (λ u. Ok (f u)))
  goes_on t (Ok u) ending waits stands =
      subst (λ v. StandsFor k (f v))
      (ap (λ w. record { wait = w; deadline = t.deadline }) (waits u refl) ∙ ap (λ d. record { wait = u.wait; deadline = d }) (let same : t.deadline ≡ u.deadline = cc in same)) stands
  goes_on t (Err e) ending waits stands = absurd (let no : ⊥ = cc in no)

  -- it has no fault
  pub is_refused : (d : Deadline) (r : Result Trigger RunFault) → Ok d ≡ ends r → StandsFor k c → FollowsBut NoFault k (Err stop.NoMemory) c (on_ok r (λ u. Ok (f u)))
  is_refused d (Ok u) ending stands = stands
  is_refused d (Err e) ending stands = absurd (let no : ⊥ = cc in no)

  pub is_at_fault : (e : RunFault) (r : Result Trigger RunFault) → Err e ≡ ends r → StandsFor k c → FollowsBut NoFault k (Err (stop.Fault e)) c (on_ok r (λ u. Ok (f u)))
  is_at_fault e (Ok u) ending stands = absurd (let no : ⊥ = cc in no)
  is_at_fault e (Err g) ending stands = (let same : e ≡ g = cc in same, stands)

-- ---- a wait for one event, without a time-out

abbrev on_one : Ev → Trigger
on_one x = record { wait = waits_for_any (x ∷ []); deadline = no_deadline }

module _ (h : Here) (e : EventTerm) where
  abbrev event_there : Result Ev RunFault
  event_there = on_ok (place_in h e.place) (λ n. event_of h e.event_name n e.event)

  one_awaited : awaited h (code.any (e ∷ []) None) ≡ on_ok event_there (λ x. Ok (on_one x))
  one_awaited = by_place (place_in h e.place)
    where
      by_event : (r : Result Ev RunFault) → on_ok (on_ok r (λ x. Ok (x ∷ []))) (λ xs. Ok (record { wait = waits_for_any xs; deadline = no_deadline })) ≡ on_ok r (λ x. Ok (on_one x))
      by_event (Ok x) = refl
      by_event (Err f) = refl

      by_place : (r : Result (Option ℕ) RunFault) → on_ok (on_ok r (λ k. Ok (k ∷ []))) (λ ks. on_ok (events_at h (e ∷ []) ks) (λ xs. Ok (record { wait = waits_for_any xs; deadline = no_deadline })))
          ≡ on_ok (on_ok r (λ n. event_of h e.event_name n e.event)) (λ x. Ok (on_one x))
      by_place (Ok k) = by_event (event_of h e.event_name k e.event)
      by_place (Err f) = refl

  module _ (k : Kernel) (c : Config) (f : Trigger → Config) where
    asked_for : (r : Result Ev RunFault) → r ≡ event_there → on_ok r (λ x. Ok (f (on_one x))) ≡ on_ok (awaited h (code.any (e ∷ []) None)) (λ u. Ok (f u))
    asked_for r is = by_event r ∙ ap (λ w. on_ok (on_ok w (λ x. Ok (on_one x))) (λ u. Ok (f u))) is ∙ ap (λ w. on_ok w (λ u. Ok (f u))) (sym one_awaited)
      where
        by_event : (r : Result Ev RunFault) → on_ok r (λ x. Ok (f (on_one x))) ≡ on_ok (on_ok r (λ x. Ok (on_one x))) (λ u. Ok (f u))
        by_event (Ok x) = refl
        by_event (Err g) = refl

    pub one_waits : (x : Ev) → Ok x ≡ event_there → StandsFor k (f (record { wait = waits_for_any (x ∷ []); deadline = no_deadline }))
        → FollowsBut NoFault k (Ok tt) c (on_ok (awaited h (code.any (e ∷ []) None)) (λ u. Ok (f u)))
    one_waits x at stands = subst (FollowsBut NoFault k (Ok tt) c) (asked_for (Ok x) at) stands

    pub one_refused : (x : Ev) → Ok x ≡ event_there → StandsFor k c → FollowsBut NoFault k (Err stop.NoMemory) c (on_ok (awaited h (code.any (e ∷ []) None)) (λ u. Ok (f u)))
    one_refused x at stands = subst (FollowsBut NoFault k (Err stop.NoMemory) c) (asked_for (Ok x) at) stands

    pub one_at_fault : (g : RunFault) → Err g ≡ event_there → StandsFor k c → FollowsBut NoFault k (Err (stop.Fault g)) c (on_ok (awaited h (code.any (e ∷ []) None)) (λ u. Ok (f u)))
    one_at_fault g at stands = subst (FollowsBut NoFault k (Err (stop.Fault g)) c) (asked_for (Err g) at) (refl, stands)

-- the only item of a list
pub only_one : {A : Type 0} (xs : List A) (x : A) → length xs ≡ 1 → x ≡ slice_index_or xs 0 x → xs ≡ x ∷ []
only_one [] x one is = absurd (omega (arith, one))
only_one (y ∷ []) x one is = ap (λ z. z ∷ []) (sym is)
only_one (y ∷ z ∷ zs) x one is = absurd (omega (arith, one))
