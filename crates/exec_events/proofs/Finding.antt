-- One event more is looked up.
use Rattle.std.proofs.Common.{◌≡◌, ◌<◌, ◌+◌, ℕ, Bool, List, ◌∷◌, length, get_or, drop, drop-cons, add-one, Option, option_map, Result, Ok, Err, refl, sym, ap, ◌∙◌}
use Rattle.std.specs.Prelude.{IfOk}
use Rattle.kernel_view.specs.EventCore.declared.event.Ev.{Ev}
use Rattle.flat_design.specs.Code.{term_of, event_term, event_terms}
use Rattle.flat_design.specs.declared.code.EventUse.{EventUse}
use Rattle.flat_design.specs.declared.faults.RunFault.{RunFault}
use Rattle.kernel_view.specs.SimModel.Values.{on_ok}
use Rattle.kernel_view.specs.SimModel.Reading.{Here, place_in}
use Rattle.kernel_view.specs.SimModel.Waiting.{event_of}
use Rattle.exec_events.specs.Named.{with_event, fault_of, first_fault}
use Rattle.exec_events.proofs.Gathered.{faults, faults_more, no_place, adds, adds_one, adds_none}

module _ (h : Here) (es : List EventUse) (i : ℕ) (e : EventUse) (within : i < length es) (is : e ≡ get_or es i e) where
  here_is : drop i es ≡ e ∷ drop (i + 1) es
  here_is = rw (add-one, drop-cons es i e within, ← is) refl

  pub one_judged : (old new : Option RunFault) (place : Option ℕ) (x : Result Ev RunFault) → Ok place ≡ place_in h (option_map term_of e.place) → x ≡ event_of h e.name place e.event → new ≡ first_fault old (fault_of x)
      → faults h new (event_terms (drop (i + 1) es)) ≡ faults h old (event_terms (drop i es))
  one_judged old new place x at event judged =
      ap (λ f. faults h f (event_terms (drop (i + 1) es))) (judged ∙ ap (λ y. first_fault old (fault_of y)) event)
      ∙ faults_more h (event_term e) (event_terms (drop (i + 1) es)) old place at
      ∙ ap (λ xs. faults h old (event_terms xs)) (sym here_is)

  pub one_unplaced : (old : Option RunFault) (f : RunFault) → Err f ≡ place_in h (option_map term_of e.place) → Err f ≡ faults h old (event_terms (drop i es))
  one_unplaced old f at = no_place h (event_term e) (event_terms (drop (i + 1) es)) old f at ∙ ap (λ xs. faults h old (event_terms xs)) (sym here_is)

  module _ (all : Bool) (xs total : List Ev) (left : adds h all xs (event_terms (drop i es)) ≡ Ok total) where
    still : adds h all xs (event_term e ∷ event_terms (drop (i + 1) es)) ≡ Ok total
    still = ap (λ us. adds h all xs (event_terms us)) (sym here_is) ∙ left

    one_added : (y : Ev) (new : List Ev) → Ok y ≡ on_ok (place_in h (option_map term_of e.place)) (λ n. event_of h e.name n e.event) → new ≡ with_event all xs y
        → adds h all new (event_terms (drop (i + 1) es)) ≡ Ok total
    one_added y new event added =
        ap (λ us. adds h all us (event_terms (drop (i + 1) es))) added
        ∙ adds_one h all xs total (event_term e) (event_terms (drop (i + 1) es)) y event still

    -- no event is at fault
    one_faultless : (f : RunFault) → Err f ≡ on_ok (place_in h (option_map term_of e.place)) (λ n. event_of h e.name n e.event) → ⊥
    one_faultless f event = adds_none h all xs total (event_term e) (event_terms (drop (i + 1) es)) f event still

    pub one_more : (x : Result Ev RunFault) (new : List Ev) → x ≡ on_ok (place_in h (option_map term_of e.place)) (λ n. event_of h e.name n e.event) → IfOk x (λ y. new ≡ with_event all xs y)
        → adds h all new (event_terms (drop (i + 1) es)) ≡ Ok total
    one_more (Ok y) new event added = one_added y new event added
    one_more (Err f) new event added = absurd (one_faultless f event)
