-- Which rows may be set where an entry breaks no rule.
use Rattle.std.proofs.Common.{◌≡◌, ℕ, ◌≢◌, Bool, true, false, Option, None, Some, Ok, List, refl, sym, ap, ◌∙◌, inl, inr, true≢false}
use Rattle.std.specs.Prelude.{◌&&◌, IsTrue, is_some, unwrap_or}
use Rattle.std.specs.Ordering.{nat_cmp}
use Rattle.std.specs.FinMap as map
use Rattle.transport_phases.specs.declared.phases.Path.{Path}
use Rattle.transport_phases.specs.declared.phases.Phase.{Phase}
use Rattle.transport_phases.specs.declared.phases.Answer.{Answer}
use Rattle.transport_phases.specs.declared.phases.Answer.TheVariants.{Accepted, Updated, Completed}
use Rattle.transport_phases.specs.declared.phases.Rule.{Rule}
use Rattle.transport_phases.specs.declared.transaction.State.{State}
use Rattle.transport_phases.specs.declared.transaction.State.TheVariants.{Idle, Req, Acc, Resp, Closing}
use Rattle.transport_phases.specs.declared.transaction.Open.{Open}
use Rattle.transport_phases.specs.declared.transaction.Open.TheVariants.{Nothing, NonBlocking, Blocking}
use Rattle.transport_phases.specs.declared.transaction.Kept.{Kept}
use Rattle.transport_phases.specs.Phases.{fresh, is_fresh, is_idle, is_nothing, is_requesting, is_responding, called, returned, verdict, first_broken, call_rules, return_rules}
use Rattle.transport_phases.specs.Rows.{Rows, kept_in, IsRegistered}
use Rattle.transport_phases.specs.Seats.{NoOther, MayEnter}
use Rattle.transport_phases.specs.History.{Entry, state_of, is_open, StandsFor}
use Rattle.transport_phases.proofs.HopLemmas.{kept_read}
use Rattle.transport_phases.proofs.ExclusionLemmas.{none_broken, call_requests, call_responds, return_requests, return_responds}

pub ok_none : (o : Option Rule) → verdict o ≡ Ok tt → o ≡ None
ok_none None is = refl
ok_none (Some rule) is = cc

-- a transaction of which something is kept has a row
row_there : (m : map.FinMap nat_cmp Kept) (t : ℕ) → is_fresh (kept_in m t) ≡ false → IsTrue (map.contains_key m t)
row_there m t is = by (map.get m t) refl
  where
    by : (o : Option Kept) → map.get m t ≡ o → IsTrue (map.contains_key m t)
    by None none = absurd (true≢false (sym (ap (λ o. is_fresh (unwrap_or o fresh)) none) ∙ is))
    by (Some k) some = ap is_some some

says_something : (s : State) (o : Open) → is_idle s ≡ false → (is_idle s && is_nothing o) ≡ false
says_something s o is = ap (λ b. b && is_nothing o) is

said_before : (s : State) (o : Open) → (is_idle s && true) ≡ false → is_idle s ≡ false
said_before Idle o is = is
said_before Req o is = refl
said_before Acc o is = refl
said_before Resp o is = refl
said_before Closing o is = refl

answered_not_idle : (s : State) (b : Bool) (x : Option Answer) (p : Option Phase) (complete : Bool) → first_broken (return_rules s b x p complete) ≡ None → is_idle s ≡ false
answered_not_idle Idle b None p complete none = absurd (true≢false (none_broken (return_rules Idle b None p complete) none).0)
answered_not_idle Idle b (Some Accepted) p complete none = absurd (true≢false (none_broken (return_rules Idle b (Some Accepted) p complete) none).0)
answered_not_idle Idle b (Some Updated) p complete none = absurd (true≢false (none_broken (return_rules Idle b (Some Updated) p complete) none).0)
answered_not_idle Idle b (Some Completed) p complete none = absurd (true≢false (none_broken (return_rules Idle b (Some Completed) p complete) none).0)
answered_not_idle Req b x p complete none = refl
answered_not_idle Acc b x p complete none = refl
answered_not_idle Resp b x p complete none = refl
answered_not_idle Closing b x p complete none = refl

module _ (r : Rows) (t : ℕ) (k : Kept) (is : k ≡ kept_in r.kept t) where
  registered : is_fresh k ≡ false → IsRegistered r t
  registered says = inl (row_there r.kept t (sym (ap is_fresh is) ∙ says))

  -- what it was before, it is still
  pub stays : (test : Kept → Bool) (l : Kept) → (test l ≡ true → test k ≡ true) → MayEnter test r t l
  stays test l before = λ is_so. inl (sym (ap test is) ∙ before is_so)

  pub b_return_registered : is_fresh (record k { call = Nothing }) ≡ false → IsRegistered r t
  b_return_registered says = registered (says_something k.state k.call (said_before k.state k.call says))

  module _ (a b : Bool) (path : Path) (p : Option Phase) (complete handled : Bool) (none : first_broken (call_rules k a b path p complete handled) ≡ None) where
    pub call_may_request : (a ≡ false → NoOther is_requesting r t) → MayEnter is_requesting r t (called k p)
    call_may_request free = λ is_so. elim (call_requests k a b path p complete handled none is_so) [
      | inl before ↦ inl (sym (ap is_requesting is) ∙ before)
      | inr no_other ↦ inr (free no_other)
    ]

    pub call_may_respond : (b ≡ false → NoOther is_responding r t) → MayEnter is_responding r t (called k p)
    call_may_respond free = λ is_so. elim (call_responds k a b path p complete handled none is_so) [
      | inl before ↦ inl (sym (ap is_responding is) ∙ before)
      | inr no_other ↦ inr (free no_other)
    ]

  module _ (b : Bool) (x : Option Answer) (p : Option Phase) (complete : Bool) (none : first_broken (return_rules k.state b x p complete) ≡ None) where
    pub return_registered : IsRegistered r t
    return_registered = registered (says_something k.state k.call (answered_not_idle k.state b x p complete none))

    pub return_may_request : MayEnter is_requesting r t (returned k x p)
    return_may_request = stays is_requesting (returned k x p) (return_requests k.state p x)

    pub return_may_respond : (b ≡ false → NoOther is_responding r t) → MayEnter is_responding r t (returned k x p)
    return_may_respond free = λ is_so. elim (return_responds k.state b p x complete none is_so) [
      | inl before ↦ inl (sym (ap is_responding is) ∙ before)
      | inr no_other ↦ inr (free no_other)
    ]

-- a transaction of which a call is open has a row
open_says : (s : State) (o : Open) → o ≢ Nothing → (is_idle s && is_nothing o) ≡ false
open_says Idle Nothing open_call = absurd (open_call refl)
open_says Idle NonBlocking open_call = refl
open_says Idle Blocking open_call = refl
open_says Req o open_call = refl
open_says Acc o open_call = refl
open_says Resp o open_call = refl
open_says Closing o open_call = refl

pub open_row : (r : Rows) (h : List Entry) → StandsFor r h → (t : ℕ) → is_open h t ≢ Nothing → IsTrue (map.contains_key r.kept t)
open_row r h stands t open_call = row_there r.kept t (ap is_fresh (kept_read r h stands t) ∙ open_says (state_of h t) (is_open h t) open_call)
