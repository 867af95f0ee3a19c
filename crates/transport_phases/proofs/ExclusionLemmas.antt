-- Where nothing is broken, what a transaction enters no other one is in.
use Rattle.std.proofs.Common.{◌≡◌, ℕ, ◌≢◌, Bool, true, false, List, [], ◌∷◌, ◌++◌, Option, None, Some, refl, sym, ap, ◌∙◌, subst, ◌⊎◌, inl, inr, true≢false, append_assoc, append-nil}
use Rattle.std.specs.Prelude.{◌==◌, if◌then◌else◌}
use Rattle.std.proofs.lemmas.Bool.{eqb-true, eqb-false}
use Rattle.transport_phases.specs.declared.phases.Path.{Path}
use Rattle.transport_phases.specs.declared.phases.Phase.{Phase}
use Rattle.transport_phases.specs.declared.phases.Phase.TheVariants.{BeginReq, EndReq, BeginResp, EndResp}
use Rattle.transport_phases.specs.declared.phases.Answer.{Answer}
use Rattle.transport_phases.specs.declared.phases.Answer.TheVariants.{Accepted, Updated, Completed}
use Rattle.transport_phases.specs.declared.phases.Rule.{Rule}
use Rattle.transport_phases.specs.declared.transaction.State.{State}
use Rattle.transport_phases.specs.declared.transaction.State.TheVariants.{Idle, Req, Acc, Resp, Closing}
use Rattle.transport_phases.specs.declared.transaction.Kept.{Kept}
use Rattle.transport_phases.specs.Phases.{fresh, phase_of, answer_of, requests, responds, is_requesting, is_responding, state_called, state_accepted, state_returned, first_broken, call_rules, return_rules}
use Rattle.transport_phases.specs.History.{Entry, Call, Return, BCall, BReturn, Left, transaction, after_entry, kept_of, state_of, is_other_among, other_requests, other_responds, broken}
use Rattle.transport_phases.specs.Unbroken.{UnbrokenFrom, AtMostOne}
use Rattle.transport_phases.proofs.HopLemmas.{other_in_history, kept_of-more}

-- none of the rules is broken
abbrev NoneBroken : List (Rule × Bool) → Type 0
NoneBroken [] = Unit {0}
NoneBroken (rule ∷ rules) = (rule.1 ≡ false) × NoneBroken rules

none_first : (b : Bool) (r : Rule) (o : Option Rule) → (if b then Some r else o) ≡ None → (b ≡ false) × (o ≡ None)
none_first true r o is = cc
none_first false r o is = (refl, is)

pub none_broken : (rules : List (Rule × Bool)) → first_broken rules ≡ None → NoneBroken rules
none_broken [] is = tt
none_broken (rule ∷ rules) is = let both : (rule.1 ≡ false) × (first_broken rules ≡ None) = none_first rule.1 rule.0 (first_broken rules) is in (both.0, none_broken rules both.1)

-- a transaction that passes the test after an entry did so before, or no other one does
abbrev Enters : (Kept → Bool) → List Entry → Entry → Type 0
Enters test h e = test (after_entry e (kept_of h (transaction e))) ≡ true → (test (kept_of h (transaction e)) ≡ true) ⊎ (is_other_among (λ n. test (kept_of h n)) (transaction e) h ≡ false)

pub call_requests : (k : Kept) (a b : Bool) (path : Path) (p : Option Phase) (complete handled : Bool) → first_broken (call_rules k a b path p complete handled) ≡ None → requests (state_called k.state p) ≡ true → (requests k.state ≡ true) ⊎ (a ≡ false)
call_requests k a b path None complete handled none is = inl is
call_requests k a b path (Some BeginReq) complete handled none is = inr (none_broken (call_rules k a b path (Some BeginReq) complete handled) none).1.1.0
call_requests k a b path (Some EndReq) complete handled none is = absurd (true≢false (sym is))
call_requests k a b path (Some BeginResp) complete handled none is = absurd (true≢false (sym is))
call_requests k a b path (Some EndResp) complete handled none is = absurd (true≢false (sym is))

pub call_responds : (k : Kept) (a b : Bool) (path : Path) (p : Option Phase) (complete handled : Bool) → first_broken (call_rules k a b path p complete handled) ≡ None → responds (state_called k.state p) ≡ true → (responds k.state ≡ true) ⊎ (b ≡ false)
call_responds k a b path None complete handled none is = inl is
call_responds k a b path (Some BeginReq) complete handled none is = absurd (true≢false (sym is))
call_responds k a b path (Some EndReq) complete handled none is = absurd (true≢false (sym is))
call_responds k a b path (Some BeginResp) complete handled none is = inr (none_broken (call_rules k a b path (Some BeginResp) complete handled) none).1.1.1.0
call_responds k a b path (Some EndResp) complete handled none is = absurd (true≢false (sym is))

accepted_requests : (s : State) → requests (state_accepted s) ≡ true → requests s ≡ true
accepted_requests Idle is = is
accepted_requests Req is = is
accepted_requests Acc is = is
accepted_requests Resp is = is
accepted_requests Closing is = is

accepted_responds : (s : State) → responds (state_accepted s) ≡ true → responds s ≡ true
accepted_responds Idle is = is
accepted_responds Req is = is
accepted_responds Acc is = is
accepted_responds Resp is = is
accepted_responds Closing is = is

pub return_requests : (s : State) (p : Option Phase) (x : Option Answer) → requests (state_returned s p x) ≡ true → requests s ≡ true
return_requests s p None is = is
return_requests s p (Some Accepted) is = accepted_requests s is
return_requests s None (Some Updated) is = is
return_requests s (Some BeginReq) (Some Updated) is = is
return_requests s (Some EndReq) (Some Updated) is = absurd (true≢false (sym is))
return_requests s (Some BeginResp) (Some Updated) is = absurd (true≢false (sym is))
return_requests s (Some EndResp) (Some Updated) is = absurd (true≢false (sym is))
return_requests s p (Some Completed) is = absurd (true≢false (sym is))

pub return_responds : (s : State) (b : Bool) (p : Option Phase) (x : Option Answer) (complete : Bool) → first_broken (return_rules s b x p complete) ≡ None → responds (state_returned s p x) ≡ true → (responds s ≡ true) ⊎ (b ≡ false)
return_responds s b p None complete none is = inl is
return_responds s b p (Some Accepted) complete none is = inl (accepted_responds s is)
return_responds s b None (Some Updated) complete none is = inl is
return_responds s b (Some BeginReq) (Some Updated) complete none is = inl is
return_responds s b (Some EndReq) (Some Updated) complete none is = absurd (true≢false (sym is))
return_responds s b (Some BeginResp) (Some Updated) complete none is = inr (none_broken (return_rules s b (Some Updated) (Some BeginResp) complete) none).1.1.0
return_responds s b (Some EndResp) (Some Updated) complete none is = absurd (true≢false (sym is))
return_responds s b p (Some Completed) complete none is = absurd (true≢false (sym is))

enters_request : (h : List Entry) (e : Entry) → broken h e ≡ None → Enters is_requesting h e
enters_request h (Call t path phase complete handled) none = call_requests (kept_of h t) (other_requests h t) (other_responds h t) path (phase_of phase) complete handled none
enters_request h (Return t status phase complete) none = λ is. inl (return_requests (state_of h t) (phase_of phase) (answer_of status) is)
enters_request h (BCall t handled) none = λ is. inl is
enters_request h (BReturn t complete) none = λ is. inl is
enters_request h (Left t) none = λ is. absurd (true≢false (sym is))

enters_response : (h : List Entry) (e : Entry) → broken h e ≡ None → Enters is_responding h e
enters_response h (Call t path phase complete handled) none = call_responds (kept_of h t) (other_requests h t) (other_responds h t) path (phase_of phase) complete handled none
enters_response h (Return t status phase complete) none = return_responds (state_of h t) (other_responds h t) (phase_of phase) (answer_of status) complete none
enters_response h (BCall t handled) none = λ is. inl is
enters_response h (BReturn t complete) none = λ is. inl is
enters_response h (Left t) none = λ is. absurd (true≢false (sym is))

module _ (test : Kept → Bool) (idle : test fresh ≡ false) (enters : (h : List Entry) (e : Entry) → broken h e ≡ None → Enters test h e) where
  -- the entry's transaction passes the test now, so another one does not
  alone_here : (h : List Entry) (e : Entry) → AtMostOne test h → broken h e ≡ None → (n : ℕ) → n ≢ transaction e → test (after_entry e (kept_of h (transaction e))) ≡ true → test (kept_of h n) ≡ true → ⊥
  alone_here h e one none n apart here there =
      elim (enters h e none here) [
        | inl before ↦ apart (one n (transaction e) there before)
        | inr no_other ↦ true≢false (sym (other_in_history test idle h (transaction e) n apart there) ∙ no_other)
      ]

  one_more : (h : List Entry) (e : Entry) → AtMostOne test h → broken h e ≡ None → (t u : ℕ) (a b : Bool) → (transaction e == t) ≡ a → (transaction e == u) ≡ b → test (if a then after_entry e (kept_of h t) else kept_of h t) ≡ true → test (if b then after_entry e (kept_of h u) else kept_of h u) ≡ true → t ≡ u
  one_more h e one none t u true true at_t at_u is_t is_u = sym (eqb-true (transaction e) t at_t) ∙ eqb-true (transaction e) u at_u
  one_more h e one none t u true false at_t at_u is_t is_u =
      absurd (alone_here h e one none u (λ same. eqb-false (transaction e) u at_u (sym same)) (subst (λ n. test (after_entry e (kept_of h n)) ≡ true) (sym (eqb-true (transaction e) t at_t)) is_t) is_u)
  one_more h e one none t u false true at_t at_u is_t is_u =
      absurd (alone_here h e one none t (λ same. eqb-false (transaction e) t at_t (sym same)) (subst (λ n. test (after_entry e (kept_of h n)) ≡ true) (sym (eqb-true (transaction e) u at_u)) is_u) is_t)
  one_more h e one none t u false false at_t at_u is_t is_u = one t u is_t is_u

  one_after : (h : List Entry) (e : Entry) → AtMostOne test h → broken h e ≡ None → AtMostOne test (h ++ e ∷ [])
  one_after h e one none t u is_t is_u =
      one_more h e one none t u (transaction e == t) (transaction e == u) refl refl
      (sym (ap test (kept_of-more h e t (transaction e == t) refl)) ∙ is_t)
      (sym (ap test (kept_of-more h e u (transaction e == u) refl)) ∙ is_u)

  pub one_throughout : (before later : List Entry) → AtMostOne test before → UnbrokenFrom before later → AtMostOne test (before ++ later)
  one_throughout before [] one unbroken = subst (AtMostOne test) (sym (append-nil before)) one
  one_throughout before (e ∷ later) one unbroken =
      subst (AtMostOne test) (append_assoc before (e ∷ []) later) (one_throughout (before ++ e ∷ []) later (one_after before e one unbroken.0) unbroken.1)

pub one_requests : (h : List Entry) → UnbrokenFrom [] h → AtMostOne is_requesting h
one_requests h unbroken = one_throughout is_requesting refl enters_request [] h (λ t u is_t is_u. absurd (true≢false (sym is_t))) unbroken

pub one_responds : (h : List Entry) → UnbrokenFrom [] h → AtMostOne is_responding h
one_responds h unbroken = one_throughout is_responding refl enters_response [] h (λ t u is_t is_u. absurd (true≢false (sym is_t))) unbroken
