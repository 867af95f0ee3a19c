-- An entry leads on from a place exactly where it breaks no rule there.
use Rattle.std.proofs.Common.{◌≡◌, ◌≢◌, Bool, true, false, List, [], ◌∷◌, Option, None, Some, refl, sym, true≢false}
use Rattle.std.specs.Prelude.{◌&&◌, not, if◌then◌else◌}
use Rattle.transport_phases.specs.declared.phases.Path.{Path}
use Rattle.transport_phases.specs.declared.phases.Path.TheVariants.{Forward, Backward}
use Rattle.transport_phases.specs.declared.phases.Phase.{Phase}
use Rattle.transport_phases.specs.declared.phases.Phase.TheVariants.{BeginReq, EndReq, BeginResp, EndResp}
use Rattle.transport_phases.specs.declared.phases.Answer.{Answer}
use Rattle.transport_phases.specs.declared.phases.Answer.TheVariants.{Accepted, Updated, Completed}
use Rattle.transport_phases.specs.declared.phases.Rule.{Rule}
use Rattle.transport_phases.specs.declared.transaction.Open.TheVariants.{Nothing, NonBlocking, Blocking}
use Rattle.transport_phases.specs.Phases.{allows, may_answer, may_update, is_idle, is_updated, is_open_nb, is_open_b, is_one, has_response, first_broken, call_rules, return_rules, b_call_rules, b_return_rules}
use Rattle.transport_phases.specs.Words.{Letter, Calls, Blocks, Unblocks, Leaves, letter_called, letter_answered}
use Rattle.transport_phases.specs.Lawful.{begins_request, begins_response, carries_response}
use Rattle.transport_phases.proofs.Places.{Place, Between, InBlocking, InRequest, Requested, InRequestEnd, RequestEnded, InResponse, Responded, InResponseEnd, state_at, call_at, kept_at, Step, blocked, unblocked, blocking_left, request, request_accepted, request_ended, request_answered, request_completed, request_left, request_end, request_end_accepted, request_end_left, response_early, response, response_accepted, response_ended, response_completed, response_left, response_end, response_end_accepted, response_end_completed, response_end_left}

-- what leads on breaks no rule

pub call_fits : {p q : Place} (path : Path) (phase : Option Phase) (a b complete handled : Bool)
    → Step p (letter_called path phase) q → (begins_request (letter_called path phase) ≡ true → a ≡ false)
    → (begins_response (letter_called path phase) ≡ true → b ≡ false)
    → (carries_response (letter_called path phase) ≡ true → complete ≡ true) → handled ≡ true
    → first_broken (call_rules (kept_at p) a b path phase complete handled) ≡ None
call_fits Forward None a b complete handled s req resp whole there = elim s [ ]
call_fits Forward (Some BeginReq) a b complete handled request req resp whole there = rw (req refl, there) refl
call_fits Forward (Some EndReq) a b complete handled s req resp whole there = elim s [ ]
call_fits Forward (Some BeginResp) a b complete handled s req resp whole there = elim s [ ]
call_fits Forward (Some EndResp) a b complete handled response_end req resp whole there = rw there refl
call_fits Backward None a b complete handled s req resp whole there = elim s [ ]
call_fits Backward (Some BeginReq) a b complete handled s req resp whole there = elim s [ ]
call_fits Backward (Some EndReq) a b complete handled request_end req resp whole there = rw there refl
call_fits Backward (Some BeginResp) a b complete handled response_early req resp whole there =
    rw (resp refl, whole refl, there) refl
call_fits Backward (Some BeginResp) a b complete handled response req resp whole there =
    rw (resp refl, whole refl, there) refl
call_fits Backward (Some EndResp) a b complete handled s req resp whole there = elim s [ ]

pub return_fits : {p q : Place} (answer : Option Answer) (phase : Option Phase) (b complete : Bool)
    → Step p (letter_answered answer phase) q → (begins_response (letter_answered answer phase) ≡ true → b ≡ false)
    → (carries_response (letter_answered answer phase) ≡ true → complete ≡ true)
    → first_broken (return_rules (state_at p) b answer phase complete) ≡ None
return_fits None phase b complete s resp whole = elim s [ ]
return_fits (Some Accepted) phase b complete request_accepted resp whole = refl
return_fits (Some Accepted) phase b complete request_end_accepted resp whole = refl
return_fits (Some Accepted) phase b complete response_accepted resp whole = refl
return_fits (Some Accepted) phase b complete response_end_accepted resp whole = refl
return_fits (Some Updated) None b complete s resp whole = elim s [ ]
return_fits (Some Updated) (Some BeginReq) b complete s resp whole = elim s [ ]
return_fits (Some Updated) (Some EndReq) b complete request_ended resp whole = refl
return_fits (Some Updated) (Some BeginResp) b complete request_answered resp whole = rw (resp refl, whole refl) refl
return_fits (Some Updated) (Some EndResp) b complete response_ended resp whole = refl
return_fits (Some Completed) phase b complete request_completed resp whole = rw (whole refl) refl
return_fits (Some Completed) phase b complete response_completed resp whole = rw (whole refl) refl
return_fits (Some Completed) phase b complete response_end_completed resp whole = rw (whole refl) refl

pub b_call_fits : {p q : Place} (handled : Bool) → Step p Blocks q → handled ≡ true
    → first_broken (b_call_rules (kept_at p) handled) ≡ None
b_call_fits handled blocked there = rw there refl

-- what breaks no rule leads on

none_first : (b : Bool) (r : Rule) (o : Option Rule) → (if b then Some r else o) ≡ None → (b ≡ false) × (o ≡ None)
none_first true r o is = cc
none_first false r o is = (refl, is)

-- none of the rules is broken
abbrev pub NoneBroken : List (Rule × Bool) → Type 0
NoneBroken [] = Unit {0}
NoneBroken (rule ∷ rules) = (rule.1 ≡ false) × NoneBroken rules

none_broken : (rules : List (Rule × Bool)) → first_broken rules ≡ None → NoneBroken rules
none_broken [] is = tt
none_broken (rule ∷ rules) is =
    let both : (rule.1 ≡ false) × (first_broken rules ≡ None) = none_first rule.1 rule.0 (first_broken rules) is in
    (both.0, none_broken rules both.1)

not_false : (b : Bool) → not b ≡ false → b ≡ true
not_false true is = refl
not_false false is = cc

call_place : (p : Place) (phase : Phase) → not (allows (state_at p) phase) ≡ false → is_open_nb (call_at p) ≡ false
    → is_open_b (call_at p) ≡ false → (q : Place) × Step p (Calls phase) q
call_place Between BeginReq allowed nb b = (InRequest, request)
call_place Requested EndReq allowed nb b = (InRequestEnd, request_end)
call_place Requested BeginResp allowed nb b = (InResponse, response_early)
call_place RequestEnded BeginResp allowed nb b = (InResponse, response)
call_place Responded EndResp allowed nb b = (InResponseEnd, response_end)
call_place _ _ allowed nb b = cc

return_place : (p : Place) (answer : Option Answer) (phase : Option Phase) → call_at p ≡ NonBlocking
    → not (is_one (may_answer (state_at p)) answer) ≡ false
    → (is_one is_updated answer && not (is_one (may_update (state_at p)) phase)) ≡ false
    → (q : Place) × Step p (letter_answered answer phase) q
return_place InRequest (Some Accepted) phase nb may update = (Requested, request_accepted)
return_place InRequest (Some Updated) (Some EndReq) nb may update = (RequestEnded, request_ended)
return_place InRequest (Some Updated) (Some BeginResp) nb may update = (Responded, request_answered)
return_place InRequest (Some Completed) phase nb may update = (Between, request_completed)
return_place InRequestEnd (Some Accepted) phase nb may update = (RequestEnded, request_end_accepted)
return_place InResponse (Some Accepted) phase nb may update = (Responded, response_accepted)
return_place InResponse (Some Updated) (Some EndResp) nb may update = (Between, response_ended)
return_place InResponse (Some Completed) phase nb may update = (Between, response_completed)
return_place InResponseEnd (Some Accepted) phase nb may update = (Between, response_end_accepted)
return_place InResponseEnd (Some Completed) phase nb may update = (Between, response_end_completed)
return_place _ _ _ nb may update = cc

b_call_place : (p : Place) → is_open_b (call_at p) ≡ false → not (is_idle (state_at p)) ≡ false
    → (q : Place) × Step p Blocks q
b_call_place Between b idle = (InBlocking, blocked)
b_call_place _ b idle = cc

pub b_return_place : (p : Place) → call_at p ≡ Blocking → (q : Place) × Step p Unblocks q
b_return_place InBlocking b = (Between, unblocked)
b_return_place _ b = cc

pub left_place : (p : Place) → call_at p ≢ Nothing → (q : Place) × Step p Leaves q
left_place InBlocking held = (Between, blocking_left)
left_place InRequest held = (Between, request_left)
left_place InRequestEnd held = (Between, request_end_left)
left_place InResponse held = (Between, response_left)
left_place InResponseEnd held = (Between, response_end_left)
left_place _ held = absurd (held refl)

-- the entry leads on, and has what it must have
abbrev pub Onward : Place → Letter → (complete handled : Bool) → Type 0
Onward p l complete handled =
    ((q : Place) × Step p l q) × (carries_response l ≡ true → complete ≡ true) × (handled ≡ true)

module _ (p : Place) (a b complete handled : Bool) where
  abbrev None_at : Path → Option Phase → Type 0
  None_at path phase = NoneBroken (call_rules (kept_at p) a b path phase complete handled)

  led : (path : Path) (phase : Phase) → None_at path (Some phase) → (q : Place) × Step p (Calls phase) q
  led path phase n = call_place p phase n.1.1.1.1.0 n.1.0 n.1.1.1.1.1.1.0

  there : (path : Path) (phase : Option Phase) → None_at path phase → handled ≡ true
  there path phase n = not_false handled n.1.1.1.1.1.1.1.0

  none_carried : false ≡ true → complete ≡ true
  none_carried is = absurd (true≢false (sym is))

  call_at_phase : (path : Path) (phase : Option Phase) → None_at path phase
      → Onward p (letter_called path phase) complete handled
  call_at_phase path None n = absurd (true≢false n.0)
  call_at_phase Forward (Some BeginReq) n = (led Forward BeginReq n, none_carried, there Forward (Some BeginReq) n)
  call_at_phase Forward (Some EndReq) n = absurd (true≢false n.0)
  call_at_phase Forward (Some BeginResp) n = absurd (true≢false n.0)
  call_at_phase Forward (Some EndResp) n = (led Forward EndResp n, none_carried, there Forward (Some EndResp) n)
  call_at_phase Backward (Some BeginReq) n = absurd (true≢false n.0)
  call_at_phase Backward (Some EndReq) n = (led Backward EndReq n, none_carried, there Backward (Some EndReq) n)
  call_at_phase Backward (Some BeginResp) n =
      let told : carries_response (Calls BeginResp) ≡ true → complete ≡ true = λ is. not_false complete n.1.1.1.1.1.0 in
      (led Backward BeginResp n, told, there Backward (Some BeginResp) n)
  call_at_phase Backward (Some EndResp) n = absurd (true≢false n.0)

pub call_onward : (p : Place) (path : Path) (phase : Option Phase) (a b complete handled : Bool)
    → first_broken (call_rules (kept_at p) a b path phase complete handled) ≡ None
    → Onward p (letter_called path phase) complete handled
call_onward p path phase a b complete handled none =
    call_at_phase p a b complete handled path phase
    (none_broken (call_rules (kept_at p) a b path phase complete handled) none)

pub return_onward : (p : Place) (answer : Option Answer) (phase : Option Phase) (b complete : Bool)
    → call_at p ≡ NonBlocking → first_broken (return_rules (state_at p) b answer phase complete) ≡ None
    → Onward p (letter_answered answer phase) complete true
return_onward p answer phase b complete nb none =
    let n : NoneBroken (return_rules (state_at p) b answer phase complete) =
    none_broken (return_rules (state_at p) b answer phase complete) none in
    (return_place p answer phase nb n.0 n.1.0, told answer phase n.1.1.1.0, refl)
  where
    told : (answer : Option Answer) (phase : Option Phase) → (has_response phase answer && not complete) ≡ false
        → carries_response (letter_answered answer phase) ≡ true → complete ≡ true
    told (Some Completed) phase n is = not_false complete n
    told (Some Updated) (Some BeginResp) n is = not_false complete n
    told _ _ n is = cc

pub b_call_onward : (p : Place) (handled : Bool) → first_broken (b_call_rules (kept_at p) handled) ≡ None
    → Onward p Blocks false handled
b_call_onward p handled none =
    let n : NoneBroken (b_call_rules (kept_at p) handled) = none_broken (b_call_rules (kept_at p) handled) none in
    (b_call_place p n.0 n.1.0, λ is. absurd (true≢false (sym is)), not_false handled n.1.1.0)

pub b_return_onward : (p : Place) (complete : Bool) → call_at p ≡ Blocking
    → first_broken (b_return_rules complete) ≡ None → Onward p Unblocks complete true
b_return_onward p complete b none =
    (b_return_place p b, λ is. not_false complete (none_broken (b_return_rules complete) none).0, refl)

-- a return leads on only from a call that is open
pub return_open : {p q : Place} (answer : Option Answer) (phase : Option Phase)
    → Step p (letter_answered answer phase) q → call_at p ≡ NonBlocking
return_open None phase s = elim s [ ]
return_open (Some Accepted) phase request_accepted = refl
return_open (Some Accepted) phase request_end_accepted = refl
return_open (Some Accepted) phase response_accepted = refl
return_open (Some Accepted) phase response_end_accepted = refl
return_open (Some Updated) None s = elim s [ ]
return_open (Some Updated) (Some BeginReq) s = elim s [ ]
return_open (Some Updated) (Some EndReq) request_ended = refl
return_open (Some Updated) (Some BeginResp) request_answered = refl
return_open (Some Updated) (Some EndResp) response_ended = refl
return_open (Some Completed) phase request_completed = refl
return_open (Some Completed) phase response_completed = refl
return_open (Some Completed) phase response_end_completed = refl

pub left_open : {p q : Place} → Step p Leaves q → call_at p ≢ Nothing
left_open blocking_left is = cc
left_open request_left is = cc
left_open request_end_left is = cc
left_open response_left is = cc
left_open response_end_left is = cc
