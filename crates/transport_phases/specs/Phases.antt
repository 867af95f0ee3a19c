-- The states, phases and rules of the base protocol, for one transaction on a hop.
use Rattle.std.specs.Prelude.{ℤ, pos, Bool, true, false, not, ◌&&◌, List, [], ◌∷◌, Option, None, Some, Result, Ok, Err, if◌then◌else◌}
use Rattle.std.specs.Ordering.{int_eq}
use Rattle.transport_phases.specs.declared.phases.Path.{Path}
use Rattle.transport_phases.specs.declared.phases.Path.TheVariants.{Forward, Backward}
use Rattle.transport_phases.specs.declared.phases.Phase.{Phase}
use Rattle.transport_phases.specs.declared.phases.Phase.TheVariants.{BeginReq, EndReq, BeginResp, EndResp}
use Rattle.transport_phases.specs.declared.phases.Answer.{Answer}
use Rattle.transport_phases.specs.declared.phases.Answer.TheVariants.{Accepted, Updated, Completed}
use Rattle.transport_phases.specs.declared.phases.Rule.{Rule}
use Rattle.transport_phases.specs.declared.phases.Rule.TheVariants.{P1, P2, P3, P4, P5, P6, P7, P8, P9, P10}
use Rattle.transport_phases.specs.declared.transaction.State.{State}
use Rattle.transport_phases.specs.declared.transaction.State.TheVariants.{Idle, Req, Acc, Resp, Closing}
use Rattle.transport_phases.specs.declared.transaction.Open.{Open}
use Rattle.transport_phases.specs.declared.transaction.Open.TheVariants.{Nothing, NonBlocking, Blocking}
use Rattle.transport_phases.specs.declared.transaction.Kept.{Kept}

-- the phase of a code
abbrev pub phase_of : ℤ → Option Phase
phase_of code =
    if int_eq code (pos 1) then Some BeginReq else
    if int_eq code (pos 2) then Some EndReq else
    if int_eq code (pos 3) then Some BeginResp else
    if int_eq code (pos 4) then Some EndResp else None

-- the answer of a code
abbrev pub answer_of : ℤ → Option Answer
answer_of code =
    if int_eq code (pos 0) then Some Accepted else
    if int_eq code (pos 1) then Some Updated else
    if int_eq code (pos 2) then Some Completed else None

-- the phase is called on that path
abbrev pub is_on : Path → Phase → Bool
is_on Forward BeginReq = true
is_on Forward EndReq = false
is_on Forward BeginResp = false
is_on Forward EndResp = true
is_on Backward BeginReq = false
is_on Backward EndReq = true
is_on Backward BeginResp = true
is_on Backward EndResp = false

-- the state during a call of the phase
abbrev pub state_in : Phase → State
state_in BeginReq = Req
state_in EndReq = Acc
state_in BeginResp = Resp
state_in EndResp = Closing

-- a call of the phase may come in the state
abbrev pub allows : State → Phase → Bool
allows Idle BeginReq = true
allows Req EndReq = true
allows Req BeginResp = true
allows Acc BeginResp = true
allows Resp EndResp = true
allows _ _ = false

-- a call in which the state is this one may answer so
abbrev pub may_answer : State → Answer → Bool
may_answer Idle _ = false
may_answer Req _ = true
may_answer Acc Accepted = true
may_answer Acc Updated = false
may_answer Acc Completed = false
may_answer Resp _ = true
may_answer Closing Accepted = true
may_answer Closing Updated = false
may_answer Closing Completed = true

-- a call in which the state is this one may answer UPDATED with the phase
abbrev pub may_update : State → Phase → Bool
may_update Req EndReq = true
may_update Req BeginResp = true
may_update Resp EndResp = true
may_update _ _ = false

abbrev pub is_idle : State → Bool
is_idle Idle = true
is_idle _ = false

abbrev pub is_begin_req : Phase → Bool
is_begin_req BeginReq = true
is_begin_req _ = false

abbrev pub is_begin_resp : Phase → Bool
is_begin_resp BeginResp = true
is_begin_resp _ = false

abbrev pub is_updated : Answer → Bool
is_updated Updated = true
is_updated _ = false

abbrev pub is_completed : Answer → Bool
is_completed Completed = true
is_completed _ = false

abbrev pub is_open_nb : Open → Bool
is_open_nb NonBlocking = true
is_open_nb _ = false

abbrev pub is_open_b : Open → Bool
is_open_b Blocking = true
is_open_b _ = false

abbrev pub is_nothing : Open → Bool
is_nothing Nothing = true
is_nothing NonBlocking = false
is_nothing Blocking = false

-- there is one, and it passes the test
abbrev pub is_one : {X : Type 0} → (X → Bool) → Option X → Bool
is_one test None = false
is_one test (Some x) = test x

-- a transaction that is idle and has no call open
abbrev pub fresh : Kept
fresh = record { state = Idle; call = Nothing }

abbrev pub is_fresh : Kept → Bool
is_fresh k = is_idle k.state && is_nothing k.call

-- the transaction is in the state of a request, or of a response
abbrev pub requests : State → Bool
requests Req = true
requests _ = false

abbrev pub responds : State → Bool
responds Resp = true
responds _ = false

abbrev pub is_requesting : Kept → Bool
is_requesting k = requests k.state

abbrev pub is_responding : Kept → Bool
is_responding k = responds k.state

-- the state in which a call leaves the transaction: a code that is no phase leaves it
abbrev pub state_called : State → Option Phase → State
state_called s None = s
state_called s (Some phase) = state_in phase

abbrev pub called : Kept → Option Phase → Kept
called k phase = record { state = state_called k.state phase; call = NonBlocking }

-- the state after ACCEPTED
abbrev pub state_accepted : State → State
state_accepted Closing = Idle
state_accepted Idle = Idle
state_accepted Req = Req
state_accepted Acc = Acc
state_accepted Resp = Resp

-- the state after UPDATED with the phase
abbrev pub state_updated : State → Option Phase → State
state_updated s None = s
state_updated s (Some BeginReq) = s
state_updated s (Some EndReq) = Acc
state_updated s (Some BeginResp) = Resp
state_updated s (Some EndResp) = Idle

-- the state after a return: a code that is no answer leaves it
abbrev pub state_returned : State → Option Phase → Option Answer → State
state_returned s phase None = s
state_returned s phase (Some Accepted) = state_accepted s
state_returned s phase (Some Updated) = state_updated s phase
state_returned s phase (Some Completed) = Idle

abbrev pub returned : Kept → Option Answer → Option Phase → Kept
returned k answer phase = record { state = state_returned k.state phase answer; call = Nothing }

-- the first of the rules that is broken
abbrev pub first_broken : List (Rule × Bool) → Option Rule
first_broken [] = None
first_broken (rule ∷ rules) = if rule.1 then Some rule.0 else first_broken rules

abbrev pub verdict : Option Rule → Result Unit Rule
verdict None = Ok tt
verdict (Some rule) = Err rule

-- the rules at an nb_transport call, and which of them it breaks
abbrev pub call_rules : Kept → Bool → Bool → Path → Option Phase → Bool → Bool → List (Rule × Bool)
call_rules k other_requests other_responds path phase complete handled =
    (P1, not (is_one (is_on path) phase))
    ∷ (P2, is_open_nb k.call)
    ∷ (P3, is_one is_begin_req phase && other_requests)
    ∷ (P4, is_one is_begin_resp phase && other_responds)
    ∷ (P5, not (is_one (allows k.state) phase))
    ∷ (P6, is_one is_begin_resp phase && not complete)
    ∷ (P9, is_open_b k.call)
    ∷ (P10, not handled)
    ∷ []

-- the return carries the response
abbrev pub has_response : Option Phase → Option Answer → Bool
has_response phase None = false
has_response phase (Some Accepted) = false
has_response phase (Some Updated) = is_one is_begin_resp phase
has_response phase (Some Completed) = true

-- the return begins the response
abbrev pub begins_response : Option Phase → Option Answer → Bool
begins_response phase answer = is_one is_updated answer && is_one is_begin_resp phase

-- those rules at a return with UPDATED that speak of the phase
abbrev pub update_rules : State → Bool → Option Phase → Bool → List (Rule × Bool)
update_rules s other_responds phase complete =
    (P8, not (is_one (may_update s) phase))
    ∷ (P4, is_one is_begin_resp phase && other_responds)
    ∷ (P6, is_one is_begin_resp phase && not complete)
    ∷ []

-- the rules at the return of an nb_transport call
abbrev pub return_rules : State → Bool → Option Answer → Option Phase → Bool → List (Rule × Bool)
return_rules s other_responds answer phase complete =
    (P7, not (is_one (may_answer s) answer))
    ∷ (P8, is_one is_updated answer && not (is_one (may_update s) phase))
    ∷ (P4, begins_response phase answer && other_responds)
    ∷ (P6, has_response phase answer && not complete)
    ∷ []

-- the rules at a b_transport call
abbrev pub b_call_rules : Kept → Bool → List (Rule × Bool)
b_call_rules k handled =
    (P2, is_open_b k.call)
    ∷ (P9, not (is_idle k.state))
    ∷ (P10, not handled)
    ∷ []

-- the rule at the return of a b_transport call
abbrev pub b_return_rules : Bool → List (Rule × Bool)
b_return_rules complete = (P6, not complete) ∷ []
