-- The places of a word, and the ways between them.
use Rattle.std.proofs.Common.{◌≡◌, true, List, [], ◌∷◌, ◌++◌, sym, true≢false}
use Rattle.transport_phases.specs.declared.phases.Phase.TheVariants.{BeginReq, EndReq, BeginResp, EndResp}
use Rattle.transport_phases.specs.declared.transaction.State.{State}
use Rattle.transport_phases.specs.declared.transaction.State.TheVariants.{Idle, Req, Acc, Resp, Closing}
use Rattle.transport_phases.specs.declared.transaction.Open.{Open}
use Rattle.transport_phases.specs.declared.transaction.Open.TheVariants.{Nothing, NonBlocking, Blocking}
use Rattle.transport_phases.specs.declared.transaction.Kept.{Kept}
use Rattle.transport_phases.specs.Words.{Letter, Calls, Accepts, Updates, Completes, Blocks, Unblocks, Leaves, is_call}

-- between two words, in a call of b_transport, in the call of each phase, and behind those that leave the transaction open
pub data Place : Type 0 where
  Between : Place
  InBlocking : Place
  InRequest : Place
  Requested : Place
  InRequestEnd : Place
  RequestEnded : Place
  InResponse : Place
  Responded : Place
  InResponseEnd : Place

abbrev pub state_at : Place → State
state_at Between = Idle
state_at InBlocking = Idle
state_at InRequest = Req
state_at Requested = Req
state_at InRequestEnd = Acc
state_at RequestEnded = Acc
state_at InResponse = Resp
state_at Responded = Resp
state_at InResponseEnd = Closing

abbrev pub call_at : Place → Open
call_at Between = Nothing
call_at InBlocking = Blocking
call_at InRequest = NonBlocking
call_at Requested = Nothing
call_at InRequestEnd = NonBlocking
call_at RequestEnded = Nothing
call_at InResponse = NonBlocking
call_at Responded = Nothing
call_at InResponseEnd = NonBlocking

-- what a hop keeps of a transaction at the place
abbrev pub kept_at : Place → Kept
kept_at p = record { state = state_at p; call = call_at p }

pub data Step : Place → Letter → Place → Type 0 where
  blocked : Step Between Blocks InBlocking
  unblocked : Step InBlocking Unblocks Between
  blocking_left : Step InBlocking Leaves Between
  request : Step Between (Calls BeginReq) InRequest
  request_accepted : Step InRequest Accepts Requested
  request_ended : Step InRequest (Updates EndReq) RequestEnded
  request_answered : Step InRequest (Updates BeginResp) Responded
  request_completed : Step InRequest Completes Between
  request_left : Step InRequest Leaves Between
  request_end : Step Requested (Calls EndReq) InRequestEnd
  request_end_accepted : Step InRequestEnd Accepts RequestEnded
  request_end_left : Step InRequestEnd Leaves Between
  response_early : Step Requested (Calls BeginResp) InResponse
  response : Step RequestEnded (Calls BeginResp) InResponse
  response_accepted : Step InResponse Accepts Responded
  response_ended : Step InResponse (Updates EndResp) Between
  response_completed : Step InResponse Completes Between
  response_left : Step InResponse Leaves Between
  response_end : Step Responded (Calls EndResp) InResponseEnd
  response_end_accepted : Step InResponseEnd Accepts Between
  response_end_completed : Step InResponseEnd Completes Between
  response_end_left : Step InResponseEnd Leaves Between

pub data Route : Place → List Letter → Place → Type 0 where
  here : {p : Place} → Route p [] p
  go : {p q r : Place} {l : Letter} {ls : List Letter} → Step p l q → Route q ls r → Route p (l ∷ ls) r

pub route-append : {p q r : Place} (a b : List Letter) → Route p a q → Route q b r → Route p (a ++ b) r
route-append [] b here route = route
route-append (l ∷ a) b (go s first) route = go s (route-append a b first route)

-- a route is cut at any letter
pub route_cut : {p r : Place} (a b : List Letter) → Route p (a ++ b) r → (q : Place) × Route p a q × Route q b r
route_cut {p = p} [] b route = (p, here, route)
route_cut (l ∷ a) b (go s route) =
    let (q, first, later) = route_cut a b route in
    (q, go s first, later)

-- an open call may be left
pub leave : {p q : Place} (c : Letter) → is_call c ≡ true → Step p c q → Step q Leaves Between
leave c is blocked = blocking_left
leave c is request = request_left
leave c is request_end = request_end_left
leave c is response_early = response_left
leave c is response = response_left
leave c is response_end = response_end_left
leave c is _ = absurd (true≢false (sym is))
