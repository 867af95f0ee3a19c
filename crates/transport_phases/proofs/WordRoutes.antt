-- A row of words leads along the places.
use Rattle.std.proofs.Common.{◌≡◌, true, List, [], ◌∷◌, ◌++◌}
use Rattle.transport_phases.specs.declared.phases.Phase.TheVariants.{BeginResp, EndResp}
use Rattle.transport_phases.specs.Words.{Letter, Calls, Accepts, Updates, Completes, Leaves, IsEnd, IsRequest, IsWhole, IsWord, IsRow, whole, left, last, next, is_call}
use Rattle.transport_phases.proofs.Places.{Place, Between, Requested, RequestEnded, InResponse, Responded, Step, Route, here, go, route-append, route_cut, leave, blocked, unblocked, request, request_accepted, request_ended, request_answered, request_completed, request_end, request_end_accepted, response_early, response, response_accepted, response_ended, response_completed, response_end, response_end_accepted, response_end_completed}

tail_route : {w : List Letter} → IsEnd w → Route Responded w Between
tail_route IsEnd.accepted = go response_end (go response_end_accepted here)
tail_route IsEnd.completed = go response_end (go response_end_completed here)

-- behind a request the response may be called
head_route : {w : List Letter} → IsRequest w → (p : Place) × Route Between w p × Step p (Calls BeginResp) InResponse
head_route IsRequest.accepted = (Requested, go request (go request_accepted here), response_early)
head_route IsRequest.updated = (RequestEnded, go request (go request_ended here), response)
head_route IsRequest.ended =
    (RequestEnded, go request (go request_accepted (go request_end (go request_end_accepted here))), response)

head_then : {w : List Letter} (rest : List Letter) → IsRequest w → Route InResponse rest Between
    → Route Between (w ++ Calls BeginResp ∷ rest) Between
head_then {w = w} rest is route =
    let (p, first, s) = head_route is in
    route-append w (Calls BeginResp ∷ rest) first (go s route)

whole_route : {w : List Letter} → IsWhole w → Route Between w Between
whole_route IsWhole.blocking = go blocked (go unblocked here)
whole_route IsWhole.early = go request (go request_completed here)
whole_route (IsWhole.returned t) = go request (go request_answered (tail_route t))
whole_route (IsWhole.responded {tail = w} r t) = head_then (Accepts ∷ w) r (go response_accepted (tail_route t))
whole_route (IsWhole.updated r) = head_then (Updates EndResp ∷ []) r (go response_ended here)
whole_route (IsWhole.completed r) = head_then (Completes ∷ []) r (go response_completed here)

left_route : (front rest : List Letter) (call answer : Letter) → is_call call ≡ true
    → Route Between (front ++ call ∷ answer ∷ rest) Between → Route Between (front ++ call ∷ Leaves ∷ []) Between
left_route front rest call answer is route =
    let (p, first, later) = route_cut front (call ∷ answer ∷ rest) route in
    route-append front (call ∷ Leaves ∷ []) first (left_here call answer rest is later)
  where
    left_here : {p : Place} (call answer : Letter) (rest : List Letter) → is_call call ≡ true
        → Route p (call ∷ answer ∷ rest) Between → Route p (call ∷ Leaves ∷ []) Between
    left_here call answer rest is (go s route) = go s (go (leave call is s) here)

word_route : {w : List Letter} → IsWord w → Route Between w Between
word_route (whole w) = whole_route w
word_route (left front rest call answer w is) = left_route front rest call answer is (whole_route w)

pub row_route : {w : List Letter} → IsRow w → (p : Place) × Route Between w p
row_route (last front rest w) =
    let (p, route, later) = route_cut front rest (word_route w) in
    (p, route)
row_route (next {word = word} {later = later} w row) =
    let (p, route) = row_route row in
    (p, route-append word later (word_route w) route)
