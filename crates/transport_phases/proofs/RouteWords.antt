-- What leads along the places is a row of words.
use Rattle.std.proofs.Common.{List, [], ◌∷◌, ◌++◌, refl, sym, subst, append_assoc, append-nil}
use Rattle.transport_phases.specs.declared.phases.Phase.TheVariants.{BeginReq, EndReq, BeginResp, EndResp}
use Rattle.transport_phases.specs.Words.{Letter, Calls, Accepts, Updates, Completes, Blocks, Unblocks, Leaves, IsEnd, IsRequest, IsWhole, IsWord, IsRow, whole, left, last, next}
use Rattle.transport_phases.proofs.Places.{Place, Between, InBlocking, InRequest, Requested, InRequestEnd, RequestEnded, InResponse, Responded, InResponseEnd, Step, Route, here, go, blocked, unblocked, blocking_left, request, request_accepted, request_ended, request_answered, request_completed, request_left, request_end, request_end_accepted, request_end_left, response_early, response, response_accepted, response_ended, response_completed, response_left, response_end, response_end_accepted, response_end_completed, response_end_left}

-- the front of a word that leads to the place
data Leads : Place → List Letter → Type 0 where
  none : Leads Between []
  in_blocking : Leads InBlocking (Blocks ∷ [])
  in_request : Leads InRequest (Calls BeginReq ∷ [])
  requested : Leads Requested (Calls BeginReq ∷ Accepts ∷ [])
  in_request_end : Leads InRequestEnd (Calls BeginReq ∷ Accepts ∷ Calls EndReq ∷ [])
  ended_at_once : Leads RequestEnded (Calls BeginReq ∷ Updates EndReq ∷ [])
  ended_by_call : Leads RequestEnded (Calls BeginReq ∷ Accepts ∷ Calls EndReq ∷ Accepts ∷ [])
  in_response : {w : List Letter} → IsRequest w → Leads InResponse (w ++ Calls BeginResp ∷ [])
  answered : Leads Responded (Calls BeginReq ∷ Updates BeginResp ∷ [])
  responded : {w : List Letter} → IsRequest w → Leads Responded (w ++ Calls BeginResp ∷ Accepts ∷ [])
  in_end_answered : Leads InResponseEnd (Calls BeginReq ∷ Updates BeginResp ∷ Calls EndResp ∷ [])
  in_end_responded : {w : List Letter} → IsRequest w
      → Leads InResponseEnd (w ++ Calls BeginResp ∷ Accepts ∷ Calls EndResp ∷ [])

-- the same letters, with the last ones of the front behind it
behind : (w a b : List Letter) → IsWhole (w ++ (a ++ b)) → IsWhole ((w ++ a) ++ b)
behind w a b = subst IsWhole (sym (append_assoc w a b))

front_of : (front rest : List Letter) → IsWhole (front ++ rest) → IsRow front
front_of front rest w = last front rest (whole w)

leads_row : {p : Place} {front : List Letter} → Leads p front → IsRow front
leads_row none = front_of _ (Blocks ∷ Unblocks ∷ []) IsWhole.blocking
leads_row in_blocking = front_of _ (Unblocks ∷ []) IsWhole.blocking
leads_row in_request = front_of _ (Completes ∷ []) IsWhole.early
leads_row requested = front_of _ (Calls BeginResp ∷ Completes ∷ []) (IsWhole.completed IsRequest.accepted)
leads_row in_request_end = front_of _ (Accepts ∷ Calls BeginResp ∷ Completes ∷ []) (IsWhole.completed IsRequest.ended)
leads_row ended_at_once = front_of _ (Calls BeginResp ∷ Completes ∷ []) (IsWhole.completed IsRequest.updated)
leads_row ended_by_call = front_of _ (Calls BeginResp ∷ Completes ∷ []) (IsWhole.completed IsRequest.ended)
leads_row (in_response {w = w} r) =
    front_of _ (Completes ∷ []) (behind w (Calls BeginResp ∷ []) (Completes ∷ []) (IsWhole.completed r))
leads_row answered = front_of _ (Calls EndResp ∷ Accepts ∷ []) (IsWhole.returned IsEnd.accepted)
leads_row (responded {w = w} r) =
    front_of _ (Calls EndResp ∷ Accepts ∷ [])
    (behind w (Calls BeginResp ∷ Accepts ∷ []) (Calls EndResp ∷ Accepts ∷ []) (IsWhole.responded r IsEnd.accepted))
leads_row in_end_answered = front_of _ (Accepts ∷ []) (IsWhole.returned IsEnd.accepted)
leads_row (in_end_responded {w = w} r) =
    front_of _ (Accepts ∷ [])
    (behind w (Calls BeginResp ∷ Accepts ∷ Calls EndResp ∷ []) (Accepts ∷ []) (IsWhole.responded r IsEnd.accepted))

-- the letters are a word, or lead to the place
data Reaches : Place → List Letter → Type 0 where
  word : {w : List Letter} → IsWord w → Reaches Between w
  leads : {p : Place} {w : List Letter} → Leads p w → Reaches p w

-- one letter behind a front
more : (p : Place) (w a : List Letter) (l : Letter) → Reaches p (w ++ (a ++ l ∷ [])) → Reaches p ((w ++ a) ++ l ∷ [])
more p w a l = subst (Reaches p) (sym (append_assoc w a (l ∷ [])))

advance : {p q : Place} {l : Letter} {front : List Letter} → Step p l q → Leads p front → Reaches q (front ++ l ∷ [])
advance blocked none = leads in_blocking
advance unblocked in_blocking = word (whole IsWhole.blocking)
advance blocking_left in_blocking = word (left [] [] Blocks Unblocks IsWhole.blocking refl)
advance request none = leads in_request
advance request_accepted in_request = leads requested
advance request_ended in_request = leads ended_at_once
advance request_answered in_request = leads answered
advance request_completed in_request = word (whole IsWhole.early)
advance request_left in_request = word (left [] [] (Calls BeginReq) Completes IsWhole.early refl)
advance request_end requested = leads in_request_end
advance request_end_accepted in_request_end = leads ended_by_call
advance request_end_left in_request_end =
    word
    (left (Calls BeginReq ∷ Accepts ∷ []) (Calls BeginResp ∷ Completes ∷ []) (Calls EndReq) Accepts
    (IsWhole.completed IsRequest.ended) refl)
advance response_early requested = leads (in_response IsRequest.accepted)
advance response ended_at_once = leads (in_response IsRequest.updated)
advance response ended_by_call = leads (in_response IsRequest.ended)
advance response_accepted (in_response {w = w} r) = more _ w (Calls BeginResp ∷ []) Accepts (leads (responded r))
advance response_ended (in_response {w = w} r) =
    more _ w (Calls BeginResp ∷ []) (Updates EndResp) (word (whole (IsWhole.updated r)))
advance response_completed (in_response {w = w} r) =
    more _ w (Calls BeginResp ∷ []) Completes (word (whole (IsWhole.completed r)))
advance response_left (in_response {w = w} r) =
    more _ w (Calls BeginResp ∷ []) Leaves (word (left w [] (Calls BeginResp) Completes (IsWhole.completed r) refl))
advance response_end answered = leads in_end_answered
advance response_end (responded {w = w} r) =
    more _ w (Calls BeginResp ∷ Accepts ∷ []) (Calls EndResp) (leads (in_end_responded r))
advance response_end_accepted in_end_answered = word (whole (IsWhole.returned IsEnd.accepted))
advance response_end_accepted (in_end_responded {w = w} r) =
    more _ w (Calls BeginResp ∷ Accepts ∷ Calls EndResp ∷ []) Accepts (word (whole (IsWhole.responded r IsEnd.accepted)))
advance response_end_completed in_end_answered = word (whole (IsWhole.returned IsEnd.completed))
advance response_end_completed (in_end_responded {w = w} r) =
    more _ w (Calls BeginResp ∷ Accepts ∷ Calls EndResp ∷ []) Completes (word (whole (IsWhole.responded r IsEnd.completed)))
advance response_end_left in_end_answered =
    word (left (Calls BeginReq ∷ Updates BeginResp ∷ []) [] (Calls EndResp) Accepts (IsWhole.returned IsEnd.accepted) refl)
advance response_end_left (in_end_responded {w = w} r) =
    more _ w (Calls BeginResp ∷ Accepts ∷ Calls EndResp ∷ []) Leaves
    (word (subst IsWord (append_assoc w (Calls BeginResp ∷ Accepts ∷ []) (Calls EndResp ∷ Leaves ∷ []))
    (left (w ++ Calls BeginResp ∷ Accepts ∷ []) [] (Calls EndResp) Accepts
    (behind w (Calls BeginResp ∷ Accepts ∷ []) (Calls EndResp ∷ Accepts ∷ []) (IsWhole.responded r IsEnd.accepted)) refl)))

onward : {q r : Place} (w ls : List Letter) → Reaches q w → Route q ls r
    → ((front : List Letter) (p : Place) → Leads p front → Route p ls r → IsRow (front ++ ls)) → IsRow (w ++ ls)
onward w ls (word is) route row = next is (row [] Between none route)
onward w ls (leads {p = p} led) route row = row w p led route

row_of : {p q : Place} (front ls : List Letter) → Leads p front → Route p ls q → IsRow (front ++ ls)
row_of front [] led here = subst IsRow (sym (append-nil front)) (leads_row led)
row_of front (l ∷ ls) led (go s route) =
    subst IsRow (append_assoc front (l ∷ []) ls)
    (onward (front ++ l ∷ []) ls (advance s led) route (λ w p led route. row_of w ls led route))

pub route_row : {q : Place} (ls : List Letter) → Route Between ls q → IsRow ls
route_row ls route = row_of [] ls none route
