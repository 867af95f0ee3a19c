-- What the history of a hop may be, said without states: by words, and by what may not overlap.
use Rattle.std.specs.Prelude.{ℕ, Bool, true, false, List, ◌∷◌, ◌++◌, ◌≡◌}
use Rattle.std.specs.List.{All, list_any}
use Rattle.transport_phases.specs.declared.phases.Phase.TheVariants.{BeginReq, EndReq, BeginResp, EndResp}
use Rattle.transport_phases.specs.History.{Entry, Call, Return, BCall, BReturn, Left}
use Rattle.transport_phases.specs.Words.{Letter, Calls, Updates, Completes, Unblocks, Leaves, letter_of, letters_of, IsRow}

-- a transaction begins to request where BEGIN_REQ is called
abbrev pub begins_request : Letter → Bool
begins_request (Calls BeginReq) = true
begins_request _ = false

-- and no longer does where UPDATED or COMPLETED comes back, where END_REQ or BEGIN_RESP is called, or a call is left
abbrev pub ends_request : Letter → Bool
ends_request (Calls EndReq) = true
ends_request (Calls BeginResp) = true
ends_request (Updates phase) = true
ends_request Completes = true
ends_request Leaves = true
ends_request _ = false

-- it begins to respond where BEGIN_RESP is called, or comes back with UPDATED
abbrev pub begins_response : Letter → Bool
begins_response (Calls BeginResp) = true
begins_response (Updates BeginResp) = true
begins_response _ = false

-- and no longer does where END_RESP is called, where an answer other than ACCEPTED comes back, or a call is left
abbrev pub ends_response : Letter → Bool
ends_response (Calls EndResp) = true
ends_response (Updates phase) = true
ends_response Completes = true
ends_response Leaves = true
ends_response _ = false

-- a letter has begun it, and none behind that has ended it
abbrev pub IsWithin : (begins ends : Letter → Bool) → List Letter → Type 0
IsWithin begins ends letters =
    (before : List Letter) × (l : Letter) × (after : List Letter)
    × (letters ≡ before ++ l ∷ after) × (begins l ≡ true) × (list_any ends after ≡ false)

-- after no front of the history are two transactions within it
abbrev pub NoTwoAtOnce : (begins ends : Letter → Bool) → List Entry → Type 0
NoTwoAtOnce begins ends h =
    (front later : List Entry) → h ≡ front ++ later → (t u : ℕ)
    → IsWithin begins ends (letters_of front t) → IsWithin begins ends (letters_of front u) → t ≡ u

-- a response has to be there: where one is called or comes back, at COMPLETED, and where b_transport returns
abbrev pub carries_response : Letter → Bool
carries_response (Calls BeginResp) = true
carries_response (Updates BeginResp) = true
carries_response Completes = true
carries_response Unblocks = true
carries_response _ = false

-- the entry says that the response status is not INCOMPLETE
abbrev pub is_complete : Entry → Bool
is_complete (Call t path phase complete handled) = complete
is_complete (Return t status phase complete) = complete
is_complete (BCall t handled) = false
is_complete (BReturn t complete) = complete
is_complete (Left t) = false

-- no call that the other end has no handler for
abbrev pub is_handled : Entry → Bool
is_handled (Call t path phase complete handled) = handled
is_handled (Return t status phase complete) = true
is_handled (BCall t handled) = handled
is_handled (BReturn t complete) = true
is_handled (Left t) = true

abbrev pub Lawful : List Entry → Type 0
Lawful h = record {
  words : (t : ℕ) → IsRow (letters_of h t);
  requests : NoTwoAtOnce begins_request ends_request h;
  responses : NoTwoAtOnce begins_response ends_response h;
  complete : All (λ e. carries_response (letter_of e) ≡ true → is_complete e ≡ true) h;
  handled : All (λ e. is_handled e ≡ true) h;
}
