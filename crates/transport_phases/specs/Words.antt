-- The words that the entries of one transaction form on a hop.
use Rattle.std.specs.Prelude.{ℕ, Bool, true, false, List, [], ◌∷◌, ◌++◌, map, Option, None, Some, ◌≡◌, ◌==◌}
use Rattle.std.specs.List.{filter}
use Rattle.transport_phases.specs.declared.phases.Path.{Path}
use Rattle.transport_phases.specs.declared.phases.Path.TheVariants.{Forward, Backward}
use Rattle.transport_phases.specs.declared.phases.Phase.{Phase}
use Rattle.transport_phases.specs.declared.phases.Phase.TheVariants.{BeginReq, EndReq, BeginResp, EndResp}
use Rattle.transport_phases.specs.declared.phases.Answer.{Answer}
use Rattle.transport_phases.specs.declared.phases.Answer.TheVariants.{Accepted, Updated, Completed}
use Rattle.transport_phases.specs.Phases.{phase_of, answer_of}
use Rattle.transport_phases.specs.History.{Entry, Call, Return, BCall, BReturn, Left, transaction}

-- what a word sees of an entry: nb_transport called with a phase on the path of that phase, its three answers,
-- b_transport and its return, and that a call was left. All else strays, and is in no word
pub data Letter : Type 0 where
  Calls : Phase → Letter
  Accepts : Letter
  Updates : Phase → Letter
  Completes : Letter
  Blocks : Letter
  Unblocks : Letter
  Leaves : Letter
  Strays : Letter

abbrev pub letter_called : Path → Option Phase → Letter
letter_called Forward (Some BeginReq) = Calls BeginReq
letter_called Backward (Some EndReq) = Calls EndReq
letter_called Backward (Some BeginResp) = Calls BeginResp
letter_called Forward (Some EndResp) = Calls EndResp
letter_called _ _ = Strays

abbrev pub letter_answered : Option Answer → Option Phase → Letter
letter_answered (Some Accepted) phase = Accepts
letter_answered (Some Updated) (Some phase) = Updates phase
letter_answered (Some Updated) None = Strays
letter_answered (Some Completed) phase = Completes
letter_answered None phase = Strays

abbrev pub letter_of : Entry → Letter
letter_of (Call t path phase complete handled) = letter_called path (phase_of phase)
letter_of (Return t status phase complete) = letter_answered (answer_of status) (phase_of phase)
letter_of (BCall t handled) = Blocks
letter_of (BReturn t complete) = Unblocks
letter_of (Left t) = Leaves

-- the letters of one transaction, the oldest first
abbrev pub letters_of : List Entry → ℕ → List Letter
letters_of h t = map letter_of (filter (λ e. transaction e == t) h)

-- how a transaction ends whose response stands: END_RESP is called, and accepted or completed
pub data IsEnd : List Letter → Type 0 where
  accepted : IsEnd (Calls EndResp ∷ Accepts ∷ [])
  completed : IsEnd (Calls EndResp ∷ Completes ∷ [])

-- how one begins, up to the call of its response: the request still stands, or was ended by the answer or by a call
pub data IsRequest : List Letter → Type 0 where
  accepted : IsRequest (Calls BeginReq ∷ Accepts ∷ [])
  updated : IsRequest (Calls BeginReq ∷ Updates EndReq ∷ [])
  ended : IsRequest (Calls BeginReq ∷ Accepts ∷ Calls EndReq ∷ Accepts ∷ [])

-- a transaction from its first call to its last return
pub data IsWhole : List Letter → Type 0 where
  blocking : IsWhole (Blocks ∷ Unblocks ∷ [])
  early : IsWhole (Calls BeginReq ∷ Completes ∷ [])
  returned : {tail : List Letter} → IsEnd tail
      → IsWhole (Calls BeginReq ∷ Updates BeginResp ∷ tail)
  responded : {head tail : List Letter} → IsRequest head → IsEnd tail
      → IsWhole (head ++ Calls BeginResp ∷ Accepts ∷ tail)
  updated : {head : List Letter} → IsRequest head
      → IsWhole (head ++ Calls BeginResp ∷ Updates EndResp ∷ [])
  completed : {head : List Letter} → IsRequest head
      → IsWhole (head ++ Calls BeginResp ∷ Completes ∷ [])

abbrev pub is_call : Letter → Bool
is_call (Calls phase) = true
is_call Blocks = true
is_call _ = false

-- a word: a transaction that is whole, or that was over when one of its calls was left and not answered
pub data IsWord : List Letter → Type 0 where
  whole : {word : List Letter} → IsWhole word → IsWord word
  left : (front rest : List Letter) (call answer : Letter)
      → IsWhole (front ++ call ∷ answer ∷ rest) → is_call call ≡ true
      → IsWord (front ++ call ∷ Leaves ∷ [])

-- words one behind another, of which the last may still lack its end
pub data IsRow : List Letter → Type 0 where
  last : (front rest : List Letter) → IsWord (front ++ rest) → IsRow front
  next : {word later : List Letter} → IsWord word → IsRow later → IsRow (word ++ later)
