-- Which entry may come next.
use Rattle.std.specs.Prelude.{◌≡◌, ◌≢◌, Bool, true, false, List, [], ◌∷◌, ◌++◌}
use Rattle.transport_phases.specs.declared.transaction.Open.TheVariants.{Nothing, NonBlocking, Blocking}
use Rattle.transport_phases.specs.History.{Entry, Call, Return, BCall, BReturn, Left, is_open}
use Rattle.transport_phases.specs.Words.{Letter, Calls, Accepts, Updates, Completes, Blocks, Unblocks, Leaves}

-- a call comes at any time, a return only to a call of its kind that is open, and only an open call is left
abbrev pub MayCome : List Entry → Entry → Type 0
MayCome h (Call t path phase complete handled) = Unit {0}
MayCome h (Return t status phase complete) = is_open h t ≡ NonBlocking
MayCome h (BCall t handled) = Unit {0}
MayCome h (BReturn t complete) = is_open h t ≡ Blocking
MayCome h (Left t) = is_open h t ≢ Nothing

-- each of the later entries could come after those before it
abbrev pub OrderedFrom : List Entry → List Entry → Type 0
OrderedFrom before [] = Unit {0}
OrderedFrom before (e ∷ later) = MayCome before e × OrderedFrom (before ++ e ∷ []) later

abbrev pub Ordered : List Entry → Type 0
Ordered h = OrderedFrom [] h

-- said by words: nb_transport is open from a call to an answer, or to where it was left
abbrev pub begins_call : Letter → Bool
begins_call (Calls phase) = true
begins_call _ = false

abbrev pub ends_call : Letter → Bool
ends_call Accepts = true
ends_call (Updates phase) = true
ends_call Completes = true
ends_call Leaves = true
ends_call _ = false

-- and b_transport from its call to its return, or to where it was left
abbrev pub begins_blocking : Letter → Bool
begins_blocking Blocks = true
begins_blocking _ = false

abbrev pub ends_blocking : Letter → Bool
ends_blocking Unblocks = true
ends_blocking Leaves = true
ends_blocking _ = false
