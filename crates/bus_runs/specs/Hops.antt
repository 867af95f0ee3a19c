-- What is called and returned on a hop of a router: between an initiator and the router, or between the router and a memory.
--
-- Accesses go over a hop one behind another, each a transaction by its number. Each has four entries: BEGIN_REQ when it begins
-- there, which is ACCEPTED, and BEGIN_RESP when it is over there, which is COMPLETED.
use Rattle.std.specs.Prelude.{ℕ, pos, true, false, List, [], ◌∷◌}
use Rattle.transport_phases.specs.declared.phases.Path.TheVariants.{Forward, Backward}
use Rattle.transport_phases.specs.History.{Entry, Call, Return}

-- the entries of these accesses, in their order
abbrev pub entries_of : List ℕ → List Entry
entries_of [] = []
entries_of (k ∷ accesses) =
    Call k Forward (pos 1) false true
    ∷ Return k (pos 0) (pos 1) false
    ∷ Call k Backward (pos 3) true true
    ∷ Return k (pos 2) (pos 3) true
    ∷ entries_of accesses
