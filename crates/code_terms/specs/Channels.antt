-- The events of objects.
use Rattle.std.specs.Prelude.{ℕ, List, option_and_then, Option}
use Rattle.flat_design.specs.declared.names.EventMember.{EventMember}
use Rattle.code_rules.specs.ModelRules.Members.{row_of, event_member}
use Rattle.code_rules.specs.ModelRules.declared.meanings.Meaning.{Meaning}

-- the event that a member is of an object
abbrev pub named_event : Option Meaning → List ℕ → Option EventMember
named_event m name = option_and_then (λ row. event_member row name) (option_and_then row_of m)
