use Rattle.std.proofs.Common.{sym, ap, ◌∙◌, true≢false}
use Rattle.std.specs.Prelude.{is_some}
use Rattle.exec_data.proofs.stored_assignments.what_is_assigned.Goals as goal

pub returns-in-Some : goal.returns-in-Some
returns-in-Some c = λ d i h there. c.assigned_from.ensures _ (c.in-Some.ensures.shows d i h there)

pub returns-in-None : goal.returns-in-None
returns-in-None c = absurd (true≢false (sym c.requires ∙ ap is_some c.in-None.ensures.ended))
