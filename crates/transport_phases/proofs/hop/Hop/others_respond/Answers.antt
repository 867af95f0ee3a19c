use Rattle.std.proofs.Common.{◌∙◌, sym, refl, subst}
use Rattle.std.specs.Ordering.{nat_cmp}
use Rattle.room_map.specs.Entries.{as_map}
use Rattle.transport_phases.specs.Phases.{is_responding}
use Rattle.transport_phases.specs.Rows.{Rows}
use Rattle.transport_phases.specs.History.{StandsFor}
use Rattle.transport_phases.proofs.SeatLemmas.{other_seat}
use Rattle.transport_phases.proofs.hop.Hop.others_respond.Goals as goal

pub returns-clause-history : goal.returns-clause-history
returns-clause-history c = λ h stands.
    let rows : Rows = record { kept = as_map nat_cmp c.self.inside.rows.entries; spare = c.self.inside.rows.spare } in
    let stand : StandsFor rows h = subst (λ r. StandsFor r h) (sym c.self.view_is) stands in
    c.has_other.ensures ∙ other_seat is_responding rows c.self.inside.responder c.self.invariant.responds c.args.t refl h stand
