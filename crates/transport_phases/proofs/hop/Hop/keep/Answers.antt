use Rattle.std.proofs.Common.{◌∙◌, sym, ap, subst}
use Rattle.std.specs.Ordering.{nat_cmp}
use Rattle.std.specs.FinMap as map
use Rattle.room_map.specs.Entries.{as_map}
use Rattle.transport_phases.specs.declared.transaction.Kept.{Kept}
use Rattle.transport_phases.specs.Phases.{is_requesting, is_responding}
use Rattle.transport_phases.specs.Rows.{Rows}
use Rattle.transport_phases.specs.Seats.{seat_after, IsSeat, MayEnter}
use Rattle.transport_phases.proofs.SeatLemmas.{says_set, seat_set}
use Rattle.transport_phases.proofs.hop.Hop.keep.Goals as goal

pub invariant_of-self : goal.invariant_of-self
invariant_of-self c =
    let rows : Rows = record { kept = as_map nat_cmp c.self.inside.rows.entries; spare = c.self.inside.rows.spare } in
    let new : map.FinMap nat_cmp Kept = as_map nat_cmp c.set_row.new.rows.entries in
    record {
      says = says_set rows.kept new c.args.t c.args.kept c.self.invariant.says c.set_row.ensures.set;
      requests =
          subst (IsSeat is_requesting new)
          (sym (c.seat_after-self-inside.ensures ∙ ap (seat_after c.self.inside.requester c.args.t) c.is_requesting.ensures))
          (seat_set is_requesting rows new c.self.inside.requester c.self.invariant.requests c.args.t c.args.kept c.set_row.ensures.set
          (subst (λ r. MayEnter is_requesting r c.args.t c.args.kept) (sym c.self.view_is) c.requires.request));
      responds =
          subst (IsSeat is_responding new)
          (sym (c.seat_after-self-inside-2.ensures ∙ ap (seat_after c.self.inside.responder c.args.t) c.is_responding.ensures))
          (seat_set is_responding rows new c.self.inside.responder c.self.invariant.responds c.args.t c.args.kept c.set_row.ensures.set
          (subst (λ r. MayEnter is_responding r c.args.t c.args.kept) (sym c.self.view_is) c.requires.response));
    }
