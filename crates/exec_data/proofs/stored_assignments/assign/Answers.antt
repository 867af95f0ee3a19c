use Rattle.std.proofs.Common.{sym, subst}
use Rattle.flat_design.specs.Code.{term_of, destination_term}
use Rattle.kernel_view.specs.SimModel.Reading.{here}
use Rattle.kernel_view.specs.SimModel.Storing.{do_assign}
use Rattle.kernel_view.specs.KernelState.Moves.{Does}
use Rattle.exec_data.proofs.stored_assignments.assign.Goals as goal

pub returns-in-Name-clause-does : goal.returns-in-Name-clause-does
returns-in-Name-clause-does c =
    subst (λ to. Does c.args.k.now c.assign_to_name.new.k c.assign_to_name.result c.args.p (λ d q i r. do_assign d q r (here d q i r) (destination_term to) (term_of c.args.e.now)))
    (sym c.in-Name.is) c.assign_to_name.ensures.does

pub returns-in-Field-clause-does : goal.returns-in-Field-clause-does
returns-in-Field-clause-does c =
    subst (λ to. Does c.args.k.now c.assign_to_field.new.k c.assign_to_field.result c.args.p (λ d q i r. do_assign d q r (here d q i r) (destination_term to) (term_of c.args.e.now)))
    (sym c.in-Field.is) c.assign_to_field.ensures.does

pub returns-in-Element-clause-does : goal.returns-in-Element-clause-does
returns-in-Element-clause-does c =
    subst (λ to. Does c.args.k.now c.assign_element.new.k c.assign_element.result c.args.p (λ d q i r. do_assign d q r (here d q i r) (destination_term to) (term_of c.args.e.now)))
    (sym c.in-Element.is) c.assign_element.ensures.does

pub returns-in-PayloadByte-clause-does : goal.returns-in-PayloadByte-clause-does
returns-in-PayloadByte-clause-does c =
    subst (λ to. Does c.args.k.now c.assign_to_byte.new.k c.assign_to_byte.result c.args.p (λ d q i r. do_assign d q r (here d q i r) (destination_term to) (term_of c.args.e.now)))
    (sym c.in-PayloadByte.is) c.assign_to_byte.ensures.does
