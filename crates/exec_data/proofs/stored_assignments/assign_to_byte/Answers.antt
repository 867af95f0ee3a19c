use Rattle.flat_design.specs.Code.{term_of}
use Rattle.exec_data.proofs.stored_assignments.assign_to_byte.Goals as goal

pub returns-clause-does : goal.returns-clause-does
returns-clause-does c = c.assign_payload_byte.ensures.does (term_of c.args.index.now) (term_of c.args.e.now) c.eval_at-i.ensures c.eval_at-value.ensures
