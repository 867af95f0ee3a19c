use Rattle.std.proofs.Common.{Ok, sym, subst}
use Rattle.flat_design.specs.Code.{term_of}
use Rattle.kernel_view.specs.SimModel.Values.{on_ok, cut_to}
use Rattle.kernel_view.specs.SimModel.Reading.{here, val}
use Rattle.kernel_view.specs.SimModel.Storing.{passes, set_name}
use Rattle.kernel_view.specs.KernelState.Moves.{Does}
use Rattle.exec_data.proofs.stored_assignments.assign_to_name.Goals as goal

pub returns-in-Local-clause-does : goal.returns-in-Local-clause-does
returns-in-Local-clause-does c = c.assign_name.ensures.does (term_of c.args.e.now) c.eval_at-value.ensures

pub returns-in-Declared-clause-does : goal.returns-in-Declared-clause-does
returns-in-Declared-clause-does c =
    subst (λ m. Does c.args.k.now c.assign_declared.new.k c.assign_declared.result c.args.p (λ d q i r. on_ok (val (here d q i r) (term_of c.args.e.now)) (λ v. Ok (set_name (passes d q r) q (here d q i r) m (cut_to c.args.target.value_type v)))))
    (sym c.in-Declared.is) c.assign_declared.ensures.does
