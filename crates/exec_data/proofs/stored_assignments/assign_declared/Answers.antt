use Rattle.std.proofs.Common.{◌≡◌, ℕ, Result, Ok, Err, refl, sym, subst}
use Rattle.flat_design.specs.Code.{Term, term_of}
use Rattle.flat_design.specs.declared.faults.RunFault.{RunFault}
use Rattle.flat_design.specs.declared.names.NameUse.TheVariants as name_use
use Rattle.flat_design.specs.declared.value_types.ValueType.{ValueType}
use Rattle.kernel_view.specs.LogicValues.declared.kinds.Value.{Value}
use Rattle.kernel_view.specs.SimModel.Values.{on_ok, cut_to}
use Rattle.kernel_view.specs.SimModel.Residual.{settle}
use Rattle.kernel_view.specs.SimModel.Configuration.{Config, arena}
use Rattle.kernel_view.specs.SimModel.Reading.{Here, val, denotes}
use Rattle.kernel_view.specs.SimModel.Storing.{passes, set_name, set_denoted}
use Rattle.kernel_view.specs.SimModel.Statements.{settled_in}
use Rattle.kernel_view.specs.KernelState.Kernel.{StandsFor}
use Rattle.kernel_view.specs.KernelState.Moves.{Follows}
use Rattle.kernel_view.specs.Standings.{next_here}
use Rattle.exec_data.specs.Assigned.{to_assign}
use Rattle.exec_data.specs.declared.stored_assignments.Assigned.{Assigned}
use Rattle.exec_data.proofs.Following.{evaluated, at_fault}
use Rattle.exec_data.proofs.stored_assignments.assign_declared.Goals as goal

-- an assignment is that of the value to what the name stands for
module _ (h : Here) (n : ℕ) (t : ValueType) (c : Config) (p : ℕ) where
  assigned_by : (o : Result Value RunFault) → on_ok o (λ v. Ok (set_name c p h (name_use.Declared n) (cut_to t v)))
      ≡ on_ok (on_ok o (λ v. Ok (record { value = v; to = denotes h n }))) (λ (x : Assigned). Ok (set_denoted c x.to (cut_to t x.value)))
  assigned_by (Ok v) = refl
  assigned_by (Err f) = refl

  assigned_is : (e : Term) → on_ok (val h e) (λ v. Ok (set_name c p h (name_use.Declared n) (cut_to t v))) ≡ on_ok (to_assign h n e) (λ (x : Assigned). Ok (set_denoted c x.to (cut_to t x.value)))
  assigned_is e = assigned_by (val h e)

pub returns-in-Ok-clause-does : goal.returns-in-Ok-clause-does
returns-in-Ok-clause-does c = λ d i h there.
    subst (Follows c.store_denoted.new.k (Ok tt) d)
    (sym (assigned_is (next_here d c.args.p i) c.args.n c.args.t (passes (settled_in d c.args.p i.residual) c.args.p (settle (arena d) i.residual)) c.args.p (term_of c.args.e.now)))
    (evaluated c.args.k.now c.args.p c.what_is_assigned.result (λ y. to_assign y c.args.n (term_of c.args.e.now)) c.what_is_assigned.ensures (λ b q j r x. Ok (set_denoted (passes b q r) x.to (cut_to c.args.t x.value)))
    c.store_denoted.new.k (Ok tt) c.in-Ok.x c.in-Ok.is
    (λ b j stands at. subst (λ v. StandsFor c.store_denoted.new.k (set_denoted (passes (settled_in b c.args.p j.residual) c.args.p (settle (arena b) j.residual)) c.in-Ok.x.to v)) c.cut_to.ensures (c.store_denoted.ensures.steps b j stands at))
    d i h there)

pub returns-in-Err-clause-does : goal.returns-in-Err-clause-does
returns-in-Err-clause-does c = λ d i h there.
    subst (Follows c.args.k.now (Err c.in-Err.fault) d)
    (sym (assigned_is (next_here d c.args.p i) c.args.n c.args.t (passes (settled_in d c.args.p i.residual) c.args.p (settle (arena d) i.residual)) c.args.p (term_of c.args.e.now)))
    (at_fault c.args.k.now c.args.p c.what_is_assigned.result (λ y. to_assign y c.args.n (term_of c.args.e.now)) c.what_is_assigned.ensures (λ b q j r x. Ok (set_denoted (passes b q r) x.to (cut_to c.args.t x.value)))
    c.in-Err.fault c.in-Err.is d i h there)
