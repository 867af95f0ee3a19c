-- A statement whose faults are judged before it takes memory.
use Rattle.std.proofs.Common.{◌≡◌, ℕ, List, Some, None, Result, Ok, Err, refl, sym, ap, ◌∙◌, subst}
use Rattle.exec_data.specs.LogicValues.declared.kinds.Value.{Value}
use Rattle.flat_design.specs.Code.{ArgumentTerm, arena_of, body_at}
use Rattle.flat_design.specs.declared.faults.RunFault.{RunFault}
use Rattle.flat_design.specs.declared.faults.RunFault.TheVariants as fault
use Rattle.exec_data.specs.SimModel.Values.{on_ok}
use Rattle.exec_data.specs.SimModel.Residual.{Residual, settle}
use Rattle.exec_data.specs.SimModel.Configuration.{Config, Instance, instance_at, arena}
use Rattle.exec_data.specs.SimModel.Reading.{here}
use Rattle.exec_data.specs.SimModel.Statements.{settled_in}
use Rattle.exec_data.specs.SimModel.Calls.{locals_in, argument_values, may_enter, enters, do_call}
use Rattle.exec_data.specs.KernelBodies.Depths.{locals_at}
use Rattle.exec_data.specs.KernelState.Kernel.{StandsFor}
use Rattle.exec_data.specs.KernelState.Moves.{Moves, Steps}
use Rattle.exec_data.specs.KernelState.Stopping.{FollowsBut, DoesOrStops, NoFault}
use Rattle.exec_data.specs.KernelState.declared.kernel.Kernel.{Kernel}
use Rattle.exec_data.specs.KernelState.declared.stops.StatementStop.TheVariants as stop
use Rattle.exec_data.specs.KernelView.Standings.{next_here}
use Rattle.exec_data.proofs.KernelView.Stopped.{at_fault, refused}
use Rattle.exec_calls.specs.Valued.{JudgesArguments, AreValues}
use Rattle.exec_calls.proofs.Values.{same_locals}

-- what was judged has that fault, or a value
pub fault_known : {A : Type 0} (r : Result A RunFault) (e : RunFault) → (let judged : Result Unit RunFault = Err e in judged ≡ on_ok r (λ x. Ok tt)) → Err e ≡ r
fault_known (Ok x) e is = absurd (let no : ⊥ = cc in no)
fault_known (Err f) e is = ap (λ y. Err y) (let same : e ≡ f = cc in same)

pub value_known : {A : Type 0} (r : Result A RunFault) → (let judged : Result Unit RunFault = Ok tt in judged ≡ on_ok r (λ x. judged)) → (x : A) × (r ≡ Ok x)
value_known (Ok x) is = (x, refl)
value_known (Err f) is = absurd (let no : ⊥ = cc in no)

-- ---- a call

module _ (k : Kernel) (p s f : ℕ) (arguments : List ArgumentTerm) where
  abbrev calls_it : Config → ℕ → Instance → Residual → Result Config RunFault
  calls_it c q i r = do_call c q r (here c q i r) s f arguments

  abbrev entering : Config → ℕ → Instance → Residual → List Value → Result Config RunFault
  entering c q i r values = on_ok (may_enter r) (λ ok. Ok (enters c q r s f values None))

  -- an argument is at fault
  pub argument_at_fault : (e : RunFault) → JudgesArguments k p (Err e) arguments → DoesOrStops k k (Err (stop.Fault e)) p calls_it
  argument_at_fault e judges =
      at_fault NoFault k p (Err e) (λ h. argument_values h (locals_in (body_at (arena h.config) f)) 0 arguments)
      (λ c i h there. fault_known (argument_values (next_here c p i) (locals_in (body_at (arena c) f)) 0 arguments) e (judges (locals_in (body_at (arena c) f)) c i h there))
      entering e refl

  module _ (judges : JudgesArguments k p (Ok tt) arguments) (l : Kernel) (stays : Moves k l (λ c. c)) where
    given : (c : Config) (i : Instance) → StandsFor k c → instance_at c p ≡ Some i → (vs : List Value) × (argument_values (next_here c p i) (locals_in (body_at (arena c) f)) 0 arguments ≡ Ok vs)
    given c i h there = value_known (argument_values (next_here c p i) (locals_in (body_at (arena c) f)) 0 arguments) (judges (locals_in (body_at (arena c) f)) c i h there)

    -- as many calls are open as may be
    pub too_deep : ((c : Config) (i : Instance) → StandsFor k c → instance_at c p ≡ Some i → may_enter (settle (arena c) i.residual) ≡ Err fault.FrameDepth)
        → DoesOrStops k l (Err (stop.Fault fault.FrameDepth)) p calls_it
    too_deep deep c i h there =
        let d = settled_in c p i.residual in
        let r = settle (arena c) i.residual in
        let vs = given c i h there in
        subst (λ o. FollowsBut NoFault l (Err (stop.Fault fault.FrameDepth)) c (on_ok o (entering d p (record i { residual = r }) r))) (sym vs.1)
        (subst (λ o. FollowsBut NoFault l (Err (stop.Fault fault.FrameDepth)) c (on_ok o (λ ok. Ok (enters d p r s f vs.0 None)))) (sym (deep c i h there)) (refl, stays c h))

    module _ (may : (c : Config) (i : Instance) → StandsFor k c → instance_at c p ≡ Some i → may_enter (settle (arena c) i.residual) ≡ Ok tt) where
      may_call : (c : Config) (i : Instance) (h : StandsFor k c) (there : instance_at c p ≡ Some i)
          → calls_it (settled_in c p i.residual) p (record i { residual = settle (arena c) i.residual }) (settle (arena c) i.residual) ≡ Ok (enters (settled_in c p i.residual) p (settle (arena c) i.residual) s f (given c i h there).0 None)
      may_call c i h there =
          let d = settled_in c p i.residual in
          let r = settle (arena c) i.residual in
          let vs = given c i h there in
          ap (λ o. on_ok o (entering d p (record i { residual = r }) r)) vs.1
          ∙ ap (λ o. on_ok o (λ ok. let e : Config = enters d p r s f vs.0 None in let done : Result Config RunFault = Ok e in done)) (may c i h there)

      -- there is no memory
      pub lacks : DoesOrStops k l (Err stop.NoMemory) p calls_it
      lacks c i h there =
          refused NoFault l c (enters (settled_in c p i.residual) p (settle (arena c) i.residual) s f (given c i h there).0 None)
          (calls_it (settled_in c p i.residual) p (record i { residual = settle (arena c) i.residual }) (settle (arena c) i.residual))
          (may_call c i h there) (stays c h)

      -- it is entered with these values
      pub enters_it : (m : Kernel) (values : List Value) → AreValues l p values (locals_at (arena_of l.program.now.code) f) arguments → Steps l m p (λ c q i r. enters c q r s f values None) → DoesOrStops k m (Ok tt) p calls_it
      enters_it m values are steps c i h there =
          let d = settled_in c p i.residual in
          let r = settle (arena c) i.residual in
          let vs = given c i h there in
          let on = stays c h in
          let same : values ≡ vs.0 = are c i on there vs.0
          (ap (λ ls. argument_values (next_here c p i) ls 0 arguments) (same_locals (body_at (arena_of l.program.now.code) f))
          ∙ ap (λ y. argument_values (next_here c p i) (locals_in (body_at (arena_of y.code) f)) 0 arguments) (sym on.design)
          ∙ vs.1) in
          subst (FollowsBut NoFault m (Ok tt) c) (sym (may_call c i h there))
          (subst (λ ws. StandsFor m (enters d p r s f ws None)) same (steps c i on there))
