-- A new instance, and then the statement past and its handle in a variable.
use Rattle.std.proofs.Common.{◌≡◌, ℕ, zero, suc, Bool, true, false, List, [], ◌∷◌, ◌++◌, length, slice_get, slice_set, Option, Some, None, option_map, Result, Ok, Err, refl, sym, ap, ◌∙◌, subst, true≢false}
use Rattle.std.specs.Prelude.{is_some, OnOk, if◌then◌else◌}
use Rattle.std.specs.Fmt.{decimal}
use Rattle.exec_data.specs.LogicValues.declared.kinds.Value.{Value}
use Rattle.exec_data.specs.LogicValues.declared.kinds.Value.TheVariants as value
use Rattle.exec_data.specs.EventCore.declared.event.Ev.{Ev}
use Rattle.exec_data.specs.ModelTree.declared.items.ProcessKind.{ProcessKind}
use Rattle.flat_design.specs.Code.{SpawnTerm, arena_of, body_at}
use Rattle.flat_design.specs.Denotes.{denoted_at}
use Rattle.flat_design.specs.declared.design.Design.{Design}
use Rattle.flat_design.specs.declared.names.NameUse.{NameUse}
use Rattle.flat_design.specs.declared.names.NameUse.TheVariants as name_use
use Rattle.flat_design.specs.declared.faults.RunFault.{RunFault}
use Rattle.exec_data.specs.SimModel.Values.{on_ok}
use Rattle.exec_data.specs.SimModel.Residual.{Residual, settle, skip, put}
use Rattle.exec_data.specs.SimModel.Configuration as model
use Rattle.exec_data.specs.SimModel.Configuration.{Config, Instance, changed_at, change, instance_at, arena, below}
use Rattle.exec_data.specs.SimModel.Statements.{settled_in}
use Rattle.exec_data.specs.SimModel.Reading.{Here, here}
use Rattle.exec_data.specs.SimModel.Storing.{passes, set_name, set_denoted}
use Rattle.exec_data.specs.SimModel.Calls.{body_name, home_path, locals_in, static_events, new_instance, added, runnable_unless, handle_stored, may_spawn, spawns, first_arguments, do_spawn}
use Rattle.exec_data.proofs.KernelProcesses.Wakes.{change-here, change-length}
use Rattle.exec_data.specs.KernelProcesses.InstanceViews.{kind_of}
use Rattle.exec_data.specs.KernelState.Kernel.{StandsFor}
use Rattle.exec_data.specs.KernelState.Moves.{Moves, Steps}
use Rattle.exec_data.specs.KernelState.Stopping.{FollowsBut, DoesOrStops, NoFault}
use Rattle.exec_data.specs.KernelState.declared.stops.StatementStop.TheVariants as stop
use Rattle.exec_data.specs.KernelState.Spawned.{offspring_in, with_offspring}
use Rattle.exec_data.specs.KernelState.declared.kernel.Kernel.{Kernel}
use Rattle.exec_data.specs.KernelState.declared.kernel.Offspring.{Offspring}
use Rattle.exec_data.specs.KernelView.Standings.{next_here}
use Rattle.exec_data.proofs.KernelView.Stopped.{at_fault, refused}
use Rattle.exec_calls.specs.Born.{brought_forth}
use Rattle.exec_calls.specs.Valued.{JudgesFirst, AreFirst}
use Rattle.exec_calls.proofs.Judging.{fault_known, value_known}
use Rattle.exec_data.proofs.KernelState.Counting.{settled_may}

-- ---- one more at the end of a list

get-push : {A : Type 0} (xs ys : List A) (n : ℕ) (x : A) → slice_get xs n ≡ Some x → slice_get (xs ++ ys) n ≡ Some x
get-push [] ys n x at = absurd (true≢false (sym (ap is_some at)))
get-push (z ∷ xs) ys zero x at = at
get-push (z ∷ xs) ys (suc n) x at = get-push xs ys n x at

set-push : {A : Type 0} (xs ys : List A) (n : ℕ) (x y : A) → slice_get xs n ≡ Some x → slice_set (xs ++ ys) n y ≡ slice_set xs n y ++ ys
set-push [] ys n x y at = absurd (true≢false (sym (ap is_some at)))
set-push (z ∷ xs) ys zero x y at = refl
set-push (z ∷ xs) ys (suc n) x y at = ap (λ zs. z ∷ zs) (set-push xs ys n x y at)

change-push : {A : Type 0} (xs ys : List A) (n : ℕ) (f : A → A) (x : A) → slice_get xs n ≡ Some x → change (xs ++ ys) n f ≡ change xs n f ++ ys
change-push xs ys n f x at = ap (changed_at (xs ++ ys) n f) (get-push xs ys n x at) ∙ set-push xs ys n x (f x) at ∙ sym (ap (λ o. changed_at xs n f o ++ ys) at)

-- ---- the configuration with a new instance

abbrev runs_with : Bool → ℕ → List ℕ → List ℕ
runs_with true n rs = rs
runs_with false n rs = rs ++ n ∷ []

abbrev bred : Bool → ℕ → Config → Instance → Config
bred w n c j = record c { processes = record c.processes { runnable = runs_with w n c.processes.runnable; instances = c.processes.instances ++ j ∷ []; parents = c.processes.parents ++ slice_get c.processes.stack 0 ∷ [] } }

bred_is : (w : Bool) (n : ℕ) (c : Config) (j : Instance) → runnable_unless w n (added c j) ≡ bred w n c j
bred_is true n c j = refl
bred_is false n c j = refl

-- that the statement is past changes another instance
passes_bred : (w : Bool) (n : ℕ) (c : Config) (j : Instance) (p : ℕ) (i : Instance) → instance_at c p ≡ Some i → (s r : Residual) → passes (settled_in (bred w n c j) p s) p r ≡ bred w n (passes (settled_in c p s) p r) j
passes_bred w n c j p i there s r =
    let f = λ (x : Instance). record x { residual = settle (arena c) s } in
    let g = λ (x : Instance). record x { residual = put r skip } in
    ap (λ (is : List Instance). record (bred w n (passes (settled_in c p s) p r) j) { processes = record c.processes { runnable = runs_with w n c.processes.runnable; instances = is; parents = c.processes.parents ++ slice_get c.processes.stack 0 ∷ [] } })
    (ap (λ (is : List Instance). change is p g) (change-push c.processes.instances (j ∷ []) p f i there)
    ∙ change-push (change c.processes.instances p f) (j ∷ []) p g (f i) (change-here c.processes.instances p f ∙ ap (option_map f) there))

-- ---- the handle

-- names stand for the same in the same instance of a module of the same design
same_name : (d : Config) (p : ℕ) (g h : Here) (n : NameUse) (v : Value) → g.config.design ≡ h.config.design → g.home ≡ h.home → set_name d p g n v ≡ set_name d p h n v
same_name d p g h (name_use.Local i) v design home = refl
same_name d p g h (name_use.Declared i) v design home =
    ap (λ y. set_denoted d (denoted_at y g.home i) v) design ∙ ap (λ y. set_denoted d (denoted_at h.config.design y i) v) home

same_handle : (d : Config) (p : ℕ) (g h : Here) (o : Option NameUse) (q : ℕ) → g.config.design ≡ h.config.design → g.home ≡ h.home → handle_stored d p g o q ≡ handle_stored d p h o q
same_handle d p g h None q design home = refl
same_handle d p g h (Some n) q design home = same_name d p g h n (value.Handle (Some q)) design home

-- ---- in a kernel

module _ (k l : Kernel) (p : ℕ) (handle : Option NameUse) (o : Offspring) where
  module _ (n : ℕ) (number : (c : Config) → StandsFor k c → n ≡ length c.processes.instances) (spawned : Moves k l (λ c. with_offspring c n o))
      (m : Kernel) (next : Steps l m p (λ c q i r. handle_stored (passes c q r) q (here c q i r) handle n)) where
    pub offspring_steps : Steps k m p (λ c q i r. brought_forth (passes c q r) q (here c q i r) handle o)
    offspring_steps c i h there =
        let r = settle (arena c) i.residual in
        let e = passes (settled_in c p i.residual) p r in
        let j = offspring_in c.design n o in
        let d = bred o.waits n c j in
        let count = λ (x : ℕ). handle_stored (runnable_unless o.waits x (added e (offspring_in c.design x o))) p (next_here c p i) handle x in
        subst (StandsFor m)
        (same_handle (passes (settled_in d p i.residual) p r) p (next_here d p i) (next_here c p i) handle n refl refl
        ∙ ap (λ (x : Config). handle_stored x p (next_here c p i) handle n) (passes_bred o.waits n c j p i there i.residual r ∙ sym (bred_is o.waits n e j))
        ∙ ap count (number c h ∙ sym (change-length (change c.processes.instances p (λ x. record x { residual = r })) p (λ x. record x { residual = put r skip }) ∙ change-length c.processes.instances p (λ x. record x { residual = r }))))
        (next d i (subst (StandsFor l) (bred_is o.waits n c j) (spawned c h)) (get-push c.processes.instances (j ∷ []) p i there))

-- ---- the new instance as the statement writes it

abbrev made_of : Design → ProcessKind → ℕ → List Ev → ℕ → List Value → Bool → ℕ → Instance
made_of d kind home static f args waits serial = record {
  kind = kind;
  home = home;
  path = below (home_path d (slice_get d.instances home)) (body_name (body_at (arena_of d.code) f) ++ 95 ∷ decimal serial);
  static = static;
  code = f;
  arguments = args;
  residual = skip;
  started = false;
  wait = if waits then model.waits_statically else model.waits_for_nothing;
  deadline = model.no_deadline;
  trigger = None;
  suspended = false;
  kept = false;
  disabled = false;
  ended = false;
}

module _ (d : Config) (p : ℕ) (h : Here) (s : SpawnTerm) (args : List Value) (o : Offspring) (kind : kind_of o.kind ≡ s.kind) (home : h.home ≡ o.home) (function : o.code ≡ s.function)
    (given : o.arguments.items ≡ args) (static : o.sensitive ≡ static_events h s.sensitive) (waits : o.waits ≡ s.dont_initialize) where
  abbrev serial : ℕ
  serial = length d.processes.instances

  as_written : offspring_in d.design serial o ≡ new_instance d h s args
  as_written =
      ap (λ (x : ProcessKind). made_of d.design x o.home o.sensitive o.code o.arguments.items o.waits serial) kind
      ∙ ap (λ (x : ℕ). made_of d.design s.kind x o.sensitive o.code o.arguments.items o.waits serial) (sym home)
      ∙ ap (λ (x : List Ev). made_of d.design s.kind h.home x o.code o.arguments.items o.waits serial) static
      ∙ ap (λ (x : ℕ). made_of d.design s.kind h.home (static_events h s.sensitive) x o.arguments.items o.waits serial) function
      ∙ ap (λ (x : List Value). made_of d.design s.kind h.home (static_events h s.sensitive) s.function x o.waits serial) given
      ∙ ap (λ (x : Bool). made_of d.design s.kind h.home (static_events h s.sensitive) s.function args x serial) waits

  pub spawns_as : brought_forth d p h s.handle o ≡ spawns d p h s args
  spawns_as =
      ap (λ (x : Instance). handle_stored (runnable_unless o.waits serial (added d x)) p h s.handle serial) as_written
      ∙ ap (λ (x : Bool). handle_stored (runnable_unless x serial (added d (new_instance d h s args))) p h s.handle serial) waits

-- what follows where it was done
pub where_done : {A E : Type 0} (P Q : Type 0) (o : Result A E) → OnOk o P → (P → Q) → OnOk o Q
where_done P Q (Ok a) has f = f has
where_done P Q (Err e) has f = has

-- ---- the statement, whose faults are judged before it takes memory

module _ (k : Kernel) (p : ℕ) (s : SpawnTerm) where
  abbrev spawns_it : Config → ℕ → Instance → Residual → Result Config RunFault
  spawns_it c q i r = do_spawn c q r (here c q i r) s

  abbrev spawning : Config → ℕ → Instance → Residual → List Value → Result Config RunFault
  spawning c q i r values = on_ok (may_spawn c) (λ ok. Ok (spawns (passes c q r) q (here c q i r) s values))

  -- an argument is at fault
  pub argument_at_fault : (e : RunFault) → JudgesFirst k p (Err e) s.arguments → DoesOrStops k k (Err (stop.Fault e)) p spawns_it
  argument_at_fault e judges =
      at_fault NoFault k p (Err e) (λ h. first_arguments h (locals_in (body_at (arena h.config) s.function)) 0 s.arguments)
      (λ c i h there. fault_known (first_arguments (next_here c p i) (locals_in (body_at (arena c) s.function)) 0 s.arguments) e (judges (locals_in (body_at (arena c) s.function)) c i h there))
      spawning e refl

  module _ (judges : JudgesFirst k p (Ok tt) s.arguments) where
    given : (c : Config) (i : Instance) → StandsFor k c → instance_at c p ≡ Some i → (vs : List Value) × (first_arguments (next_here c p i) (locals_in (body_at (arena c) s.function)) 0 s.arguments ≡ Ok vs)
    given c i h there = value_known (first_arguments (next_here c p i) (locals_in (body_at (arena c) s.function)) 0 s.arguments) (judges (locals_in (body_at (arena c) s.function)) c i h there)

    -- as many live as may
    pub too_many : (e : RunFault) → ((c : Config) → StandsFor k c → Err e ≡ may_spawn c) → DoesOrStops k k (Err (stop.Fault e)) p spawns_it
    too_many e many c i h there =
        let d = settled_in c p i.residual in
        let r = settle (arena c) i.residual in
        let vs = given c i h there in
        subst (λ o. FollowsBut NoFault k (Err (stop.Fault e)) c (on_ok o (spawning d p (record i { residual = r }) r))) (sym vs.1)
        (subst (λ o. FollowsBut NoFault k (Err (stop.Fault e)) c (on_ok o (λ ok. Ok (spawns (passes d p r) p (next_here c p i) s vs.0)))) (many c h ∙ sym (settled_may c p i.residual)) (refl, h))

    module _ (may : (c : Config) → StandsFor k c → Ok tt ≡ may_spawn c) where
      may_be : (c : Config) (i : Instance) (h : StandsFor k c) (there : instance_at c p ≡ Some i)
          → spawns_it (settled_in c p i.residual) p (record i { residual = settle (arena c) i.residual }) (settle (arena c) i.residual) ≡ Ok (spawns (passes (settled_in c p i.residual) p (settle (arena c) i.residual)) p (next_here c p i) s (given c i h there).0)
      may_be c i h there =
          let d = settled_in c p i.residual in
          let r = settle (arena c) i.residual in
          let vs = given c i h there in
          ap (λ o. on_ok o (spawning d p (record i { residual = r }) r)) vs.1
          ∙ ap (λ o. on_ok o (λ ok. let e : Config = spawns (passes d p r) p (next_here c p i) s vs.0 in let done : Result Config RunFault = Ok e in done)) (settled_may c p i.residual ∙ sym (may c h))

      -- there is no memory
      pub lacks : (l : Kernel) → Moves k l (λ c. c) → DoesOrStops k l (Err stop.NoMemory) p spawns_it
      lacks l stays c i h there =
          refused NoFault l c (spawns (passes (settled_in c p i.residual) p (settle (arena c) i.residual)) p (next_here c p i) s (given c i h there).0)
          (spawns_it (settled_in c p i.residual) p (record i { residual = settle (arena c) i.residual }) (settle (arena c) i.residual))
          (may_be c i h there) (stays c h)

      -- it is spawned with these first arguments
      pub spawned_with : (l : Kernel) (values : List Value) → AreFirst k p values s.function s.arguments → Steps k l p (λ c q i r. spawns (passes c q r) q (here c q i r) s values) → DoesOrStops k l (Ok tt) p spawns_it
      spawned_with l values are steps c i h there =
          let vs = given c i h there in
          subst (FollowsBut NoFault l (Ok tt) c) (sym (may_be c i h there))
          (subst (λ ws. StandsFor l (spawns (passes (settled_in c p i.residual) p (settle (arena c) i.residual)) p (next_here c p i) s ws)) (are c i h there vs.0 vs.1) (steps c i h there))
