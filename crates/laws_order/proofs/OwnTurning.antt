-- One step of a process that keeps to itself and is alone on the stack: a statement, or the end of a call, of its body or of an unwinding.
use Rattle.std.proofs.Common.{◌≡◌, inl, ℕ, false, [], ◌∷◌, Option, Some, None, refl, sym, subst}
use Rattle.std.specs.Prelude.{Result}
use Rattle.std.specs.Result.{IfOk}
use Rattle.sim_model.specs.ModelTree.declared.items.ProcessKind.{ProcessKind}
use Rattle.sim_model.specs.ModelTree.declared.items.ProcessKind.TheVariants as process
use Rattle.sim_model.specs.EventCore.declared.event.Ev.TheVariants as ev
use Rattle.sim_model.specs.FlatDesign.Code as code
use Rattle.sim_model.specs.FlatDesign.Code.{Statement, arena_of, statement_at}
use Rattle.sim_model.specs.FlatDesign.declared.design.Design.{Design}
use Rattle.sim_model.specs.FlatDesign.declared.faults.RunFault.{RunFault}
use Rattle.sim_model.specs.Residual as residual
use Rattle.sim_model.specs.Residual.{Residual, Frame, Next, skip, settle, next_of, put}
use Rattle.sim_model.specs.Configuration.{Config, Instance, Trigger, arena, instance_at, change_instance}
use Rattle.sim_model.specs.Reading.{Here, here}
use Rattle.sim_model.specs.Waits.{leaves_stack}
use Rattle.sim_model.specs.Storing.{passes}
use Rattle.sim_model.specs.Control.{ended_instance, ends, next_wait, idles, done_by, reaches_goal}
use Rattle.sim_model.specs.Statements.{via_ends, hands_back, handed_back, calling_statement, on_statement, do_next, settled_in, step_by, statement_step}
use Rattle.sim_model.specs.declared.plain.Goal.{Goal}
use Rattle.sim_model.specs.declared.plain.Goal.TheVariants as goal_of
use Rattle.sim_model.specs.declared.plain.Via.{Via}
use Rattle.laws_order.specs.Own.{IsOf, IsThrown, IsLeftOf}
use Rattle.laws_order.specs.Fits.{HearsFixed, TriggersFixed, AreOnTheirOwn}
use Rattle.laws_order.proofs.Lefts.{settle-left, put-left, IsNextOf, next-left}
use Rattle.laws_order.proofs.OwnUnheard.{StaticsFixed, fire-same}
use Rattle.laws_order.proofs.Within.{IsWithin, ended-to, idle-to, changed-within, leaves-within, residual-within, call_ends-within}
use Rattle.laws_order.proofs.OwnForms.{MayDo, form-within}

-- each statement that a process reaches is one that it may do
abbrev pub EachMayDo : Design → ℕ → Type 0
EachMayDo d p = (n : ℕ) (x : Statement) → IsOf d p n → statement_at (arena_of d.code) n ≡ Some x → MayDo x

trigger_hears : (t : Option Trigger) → TriggersFixed t → HearsFixed (next_wait t).wait
trigger_hears None h = tt
trigger_hears (Some t) h = h

module _ (c : Config) (p : ℕ) (statics : StaticsFixed c.design) (i : Instance) (r : Residual) (left : IsLeftOf c.design p r) (s : IsWithin c.design p c c) (trigger : TriggersFixed i.trigger) where
  abbrev IsHere : Config → Type 0
  IsHere = IsWithin c.design p c

  passed : IsHere (passes c p r)
  passed = residual-within c.design p c c (put r skip) (put-left c.design p r skip left tt) s

  -- ---- the end of a body: nobody hears that the process ended

  over_within : IsHere (leaves_stack (change_instance c p ended_instance))
  over_within = leaves-within c.design p c (change_instance c p ended_instance) (changed-within c.design p c c ended_instance (ended-to c.design p) s)

  ends_within : IsHere (ends c p)
  ends_within = subst IsHere (sym (fire-same (ev.Terminated p) (λ n. refl) c.design statics (leaves_stack (change_instance c p ended_instance)) over_within.own)) over_within

  abbrev idled : Config
  idled = change_instance c p (λ j. record j { residual = skip; started = false; wait = (next_wait i.trigger).wait; deadline = (next_wait i.trigger).deadline; trigger = None })

  idles_within : IsHere (idles c p i)
  idles_within = leaves-within c.design p c idled (changed-within c.design p c c _ (idle-to c.design p (next_wait i.trigger).wait (next_wait i.trigger).deadline (trigger_hears i.trigger trigger)) s)

  done_within : (k : ProcessKind) → IsHere (done_by c p i k)
  done_within process.Thread = ends_within
  done_within process.Method = idles_within

  goal_within : (k : Goal) → IsThrown k → IsHere (reaches_goal c p i r k)
  goal_within goal_of.End thrown = absurd thrown
  goal_within goal_of.Restart thrown = absurd thrown
  goal_within goal_of.Thrown thrown = passed
  goal_within goal_of.Injected thrown = absurd thrown

  -- ---- the end of a call

  no_via : (d : Config) (o : Option Via) (f : Via → Result Config RunFault) → o ≡ None → IsHere d → IfOk (via_ends d o f) IsHere
  no_via d o f none h = subst (λ (v : Option Via). IfOk (via_ends d v f) IsHere) (sym none) h

  hands_within : (h : Here) (x : Frame) → x.via ≡ None → (y : Statement) → IfOk (hands_back (passes c p r) p h x y) IsHere
  hands_within h x none (code.call target f arguments) = call_ends-within c.design p c (passes c p r) h x target arguments passed
  hands_within h x none (code.nb_transport target socket k phase delay) = no_via (passes c p r) x.via _ none passed
  hands_within h x none (code.b_transport socket k delay) = no_via (passes c p r) x.via _ none passed
  hands_within h x none other = passed

  handed_within : (h : Here) (x : Frame) → x.via ≡ None → (y : Option Statement) → IfOk (handed_back (passes c p r) p h x y) IsHere
  handed_within h x none None = passed
  handed_within h x none (Some y) = hands_within h x none y

  -- ---- what comes next

  on_within : EachMayDo c.design p → (n : ℕ) → IsOf c.design p n → (x : Option Statement) → statement_at (arena c) n ≡ x → IfOk (on_statement c p i r n x) IsHere
  on_within may n own None found = passed
  on_within may n own (Some x) found = form-within c p i r left s n own x found (may n x own found)

  pub next-within : EachMayDo c.design p → (k : Next) → IsNextOf c.design p k → IfOk (do_next c p i r k) IsHere
  next-within may (residual.statement n) own = on_within may n own (statement_at (arena c) n) refl
  next-within may (residual.owes n q) own = absurd own
  next-within may (residual.leaves x) own = handed_within (here (passes c p r) p i (put r skip)) x own.via (calling_statement (passes c p r) x.call)
  next-within may residual.done own = done_within i.kind
  next-within may (residual.reaches k) own = goal_within k own
  next-within may residual.nothing own = done_within i.kind

module _ (c : Config) (p : ℕ) (statics : StaticsFixed c.design) (may : EachMayDo c.design p) (own : AreOnTheirOwn c.design c.processes.instances) (alone : c.processes.stack ≡ p ∷ []) where
  first : IsWithin c.design p c c
  first = record { design_is = refl; cycle_is = refl; own = own; runnable_is = refl; stack_is = inl alone }

  by_within : (o : Option Instance) → instance_at c p ≡ o → IfOk (step_by c p o) (IsWithin c.design p c)
  by_within None at = first
  by_within (Some i) at =
      let r = settle (arena c) i.residual in
      let k = own.each p i at in
      let left : IsLeftOf c.design p r = settle-left c.design p i.residual k.left in
      let d = settled_in c p i.residual in
      next-within d p statics (record i { residual = r }) r left (residual-within c.design p c c r left first) k.trigger may (next_of r) (next-left c.design p r left)

  pub step-within : IfOk (statement_step c p) (IsWithin c.design p c)
  step-within = by_within (instance_at c p) refl
