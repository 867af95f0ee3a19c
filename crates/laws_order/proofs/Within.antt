-- A configuration within a step of a process: all as it was at first, but for what a process may do by itself.
use Rattle.std.proofs.Common.{◌≡◌, inl, inr, ℕ, suc, Bool, true, false, cond, List, [], ◌∷◌, Option, Some, None, refl, ap, ◌∙◌}
use Rattle.std.specs.Prelude.{◌⊎◌, Result, Ok, Err, drop}
use Rattle.std.specs.Result.{IfOk}
use Rattle.sim_model.specs.LogicValues.declared.kinds.Value.{Value}
use Rattle.sim_model.specs.LogicValues.declared.kinds.Value.TheVariants as value
use Rattle.sim_model.specs.EventCore.declared.event.Ev.{Ev}
use Rattle.sim_model.specs.SignalChannel.declared.signal.Signal.{Signal}
use Rattle.sim_model.specs.SignalChannel.declared.signal.WriterConflict.{WriterConflict}
use Rattle.sim_model.specs.SignalChannel.Signals.{conflict_of}
use Rattle.sim_model.specs.FifoSync.Fifos.{Queued}
use Rattle.sim_model.specs.QuantumKeeper.declared.keeper.Keeper.{Keeper}
use Rattle.sim_model.specs.FlatDesign.Code as code
use Rattle.sim_model.specs.FlatDesign.Code.{ArgumentTerm}
use Rattle.sim_model.specs.FlatDesign.declared.names.NameUse.{NameUse}
use Rattle.sim_model.specs.FlatDesign.declared.names.NameUse.TheVariants as name_use
use Rattle.sim_model.specs.FlatDesign.declared.code.Store.{Store as Target}
use Rattle.sim_model.specs.FlatDesign.declared.design.Denoted.{Denoted}
use Rattle.sim_model.specs.FlatDesign.declared.design.Denoted.TheVariants as denoted
use Rattle.sim_model.specs.FlatDesign.declared.design.Design.{Design}
use Rattle.sim_model.specs.FlatDesign.declared.faults.RunFault.{RunFault}
use Rattle.sim_model.specs.Values.{on_ok}
use Rattle.sim_model.specs.Residual.{Residual, Frame, skip}
use Rattle.sim_model.specs.Configuration.{Config, Cycle, Instance, Wait, Deadline, Trigger, waits_for_any, no_deadline, change, change_instance, with_residual}
use Rattle.sim_model.specs.Waits.{waits, leaves_stack}
use Rattle.sim_model.specs.Reading.{Here, denotes}
use Rattle.sim_model.specs.Storing.{set_local, set_denoted, set_name, stored, stored_if, set_memory}
use Rattle.sim_model.specs.Channels.{blocks, written_unless, write_signal, with_fifo}
use Rattle.sim_model.specs.Calls.{with_left, final_value, given_back, call_ends}
use Rattle.sim_model.specs.Transport.{with_keeper, kept, on_keeper}
use Rattle.sim_model.specs.Control.{ended_instance}
use Rattle.sim_model.specs.declared.plain.Via.{Via}
use Rattle.laws_order.specs.Own.{IsLeftOf}
use Rattle.laws_order.specs.Fits.{IsFixed, HearsFixed, TriggersFixed, at_first, IsProcessOf, KeepsToItself, AreOnTheirOwn}
use Rattle.laws_order.proofs.OwnPlaces.{change-each, change-length}
use Rattle.laws_order.proofs.Lefts.{local-left}

-- ---- an instance that changes, and keeps to itself

module _ (d : Design) (p : ℕ) where
  pub process-as : (i j : Instance) → at_first j ≡ at_first i → IsProcessOf d p i → IsProcessOf d p j
  process-as i j e h = record { part = h.part; found = h.found; same = e ∙ h.same }

  pub left-to : (r : Residual) → IsLeftOf d p r → (i : Instance) → KeepsToItself d p i → KeepsToItself d p (record i { residual = r })
  left-to r left i h =
      record { process = process-as i (record i { residual = r }) refl h.process; left = left; wait = h.wait; trigger = h.trigger; suspended = h.suspended; disabled = h.disabled }

  pub waits-to : (w : Wait) (t : Deadline) → HearsFixed w → (i : Instance) → KeepsToItself d p i → KeepsToItself d p (record i { wait = w; deadline = t })
  waits-to w t hears i h =
      record { process = process-as i (record i { wait = w; deadline = t }) refl h.process; left = h.left; wait = hears; trigger = h.trigger; suspended = h.suspended; disabled = h.disabled }

  pub triggers-to : (t : Option Trigger) → TriggersFixed t → (i : Instance) → KeepsToItself d p i → KeepsToItself d p (record i { trigger = t })
  triggers-to t hears i h =
      record { process = process-as i (record i { trigger = t }) refl h.process; left = h.left; wait = h.wait; trigger = hears; suspended = h.suspended; disabled = h.disabled }

  pub ended-to : (i : Instance) → KeepsToItself d p i → KeepsToItself d p (ended_instance i)
  ended-to i h = record { process = process-as i (ended_instance i) refl h.process; left = tt; wait = tt; trigger = tt; suspended = h.suspended; disabled = h.disabled }

  pub idle-to : (w : Wait) (t : Deadline) → HearsFixed w → (i : Instance) → KeepsToItself d p i
      → KeepsToItself d p (record i { residual = skip; started = false; wait = w; deadline = t; trigger = None })
  idle-to w t hears i h = record {
    process = process-as i (record i { residual = skip; started = false; wait = w; deadline = t; trigger = None }) refl h.process;
    left = tt;
    wait = hears;
    trigger = tt;
    suspended = h.suspended;
    disabled = h.disabled;
  }

pub own-changed : (d : Design) (is : List Instance) (p : ℕ) (f : Instance → Instance) → ((i : Instance) → KeepsToItself d p i → KeepsToItself d p (f i)) → AreOnTheirOwn d is → AreOnTheirOwn d (change is p f)
own-changed d is p f keeps h = record { counted = change-length is p f ∙ h.counted; each = change-each (KeepsToItself d) is p f keeps h.each }

-- what shows of a configuration, beside what a first one had
pub record Within (d : Design) (p : ℕ) (had : Cycle) (ready : List ℕ) (design : Design) (cycle : Cycle) (is : List Instance) (runnable stack : List ℕ) : Type 0 where
  pub design_is : design ≡ d
  pub cycle_is : cycle ≡ had
  pub own : AreOnTheirOwn d is
  pub runnable_is : runnable ≡ ready
  pub stack_is : (stack ≡ p ∷ []) ⊎ (stack ≡ [])

module _ (d : Design) (p : ℕ) (first : Config) where
  abbrev pub IsWithin : Config → Type 0
  IsWithin e = Within d p first.cycle first.processes.runnable e.design e.cycle e.processes.instances e.processes.runnable e.processes.stack

  -- ---- answers

  pub if-ok : {A : Type 0} (m : Result A RunFault) (f : A → Result Config RunFault) → ((x : A) → IfOk (f x) IsWithin) → IfOk (on_ok m f) IsWithin
  if-ok (Ok x) f h = h x
  if-ok (Err e) f h = tt

  pub either-within : (b : Bool) (c e : Config) → IsWithin c → IsWithin e → IsWithin (cond b c e)
  either-within true c e one_ two = one_
  either-within false c e one_ two = two

  -- ---- the process itself

  pub changed-within : (c : Config) (f : Instance → Instance) → ((i : Instance) → KeepsToItself d p i → KeepsToItself d p (f i)) → IsWithin c → IsWithin (change_instance c p f)
  changed-within c f keeps h = record { design_is = h.design_is; cycle_is = h.cycle_is; own = own-changed d c.processes.instances p f keeps h.own; runnable_is = h.runnable_is; stack_is = h.stack_is }

  pub residual-within : (c : Config) (r : Residual) → IsLeftOf d p r → IsWithin c → IsWithin (with_residual c p r)
  residual-within c r left h = changed-within c (λ i. record i { residual = r }) (left-to d p r left) h

  off_stack : (stack : List ℕ) → (stack ≡ p ∷ []) ⊎ (stack ≡ []) → (drop 1 stack ≡ p ∷ []) ⊎ (drop 1 stack ≡ [])
  off_stack stack (inl is) = inr (ap (λ (s : List ℕ). drop 1 s) is)
  off_stack stack (inr is) = inr (ap (λ (s : List ℕ). drop 1 s) is)

  pub leaves-within : (c : Config) → IsWithin c → IsWithin (leaves_stack c)
  leaves-within c h = record { design_is = h.design_is; cycle_is = h.cycle_is; own = h.own; runnable_is = h.runnable_is; stack_is = off_stack c.processes.stack h.stack_is }

  pub waits-within : (c : Config) (w : Wait) (t : Deadline) → HearsFixed w → IsWithin c → IsWithin (waits c p w t)
  waits-within c w t hears h = leaves-within (change_instance c p (λ i. record i { wait = w; deadline = t })) (changed-within c _ (waits-to d p w t hears) h)

  pub blocks-within : (c : Config) (r : Residual) (e : Ev) → IsFixed e → IsLeftOf d p r → IsWithin c → IsWithin (blocks c p r e)
  blocks-within c r e fixed left h = waits-within (with_residual c p r) (waits_for_any (e ∷ [])) no_deadline (fixed, tt) (residual-within c r left h)

  -- ---- where values go

  pub local-within : (c : Config) (n : ℕ) (v : Value) → IsWithin c → IsWithin (set_local c p n v)
  local-within c n v h = changed-within c _ (λ i k. left-to d p _ (local-left d p n v i.residual k.left) i k) h

  denoted_within : (c : Config) (x : Denoted) (v : Value) → IsWithin c → IsWithin (set_denoted c x v)
  denoted_within c (denoted.Variable n) v h = h
  denoted_within c other v h = h

  pub name-within : (c : Config) (h : Here) (n : NameUse) (v : Value) → IsWithin c → IsWithin (set_name c p h n v)
  name-within c h (name_use.Local n) v s = local-within c n v s
  name-within c h (name_use.Declared n) v s = denoted_within c (denotes h n) v s

  pub stored-within : (c : Config) (h : Here) (target : Target) (v : Value) → IsWithin c → IsWithin (stored c p h target v)
  stored-within c h target v s = name-within c h target.name _ s

  pub stored_if-within : (c : Config) (h : Here) (target : Option Target) (v : Value) → IsWithin c → IsWithin (stored_if c p h target v)
  stored_if-within c h None v s = s
  stored_if-within c h (Some target) v s = stored-within c h target v s

  pub memory-within : (c : Config) (m : Option ℕ) (bytes : List ℕ) → IsWithin c → IsWithin (set_memory c m bytes)
  memory-within c None bytes s = s
  memory-within c (Some m) bytes s = s

  given_within : (c : Config) (h : Here) (x : Frame) (i : ℕ) (arguments : List ArgumentTerm) → IsWithin c → IsWithin (given_back c p h x i arguments)
  given_within c h x i [] s = s
  given_within c h x i (code.by_value e ∷ more) s = given_within c h x (suc i) more s
  given_within c h x i (code.inout n ∷ more) s =
      given_within (set_name c p h n (final_value x i (value.Bool false))) h x (suc i) more (name-within c h n (final_value x i (value.Bool false)) s)

  pub call_ends-within : (c : Config) (h : Here) (x : Frame) (target : Option Target) (arguments : List ArgumentTerm) → IsWithin c → IsWithin (call_ends c p h x target arguments)
  call_ends-within c h x target arguments s = stored_if-within (given_back c p h x 0 arguments) h target _ (given_within c h x 0 arguments s)

  -- ---- channels, keepers and hops

  unless_within : (c : Config) (n : ℕ) (x : Signal) (v : Value) (w : Option WriterConflict) → IsWithin c → IfOk (written_unless c n x v p w) IsWithin
  unless_within c n x v None s = s
  unless_within c n x v (Some w) s = tt

  pub signal-within : (c : Config) (n : ℕ) (v : Value) (x : Option Signal) → IsWithin c → IfOk (write_signal c n v p x) IsWithin
  signal-within c n v None s = s
  signal-within c n v (Some x) s = unless_within c n x v (conflict_of (Some p) x.writer) s

  pub fifo-within : (c : Config) (n : Option ℕ) (q : Queued) → IsWithin c → IsWithin (with_fifo c n q)
  fifo-within c None q s = s
  fifo-within c (Some n) q s = s

  pub keeper-within : (c : Config) (n : Option ℕ) (k : Keeper) → IsWithin c → IsWithin (with_keeper c n k)
  keeper-within c None k s = s
  keeper-within c (Some n) k s = s

  pub kept-within : (c : Config) (n : Option ℕ) (k : Option Keeper) → IsWithin c → IfOk (kept c n k) IsWithin
  kept-within c n None s = tt
  kept-within c n (Some k) s = keeper-within c n k s

  pub on_keeper-within : (c : Config) (k : Option Keeper) (f : Keeper → Result Config RunFault) → IsWithin c → ((x : Keeper) → IfOk (f x) IsWithin) → IfOk (on_keeper c k f) IsWithin
  on_keeper-within c None f s each = s
  on_keeper-within c (Some k) f s each = each k

  pub left_calls-within : (c : Config) (vias : List Via) → IsWithin c → IsWithin (with_left c vias)
  left_calls-within c [] s = s
  left_calls-within c (via ∷ more) s = left_calls-within _ more s
