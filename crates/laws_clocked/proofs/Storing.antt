-- What the steps of a thread keep of what is left of it, where their statements store only to certain local variables of the call in place.
use Rattle.std.proofs.Common.{◌≡◌, ◌||◌, ◌&&◌, not, ℕ, suc, ◌==◌, ◌+◌, Bool, true, false, cond, List, [], ◌∷◌, ◌++◌, length, slice_get, Option, Some, None, refl, sym, ap, ◌∙◌, subst, ⊎_elim}
use Rattle.std.proofs.lemmas.Bool.{cases_eq}
use Rattle.std.proofs.lemmas.Option.{none-some, same_Some}
use Rattle.std.specs.Prelude.{Result, Ok, Err, is_some}
use Rattle.std.specs.Result.{IfOk}
use Rattle.laws_runs.specs.LogicValues.declared.kinds.Value.{Value}
use Rattle.laws_runs.specs.LogicValues.declared.kinds.Value.TheVariants as value
use Rattle.laws_runs.specs.EventCore.declared.event.Ev.{Ev}
use Rattle.laws_runs.specs.EventCore.declared.event.Ev.TheVariants as ev
use Rattle.laws_runs.specs.EventCore.declared.notifications.When.TheVariants as when
use Rattle.laws_runs.specs.SignalChannel.declared.signal.Signal.{Signal}
use Rattle.laws_runs.specs.SignalChannel.declared.signal.WriterConflict.{WriterConflict}
use Rattle.laws_runs.specs.SignalChannel.Signals.{conflict_of}
use Rattle.laws_runs.specs.FifoSync.Fifos.{Queued, readable, free, after_read, after_write}
use Rattle.laws_runs.specs.FifoSync.Locks.{locked_by, unlocked_by, is_owner, is_used_up, is_unlocked}
use Rattle.laws_runs.specs.QuantumKeeper.declared.keeper.Keeper.{Keeper}
use Rattle.laws_runs.specs.TransportPhases.History.{Entry, Call, BCall, broken}
use Rattle.laws_runs.specs.TransportPhases.declared.phases.Rule.{Rule}
use Rattle.laws_runs.specs.ModelTree.declared.statements.Control.{Control}
use Rattle.laws_runs.specs.ModelTree.declared.statements.Control.TheVariants as control
use Rattle.laws_runs.specs.FlatDesign.Code as code
use Rattle.laws_runs.specs.FlatDesign.Code.{statement_at, Term, DestinationTerm, AwaitTerm, ArgumentTerm, SpawnTerm, ChannelTerm, Statement, Arena, body_at}
use Rattle.laws_runs.specs.FlatDesign.declared.value_types.ValueType.{ValueType}
use Rattle.laws_runs.specs.FlatDesign.declared.names.NameUse.{NameUse}
use Rattle.laws_runs.specs.FlatDesign.declared.names.NameUse.TheVariants as name_use
use Rattle.laws_runs.specs.FlatDesign.declared.names.EventMember.TheVariants as event
use Rattle.laws_runs.specs.FlatDesign.declared.code.Controlled.{Controlled}
use Rattle.laws_runs.specs.FlatDesign.declared.code.Store.{Store as Target}
use Rattle.laws_runs.specs.FlatDesign.declared.design.ChannelId.{ChannelId}
use Rattle.laws_runs.specs.FlatDesign.declared.design.ChannelId.TheVariants as channel
use Rattle.laws_runs.specs.FlatDesign.declared.design.Denoted.{Denoted}
use Rattle.laws_runs.specs.FlatDesign.declared.design.Denoted.TheVariants as denoted
use Rattle.laws_runs.specs.FlatDesign.declared.faults.RunFault.{RunFault}
use Rattle.laws_runs.specs.FlatDesign.declared.faults.RunFault.TheVariants as fault
use Rattle.laws_runs.specs.SimModel.Values.{on_ok, moment, truth, bits, index_within}
use Rattle.laws_runs.specs.SimModel.Residual.{Residual, Frame, batch, guard, try_, block, entered, put, skip, has_goal, goal, innermost, in_innermost}
use Rattle.laws_runs.specs.SimModel.Unwinding.{raise, catches, left_by_raise, left_by_unw, unw, returned}
use Rattle.laws_runs.specs.SimModel.Configuration.{Config, Instance, arena, change_instance, instance_at, with_residual, with_runnable, change, waits_for_all}
use Rattle.laws_runs.specs.SimModel.Payloads.{with_made}
use Rattle.laws_runs.specs.SimModel.Reading.{Here, val, denotes, place_in, payload_number, live_payload, val_if, memory_here}
use Rattle.laws_runs.specs.SimModel.Waits.{fire, holds, without, notify, leaves_stack}
use Rattle.laws_runs.specs.SimModel.Storing.{passes, set_local, set_denoted, set_name, stored, stored_if, set_memory, chosen, looped, do_var, do_assign, do_print, do_if, do_while, with_local}
use Rattle.laws_runs.specs.SimModel.Waiting.{when_after, channel_event, on_event, event_number, notified_now, cancelled, do_wait, do_next_trigger, do_notify_after, awaited}
use Rattle.laws_runs.specs.SimModel.Channels.{set_fifo, set_mutex, set_semaphore, blocks, written_unless, write_signal, write_channel, write_fifo, do_write, fifo_of, fifo_here, with_fifo, read_value, read_fifo, nb_read_value, nb_read_fifo, nb_write_fifo, do_nb_write, answered, lock_mutex, lock_at, trylock_mutex, trylock_at, unlock_mutex, unlock_at, sem_wait_value, sem_wait_at, sem_trywait_value, sem_trywait_at, post_value, post_at, mutex_of, semaphore_of, taken_from, channel_in}
use Rattle.laws_runs.specs.SimModel.Calls.{final_value, given_back, call_ends, handle_stored, with_left, thrown, do_call, do_return, do_spawn, spawns, added, new_instance, runnable_unless, locals_in, argument_values, may_enter, answer_type, cut_answer, first_arguments, may_spawn}
use Rattle.laws_runs.specs.SimModel.Transport.{path_of_call, int_of, value_named, is_complete, with_keeper, kept, on_keeper, do_make, do_acquire, do_release, do_carry, b_transport_on, nb_transport_on, judged_by, enters_handler, may_enter_handler, blocking_handler, nonblocking_handler, history, socket_of, do_qk_global, with_pool, size_within, size_or, may_make}
use Rattle.laws_runs.specs.SimModel.Control.{target_of, is_top, is_below_top, is_thread, with_kept, yields, pushed, unwinds, injected, controlled_by, throws_at, unless_ended, control_call, throw_call, with_owed, do_control, do_throw_it, targets}
use Rattle.laws_runs.specs.SimModel.Statements.{do_statement}
use Rattle.laws_runs.specs.SimModel.declared.plain.Goal.{Goal}
use Rattle.laws_runs.specs.SimModel.declared.plain.Goal.TheVariants as goal_of
use Rattle.laws_runs.specs.SimModel.declared.plain.Via.{Via}
use Rattle.laws_runs.specs.SimModel.Waits.{freed}
use Rattle.laws_runs.specs.SimModel.Control.{pushed_unless_top}
use Rattle.laws_runs.proofs.Changes.{change-here, change-other, change-none, last-here, last-other}
use Rattle.laws_runs.proofs.GoalParts.{Parts, IsInner}
use Rattle.laws_runs.proofs.KeptMoves.{left-parts}
use Rattle.laws_runs.specs.Moves as move
use Rattle.laws_runs.specs.Moves.{Gives}
use Rattle.laws_runs.proofs.WakeMoves.{fire-keeps}
use Rattle.laws_clocked.specs.Stores.{StoresTo, StoresIf, StoresTarget, StoresArguments, StoresDestination, OnlyStores}

-- what is kept where all is unwound, and where an exception is raised
pub record IsKeptUnwound (a : Arena) (H : Residual → Type 0) : Type 0 where
  pub bare : H skip
  pub goals : (r : Residual) (k : Goal) → H (goal r k)
  pub raises : (r : Residual) (e : ℕ) (k : Goal) → IsInner k → H r → H (raise a r e k)

-- what is kept where a local variable is set whose number is so
abbrev pub IsKeptSet : (Residual → Type 0) → (ℕ → Type 0) → Type 0
IsKeptSet H P = (n : ℕ) (v : Value) (r : Residual) → P n → H r → H (in_innermost (with_local n v) r)

-- what a statement of this number and form puts in its own place, where that is something
pub data IsGiven (c : Config) (n : ℕ) : Statement → Residual → Type 0 where
  gives : (y : Statement) (new : Residual) → Gives c n y new → IsGiven c n y new
  guards : (b u g : ℕ) → IsGiven c n (code.guard b u) (guard (block (arena c) b) g u)
  hops : (y : Statement) (f : ℕ) (args : List Value) (via : Via) → IsGiven c n y (entered (arena c) f args (Some n) (Some via))

-- the instance p is left so
abbrev pub LeftSo : ℕ → (Residual → Type 0) → List Instance → Type 0
LeftSo p H is = (j : Instance) → slice_get is p ≡ Some j → H j.residual

module _ (p : ℕ) (H : Residual → Type 0) where
  abbrev So : Config → Type 0
  So c = LeftSo p H c.processes.instances

  -- ---- instances

  pub changed_here : (is : List Instance) (f : Instance → Instance) (o : Option Instance) → slice_get is p ≡ o → ((i : Instance) → slice_get is p ≡ Some i → H (f i).residual) → LeftSo p H (change is p f)
  changed_here is f None at each j there = absurd (none-some j (sym (ap (λ js. slice_get js p) (change-none is p f at) ∙ at) ∙ there))
  changed_here is f (Some i) at each j there = subst (λ (x : Instance). H x.residual) (same_Some (f i) j (sym (change-here is p f i at) ∙ there)) (each i at)

  pub changed : (is : List Instance) (n : ℕ) (f : Instance → Instance) → ((i : Instance) → n ≡ p → slice_get is n ≡ Some i → H i.residual → H (f i).residual) → LeftSo p H is → LeftSo p H (change is n f)
  changed is n f each h = ⊎_elim
      (λ same. subst (λ m. LeftSo p H (change is m f)) (sym same) (changed_here is f (slice_get is p) refl (λ i at. each i same (subst (λ m. slice_get is m ≡ Some i) (sym same) at) (h i at))))
      (λ apart j at. h j (sym (change-other is n p f (λ e. apart (sym e))) ∙ at))
      (cases_eq n p)

  pub flagged : (c : Config) (n : ℕ) (f : Instance → Instance) → ((i : Instance) → (f i).residual ≡ i.residual) → So c → So (change_instance c n f)
  flagged c n f same h = changed c.processes.instances n f (λ i is at z. subst H (sym (same i)) z) h

  pub becomes : (c : Config) (n : ℕ) (f : Instance → Instance) (r : Residual) → ((i : Instance) → (f i).residual ≡ r) → (n ≡ p → H r) → So c → So (change_instance c n f)
  becomes c n f r is z h = changed c.processes.instances n f (λ i same at old. subst H (sym (is i)) (z same)) h

  pub if_held : (b : Bool) (c d : Config) → So c → So d → So (cond b c d)
  if_held true c d first other = first
  if_held false c d first other = other

  pub left_held : (vias : List Via) (c : Config) → So c → So (with_left c vias)
  left_held vias c h = subst (λ (x : Parts). LeftSo p H x.instances) (sym (left-parts vias c)) h

  pub fire-held : (c : Config) (e : Ev) → So c → So (fire c e)
  fire-held c e h = fire-keeps So
      (record {
        joins = λ d n i may on z. flagged d n freed (λ j. refl) z;
        keeps = λ d n i may on z. flagged d n (λ j. record (freed j) { kept = true }) (λ j. refl) z;
        strikes = λ d n es i all at is z. flagged d n (λ j. record j { wait = waits_for_all es }) (λ j. refl) z;
      }) c e h

  -- ---- answers

  pub if-ok : {A : Type 0} (m : Result A RunFault) (f : A → Result Config RunFault) → ((x : A) → IfOk (f x) So) → IfOk (on_ok m f) So
  if-ok (Ok x) f h = h x
  if-ok (Err e) f h = tt

  pub if_went-ok : (m : Result Config RunFault) (f : Config → Result Config RunFault) → IfOk m So → ((d : Config) → So d → IfOk (f d) So) → IfOk (on_ok m f) So
  if_went-ok (Ok d) f s h = h d s
  if_went-ok (Err e) f s h = tt

  pub ok_if : (b : Bool) (m n : Result Config RunFault) → IfOk m So → IfOk n So → IfOk (cond b m n) So
  ok_if true m n first other = first
  ok_if false m n first other = other

  pub moved_held : (c : Config) (n : ℕ) (r : Residual) → (n ≡ p → H r) → So c → So (with_residual c n r)
  moved_held c n r z s = becomes c n (λ j. record j { residual = r }) r (λ j. refl) z s

  pub more_held : (is : List Instance) (new : Instance) → H new.residual → LeftSo p H is → LeftSo p H (is ++ new ∷ [])
  more_held is new so z j at = ⊎_elim
      (λ same. subst (λ (x : Instance). H x.residual) (same_Some new j (sym (last-here is new) ∙ subst (λ m. slice_get (is ++ new ∷ []) m ≡ Some j) same at)) so)
      (λ apart. z j (sym (last-other is new p apart) ∙ at))
      (cases_eq p (length is))

  pub memory_held : (c : Config) (m : Option ℕ) (bytes : List ℕ) → So c → So (set_memory c m bytes)
  memory_held c None bytes s = s
  memory_held c (Some m) bytes s = s

  -- ---- channels

  pub unless_held : (c : Config) (n : ℕ) (x : Signal) (v : Value) (w : Option WriterConflict) → So c → IfOk (written_unless c n x v p w) So
  unless_held c n x v None s = s
  unless_held c n x v (Some w) s = tt

  pub signal_held : (c : Config) (n : ℕ) (v : Value) (x : Option Signal) → So c → IfOk (write_signal c n v p x) So
  signal_held c n v None s = s
  signal_held c n v (Some x) s = unless_held c n x v (conflict_of (Some p) x.writer) s

  pub with_fifo_held : (c : Config) (n : Option ℕ) (x : Queued) → So c → So (with_fifo c n x)
  with_fifo_held c None x s = s
  with_fifo_held c (Some n) x s = s

  -- ---- keepers

  pub keeper_held : (c : Config) (n : Option ℕ) (y : Keeper) → So c → So (with_keeper c n y)
  keeper_held c None y s = s
  keeper_held c (Some n) y s = s

  pub kept_held : (c : Config) (n : Option ℕ) (y : Option Keeper) → So c → IfOk (kept c n y) So
  kept_held c n None s = tt
  kept_held c n (Some y) s = keeper_held c n y s

  pub on_keeper_held : (c : Config) (y : Option Keeper) (f : Keeper → Result Config RunFault) → So c → ((x : Keeper) → IfOk (f x) So) → IfOk (on_keeper c y f) So
  on_keeper_held c None f s each = s
  on_keeper_held c (Some y) f s each = each y

module _ (p : ℕ) (F : Residual → Type 0) (a : Arena) (k : IsKeptUnwound a F) where
  abbrev Unw : Config → Type 0
  Unw c = LeftSo p F c.processes.instances

  -- ---- control calls, of whichever instance

  suspended_held : (c : Config) (n : ℕ) → Unw c → Unw (change_instance c n (λ j. record j { suspended = true }))
  suspended_held c n s = flagged p F c n (λ j. record j { suspended = true }) (λ j. refl) s

  keeps_held : (c : Config) (n : ℕ) → Unw c → Unw (with_kept c n)
  keeps_held c n s = flagged p F c n (λ j. record j { kept = true }) (λ j. refl) s

  pushed_held : (c : Config) (n : ℕ) (r : Residual) → (n ≡ p → F r) → Unw c → Unw (pushed (with_residual c n r) n)
  pushed_held c n r z s = flagged p F (with_residual c n r) n (λ j. record (freed j) { kept = false; trigger = None }) (λ j. refl) (moved_held p F c n r z s)

  unwinds_held : (c : Config) (n : ℕ) (i : Instance) (g : Goal) → Unw c → Unw (unwinds c n i g)
  unwinds_held c n i g s =
      left_held p F (left_by_unw i.residual) (pushed_unless_top (with_residual c n (goal (unw i.residual) g)) n)
      (if_held p F (is_top (with_residual c n (goal (unw i.residual) g)) n) (with_residual c n (goal (unw i.residual) g)) (pushed (with_residual c n (goal (unw i.residual) g)) n)
      (moved_held p F c n (goal (unw i.residual) g) (λ same. k.goals (unw i.residual) g) s) (pushed_held c n (goal (unw i.residual) g) (λ same. k.goals (unw i.residual) g) s))

  controlled_held : (c : Config) (n : ℕ) (i : Instance) (x : Control) → Unw c → IfOk (controlled_by c n i x) Unw
  controlled_held c n i control.Suspend s =
      let d = change_instance c n (λ j. record j { suspended = true }) in
      let h = suspended_held c n s in
      if_held p F (holds d.processes.runnable n) (with_runnable (with_kept d n) (without d.processes.runnable n)) (cond (yields d n i) (leaves_stack (with_kept d n)) d)
      (keeps_held d n h) (if_held p F (yields d n i) (leaves_stack (with_kept d n)) d (keeps_held d n h) h)
  controlled_held c n i control.Resume s =
      let d = change_instance c n (λ j. record j { suspended = false; kept = false }) in
      let h = flagged p F c n (λ j. record j { suspended = false; kept = false }) (λ j. refl) s in
      if_held p F i.kept (with_runnable d (c.processes.runnable ++ n ∷ [])) d h h
  controlled_held c n i control.Disable s = flagged p F c n (λ j. record j { disabled = true }) (λ j. refl) s
  controlled_held c n i control.Enable s = flagged p F c n (λ j. record j { disabled = false }) (λ j. refl) s
  controlled_held c n i control.Kill s =
      ok_if p F (is_below_top c n) (Err (fault.ControlOnActive n)) _ tt (ok_if p F (is_top c n && has_goal i.residual) (Ok c) (Ok (unwinds c n i goal_of.End)) s (unwinds_held c n i goal_of.End s))
  controlled_held c n i control.Reset s =
      ok_if p F (is_below_top c n) (Err (fault.ControlOnActive n)) _ tt (ok_if p F (is_top c n && has_goal i.residual) (Ok c) (Ok (unwinds c n i goal_of.Restart)) s (unwinds_held c n i goal_of.Restart s))

  of_live : (c : Config) (n : ℕ) (x : Option Instance) (f : Instance → Result Config RunFault) → instance_at c n ≡ x → Unw c → ((i : Instance) → instance_at c n ≡ Some i → IfOk (f i) Unw) → IfOk (unless_ended c x f) Unw
  of_live c n None f at s each = s
  of_live c n (Some i) f at s each = ok_if p F i.ended (Ok c) (f i) s (each i at)

  pub control_held : (c : Config) (n : ℕ) (x : Control) → Unw c → IfOk (control_call c n x) Unw
  control_held c n x s = of_live c n (instance_at c n) (λ i. controlled_by c n i x) refl s (λ i at. controlled_held c n i x s)

  module _ (c : Config) (code_is : arena c ≡ a) (n : ℕ) (i : Instance) (at : instance_at c n ≡ Some i) (e : ℕ) (s : Unw c) where
    raised : (g : Goal) → IsInner g → n ≡ p → F (raise (arena c) i.residual e g)
    raised g inner same = subst (λ z. F (raise z i.residual e g)) (sym code_is) (k.raises i.residual e g inner (s i (subst (λ m. instance_at c m ≡ Some i) same at)))

    thrown_goes : (b : Bool) → IfOk (cond b (Ok (with_left (with_residual c n (raise (arena c) i.residual e goal_of.Thrown)) (left_by_raise i.residual e))) (Err (fault.Uncaught e))) Unw
    thrown_goes true = left_held p F (left_by_raise i.residual e) _ (moved_held p F c n (raise (arena c) i.residual e goal_of.Thrown) (raised goal_of.Thrown tt) s)
    thrown_goes false = tt

    injected_goes : (b : Bool) → IfOk (cond b (Ok (with_left (pushed (with_residual c n (raise (arena c) i.residual e goal_of.Injected)) n) (left_by_raise i.residual e))) (Err (fault.Uncaught e))) Unw
    injected_goes true = left_held p F (left_by_raise i.residual e) _ (pushed_held c n (raise (arena c) i.residual e goal_of.Injected) (raised goal_of.Injected tt) s)
    injected_goes false = tt

    throws_held : IfOk (throws_at c n i e) Unw
    throws_held =
        ok_if p F (is_below_top c n) (Err (fault.ControlOnActive n)) _ tt
        (ok_if p F (is_top c n) (cond (has_goal i.residual) (Ok c) (thrown c n i.residual e)) (injected c n i e)
        (ok_if p F (has_goal i.residual) (Ok c) (thrown c n i.residual e) s (thrown_goes (catches i.residual e)))
        (ok_if p F (not (is_thread i.kind) || not i.started) (Ok c) _ s (injected_goes (catches i.residual e))))

  pub throw_held : (c : Config) → arena c ≡ a → (n e : ℕ) → Unw c → IfOk (throw_call c n e) Unw
  throw_held c code_is n e s = of_live c n (instance_at c n) (λ i. throws_at c n i e) refl s (λ i at. throws_held c code_is n i at e s)

module _ (p : ℕ) (H F : Residual → Type 0) (P : ℕ → Type 0) (sets : IsKeptSet H P) where
  abbrev Left : Config → Type 0
  Left c = LeftSo p H c.processes.instances

  -- ---- where values go

  pub local_held : (c : Config) (n : ℕ) (v : Value) → P n → Left c → Left (set_local c p n v)
  local_held c n v so h = changed p H c.processes.instances p _ (λ i same at z. sets n v i.residual so z) h

  denoted_held : (c : Config) (x : Denoted) (v : Value) → Left c → Left (set_denoted c x v)
  denoted_held c (denoted.Variable n) v h = h
  denoted_held c other v h = h

  pub name_held : (c : Config) (h : Here) (n : NameUse) (v : Value) → StoresTo P n → Left c → Left (set_name c p h n v)
  name_held c h (name_use.Local n) v so s = local_held c n v so s
  name_held c h (name_use.Declared n) v so s = denoted_held c (denotes h n) v s

  pub stored_held : (c : Config) (h : Here) (target : Target) (v : Value) → StoresTo P target.name → Left c → Left (stored c p h target v)
  stored_held c h target v so s = name_held c h target.name _ so s

  pub stored_if_held : (c : Config) (h : Here) (target : Option Target) (v : Value) → StoresTarget P target → Left c → Left (stored_if c p h target v)
  stored_if_held c h None v so s = s
  stored_if_held c h (Some target) v so s = stored_held c h target v so s

  handle_held : (c : Config) (h : Here) (n : Option NameUse) (q : ℕ) → StoresIf P n → Left c → Left (handle_stored c p h n q)
  handle_held c h None q so s = s
  handle_held c h (Some n) q so s = name_held c h n (value.Handle (Some q)) so s

  given_held : (c : Config) (h : Here) (x : Frame) (i : ℕ) (arguments : List ArgumentTerm) → StoresArguments P arguments → Left c → Left (given_back c p h x i arguments)
  given_held c h x i [] so s = s
  given_held c h x i (code.by_value e ∷ more) so s = given_held c h x (suc i) more so s
  given_held c h x i (code.inout n ∷ more) so s =
      given_held (set_name c p h n (final_value x i (value.Bool false))) h x (suc i) more so.1 (name_held c h n (final_value x i (value.Bool false)) so.0 s)

  pub call_ends_held : (c : Config) (h : Here) (x : Frame) (target : Option Target) (arguments : List ArgumentTerm) → StoresTarget P target → StoresArguments P arguments → Left c → Left (call_ends c p h x target arguments)
  call_ends_held c h x target arguments so too s = stored_if_held (given_back c p h x 0 arguments) h target _ so (given_held c h x 0 arguments too s)

  -- ---- channels

  answered_held : (c : Config) (h : Here) (x : Option Target) (done : Bool) → StoresTarget P x → Left c → Left (answered c p h x done)
  answered_held c h x done so s = stored_if_held c h x _ so s

  -- ---- a statement of p, by its form

  module _ (bare : H skip) (a : Arena) (k : IsKeptUnwound a F) (weak : (r : Residual) → H r → F r) (c : Config) (code_is : arena c ≡ a) (r : Residual) (h : Here) (s : Left c) (n : ℕ) (over : H (put r skip)) (puts : (y : Statement) (new : Residual) → statement_at (arena c) n ≡ Some y → IsGiven c n y new → H (put r new)) (here_so : H r) (returns : (v : Option Value) → F (returned v r)) where
    abbrev To : Config → Type 0
    To d = LeftSo p F d.processes.instances

    weaker : (d : Config) → Left d → To d
    weaker d z j at = weak j.residual (z j at)

    weakly : (m : Result Config RunFault) → IfOk m Left → IfOk m To
    weakly (Ok d) z = weaker d z
    weakly (Err e) z = tt

    past : Left (passes c p r)
    past = moved_held p H c p (put r skip) (λ same. over) s

    placed : (y : Statement) (new : Residual) → statement_at (arena c) n ≡ Some y → IsGiven c n y new → Left (with_residual c p (put r new))
    placed y new found given = moved_held p H c p (put r new) (λ same. puts y new found given) s

    blocked : (e : Ev) → Left (blocks c p r e)
    blocked e = flagged p H (with_residual c p r) p _ (λ j. refl) (moved_held p H c p r (λ same. here_so) s)

    own : (f : Instance → Instance) → ((i : Instance) → (f i).residual ≡ i.residual) → Left (change_instance (passes c p r) p f)
    own f same = flagged p H (passes c p r) p f same past

    var_held : (n : ℕ) (y : ValueType) (e : Option Term) → P n → IfOk (do_var c p r h n y e) Left
    var_held n y e so = if-ok p H (val_if h e) _ (λ v. local_held (passes c p r) n _ so past)

    assign_held : (to : DestinationTerm) (e : Term) → StoresDestination P to → IfOk (do_assign c p r h to e) Left
    assign_held (code.to_name target) e so = if-ok p H (val h e) _ (λ v. stored_held (passes c p r) h target v so past)
    assign_held (code.to_field n f) e so = if-ok p H (val h e) _ (λ v. if-ok p H (payload_number h n) _ (λ t. if-ok p H (live_payload c t) _ (λ q. past)))
    assign_held (code.to_element n index) e so = if-ok p H (val h index) _ (λ y. if-ok p H (val h e) _ (λ v. if-ok p H (index_within (bits y) (length (memory_here h n))) _ (λ j. memory_held p H (passes c p r) _ _ past)))
    assign_held (code.to_payload_byte n b index) e so =
        if-ok p H (val h index) _ (λ y. if-ok p H (val h e) _ (λ v. if-ok p H (payload_number h n) _ (λ t. if-ok p H (live_payload c t) _ (λ q. if-ok p H (index_within (bits y) _) _ (λ j. past)))))

    print_held : (i : Instance) (text : List ℕ) (e : Option Term) → IfOk (do_print c p i r h text e) Left
    print_held i text e = if-ok p H (val_if h e) _ (λ v. past)

    wait_held : (w : AwaitTerm) → IfOk (do_wait c p r h w) Left
    wait_held w = if-ok p H (awaited h w) _ (λ t. own _ (λ j. refl))

    trigger_held : (w : AwaitTerm) → IfOk (do_next_trigger c p r h w) Left
    trigger_held w = if-ok p H (awaited h w) _ (λ t. own _ (λ j. refl))

    event_held : (e : Option ℕ) (f : ℕ → Config) → ((x : ℕ) → Left (f x)) → Left (on_event (passes c p r) e f)
    event_held None f each = past
    event_held (Some e) f each = each e

    write_fifo_held : (n : ℕ) (ch : ChannelId) (v : Value) (x : Option Queued) → Left (write_fifo c p r n ch v x)
    write_fifo_held n ch v None = past
    write_fifo_held n ch v (Some x) = if_held p H (free x == 0) (blocks c p r (channel_event event.DataRead ch)) (set_fifo (passes c p r) n (after_write x v)) (blocked (channel_event event.DataRead ch)) past

    write_by : (v : Value) (x : ChannelId) → IfOk (write_channel c p r v x) Left
    write_by v (channel.Signal j events) = signal_held p H (passes c p r) j v (slice_get c.channels.signals j) past
    write_by v (channel.Resolved j events) = past
    write_by v (channel.Fifo j events) = write_fifo_held j (channel.Fifo j events) v (slice_get c.channels.fifos j)
    write_by v (channel.Mutex j events) = past
    write_by v (channel.Semaphore j events) = past

    write_held : (ch : ChannelTerm) (y : ValueType) (e : Term) → IfOk (do_write c p r h ch y e) Left
    write_held ch y e = if-ok p H (place_in h ch.place) _ (λ j. if-ok p H (val h e) _ (λ v. if-ok p H (channel_in h ch j) _ (λ x. write_by _ x)))

    -- of a channel that is named
    on_channel : (ch : ChannelTerm) (f : ChannelId → Config) → ((x : ChannelId) → Left (f x)) → IfOk (on_ok (place_in h ch.place) (λ j. on_ok (channel_in h ch j) (λ x. Ok (f x)))) Left
    on_channel ch f each = if-ok p H (place_in h ch.place) _ (λ j. if-ok p H (channel_in h ch j) _ (λ x. each x))

    read_value_held : (x : Option Target) (ch : ChannelId) (q : Queued) (v : Option Value) → StoresTarget P x → Left (read_value c p r h x ch q v)
    read_value_held x ch q None so = blocked _
    read_value_held x ch q (Some v) so = stored_if_held (with_fifo (passes c p r) (fifo_of ch) (after_read q)) h x v so (with_fifo_held p H (passes c p r) (fifo_of ch) (after_read q) past)

    read_fifo_held : (x : Option Target) (ch : ChannelId) (q : Option Queued) → StoresTarget P x → Left (read_fifo c p r h x ch q)
    read_fifo_held x ch None so = past
    read_fifo_held x ch (Some q) so = read_value_held x ch q (readable q) so

    nb_read_value_held : (x : Option Target) (y : Target) (ch : ChannelId) (q : Queued) (v : Option Value) → StoresTarget P x → StoresTo P y.name → Left (nb_read_value c p r h x y ch q v)
    nb_read_value_held x y ch q None so too = stored_if_held (passes c p r) h x _ so past
    nb_read_value_held x y ch q (Some v) so too =
        stored_held (stored_if (with_fifo (passes c p r) (fifo_of ch) (after_read q)) p h x (value.Bool true)) h y v too
        (stored_if_held (with_fifo (passes c p r) (fifo_of ch) (after_read q)) h x (value.Bool true) so (with_fifo_held p H (passes c p r) (fifo_of ch) (after_read q) past))

    nb_read_fifo_held : (x : Option Target) (y : Target) (ch : ChannelId) (q : Option Queued) → StoresTarget P x → StoresTo P y.name → Left (nb_read_fifo c p r h x y ch q)
    nb_read_fifo_held x y ch None so too = past
    nb_read_fifo_held x y ch (Some q) so too = nb_read_value_held x y ch q (readable q) so too

    nb_write_fifo_held : (x : Option Target) (ch : ChannelId) (v : Value) (q : Option Queued) → StoresTarget P x → Left (nb_write_fifo c p r h x ch v q)
    nb_write_fifo_held x ch v None so = past
    nb_write_fifo_held x ch v (Some q) so =
        if_held p H (free q == 0) (stored_if (passes c p r) p h x (value.Bool false)) (stored_if (with_fifo (passes c p r) (fifo_of ch) (after_write q v)) p h x (value.Bool true))
        (stored_if_held (passes c p r) h x (value.Bool false) so past)
        (stored_if_held (with_fifo (passes c p r) (fifo_of ch) (after_write q v)) h x (value.Bool true) so (with_fifo_held p H (passes c p r) (fifo_of ch) (after_write q v) past))

    nb_write_held : (x : Option Target) (ch : ChannelTerm) (y : ValueType) (e : Term) → StoresTarget P x → IfOk (do_nb_write c p r h x ch y e) Left
    nb_write_held x ch y e so = if-ok p H (place_in h ch.place) _ (λ j. if-ok p H (val h e) _ (λ v. if-ok p H (channel_in h ch j) _ (λ z. nb_write_fifo_held x z _ (fifo_here c z) so)))

    lock_mutex_held : (n : ℕ) (ch : ChannelId) (x : Option (Option ℕ)) → Left (lock_mutex c p r n ch x)
    lock_mutex_held n ch None = past
    lock_mutex_held n ch (Some x) = if_held p H (is_unlocked x) (set_mutex (passes c p r) n (locked_by p x)) (blocks c p r (channel_event event.Own ch)) past (blocked _)

    lock_at_held : (ch : ChannelId) (n : Option ℕ) → Left (lock_at c p r ch n)
    lock_at_held ch None = past
    lock_at_held ch (Some n) = lock_mutex_held n ch (slice_get c.channels.mutexes n)

    trylock_mutex_held : (x : Option Target) (n : ℕ) (m : Option (Option ℕ)) → StoresTarget P x → Left (trylock_mutex (passes c p r) p h x n m)
    trylock_mutex_held x n None so = past
    trylock_mutex_held x n (Some m) so = answered_held (set_mutex (passes c p r) n (locked_by p m)) h x _ so past

    trylock_at_held : (x : Option Target) (n : Option ℕ) → StoresTarget P x → Left (trylock_at (passes c p r) p h x n)
    trylock_at_held x None so = past
    trylock_at_held x (Some n) so = trylock_mutex_held x n (slice_get c.channels.mutexes n) so

    unlock_mutex_held : (x : Option Target) (n : ℕ) (ch : ChannelId) (m : Option (Option ℕ)) → StoresTarget P x → Left (unlock_mutex (passes c p r) p h x n ch m)
    unlock_mutex_held x n ch None so = past
    unlock_mutex_held x n ch (Some m) so =
        let d = fire (set_mutex (passes c p r) n (unlocked_by p m)) (channel_event event.Own ch) in
        if_held p H (is_owner p m) (answered d p h x true) (answered (passes c p r) p h x false)
        (answered_held d h x true so (fire-held p H (set_mutex (passes c p r) n (unlocked_by p m)) (channel_event event.Own ch) past)) (answered_held (passes c p r) h x false so past)

    unlock_at_held : (x : Option Target) (ch : ChannelId) (n : Option ℕ) → StoresTarget P x → Left (unlock_at (passes c p r) p h x ch n)
    unlock_at_held x ch None so = past
    unlock_at_held x ch (Some n) so = unlock_mutex_held x n ch (slice_get c.channels.mutexes n) so

    sem_value_held : (n : ℕ) (ch : ChannelId) (v : Option ℕ) → Left (sem_wait_value c p r n ch v)
    sem_value_held n ch None = past
    sem_value_held n ch (Some v) = if_held p H (is_used_up v) (blocks c p r (channel_event event.Own ch)) (set_semaphore (passes c p r) n (taken_from v)) (blocked _) past

    sem_at_held : (ch : ChannelId) (n : Option ℕ) → Left (sem_wait_at c p r ch n)
    sem_at_held ch None = past
    sem_at_held ch (Some n) = sem_value_held n ch (slice_get c.channels.semaphores n)

    trywait_value_held : (x : Option Target) (n : ℕ) (v : Option ℕ) → StoresTarget P x → Left (sem_trywait_value (passes c p r) p h x n v)
    trywait_value_held x n None so = past
    trywait_value_held x n (Some v) so =
        if_held p H (is_used_up v) (answered (passes c p r) p h x false) (answered (set_semaphore (passes c p r) n (taken_from v)) p h x true)
        (answered_held (passes c p r) h x false so past) (answered_held (set_semaphore (passes c p r) n (taken_from v)) h x true so past)

    trywait_at_held : (x : Option Target) (n : Option ℕ) → StoresTarget P x → Left (sem_trywait_at (passes c p r) p h x n)
    trywait_at_held x None so = past
    trywait_at_held x (Some n) so = trywait_value_held x n (slice_get c.channels.semaphores n) so

    post_value_held : (n : ℕ) (ch : ChannelId) (v : Option ℕ) → Left (post_value (passes c p r) n ch v)
    post_value_held n ch None = past
    post_value_held n ch (Some v) = fire-held p H (set_semaphore (passes c p r) n (v + 1)) (channel_event event.Own ch) past

    post_at_held : (ch : ChannelId) (n : Option ℕ) → Left (post_at (passes c p r) ch n)
    post_at_held ch None = past
    post_at_held ch (Some n) = post_value_held n ch (slice_get c.channels.semaphores n)

    -- payloads, keepers and hops
    make_held : (n : NameUse) (e : Term) (x : Option Term) → StoresTo P n → IfOk (do_make c p r h n e x) Left
    make_held n e x so =
        if-ok p H (val h e) _ (λ v. if-ok p H (val_if h x) _ (λ w. if-ok p H (size_within 1 (bits v)) _ (λ y. if-ok p H (size_within 0 (size_or w)) _ (λ z. if-ok p H (may_make c) _ (λ ok.
        name_held (with_pool (passes c p r) (with_made c.transactions.pool y z)) h n _ so past)))))

    carry_held : (n : NameUse) (x : ℕ) → IfOk (do_carry c p r h n x) Left
    carry_held n x = if-ok p H (payload_number h n) _ (λ t. if-ok p H (live_payload c t) _ (λ q. memory_held p H (passes c p r) _ _ past))

    judged_held : (y : Statement) → statement_at (arena c) n ≡ Some y → (hop t : ℕ) (e : Entry) (f : Option ℕ) (args : List Value) (via : Via) (b : Option Rule) → IfOk (on_ok (judged_by c hop e t b) (λ z. Ok (enters_handler z p r n f args via))) Left
    judged_held y found hop t e None args via None = s
    judged_held y found hop t e (Some f) args via None = placed y (entered (arena c) f args (Some n) (Some via)) found (hops y f args via)
    judged_held y found hop t e f args via (Some rule) = tt

    b_held : (y : Statement) → statement_at (arena c) n ≡ Some y → (m d : NameUse) (end : Option (ℕ × Bool)) → IfOk (b_transport_on c p r h n m d end) Left
    b_held y found m d None = past
    b_held y found m d (Some end) =
        let f = blocking_handler (slice_get c.design.hops end.0) in
        if-ok p H (payload_number h m) _ (λ t. if-ok p H (live_payload c t) _ (λ x. if-ok p H (may_enter_handler r f) _ (λ ok.
        judged_held y found end.0 t (BCall t (is_some f)) f (value.Pay (Some t) ∷ value_named h d ∷ []) (record { hop = end.0; forward = true; blocking = true; payload = t }) (broken (history c end.0) (BCall t (is_some f))))))

    nb_held : (y : Statement) → statement_at (arena c) n ≡ Some y → (m phase d : NameUse) (end : Option (ℕ × Bool)) → IfOk (nb_transport_on c p r h n m phase d end) Left
    nb_held y found m phase d None = past
    nb_held y found m phase d (Some end) =
        let f = nonblocking_handler end.1 (slice_get c.design.hops end.0) in
        if-ok p H (payload_number h m) _ (λ t. if-ok p H (live_payload c t) _ (λ x. if-ok p H (may_enter_handler r f) _ (λ ok.
        let e = Call t (path_of_call end.1) (int_of (value_named h phase)) (is_complete x) (is_some f) in
        judged_held y found end.0 t e f (value.Pay (Some t) ∷ value_named h phase ∷ value_named h d ∷ []) (record { hop = end.0; forward = end.1; blocking = false; payload = t }) (broken (history c end.0) e))))

    -- spawned ones
    unless_new : (b : Bool) (n : ℕ) (x : Config) → Left x → Left (runnable_unless b n x)
    unless_new true n x z = z
    unless_new false n x z = z

    spawned_held : (x : SpawnTerm) (vs : List Value) → StoresIf P x.handle → Left (spawns (passes c p r) p h x vs)
    spawned_held x vs so =
        let old = passes c p r in
        let new = new_instance old h x vs in
        handle_held (runnable_unless x.dont_initialize (length old.processes.instances) (added old new)) h x.handle (length old.processes.instances) so
        (unless_new x.dont_initialize (length old.processes.instances) (added old new) (more_held p H old.processes.instances new bare past))

    spawn_held : (x : SpawnTerm) → StoresIf P x.handle → IfOk (do_spawn c p r h x) Left
    spawn_held x so = if-ok p H (first_arguments h (locals_in (body_at (arena c) x.function)) 0 x.arguments) _ (λ vs. if-ok p H (may_spawn c) _ (λ ok. spawned_held x vs so))

    control_form : (x : Control) (whom : Controlled) (all : Bool) → statement_at (arena c) n ≡ Some (code.control x whom all) → IfOk (do_control c p r h n x whom all) To
    control_form x whom false found = if-ok p F (target_of h p whom) _ (λ q. control_held p F a k (passes c p r) q x (weaker (passes c p r) past))
    control_form x whom true found = if-ok p F (target_of h p whom) _ (λ q. weaker (with_owed c p r n (targets c q p)) (placed (code.control x whom true) (batch n (targets c q p)) found (gives _ _ (move.controls x whom (targets c q p)))))

    throw_form : (whom : Controlled) (e : ℕ) (all : Bool) → statement_at (arena c) n ≡ Some (code.throw_it whom e all) → IfOk (do_throw_it c p r h n whom e all) To
    throw_form whom e false found = if-ok p F (target_of h p whom) _ (λ q. throw_held p F a k (passes c p r) code_is q e (weaker (passes c p r) past))
    throw_form whom e true found = if-ok p F (target_of h p whom) _ (λ q. weaker (with_owed c p r n (targets c q p)) (placed (code.throw_it whom e true) (batch n (targets c q p)) found (gives _ _ (move.throws whom e (targets c q p)))))

    thrown_if : (e : ℕ) (b : Bool) → IfOk (cond b (Ok (with_left (with_residual c p (raise (arena c) r e goal_of.Thrown)) (left_by_raise r e))) (Err (fault.Uncaught e))) To
    thrown_if e true = left_held p F (left_by_raise r e) _ (moved_held p F c p (raise (arena c) r e goal_of.Thrown) (λ same. subst (λ z. F (raise z r e goal_of.Thrown)) (sym code_is) (k.raises r e goal_of.Thrown tt (weak r here_so))) (weaker c s))
    thrown_if e false = tt

    -- calls, choices and loops
    call_held : (x : Option Target) (f : ℕ) (arguments : List ArgumentTerm) → statement_at (arena c) n ≡ Some (code.call x f arguments) → IfOk (do_call c p r h n f arguments) Left
    call_held x f arguments found =
        if-ok p H (argument_values h (locals_in (body_at (arena c) f)) 0 arguments) _
        (λ vs. if-ok p H (may_enter r) _ (λ ok. placed (code.call x f arguments) (entered (arena c) f vs (Some n) None) found (gives _ _ (move.calls x f arguments vs))))

    after_held : (n : ℕ) (e : Term) → IfOk (do_notify_after c p r h n e) Left
    after_held n e = if-ok p H (val h e) _ (λ v. if-ok p H (when_after c.cycle.now (moment v)) _ (λ w. event_held (event_number (denotes h n)) (λ x. notify (passes c p r) x w) (λ x. past)))

    acquire_held : (n : NameUse) → IfOk (do_acquire c p r h n) Left
    acquire_held n = if-ok p H (payload_number h n) _ (λ t. if-ok p H (live_payload c t) _ (λ x. past))

    release_held : (n : NameUse) → IfOk (do_release c p r h n) Left
    release_held n = if-ok p H (payload_number h n) _ (λ t. if-ok p H (live_payload c t) _ (λ x. past))

    global_held : (e : Term) → IfOk (do_qk_global c p r h e) Left
    global_held e = if-ok p H (val h e) _ (λ v. past)

    return_held : (e : Option Term) → IfOk (do_return c p r h e) To
    return_held e = if-ok p F (val_if h e) _ (λ v. moved_held p F c p (returned (cut_answer (answer_type (arena c) (innermost r)) v) r) (λ same. returns (cut_answer (answer_type (arena c) (innermost r)) v)) (weaker c s))

    if_form : (e : Term) (b : ℕ) (o : Option ℕ) → statement_at (arena c) n ≡ Some (code.if_ e b o) → IfOk (do_if c p r h e b o) Left
    if_form e b o found = if-ok p H (val h e) _ (λ v. placed (code.if_ e b o) (chosen c (truth v) b o) found (gives _ _ (move.chooses e b o (truth v))))

    while_form : (e : Term) (b : ℕ) → statement_at (arena c) n ≡ Some (code.while_ e b) → IfOk (do_while c p r h n e b) Left
    while_form e b found = if-ok p H (val h e) _ (λ v. placed (code.while_ e b) (looped c (truth v) n b) found (gives _ _ (move.loops e b (truth v))))

    pub form-held : (i : Instance) (x : Statement) → statement_at (arena c) n ≡ Some x → OnlyStores P x → IfOk (do_statement c p i r h n x) To
    form-held i (code.var m y e) found so = weakly (do_statement c p i r h n (code.var m y e)) (var_held m y e so)
    form-held i (code.assign d e) found so = weakly (do_statement c p i r h n (code.assign d e)) (assign_held d e so)
    form-held i (code.call x f arguments) found so = weakly (do_statement c p i r h n (code.call x f arguments)) (call_held x f arguments found)
    form-held i (code.read x ch) found so = weakly (do_statement c p i r h n (code.read x ch)) (on_channel ch (λ y. read_fifo c p r h x y (fifo_here c y)) (λ y. read_fifo_held x y (fifo_here c y) so))
    form-held i (code.nb_read x ch y) found so = weakly (do_statement c p i r h n (code.nb_read x ch y)) (on_channel ch (λ z. nb_read_fifo c p r h x y z (fifo_here c z)) (λ z. nb_read_fifo_held x y z (fifo_here c z) so.0 so.1))
    form-held i (code.nb_write x ch y e) found so = weakly (do_statement c p i r h n (code.nb_write x ch y e)) (nb_write_held x ch y e so)
    form-held i (code.trylock x ch) found so = weakly (do_statement c p i r h n (code.trylock x ch)) (on_channel ch (λ y. trylock_at (passes c p r) p h x (mutex_of y)) (λ y. trylock_at_held x (mutex_of y) so))
    form-held i (code.unlock x ch) found so = weakly (do_statement c p i r h n (code.unlock x ch)) (on_channel ch (λ y. unlock_at (passes c p r) p h x y (mutex_of y)) (λ y. unlock_at_held x y (mutex_of y) so))
    form-held i (code.sem_trywait x ch) found so = weakly (do_statement c p i r h n (code.sem_trywait x ch)) (on_channel ch (λ y. sem_trywait_at (passes c p r) p h x (semaphore_of y)) (λ y. trywait_at_held x (semaphore_of y) so))
    form-held i (code.nb_transport y socket m phase d) found so = weakly (do_statement c p i r h n (code.nb_transport y socket m phase d)) (nb_held (code.nb_transport y socket m phase d) found m phase d (socket_of (denotes h socket)))
    form-held i (code.write ch y e) found so = weakly (do_statement c p i r h n (code.write ch y e)) (write_held ch y e)
    form-held i (code.print text e) found so = weakly (do_statement c p i r h n (code.print text e)) (print_held i text e)
    form-held i (code.notify m) found so = weakly (do_statement c p i r h n (code.notify m)) (event_held (event_number (denotes h m)) (notified_now (passes c p r)) (λ e. fire-held p H (notify (passes c p r) e when.Immediate) (ev.Fixed e) past))
    form-held i (code.notify_delta m) found so = weakly (do_statement c p i r h n (code.notify_delta m)) (event_held (event_number (denotes h m)) (λ e. notify (passes c p r) e when.Delta) (λ e. past))
    form-held i (code.notify_after m e) found so = weakly (do_statement c p i r h n (code.notify_after m e)) (after_held m e)
    form-held i (code.cancel m) found so = weakly (do_statement c p i r h n (code.cancel m)) (event_held (event_number (denotes h m)) (cancelled (passes c p r)) (λ e. past))
    form-held i (code.wait w) found so = weakly (do_statement c p i r h n (code.wait w)) (wait_held w)
    form-held i (code.next_trigger w) found so = weakly (do_statement c p i r h n (code.next_trigger w)) (trigger_held w)
    form-held i (code.lock ch) found so = weakly (do_statement c p i r h n (code.lock ch)) (on_channel ch (λ y. lock_at c p r y (mutex_of y)) (λ y. lock_at_held y (mutex_of y)))
    form-held i (code.sem_wait ch) found so = weakly (do_statement c p i r h n (code.sem_wait ch)) (on_channel ch (λ y. sem_wait_at c p r y (semaphore_of y)) (λ y. sem_at_held y (semaphore_of y)))
    form-held i (code.post ch) found so = weakly (do_statement c p i r h n (code.post ch)) (on_channel ch (λ y. post_at (passes c p r) y (semaphore_of y)) (λ y. post_at_held y (semaphore_of y)))
    form-held i (code.make m e x) found so = weakly (do_statement c p i r h n (code.make m e x)) (make_held m e x so)
    form-held i (code.acquire m) found so = weakly (do_statement c p i r h n (code.acquire m)) (acquire_held m)
    form-held i (code.release m) found so = weakly (do_statement c p i r h n (code.release m)) (release_held m)
    form-held i (code.carry m x) found so = weakly (do_statement c p i r h n (code.carry m x)) (carry_held m x)
    form-held i (code.b_transport socket m d) found so = weakly (do_statement c p i r h n (code.b_transport socket m d)) (b_held (code.b_transport socket m d) found m d (socket_of (denotes h socket)))
    form-held i (code.qk_global e) found so = weakly (do_statement c p i r h n (code.qk_global e)) (global_held e)
    form-held i (code.spawn x) found so = weakly (do_statement c p i r h n (code.spawn x)) (spawn_held x so)
    form-held i (code.control x whom all) found so = control_form x whom all found
    form-held i (code.throw_it whom e all) found so = throw_form whom e all found
    form-held i (code.throw e) found so = thrown_if e (catches r e)
    form-held i (code.return_ e) found so = return_held e
    form-held i code.stop found so = weakly (do_statement c p i r h n code.stop) past
    form-held i (code.if_ e b o) found so = weakly (do_statement c p i r h n (code.if_ e b o)) (if_form e b o found)
    form-held i (code.while_ e b) found so = weakly (do_statement c p i r h n (code.while_ e b)) (while_form e b found)
    form-held i (code.guard b u) found so = weakly (do_statement c p i r h n (code.guard b u)) (placed (code.guard b u) (guard (block (arena c) b) c.trace.next_guard u) found (guards b u c.trace.next_guard))
    form-held i (code.try_ b handlers) found so = weakly (do_statement c p i r h n (code.try_ b handlers)) (placed (code.try_ b handlers) (try_ (block (arena c) b) handlers) found (gives _ _ (move.tries b handlers)))
    form-held i other found so = weakly (do_statement c p i r h n other) (search (if-ok p H, on_keeper_held p H, kept_held p H, keeper_held p H, past))
