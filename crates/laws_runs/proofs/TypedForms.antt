-- One statement of the instance on top of the stack, by its form: everything stays typed.
use Rattle.std.proofs.Common.{◌≡◌, ◌+◌, ◌≤◌, ℕ, zero, suc, Bool, true, false, cond, List, [], ◌∷◌, length, map, Contains, slice_get, slice_set, option_map, unwrap_or, Option, Some, None, refl, sym, ap, ◌∙◌, subst, arith, ⊎_elim, inl, inr}
use Rattle.std.specs.Prelude.{◌⊎◌, Result, Ok, Err, IfOk, is_some, nat_le, ◌&&◌, ◌==◌}
use Rattle.std.proofs.lemmas.Option.{none-some, same_Some}
use Rattle.std.proofs.lemmas.Bool.Decides.{nat_tests}
use Rattle.sim_model.specs.LogicValues.declared.kinds.Value.{Value}
use Rattle.sim_model.specs.LogicValues.declared.kinds.Value.TheVariants as value
use Rattle.sim_model.specs.EventCore.declared.event.Ev.{Ev}
use Rattle.sim_model.specs.EventCore.declared.event.Ev.TheVariants as ev
use Rattle.sim_model.specs.EventCore.declared.notifications.When.TheVariants as when
use Rattle.sim_model.specs.SignalChannel.Signals.{written, conflict_of}
use Rattle.sim_model.specs.SignalChannel.declared.signal.Signal.{Signal}
use Rattle.sim_model.specs.SignalChannel.declared.signal.WriterConflict.{WriterConflict}
use Rattle.sim_model.specs.FifoSync.Locks.{answer, is_unlocked, is_owner, locked_by, unlocked_by, is_used_up}
use Rattle.sim_model.specs.FifoSync.Fifos.{Queued, free, readable, after_read, after_write}
use Rattle.sim_model.specs.QuantumKeeper.declared.keeper.Keeper.{Keeper}
use Rattle.sim_model.specs.PayloadPool.declared.payload.Payload.{Payload}
use Rattle.sim_model.specs.ModelTree.declared.statements.Control.{Control}
use Rattle.sim_model.specs.FlatDesign.Code as code
use Rattle.sim_model.specs.FlatDesign.Code.{Term, DestinationTerm, AwaitTerm, ArgumentTerm, SpawnTerm, ChannelTerm, Statement, block_at, statement_at, body_at}
use Rattle.sim_model.specs.FlatDesign.Denotes.{type_of_variable, Context, variable_type}
use Rattle.sim_model.specs.FlatDesign.Typed.{Gives, Stores, IfWritten, UsesAs, ChannelOffers, IsTyped, parameters_of, IsFunctionHere, IsReturned, IsDestination, IsMemory}
use Rattle.sim_model.specs.FlatDesign.Reach.{inner_blocks}
use Rattle.sim_model.specs.Clean.{EachInBlock, EachInHandlers}
use Rattle.sim_model.specs.FlatDesign.Sound.{SoundDesign, IsHomeOf, IsHandler, HandlerFits, HasParameters, blocking_parameters, nonblocking_parameters}
use Rattle.sim_model.specs.FlatDesign.declared.value_types.ValueType.{ValueType}
use Rattle.sim_model.specs.FlatDesign.declared.value_types.ValueType.TheVariants as type
use Rattle.sim_model.specs.FlatDesign.declared.names.NameUse.{NameUse}
use Rattle.sim_model.specs.FlatDesign.declared.names.NameUse.TheVariants as name_use
use Rattle.sim_model.specs.FlatDesign.declared.objects.LeadsTo.{LeadsTo}
use Rattle.sim_model.specs.FlatDesign.declared.objects.LeadsTo.TheVariants as leads
use Rattle.sim_model.specs.FlatDesign.declared.code.Handler.{Handler}
use Rattle.sim_model.specs.FlatDesign.declared.code.Controlled.{Controlled}
use Rattle.sim_model.specs.FlatDesign.declared.code.CodeBody.{CodeBody}
use Rattle.sim_model.specs.FlatDesign.declared.code.Local.{Local}
use Rattle.sim_model.specs.FlatDesign.declared.code.Store.{Store as Target}
use Rattle.sim_model.specs.FlatDesign.declared.design.SignalPart.{SignalPart}
use Rattle.sim_model.specs.FlatDesign.declared.design.FifoPart.{FifoPart}
use Rattle.sim_model.specs.FlatDesign.declared.design.ChannelId.{ChannelId}
use Rattle.sim_model.specs.FlatDesign.declared.design.ChannelId.TheVariants as channel
use Rattle.sim_model.specs.FlatDesign.declared.design.Hop.{Hop}
use Rattle.sim_model.specs.FlatDesign.declared.design.Denoted.{Denoted}
use Rattle.sim_model.specs.FlatDesign.declared.design.Denoted.TheVariants as denoted
use Rattle.sim_model.specs.TransportPhases.History.{Entry, Call, BCall, broken}
use Rattle.sim_model.specs.TransportPhases.declared.phases.Rule.{Rule}
use Rattle.sim_model.specs.declared.plain.Via.{Via}
use Rattle.sim_model.specs.Statements.{do_statement}
use Rattle.laws_runs.proofs.TypedNames.{variable-type}
use Rattle.sim_model.specs.FlatDesign.declared.design.Design.{Design}
use Rattle.sim_model.specs.FlatDesign.declared.faults.RunFault.{RunFault}
use Rattle.sim_model.specs.FlatDesign.declared.faults.RunFault.TheVariants as fault
use Rattle.sim_model.specs.FlatDesign.declared.names.EventMember.TheVariants as event
use Rattle.sim_model.specs.LogicValues.Integers.{bits_of}
use Rattle.sim_model.specs.Payloads.{with_made, with_acquired, with_released, with_payload}
use Rattle.sim_model.specs.PayloadPool.Transfer.{memory_after, carried}
use Rattle.sim_model.specs.Values.{on_ok, bits, moment, signed, cut_to, index_within}
use Rattle.sim_model.specs.Residual.{Residual, Frame, skip, batch, guard, try_, followed, block, entered, put, innermost, next_of, statement}
use Rattle.sim_model.specs.Unwinding.{returned}
use Rattle.sim_model.specs.Configuration.{Config, Instance, Wait, waits_for_any, Deadline, no_deadline, change_instance, instance_at, with_residual}
use Rattle.sim_model.specs.Reading.{far_home, read_denoted, Here, here, denotes, val, val_if, place_in, payload_number, live_payload, memory_number, memory_here}
use Rattle.sim_model.specs.Storing.{passes, set_name, stored, stored_if, set_memory, set_payload, low_byte, with_field, with_byte, first_value, chosen, looped, do_var, do_assign, do_print, do_if, do_while}
use Rattle.sim_model.specs.Waits.{notify, waits, fire}
use Rattle.sim_model.specs.Waiting.{channel_event, awaited, when_after, cancelled, on_event, event_number, notified_now, do_wait, do_next_trigger, do_notify, do_notify_delta, do_notify_after, do_cancel}
use Rattle.sim_model.specs.Channels.{mutex_of, semaphore_of, element, set_fifo, taken_from, blocks, written_unless, write_signal, write_fifo, write_channel, channel_in, do_write, fifo_of, fifo_here, with_fifo, read_value, read_fifo, do_read, nb_read_value, nb_read_fifo, do_nb_read, nb_write_fifo, do_nb_write, answered, set_mutex, set_semaphore, lock_mutex, lock_at, trylock_mutex, trylock_at, unlock_mutex, unlock_at, sem_wait_value, sem_wait_at, sem_trywait_value, sem_trywait_at, post_value, post_at}
use Rattle.sim_model.specs.Calls.{thrown, argument_values, locals_in, may_enter, answer_in, answer_type, cut_answer, do_call, do_return, do_guard, do_try, new_instance, added, runnable_unless, handle_stored, first_arguments, may_spawn, do_spawn}
use Rattle.sim_model.specs.Transport.{socket_of, may_enter_handler, value_or, value_named, int_of, path_of_call, is_complete, history, judged_by, enters_handler, blocking_handler, nonblocking_handler, b_transport_on, nb_transport_on, may_make, size_within, size_or, with_pool, do_make, do_acquire, do_release, do_carry, kept, on_keeper, do_qk_global, with_keeper}
use Rattle.sim_model.specs.Control.{target_of, targets, with_owed, control_call, throw_call, do_control, do_throw_it}
use Rattle.laws_runs.proofs.Changes.{change-here}
use Rattle.laws_runs.specs.Standing.{code_of, place_of, IsStanding}
use Rattle.laws_runs.specs.Contents.{Pairwise, IsOf, LocalFits, SignalFits, FifoFits, PayloadFits, context_of}
use Rattle.laws_runs.proofs.TypedLists.{pair-at}
use Rattle.laws_runs.proofs.TypedNames.{OffersOf, channel-offers}
use Rattle.laws_runs.specs.Frames.{IsInside, Calls, AnswerFits, LeftFits, InstanceFits}
use Rattle.laws_runs.specs.TypedConfig.{HasValues, TypesHaveValues}
use Rattle.laws_runs.proofs.EachLists.{each-get, each-more}
use Rattle.laws_runs.proofs.TypedLeft.{number_or, put-fits, past-fits, statements-fit}
use Rattle.laws_runs.proofs.TypedUnwound.{past-inner}
use Rattle.laws_runs.proofs.Returns.{standing-quiet, returned-fits}
use Rattle.laws_runs.proofs.Bodies.{default-type, inner-inside, entered-fits}
use Rattle.laws_runs.proofs.TypedMoves.{if-any, if-is, Fits, same-fits, fire-fits, residual-fits, FitsHere, fire-in, more-in, name-in}
use Rattle.laws_runs.proofs.TypedParts.{live-fits, payload-written, payload-acquired, payload-released, payload-made, field-written, byte-written, payload-carried, memory-carried, memory-bytes, oldest-fits, read-fits, write-fits, signal-fits, drive-fits, fifo-fits, mutex-fits, semaphore-fits, pool-fits, memory-fits, memory-here, keeper-fits}
use Rattle.laws_runs.proofs.Arguments.{OfFirst, handler-fits, store-type, follows, cut-value, arguments-fit, first-arguments}
use Rattle.laws_runs.proofs.TypedControls.{control-fits, throw-fits, thrown-fits}
use Rattle.laws_runs.proofs.Place.{InPlace, StatementFits, left-here, statement-fits}

module _ (c : Config) (p : ℕ) (i : Instance) (at : instance_at c p ≡ Some i) (r : Residual) (is : i.residual ≡ r) (sound : SoundDesign c.design) (types : TypesHaveValues c.design) (k : Fits c.design c)
    (standing : IsStanding c.design i.home r) (n : ℕ) (next : next_of r ≡ statement n) where
  abbrev d : Design
  d = c.design

  abbrev h : Here
  h = here c p i r

  abbrev home : ℕ
  home = place_of c.design i.home r

  left : LeftFits d None i.home r
  left = left-here c p i r k at is

  stands : StatementFits c p i r n
  stands = statement-fits c p i r n sound k left next

  module _ (place : InPlace c p i r) (inside : IsInside d (Some place.number) n) where
    abbrev f : ℕ
    f = place.number

    abbrev b : CodeBody
    b = place.body

    abbrev ctx : Context
    ctx = context_of place.body.locals (here c p i r)

    abbrev G : Config → Type 0
    G = FitsHere c.design p place.number

    -- ---- what comes in the place of the statement

    residual_here : (x : Residual) → LeftFits d None i.home x → Fits d (with_residual c p x)
    residual_here x fits = residual-fits d c p x (λ j there h. subst (λ (y : Instance). LeftFits d None y.home x) (same_Some i j (sym at ∙ there)) fits) k

    new_fits : (x : Residual) → LeftFits d (Some f) home x → Fits d (with_residual c p (put r x))
    new_fits x fits = residual_here (put r x) (put-fits d None i.home r x n left next (subst (λ o. LeftFits d o home x) (sym place.inside) fits))

    passed : G (passes c p r)
    passed = (
      residual_here (put r skip) (past-fits d None i.home r left),
      (record i { residual = put r skip }, change-here c.processes.instances p (λ j. record j { residual = put r skip }) i at, past-inner None r n next ∙ place.inside),
    )

    -- ---- values that are stored

    cut : (e : Term) (t : ValueType) → Gives ctx e t → IfOk (val h e) (λ v. IsOf t (cut_to t v))
    cut e t g = cut-value h sound b.locals place.place_fits e t g

    name-kept : (e : Config) (m : NameUse) (t : ValueType) (v : Value) → variable_type ctx m ≡ Some t → IsOf t v → G e → G (set_name e p h m v)
    name-kept e m t v is_ typed g = name-in d p f b place.found h refl e m t v is_ typed g

    stored-kept : (e : Config) (target : Target) (s : ValueType) (v : Value) → Stores ctx s target → IsOf s v → G e → G (stored e p h target v)
    stored-kept e target s v fits typed g = name-kept e target.name target.value_type (cut_to target.value_type v) fits.0 (store-type target.value_type s v fits.1 typed) g

    stored_if-kept : (e : Config) (x : Option Target) (s : ValueType) (v : Value) → IfWritten (Stores ctx s) x → IsOf s v → G e → G (stored_if e p h x v)
    stored_if-kept e None s v fits typed g = g
    stored_if-kept e (Some target) s v fits typed g = stored-kept e target s v fits typed g

    cond-kept : (t : Bool) (e1 e2 : Config) → Fits d e1 → Fits d e2 → Fits d (cond t e1 e2)
    cond-kept true e1 e2 one two = one
    cond-kept false e1 e2 one two = two

    -- ---- data

    first : (m : ℕ) (t : ValueType) (e : Option Term) → (l : Local) → slice_get b.locals m ≡ Some l → l.value_type ≡ t → IfWritten (λ x. Gives ctx x t) e → IfOk (val_if h e) (λ o. IsOf t (first_value t o))
    first m t None l there same typed = default-type t (subst HasValues same (each-get (λ (q : Local). HasValues q.value_type) b.locals m l (types.bodies f b place.found).locals there))
    first m t (Some e) l there same typed = if-is (λ o. IsOf t (first_value t o)) (λ v. IsOf t (cut_to t v)) (val h e) _ (cut e t typed) (λ v ok. ok)

    var-fits : (m : ℕ) (t : ValueType) (e : Option Term) → IsTyped (code_of d) b.module_place b.answer ctx (code.var m t e) → IfOk (do_var c p r h m t e) (Fits d)
    var-fits m t e typed =
        if-is (Fits d) (λ o. IsOf t (first_value t o)) (val_if h e) _ (first m t e typed.0.0 typed.0.1 typed.0.2 typed.1)
        (λ o ok. (name-kept (passes c p r) (name_use.Local m) t (first_value t o) (ap (option_map (λ (l : Local). l.value_type)) typed.0.1 ∙ ap Some typed.0.2) ok passed).0)

    payload_set : (e : Config) (t : ℕ) (q : Payload) → PayloadFits q → G e → Fits d (set_payload e t q)
    payload_set e t q fits g = pool-fits d e _ (payload-written e.transactions.pool t q fits g.0.1.payloads) g.0

    assign-fits : (to : DestinationTerm) (e : Term) → IsDestination ctx to e → IfOk (do_assign c p r h to e) (Fits d)
    assign-fits (code.to_name target) e typed =
        if-is (Fits d) (λ v. IsOf target.value_type (cut_to target.value_type v)) (val h e) _ (cut e target.value_type typed.1)
        (λ v ok. (name-kept (passes c p r) target.name target.value_type (cut_to target.value_type v) typed.0 ok passed).0)
    assign-fits (code.to_field m x) e typed =
        if-any (Fits d) (val h e) _ (λ v. if-any (Fits d) (payload_number h m) _ (λ t. if-is (Fits d) PayloadFits (live_payload c t) _ (live-fits c t k.1.payloads) (λ q fits. payload_set (passes c p r) t (with_field x v q) (field-written x v q fits) passed)))
    assign-fits (code.to_element m index) e typed =
        if-any (Fits d) (val h index) _ (λ y. if-any (Fits d) (val h e) _ (λ v. if-any (Fits d) (index_within (bits y) (length (memory_here h m))) _ (λ j.
        memory-fits d (passes c p r) (memory_number (denotes h m)) (slice_set (memory_here h m) j (low_byte v))
        (λ o x there found. memory-bytes x (memory_here h m) j v (memory-here d c (memory_number (denotes h m)) o x k there found)) passed.0)))
    assign-fits (code.to_payload_byte m x index) e typed =
        if-any (Fits d) (val h index) _ (λ y. if-any (Fits d) (val h e) _ (λ v. if-any (Fits d) (payload_number h m) _ (λ t. if-is (Fits d) PayloadFits (live_payload c t) _ (live-fits c t k.1.payloads) (λ q fits. if-any (Fits d) (index_within (bits y) _) _ (λ j.
        payload_set (passes c p r) t (with_byte x j (low_byte v) q) (byte-written x j v q fits) passed)))))

    print-fits : (text : List ℕ) (e : Option Term) → IfOk (do_print c p i r h text e) (Fits d)
    print-fits text e = if-any (Fits d) (val_if h e) _ (λ v. passed.0)

    -- ---- choices, loops, guards and tries

    block_fits : (j : ℕ) (s : Statement) → statement_at (code_of d) n ≡ Some s → Contains (inner_blocks s) j → LeftFits d (Some f) home (block (code_of d) j)
    block_fits j s found inner_ = statements-fit d (Some f) home (block_at (code_of d) j) (inner-inside d (Some f) n j s inside found inner_)

    chosen_fits : (e : Term) (j : ℕ) (other : Option ℕ) → statement_at (code_of d) n ≡ Some (code.if_ e j other) → (v : Bool) → Fits d (with_residual c p (put r (chosen c v j other)))
    chosen_fits e j other found true = new_fits (block (code_of d) j) (block_fits j (code.if_ e j other) found (zero, omega arith, refl))
    chosen_fits e j None found false = new_fits skip tt
    chosen_fits e j (Some o) found false = new_fits (block (code_of d) o) (block_fits o (code.if_ e j (Some o)) found (suc zero, omega arith, refl))

    if-fits : (e : Term) (j : ℕ) (other : Option ℕ) → statement_at (code_of d) n ≡ Some (code.if_ e j other) → IfOk (do_if c p r h e j other) (Fits d)
    if-fits e j other found = if-any (Fits d) (val h e) _ (λ v. chosen_fits e j other found _)

    looped_fits : (e : Term) (j : ℕ) → statement_at (code_of d) n ≡ Some (code.while_ e j) → (v : Bool) → Fits d (with_residual c p (put r (looped c v n j)))
    looped_fits e j found true = new_fits (followed (block (code_of d) j) (n ∷ [])) (block_fits j (code.while_ e j) found (zero, omega arith, refl), (inside, tt))
    looped_fits e j found false = new_fits skip tt

    while-fits : (e : Term) (j : ℕ) → statement_at (code_of d) n ≡ Some (code.while_ e j) → IfOk (do_while c p r h n e j) (Fits d)
    while-fits e j found = if-any (Fits d) (val h e) _ (λ v. looped_fits e j found _)

    guard-fits : (j u : ℕ) → statement_at (code_of d) n ≡ Some (code.guard j u) → IfOk (do_guard c p r j u) (Fits d)
    guard-fits j u found =
        new_fits (guard (block (code_of d) j) c.trace.next_guard u) (block_fits j (code.guard j u) found (zero, omega arith, refl), inner-inside d (Some f) n u (code.guard j u) inside found (suc zero, omega arith, refl))

    handlers_each : (handlers : List Handler) → ((j : ℕ) → Contains (map (λ (x : Handler). x.block) handlers) j → EachInBlock (IsInside d (Some f)) (code_of d) j) → EachInHandlers (IsInside d (Some f)) (code_of d) handlers
    handlers_each [] each = tt
    handlers_each (x ∷ xs) each = (each x.block (zero, omega arith, refl), handlers_each xs (λ j c. each j (let within = c.1 in (suc c.0, omega (arith, within), c.2))))

    try-fits : (j : ℕ) (handlers : List Handler) → statement_at (code_of d) n ≡ Some (code.try_ j handlers) → IfOk (do_try c p r j handlers) (Fits d)
    try-fits j handlers found =
        new_fits (try_ (block (code_of d) j) handlers) (
          block_fits j (code.try_ j handlers) found (zero, omega arith, refl),
          handlers_each handlers (λ m c. let within = c.1 in inner-inside d (Some f) n m (code.try_ j handlers) inside found (suc c.0, omega (arith, within), c.2)),
        )

    -- ---- calls and returns

    function_home : (g : ℕ) (cb : CodeBody) → IsFunctionHere (code_of d) b.module_place g cb → IsHomeOf d home cb
    function_home g cb fh = record { instance = place.home_of.instance; found = place.home_of.found; same = place.home_of.same ∙ sym fh.here }

    call-fits : (x : Option Target) (g : ℕ) (arguments : List ArgumentTerm) → statement_at (code_of d) n ≡ Some (code.call x g arguments) → IsTyped (code_of d) b.module_place b.answer ctx (code.call x g arguments)
        → IfOk (do_call c p r h n g arguments) (Fits d)
    call-fits x g arguments found typed =
        let cb = typed.0 in
        let fh = typed.1 in
        if-is (Fits d) (Pairwise LocalFits (parameters_of cb)) (argument_values h (locals_in (body_at (code_of d) g)) 0 arguments) _
        (subst (λ m. IfOk (argument_values h (locals_in m) 0 arguments) (Pairwise LocalFits (parameters_of cb))) (sym fh.found)
        (arguments-fit h sound b.locals place.place_fits cb.locals 0 (parameters_of cb) arguments (follows cb.locals cb.parameters) typed.2))
        (λ vs fits. if-any (Fits d) (may_enter r) _ (λ ok.
        new_fits (entered (code_of d) g vs (Some n) None)
        (entered-fits d (Some f) home g cb vs (Some n) None fh.found (function_home g cb fh) tt (types.bodies g cb fh.found) fits (inside, subst (λ s. Calls s g cb) (sym found) refl))))

    answered_value : (answer : Option ValueType) (e : Option Term) → IsReturned ctx answer e → IfOk (val_if h e) (λ v. AnswerFits answer (cut_answer answer v))
    answered_value None None typed = tt
    answered_value None (Some e) typed = absurd typed
    answered_value (Some t) None typed = absurd typed
    answered_value (Some t) (Some e) typed = if-is (λ v. AnswerFits (Some t) (cut_answer (Some t) v)) (λ v. IsOf t (cut_to t v)) (val h e) _ (cut e t typed) (λ v ok. ok)

    body_answer : answer_type (code_of d) (innermost r) ≡ b.answer
    body_answer = at_frame (innermost r) refl
      where
        at_frame : (o : Option Frame) → innermost r ≡ o → answer_type (code_of d) o ≡ b.answer
        at_frame None e = absurd (none-some f (sym (ap (number_or None) e) ∙ place.inside))
        at_frame (Some x) e = ap answer_in (ap (body_at (code_of d)) (same_Some x.body f (sym (ap (number_or None) e) ∙ place.inside)) ∙ place.found)

    return-fits : (e : Option Term) → IsReturned ctx b.answer e → IfOk (do_return c p r h e) (Fits d)
    return-fits e typed =
        if-is (Fits d) (λ v. AnswerFits b.answer (cut_answer b.answer v)) (val_if h e) _ (answered_value b.answer e typed)
        (λ v fits. residual_here (returned (cut_answer (answer_type (code_of d) (innermost r)) v) r)
        (subst (λ a. LeftFits d None i.home (returned (cut_answer a v) r)) (sym body_answer)
        (returned-fits d f b place.found (cut_answer b.answer v) fits n None i.home r (standing-quiet c.design i.home r standing) left next place.inside)))

    throw-form : (e : ℕ) → IfOk (thrown c p r e) (Fits d)
    throw-form e = thrown-fits d c refl k p i at r e is

    owed_fits : (q : ℕ) → Fits d (with_owed c p r n (targets c q p))
    owed_fits q = new_fits (batch n (targets c q p)) inside

    control-form : (x : Control) (who : Controlled) (all : Bool) → IfOk (do_control c p r h n x who all) (Fits d)
    control-form x who true = if-any (Fits d) (target_of h p who) (λ q. Ok (with_owed c p r n (targets c q p))) owed_fits
    control-form x who false = if-any (Fits d) (target_of h p who) (λ q. control_call (passes c p r) q x) (λ q. control-fits d (passes c p r) refl passed.0 q x)

    throw_it-form : (who : Controlled) (e : ℕ) (all : Bool) → IfOk (do_throw_it c p r h n who e all) (Fits d)
    throw_it-form who e true = if-any (Fits d) (target_of h p who) (λ q. Ok (with_owed c p r n (targets c q p))) owed_fits
    throw_it-form who e false = if-any (Fits d) (target_of h p who) (λ q. throw_call (passes c p r) q e) (λ q. throw-fits d (passes c p r) refl passed.0 q e)

    -- ---- waits and events

    waits-kept : (e : Config) (w : Wait) (t : Deadline) → Fits d e → Fits d (waits e p w t)
    waits-kept e w t g = same-fits d e p (λ j. record j { wait = w; deadline = t }) (λ j. record { home = refl; code = refl; arguments = refl; residual = refl }) g

    blocked : (e : Ev) → Fits d (blocks c p r e)
    blocked e = waits-kept (with_residual c p r) (waits_for_any (e ∷ [])) no_deadline (residual_here r left)

    wait-fits : (w : AwaitTerm) → IfOk (do_wait c p r h w) (Fits d)
    wait-fits w = if-any (Fits d) (awaited h w) (λ t. Ok (waits (passes c p r) p t.wait t.deadline)) (λ t. waits-kept (passes c p r) t.wait t.deadline passed.0)

    next_trigger-fits : (w : AwaitTerm) → IfOk (do_next_trigger c p r h w) (Fits d)
    next_trigger-fits w = if-any (Fits d) (awaited h w) (λ t. Ok (change_instance (passes c p r) p (λ j. record j { trigger = Some t }))) (λ t. same-fits d (passes c p r) p (λ j. record j { trigger = Some t }) (λ j. record { home = refl; code = refl; arguments = refl; residual = refl }) passed.0)

    event_fits : (e : Option ℕ) (g : ℕ → Config) → ((x : ℕ) → Fits d (g x)) → Fits d (on_event (passes c p r) e g)
    event_fits None g each = passed.0
    event_fits (Some e) g each = each e

    notify-fits : (m : ℕ) → IfOk (do_notify c p r h m) (Fits d)
    notify-fits m = event_fits (event_number (denotes h m)) (notified_now (passes c p r)) (λ e. fire-fits d (notify (passes c p r) e when.Immediate) (ev.Fixed e) passed.0)

    notify_delta-fits : (m : ℕ) → IfOk (do_notify_delta c p r h m) (Fits d)
    notify_delta-fits m = event_fits (event_number (denotes h m)) (λ e. notify (passes c p r) e when.Delta) (λ e. passed.0)

    notify_after-fits : (m : ℕ) (e : Term) → IfOk (do_notify_after c p r h m e) (Fits d)
    notify_after-fits m e =
        if-any (Fits d) (val h e) (λ v. on_ok (when_after c.cycle.now (moment v)) (λ w. Ok (on_event (passes c p r) (event_number (denotes h m)) (λ x. notify (passes c p r) x w))))
        (λ v. if-any (Fits d) (when_after c.cycle.now (moment v)) (λ w. Ok (on_event (passes c p r) (event_number (denotes h m)) (λ x. notify (passes c p r) x w)))
        (λ w. event_fits (event_number (denotes h m)) (λ x. notify (passes c p r) x w) (λ x. passed.0)))

    cancel-fits : (m : ℕ) → IfOk (do_cancel c p r h m) (Fits d)
    cancel-fits m = event_fits (event_number (denotes h m)) (cancelled (passes c p r)) (λ e. passed.0)

    -- ---- channels

    channel-kept : (t : ChannelTerm) (j : Option ℕ) (wanted : LeadsTo) → UsesAs ctx t wanted → IfOk (channel_in h t j) (OffersOf d wanted)
    channel-kept t j wanted uses = channel-offers d sound (denotes h t.channel_name) j wanted (sound.names h.home t.channel_name) uses.0

    unless_fits : (m : ℕ) (s : Signal) (v : Value) (w : Option WriterConflict) → ((x : SignalPart) → slice_get d.signals m ≡ Some x → SignalFits x (written (Some p) v s)) → IfOk (written_unless (passes c p r) m s v p w) (Fits d)
    unless_fits m s v None fits = signal-fits d (passes c p r) m (written (Some p) v s) fits passed.0
    unless_fits m s v (Some w) fits = tt

    signal_written : (m : ℕ) (t : ValueType) (v : Value) (q : SignalPart) → slice_get d.signals m ≡ Some q → q.value_type ≡ t → IsOf t v → (o : Option Signal) → slice_get c.channels.signals m ≡ o → IfOk (write_signal (passes c p r) m v p o) (Fits d)
    signal_written m t v q found same typed None there = passed.0
    signal_written m t v q found same typed (Some s) there =
        unless_fits m s v (conflict_of (Some p) s.writer)
        (λ x at_. ((pair-at SignalFits d.signals c.channels.signals m x s k.1.signals at_ there).0, typed ∙ sym same ∙ ap (λ (y : SignalPart). y.value_type) (same_Some q x (sym found ∙ at_))))

    queue_fits : (m : ℕ) (t : ValueType) (q : FifoPart) → slice_get d.fifos m ≡ Some q → q.value_type ≡ t → (y z : Queued) → slice_get c.channels.fifos m ≡ Some y → ((x : FifoPart) → x.value_type ≡ t → FifoFits x y → FifoFits x z)
        → (x : FifoPart) → slice_get d.fifos m ≡ Some x → FifoFits x z
    queue_fits m t q found same y z there next_ x at_ = next_ x (ap (λ (w : FifoPart). w.value_type) (same_Some x q (sym at_ ∙ found)) ∙ same) (pair-at FifoFits d.fifos c.channels.fifos m x y k.1.fifos at_ there)

    after_written : (t : ValueType) (y : Queued) (v : Value) → IsOf t v → (x : FifoPart) → x.value_type ≡ t → FifoFits x y → FifoFits x (after_write y v)
    after_written t y v typed x same fits = write-fits x y v (typed ∙ sym same) fits

    fifo_written : (m : ℕ) (events : ℕ) (t : ValueType) (v : Value) (q : FifoPart) → slice_get d.fifos m ≡ Some q → q.value_type ≡ t → IsOf t v → (o : Option Queued) → slice_get c.channels.fifos m ≡ o → Fits d (write_fifo c p r m (channel.Fifo m events) v o)
    fifo_written m events t v q found same typed None there = passed.0
    fifo_written m events t v q found same typed (Some y) there =
        cond-kept (free y == 0) (blocks c p r (channel_event event.DataRead (channel.Fifo m events))) (set_fifo (passes c p r) m (after_write y v)) (blocked (channel_event event.DataRead (channel.Fifo m events)))
        (fifo-fits d (passes c p r) m (after_write y v) (queue_fits m t q found same y (after_write y v) there (after_written t y v typed)) passed.0)

    abbrev Takes : ValueType → ChannelId → Type 0
    Takes t ch = OffersOf d (leads.Out t) ch ⊎ OffersOf d (leads.FifoOut t) ch

    written_fits : (t : ValueType) (v : Value) (ch : ChannelId) → IsOf t v → Takes t ch → IfOk (write_channel c p r v ch) (Fits d)
    written_fits t v (channel.Signal m events) typed o = ⊎_elim (λ x. signal_written m t v x.1.0 x.1.1 x.1.2 typed (slice_get c.channels.signals m) refl) (λ x. absurd x.1) o
    written_fits t v (channel.Resolved m events) typed o = drive-fits d (passes c p r) m v p passed.0
    written_fits t v (channel.Fifo m events) typed o = ⊎_elim (λ x. absurd x.1) (λ x. fifo_written m events t v x.1.0 x.1.1 x.1.2 typed (slice_get c.channels.fifos m) refl) o
    written_fits t v (channel.Mutex m events) typed o = passed.0
    written_fits t v (channel.Semaphore m events) typed o = passed.0

    takes_channel : (ch : ChannelTerm) (j : Option ℕ) (t : ValueType) → UsesAs ctx ch (leads.Out t) ⊎ UsesAs ctx ch (leads.FifoOut t) → IfOk (channel_in h ch j) (Takes t)
    takes_channel ch j t uses = ⊎_elim (λ u. one (channel_in h ch j) (channel-kept ch j (leads.Out t) u)) (λ u. two (channel_in h ch j) (channel-kept ch j (leads.FifoOut t) u)) uses
      where
        one : (m : Result ChannelId RunFault) → IfOk m (OffersOf d (leads.Out t)) → IfOk m (Takes t)
        one (Ok x) o = inl o
        one (Err e) o = tt

        two : (m : Result ChannelId RunFault) → IfOk m (OffersOf d (leads.FifoOut t)) → IfOk m (Takes t)
        two (Ok x) o = inr o
        two (Err e) o = tt

    write-form : (ch : ChannelTerm) (t : ValueType) (e : Term) → (UsesAs ctx ch (leads.Out t) ⊎ UsesAs ctx ch (leads.FifoOut t)) → Gives ctx e t → IfOk (do_write c p r h ch t e) (Fits d)
    write-form ch t e uses gives =
        if-any (Fits d) (place_in h ch.place) (λ j. on_ok (val h e) (λ v. on_ok (channel_in h ch j) (write_channel c p r (cut_to t v))))
        (λ j. if-is (Fits d) (λ v. IsOf t (cut_to t v)) (val h e) (λ v. on_ok (channel_in h ch j) (write_channel c p r (cut_to t v))) (cut e t gives)
        (λ v typed. if-is (Fits d) (Takes t) (channel_in h ch j) (write_channel c p r (cut_to t v)) (takes_channel ch j t uses) (λ x o. written_fits t (cut_to t v) x typed o)))

    -- ---- fifos

    record IsFifo (ch : ChannelId) (t : ValueType) : Type 0 where
      number_of : ℕ
      part : FifoPart
      is_ : fifo_of ch ≡ Some number_of
      found_ : slice_get d.fifos number_of ≡ Some part
      same_ : part.value_type ≡ t

    fifo_in : (ch : ChannelId) (t : ValueType) → ChannelOffers d ch (leads.FifoIn t) → IsFifo ch t
    fifo_in (channel.Signal m events) t o = absurd o
    fifo_in (channel.Resolved m events) t o = absurd o
    fifo_in (channel.Fifo m events) t o = record { number_of = m; part = o.0; is_ = refl; found_ = o.1; same_ = o.2 }
    fifo_in (channel.Mutex m events) t o = absurd o
    fifo_in (channel.Semaphore m events) t o = absurd o

    fifo_out : (ch : ChannelId) (t : ValueType) → ChannelOffers d ch (leads.FifoOut t) → IsFifo ch t
    fifo_out (channel.Signal m events) t o = absurd o
    fifo_out (channel.Resolved m events) t o = absurd o
    fifo_out (channel.Fifo m events) t o = record { number_of = m; part = o.0; is_ = refl; found_ = o.1; same_ = o.2 }
    fifo_out (channel.Mutex m events) t o = absurd o
    fifo_out (channel.Semaphore m events) t o = absurd o

    with_fifo_kept : (o : Option ℕ) (z : Queued) → ((m : ℕ) (x : FifoPart) → o ≡ Some m → slice_get d.fifos m ≡ Some x → FifoFits x z) → G (with_fifo (passes c p r) o z)
    with_fifo_kept None z fits = passed
    with_fifo_kept (Some m) z fits = (fifo-fits d (passes c p r) m z (λ x at_. fits m x refl at_) passed.0, passed.1)

    queue_kept : (ch : ChannelId) (t : ValueType) (w : IsFifo ch t) (y z : Queued) → fifo_here c ch ≡ Some y → ((x : FifoPart) → x.value_type ≡ t → FifoFits x y → FifoFits x z) → G (with_fifo (passes c p r) (fifo_of ch) z)
    queue_kept ch t w y z there next_ =
        with_fifo_kept (fifo_of ch) z
        (λ m x at_ found. let same = same_Some w.number_of m (sym w.is_ ∙ at_) in
        queue_fits m t w.part (subst (λ j. slice_get d.fifos j ≡ Some w.part) same w.found_) w.same_ y z (subst (λ o. element c.channels.fifos o ≡ Some y) at_ there) next_ x found)

    oldest_type : (ch : ChannelId) (t : ValueType) (w : IsFifo ch t) (y : Queued) (v : Value) → fifo_here c ch ≡ Some y → readable y ≡ Some v → IsOf t v
    oldest_type ch t w y v there is_ =
        oldest-fits w.part y v (pair-at FifoFits d.fifos c.channels.fifos w.number_of w.part y k.1.fifos w.found_ (subst (λ o. element c.channels.fifos o ≡ Some y) w.is_ there)) is_ ∙ w.same_

    read_value_kept : (x : Option Target) (ch : ChannelId) (t : ValueType) (w : IsFifo ch t) (y : Queued) → IfWritten (Stores ctx t) x → fifo_here c ch ≡ Some y → (v : Option Value) → readable y ≡ v → Fits d (read_value c p r h x ch y v)
    read_value_kept x ch t w y fits there None is_ = blocked (channel_event event.DataWritten ch)
    read_value_kept x ch t w y fits there (Some v) is_ =
        (stored_if-kept (with_fifo (passes c p r) (fifo_of ch) (after_read y)) x t v fits (oldest_type ch t w y v there is_) (queue_kept ch t w y (after_read y) there (λ q same f. read-fits q y f))).0

    read_fifo_kept : (x : Option Target) (ch : ChannelId) (t : ValueType) → IsFifo ch t → IfWritten (Stores ctx t) x → (o : Option Queued) → fifo_here c ch ≡ o → Fits d (read_fifo c p r h x ch o)
    read_fifo_kept x ch t w fits None there = passed.0
    read_fifo_kept x ch t w fits (Some y) there = read_value_kept x ch t w y fits there (readable y) refl

    read-form : (x : Option Target) (ch : ChannelTerm) (t : ValueType) → UsesAs ctx ch (leads.FifoIn t) → IfWritten (Stores ctx t) x → IfOk (do_read c p r h x ch) (Fits d)
    read-form x ch t uses fits =
        if-any (Fits d) (place_in h ch.place) (λ j. on_ok (channel_in h ch j) (λ y. Ok (read_fifo c p r h x y (fifo_here c y))))
        (λ j. if-is (Fits d) (OffersOf d (leads.FifoIn t)) (channel_in h ch j) (λ y. Ok (read_fifo c p r h x y (fifo_here c y))) (channel-kept ch j (leads.FifoIn t) uses)
        (λ y o. read_fifo_kept x y t (fifo_in y t o.1) fits (fifo_here c y) refl))

    nb_read_value_kept : (x : Option Target) (y : Target) (ch : ChannelId) (t : ValueType) (w : IsFifo ch t) (q : Queued) → IfWritten (Stores ctx type.Bool) x → Stores ctx t y → fifo_here c ch ≡ Some q → (v : Option Value) → readable q ≡ v → Fits d (nb_read_value c p r h x y ch q v)
    nb_read_value_kept x y ch t w q done fits there None is_ = (stored_if-kept (passes c p r) x type.Bool (value.Bool false) done refl passed).0
    nb_read_value_kept x y ch t w q done fits there (Some v) is_ =
        (stored-kept (stored_if (with_fifo (passes c p r) (fifo_of ch) (after_read q)) p h x (value.Bool true)) y t v fits (oldest_type ch t w q v there is_)
        (stored_if-kept (with_fifo (passes c p r) (fifo_of ch) (after_read q)) x type.Bool (value.Bool true) done refl (queue_kept ch t w q (after_read q) there (λ z same f. read-fits z q f)))).0

    nb_read_fifo_kept : (x : Option Target) (y : Target) (ch : ChannelId) (t : ValueType) → IsFifo ch t → IfWritten (Stores ctx type.Bool) x → Stores ctx t y → (o : Option Queued) → fifo_here c ch ≡ o → Fits d (nb_read_fifo c p r h x y ch o)
    nb_read_fifo_kept x y ch t w done fits None there = passed.0
    nb_read_fifo_kept x y ch t w done fits (Some q) there = nb_read_value_kept x y ch t w q done fits there (readable q) refl

    nb_read-form : (x : Option Target) (ch : ChannelTerm) (y : Target) (t : ValueType) → UsesAs ctx ch (leads.FifoIn t) → IfWritten (Stores ctx type.Bool) x → Stores ctx t y → IfOk (do_nb_read c p r h x ch y) (Fits d)
    nb_read-form x ch y t uses done fits =
        if-any (Fits d) (place_in h ch.place) (λ j. on_ok (channel_in h ch j) (λ z. Ok (nb_read_fifo c p r h x y z (fifo_here c z))))
        (λ j. if-is (Fits d) (OffersOf d (leads.FifoIn t)) (channel_in h ch j) (λ z. Ok (nb_read_fifo c p r h x y z (fifo_here c z))) (channel-kept ch j (leads.FifoIn t) uses)
        (λ z o. nb_read_fifo_kept x y z t (fifo_in z t o.1) done fits (fifo_here c z) refl))

    nb_write_kept : (x : Option Target) (ch : ChannelId) (t : ValueType) (v : Value) → IsFifo ch t → IfWritten (Stores ctx type.Bool) x → IsOf t v → (o : Option Queued) → fifo_here c ch ≡ o → Fits d (nb_write_fifo c p r h x ch v o)
    nb_write_kept x ch t v w done typed None there = passed.0
    nb_write_kept x ch t v w done typed (Some q) there =
        cond-kept (free q == 0) (stored_if (passes c p r) p h x (value.Bool false)) (stored_if (with_fifo (passes c p r) (fifo_of ch) (after_write q v)) p h x (value.Bool true))
        (stored_if-kept (passes c p r) x type.Bool (value.Bool false) done refl passed).0
        (stored_if-kept (with_fifo (passes c p r) (fifo_of ch) (after_write q v)) x type.Bool (value.Bool true) done refl (queue_kept ch t w q (after_write q v) there (after_written t q v typed))).0

    nb_write-form : (x : Option Target) (ch : ChannelTerm) (t : ValueType) (e : Term) → UsesAs ctx ch (leads.FifoOut t) → Gives ctx e t → IfWritten (Stores ctx type.Bool) x → IfOk (do_nb_write c p r h x ch t e) (Fits d)
    nb_write-form x ch t e uses gives done =
        if-any (Fits d) (place_in h ch.place) (λ j. on_ok (val h e) (λ v. on_ok (channel_in h ch j) (λ y. Ok (nb_write_fifo c p r h x y (cut_to t v) (fifo_here c y)))))
        (λ j. if-is (Fits d) (λ v. IsOf t (cut_to t v)) (val h e) (λ v. on_ok (channel_in h ch j) (λ y. Ok (nb_write_fifo c p r h x y (cut_to t v) (fifo_here c y)))) (cut e t gives)
        (λ v typed. if-is (Fits d) (OffersOf d (leads.FifoOut t)) (channel_in h ch j) (λ y. Ok (nb_write_fifo c p r h x y (cut_to t v) (fifo_here c y))) (channel-kept ch j (leads.FifoOut t) uses)
        (λ y o. nb_write_kept x y t (cut_to t v) (fifo_out y t o.1) done typed (fifo_here c y) refl)))

    -- ---- mutexes and semaphores

    answered-kept : (e : Config) (x : Option Target) (done : Bool) → IfWritten (Stores ctx (type.Int 32)) x → G e → G (answered e p h x done)
    answered-kept e None done fits g = g
    answered-kept e (Some target) done fits g = stored-kept e target (type.Int 64) (signed (bits_of (answer done))) fits refl g

    -- on from the place and the channel that a statement names
    of-channel : (ch : ChannelTerm) (to : ChannelId → Config) → ((y : ChannelId) → Fits d (to y)) → IfOk (on_ok (place_in h ch.place) (λ j. on_ok (channel_in h ch j) (λ y. Ok (to y)))) (Fits d)
    of-channel ch to each = if-any (Fits d) (place_in h ch.place) (λ j. on_ok (channel_in h ch j) (λ y. Ok (to y))) (λ j. if-any (Fits d) (channel_in h ch j) (λ y. Ok (to y)) (λ y. each y))

    lock_kept : (ch : ChannelId) (m : Option ℕ) → Fits d (lock_at c p r ch m)
    lock_kept ch None = passed.0
    lock_kept ch (Some m) = mutex_at (slice_get c.channels.mutexes m)
      where
        mutex_at : (o : Option (Option ℕ)) → Fits d (lock_mutex c p r m ch o)
        mutex_at None = passed.0
        mutex_at (Some o) = cond-kept (is_unlocked o) (set_mutex (passes c p r) m (locked_by p o)) (blocks c p r (channel_event event.Own ch)) (mutex-fits d (passes c p r) m (locked_by p o) passed.0) (blocked (channel_event event.Own ch))

    trylock_kept : (x : Option Target) → IfWritten (Stores ctx (type.Int 32)) x → (m : Option ℕ) → Fits d (trylock_at (passes c p r) p h x m)
    trylock_kept x fits None = passed.0
    trylock_kept x fits (Some m) = mutex_at (slice_get c.channels.mutexes m)
      where
        mutex_at : (o : Option (Option ℕ)) → Fits d (trylock_mutex (passes c p r) p h x m o)
        mutex_at None = passed.0
        mutex_at (Some o) = (answered-kept (set_mutex (passes c p r) m (locked_by p o)) x (is_unlocked o) fits (mutex-fits d (passes c p r) m (locked_by p o) passed.0, passed.1)).0

    unlock_kept : (x : Option Target) (ch : ChannelId) → IfWritten (Stores ctx (type.Int 32)) x → (m : Option ℕ) → Fits d (unlock_at (passes c p r) p h x ch m)
    unlock_kept x ch fits None = passed.0
    unlock_kept x ch fits (Some m) = mutex_at (slice_get c.channels.mutexes m)
      where
        mutex_at : (o : Option (Option ℕ)) → Fits d (unlock_mutex (passes c p r) p h x m ch o)
        mutex_at None = passed.0
        mutex_at (Some o) =
            let e = set_mutex (passes c p r) m (unlocked_by p o) in
            cond-kept (is_owner p o) (answered (fire e (channel_event event.Own ch)) p h x true) (answered (passes c p r) p h x false)
            (answered-kept (fire e (channel_event event.Own ch)) x true fits (fire-in d p f e (channel_event event.Own ch) (mutex-fits d (passes c p r) m (unlocked_by p o) passed.0, passed.1))).0
            (answered-kept (passes c p r) x false fits passed).0

    sem_wait_kept : (ch : ChannelId) (m : Option ℕ) → Fits d (sem_wait_at c p r ch m)
    sem_wait_kept ch None = passed.0
    sem_wait_kept ch (Some m) = value_at (slice_get c.channels.semaphores m)
      where
        value_at : (o : Option ℕ) → Fits d (sem_wait_value c p r m ch o)
        value_at None = passed.0
        value_at (Some v) = cond-kept (is_used_up v) (blocks c p r (channel_event event.Own ch)) (set_semaphore (passes c p r) m (taken_from v)) (blocked (channel_event event.Own ch)) (semaphore-fits d (passes c p r) m (taken_from v) passed.0)

    trywait_kept : (x : Option Target) → IfWritten (Stores ctx (type.Int 32)) x → (m : Option ℕ) → Fits d (sem_trywait_at (passes c p r) p h x m)
    trywait_kept x fits None = passed.0
    trywait_kept x fits (Some m) = value_at (slice_get c.channels.semaphores m)
      where
        value_at : (o : Option ℕ) → Fits d (sem_trywait_value (passes c p r) p h x m o)
        value_at None = passed.0
        value_at (Some v) =
            cond-kept (is_used_up v) (answered (passes c p r) p h x false) (answered (set_semaphore (passes c p r) m (taken_from v)) p h x true) (answered-kept (passes c p r) x false fits passed).0
            (answered-kept (set_semaphore (passes c p r) m (taken_from v)) x true fits (semaphore-fits d (passes c p r) m (taken_from v) passed.0, passed.1)).0

    post_kept : (ch : ChannelId) (m : Option ℕ) → Fits d (post_at (passes c p r) ch m)
    post_kept ch None = passed.0
    post_kept ch (Some m) = value_at (slice_get c.channels.semaphores m)
      where
        value_at : (o : Option ℕ) → Fits d (post_value (passes c p r) m ch o)
        value_at None = passed.0
        value_at (Some v) = fire-fits d (set_semaphore (passes c p r) m (v + 1)) (channel_event event.Own ch) (semaphore-fits d (passes c p r) m (v + 1) passed.0)

    -- ---- payloads and keepers

    most_bytes : (m : ℕ) → nat_le m 4096 ≡ true → m ≤ 4096
    most_bytes m e = grind (arith, nat_tests)

    size_most : (least m : ℕ) → IfOk (size_within least m) (λ x. x ≤ 4096)
    size_most least m = at_ (nat_le least m) (nat_le m 4096) refl
      where
        at_ : (one two : Bool) → nat_le m 4096 ≡ two → IfOk (cond (one && two) (Ok m) (Err (fault.IndexRange m 4096))) (λ x. x ≤ 4096)
        at_ true true e = most_bytes m e
        at_ true false e = tt
        at_ false two e = tt

    make-form : (m : NameUse) (e : Term) (o : Option Term) → variable_type ctx m ≡ Some type.Payload → IfOk (do_make c p r h m e o) (Fits d)
    make-form m e o typed =
        if-any (Fits d) (val h e) _ (λ v. if-any (Fits d) (val_if h o) _ (λ w. if-is (Fits d) (λ x. x ≤ 4096) (size_within 1 (bits v)) _ (size_most 1 (bits v)) (λ x most. if-any (Fits d) (size_within 0 (size_or w)) _ (λ y. if-any (Fits d) (may_make c) _ (λ ok.
        (name-kept (with_pool (passes c p r) (with_made c.transactions.pool x y)) m type.Payload (value.Pay (Some (length c.transactions.pool))) typed refl
        (pool-fits d (passes c p r) (with_made c.transactions.pool x y) (payload-made c.transactions.pool x y most k.1.payloads) passed.0, passed.1)).0)))))

    acquire-form : (m : NameUse) → IfOk (do_acquire c p r h m) (Fits d)
    acquire-form m =
        if-any (Fits d) (payload_number h m) _ (λ t. if-any (Fits d) (live_payload c t) _ (λ q. pool-fits d (passes c p r) (with_acquired c.transactions.pool t) (payload-acquired c.transactions.pool t k.1.payloads) passed.0))

    release-form : (m : NameUse) → IfOk (do_release c p r h m) (Fits d)
    release-form m =
        if-any (Fits d) (payload_number h m) _ (λ t. if-any (Fits d) (live_payload c t) _ (λ q. pool-fits d (passes c p r) (with_released c.transactions.pool t) (payload-released c.transactions.pool t k.1.payloads) passed.0))

    carry-form : (m : NameUse) (y : ℕ) → IsMemory ctx y → IfOk (do_carry c p r h m y) (Fits d)
    carry-form m y typed =
        let here_fits = memory-here d c (memory_number (denotes h y)) typed.0 typed.1 k (ap memory_number typed.2) typed.3 in
        if-any (Fits d) (payload_number h m) _ (λ t. if-is (Fits d) PayloadFits (live_payload c t) _ (live-fits c t k.1.payloads) (λ q fits.
        let e = set_memory (passes c p r) (memory_number (denotes h y)) (memory_after q (memory_here h y)) in
        let stored_ = memory-fits d (passes c p r) (memory_number (denotes h y)) (memory_after q (memory_here h y)) (λ o x there found. memory-carried x q (memory_here h y) fits (memory-here d c (memory_number (denotes h y)) o x k there found)) passed.0 in
        pool-fits d e (with_payload e.transactions.pool t (carried q (memory_here h y))) (payload-written e.transactions.pool t (carried q (memory_here h y)) (payload-carried q (memory_here h y) here_fits.1 fits) stored_.1.payloads) stored_))

    kept_fits : (o : Option ℕ) (y : Option Keeper) → IfOk (kept (passes c p r) o y) (Fits d)
    kept_fits o None = tt
    kept_fits o (Some y) = keeper-fits d (passes c p r) o y passed.0

    on_keeper_fits : (y : Option Keeper) (g : Keeper → Result Config RunFault) → ((x : Keeper) → IfOk (g x) (Fits d)) → IfOk (on_keeper (passes c p r) y g) (Fits d)
    on_keeper_fits None g each = passed.0
    on_keeper_fits (Some y) g each = each y

    if-each : {A : Type 0} (m : Result A RunFault) (f : A → Result Config RunFault) → ((y : A) → IfOk (f y) (Fits d)) → IfOk (on_ok m f) (Fits d)
    if-each m f each = if-any (Fits d) m f each

    keeper_kept : (o : Option ℕ) (y : Keeper) → Fits d (with_keeper (passes c p r) o y)
    keeper_kept o y = keeper-fits d (passes c p r) o y passed.0

    qk_global-form : (e : Term) → IfOk (do_qk_global c p r h e) (Fits d)
    qk_global-form e = if-any (Fits d) (val h e) _ (λ v. passed.0)

    -- ---- spawned instances

    unless_runnable : (t : Bool) (q : ℕ) (e : Config) → G e → G (runnable_unless t q e)
    unless_runnable true q e g = g
    unless_runnable false q e g = g

    handle_kept : (e : Config) (m : Option NameUse) (q : ℕ) → IfWritten (λ x. variable_type ctx x ≡ Some type.Process) m → G e → G (handle_stored e p h m q)
    handle_kept e None q typed g = g
    handle_kept e (Some m) q typed g = name-kept e m type.Process (value.Handle (Some q)) typed refl g

    spawn-form : (x : SpawnTerm) → IsTyped (code_of d) b.module_place b.answer ctx (code.spawn x) → IfOk (do_spawn c p r h x) (Fits d)
    spawn-form x typed =
        let cb = typed.0 in
        let fh = typed.1 in
        if-is (Fits d) (Pairwise LocalFits (parameters_of cb)) (first_arguments h (locals_in (body_at (code_of d) x.function)) 0 x.arguments) _
        (subst (λ m. IfOk (first_arguments h (locals_in m) 0 x.arguments) (Pairwise LocalFits (parameters_of cb))) (sym fh.found)
        (first-arguments h sound b.locals place.place_fits cb.locals 0 (parameters_of cb) x.arguments (follows cb.locals cb.parameters) typed.2))
        (λ vs fits. if-any (Fits d) (may_spawn c) _ (λ ok.
        let new = new_instance (passes c p r) h x vs in
        let new_one : InstanceFits d new = record { body = cb; found = fh.found; home_of = function_home x.function cb fh; arguments = fits; left = tt } in
        let e = added (passes c p r) new in
        let more : G e = ((passed.0.0, passed.0.1, each-more (InstanceFits d) (passes c p r).processes.instances (new ∷ []) passed.0.2 (new_one, tt), passed.0.3), more-in d p f (passes c p r).processes.instances new passed.1) in
        (handle_kept (runnable_unless x.dont_initialize (length (passes c p r).processes.instances) e) x.handle (length (passes c p r).processes.instances) typed.4 (unless_runnable x.dont_initialize (length (passes c p r).processes.instances) e more)).0))

    -- ---- calls over hops

    -- the value of a variable
    module_value : (x : Denoted) (t : ValueType) → type_of_variable d x ≡ Some t → IfOk (read_denoted h x) (IsOf t) → IsOf t (value_or (read_denoted h x))
    module_value denoted.Nothing t e typed = absurd (none-some t e)
    module_value (denoted.Channel ch) t e typed = absurd (none-some t e)
    module_value (denoted.Event m) t e typed = absurd (none-some t e)
    module_value (denoted.Keeper m) t e typed = absurd (none-some t e)
    module_value (denoted.Memory m) t e typed = absurd (none-some t e)
    module_value (denoted.Variable m) t e typed = typed
    module_value (denoted.Port m) t e typed = absurd (none-some t e)
    module_value (denoted.Process m) t e typed = absurd (none-some t e)
    module_value (denoted.Socket hop forward) t e typed = absurd (none-some t e)

    named_value : (m : NameUse) (t : ValueType) → variable_type ctx m ≡ Some t → IsOf t (value_named h m)
    named_value (name_use.Local j) t e = variable-type h sound b.locals place.place_fits (name_use.Local j) t e
    named_value (name_use.Declared j) t e = module_value (denotes h j) t e (variable-type h sound b.locals place.place_fits (name_use.Declared j) t e)

    -- a handler that is entered, where the call breaks no rule
    handler_entered : (o : Option ℕ) (hop : ℕ) (e : Entry) (t : ℕ) (args : List Value) (via : Via) (rule : Option Rule) → ((g : ℕ) → o ≡ Some g → LeftFits d (Some f) home (entered (code_of d) g args (Some n) (Some via)))
        → IfOk (on_ok (judged_by c hop e t rule) (λ x. Ok (enters_handler x p r n o args via))) (Fits d)
    handler_entered None hop e t args via None fits = k
    handler_entered (Some g) hop e t args via None fits = new_fits (entered (code_of d) g args (Some n) (Some via)) (fits g refl)
    handler_entered o hop e t args via (Some rule) fits = tt

    -- the handler of a hop, in the instance at its other end
    handler_fits : (x : Hop) (via : Via) (far : ℕ) (ts : List (ValueType × Bool)) (answer : Option ValueType) (g : ℕ) (args : List Value) → slice_get d.hops via.hop ≡ Some x → far_home via.forward x ≡ far → IsHandler d far ts answer g
        → Pairwise OfFirst ts args → ((cb : CodeBody) → HasParameters (parameters_of cb) ts → cb.answer ≡ answer → Calls (statement_at (code_of d) n) g cb) → LeftFits d (Some f) home (entered (code_of d) g args (Some n) (Some via))
    handler_fits x via far ts answer g args found same ih fits calls =
        entered-fits d (Some f) home g ih.body args (Some n) (Some via) ih.found
        (subst (λ q. IsHomeOf d (unwrap_or (option_map (far_home via.forward) q) home) ih.body) (sym found) (subst (λ q. IsHomeOf d q ih.body) (sym same) ih.home_of))
        (x, found) (types.bodies g ih.body ih.found) (handler-fits (parameters_of ih.body) ts args ih.has_parameters fits) (inside, calls ih.body ih.has_parameters ih.has_answer)

    handler_of_hop : (far : ℕ) (ts : List (ValueType × Bool)) (answer : Option ValueType) (o : Option ℕ) (g : ℕ) → HandlerFits d far ts answer o → o ≡ Some g → IsHandler d far ts answer g
    handler_of_hop far ts answer None g fits e = absurd (none-some g e)
    handler_of_hop far ts answer (Some y) g fits e = subst (IsHandler d far ts answer) (same_Some y g e) fits

    blocking_fits : (socket : ℕ) (m delay : NameUse) (hop t : ℕ) → statement_at (code_of d) n ≡ Some (code.b_transport socket m delay) → variable_type ctx delay ≡ Some type.Time → (o : Option Hop) → slice_get d.hops hop ≡ o → (g : ℕ) → blocking_handler o ≡ Some g
        → LeftFits d (Some f) home (entered (code_of d) g (value.Pay (Some t) ∷ value_named h delay ∷ []) (Some n) (Some (record { hop = hop; forward = true; blocking = true; payload = t })))
    blocking_fits socket m delay hop t found typed None there g e = absurd (none-some g e)
    blocking_fits socket m delay hop t found typed (Some x) there g e =
        handler_fits x (record { hop = hop; forward = true; blocking = true; payload = t }) x.target_home blocking_parameters None g (value.Pay (Some t) ∷ value_named h delay ∷ []) there refl
        (handler_of_hop x.target_home blocking_parameters None x.blocking g (sound.hops hop x there).blocking e) (refl, (named_value delay type.Time typed, tt))
        (λ cb has answers. subst (λ s. Calls s g cb) (sym found) (has, answers))

    b_transport-form : (socket : ℕ) (m delay : NameUse) → statement_at (code_of d) n ≡ Some (code.b_transport socket m delay) → variable_type ctx delay ≡ Some type.Time → (end : Option (ℕ × Bool)) → IfOk (b_transport_on c p r h n m delay end) (Fits d)
    b_transport-form socket m delay found typed None = passed.0
    b_transport-form socket m delay found typed (Some end) =
        if-any (Fits d) (payload_number h m) _ (λ t. if-any (Fits d) (live_payload c t) _ (λ q. if-any (Fits d) (may_enter_handler r (blocking_handler (slice_get d.hops end.0))) _ (λ ok.
        handler_entered (blocking_handler (slice_get d.hops end.0)) end.0 (BCall t (is_some (blocking_handler (slice_get d.hops end.0)))) t (value.Pay (Some t) ∷ value_named h delay ∷ []) (record { hop = end.0; forward = true; blocking = true; payload = t })
        (broken (history c end.0) (BCall t (is_some (blocking_handler (slice_get d.hops end.0))))) (λ g e. blocking_fits socket m delay end.0 t found typed (slice_get d.hops end.0) refl g e))))

    nonblocking_fits : (y : Option Target) (socket : ℕ) (m phase delay : NameUse) (hop t : ℕ) (forward : Bool) → statement_at (code_of d) n ≡ Some (code.nb_transport y socket m phase delay) → variable_type ctx phase ≡ Some (type.Int 32) → variable_type ctx delay ≡ Some type.Time
        → (o : Option Hop) → slice_get d.hops hop ≡ o → (g : ℕ) → nonblocking_handler forward o ≡ Some g
        → LeftFits d (Some f) home (entered (code_of d) g (value.Pay (Some t) ∷ value_named h phase ∷ value_named h delay ∷ []) (Some n) (Some (record { hop = hop; forward = forward; blocking = false; payload = t })))
    nonblocking_fits y socket m phase delay hop t true found one two None there g e = absurd (none-some g e)
    nonblocking_fits y socket m phase delay hop t false found one two None there g e = absurd (none-some g e)
    nonblocking_fits y socket m phase delay hop t true found one two (Some x) there g e =
        handler_fits x (record { hop = hop; forward = true; blocking = false; payload = t }) x.target_home nonblocking_parameters (Some (type.Int 32)) g (value.Pay (Some t) ∷ value_named h phase ∷ value_named h delay ∷ []) there refl
        (handler_of_hop x.target_home nonblocking_parameters (Some (type.Int 32)) x.forward g (sound.hops hop x there).forward e) (refl, (named_value phase (type.Int 32) one, (named_value delay type.Time two, tt)))
        (λ cb has answers. subst (λ s. Calls s g cb) (sym found) (has, answers))
    nonblocking_fits y socket m phase delay hop t false found one two (Some x) there g e =
        handler_fits x (record { hop = hop; forward = false; blocking = false; payload = t }) x.initiator_home nonblocking_parameters (Some (type.Int 32)) g (value.Pay (Some t) ∷ value_named h phase ∷ value_named h delay ∷ []) there refl
        (handler_of_hop x.initiator_home nonblocking_parameters (Some (type.Int 32)) x.backward g (sound.hops hop x there).backward e) (refl, (named_value phase (type.Int 32) one, (named_value delay type.Time two, tt)))
        (λ cb has answers. subst (λ s. Calls s g cb) (sym found) (has, answers))

    nb_transport-form : (y : Option Target) (socket : ℕ) (m phase delay : NameUse) → statement_at (code_of d) n ≡ Some (code.nb_transport y socket m phase delay) → variable_type ctx phase ≡ Some (type.Int 32) → variable_type ctx delay ≡ Some type.Time
        → (end : Option (ℕ × Bool)) → IfOk (nb_transport_on c p r h n m phase delay end) (Fits d)
    nb_transport-form y socket m phase delay found one two None = passed.0
    nb_transport-form y socket m phase delay found one two (Some end) =
        let o = nonblocking_handler end.1 (slice_get d.hops end.0) in
        if-any (Fits d) (payload_number h m) _ (λ t. if-any (Fits d) (live_payload c t) _ (λ q. if-any (Fits d) (may_enter_handler r o) _ (λ ok.
        let entry = Call t (path_of_call end.1) (int_of (value_named h phase)) (is_complete q) (is_some o) in
        handler_entered o end.0 entry t (value.Pay (Some t) ∷ value_named h phase ∷ value_named h delay ∷ []) (record { hop = end.0; forward = end.1; blocking = false; payload = t })
        (broken (history c end.0) entry) (λ g e. nonblocking_fits y socket m phase delay end.0 t end.1 found one two (slice_get d.hops end.0) refl g e))))

    -- ---- a statement, by its form

    pub form-fits : (x : Statement) → statement_at (code_of d) n ≡ Some x → IsTyped (code_of d) b.module_place b.answer ctx x → IfOk (do_statement c p i r h n x) (Fits d)
    form-fits (code.var m t e) found typed = var-fits m t e typed
    form-fits (code.assign to e) found typed = assign-fits to e typed
    form-fits (code.call x g arguments) found typed = call-fits x g arguments found typed
    form-fits (code.read x ch) found typed = read-form x ch typed.0 typed.1 typed.2
    form-fits (code.nb_read x ch y) found typed = nb_read-form x ch y typed.0 typed.1 typed.2 typed.3
    form-fits (code.nb_write x ch t e) found typed = nb_write-form x ch t e typed.0 typed.1 typed.2
    form-fits (code.trylock x ch) found typed = of-channel ch (λ y. trylock_at (passes c p r) p h x (mutex_of y)) (λ y. trylock_kept x typed.1 (mutex_of y))
    form-fits (code.unlock x ch) found typed = of-channel ch (λ y. unlock_at (passes c p r) p h x y (mutex_of y)) (λ y. unlock_kept x y typed.1 (mutex_of y))
    form-fits (code.sem_trywait x ch) found typed = of-channel ch (λ y. sem_trywait_at (passes c p r) p h x (semaphore_of y)) (λ y. trywait_kept x typed.1 (semaphore_of y))
    form-fits (code.nb_transport x socket m phase delay) found typed = nb_transport-form x socket m phase delay found typed.2 typed.3 (socket_of (denotes h socket))
    form-fits (code.write ch t e) found typed = write-form ch t e typed.0 typed.1
    form-fits (code.print text e) found typed = print-fits text e
    form-fits (code.notify m) found typed = notify-fits m
    form-fits (code.notify_delta m) found typed = notify_delta-fits m
    form-fits (code.notify_after m e) found typed = notify_after-fits m e
    form-fits (code.cancel m) found typed = cancel-fits m
    form-fits (code.wait w) found typed = wait-fits w
    form-fits (code.next_trigger w) found typed = next_trigger-fits w
    form-fits (code.lock ch) found typed = of-channel ch (λ y. lock_at c p r y (mutex_of y)) (λ y. lock_kept y (mutex_of y))
    form-fits (code.sem_wait ch) found typed = of-channel ch (λ y. sem_wait_at c p r y (semaphore_of y)) (λ y. sem_wait_kept y (semaphore_of y))
    form-fits (code.post ch) found typed = of-channel ch (λ y. post_at (passes c p r) y (semaphore_of y)) (λ y. post_kept y (semaphore_of y))
    form-fits (code.make m e o) found typed = make-form m e o typed.0
    form-fits (code.acquire m) found typed = acquire-form m
    form-fits (code.release m) found typed = release-form m
    form-fits (code.carry m y) found typed = carry-form m y typed.1
    form-fits (code.b_transport socket m delay) found typed = b_transport-form socket m delay found typed.2 (socket_of (denotes h socket))
    form-fits (code.qk_global e) found typed = qk_global-form e
    form-fits (code.spawn x) found typed = spawn-form x typed
    form-fits (code.control x who all) found typed = control-form x who all
    form-fits (code.throw_it who e all) found typed = throw_it-form who e all
    form-fits (code.throw e) found typed = throw-form e
    form-fits (code.return_ e) found typed = return-fits e typed
    form-fits code.stop found typed = passed.0
    form-fits (code.if_ e j other) found typed = if-fits e j other found
    form-fits (code.while_ e j) found typed = while-fits e j found
    form-fits (code.guard j u) found typed = guard-fits j u found
    form-fits (code.try_ j handlers) found typed = try-fits j handlers found
    form-fits other found typed = search (if-each, on_keeper_fits, kept_fits, keeper_kept)

  pub form-kept : (x : Statement) → statement_at (code_of d) n ≡ Some x → IfOk (do_statement c p i r h n x) (Fits d)
  form-kept x found = form-fits stands.place stands.stands x found (stands.typed x found)
