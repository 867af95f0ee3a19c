-- A step that would add an entry is judged exactly.
use Rattle.std.proofs.Common.{◌≡◌, ℕ, Bool, true, false, cond, List, [], ◌∷◌, ◌++◌, slice_get, Option, Some, None, refl, sym, ap, ◌∙◌, subst, inl, true≢false}
use Rattle.std.specs.Prelude.{Result, Ok, is_some}
use Rattle.std.proofs.lemmas.Option.{none-some}
use Rattle.sim_model.specs.LogicValues.declared.kinds.Value.{Value}
use Rattle.sim_model.specs.LogicValues.declared.kinds.Value.TheVariants as value
use Rattle.sim_model.specs.PayloadPool.declared.payload.Payload.{Payload}
use Rattle.sim_model.specs.TransportPhases.History.{Entry, Call, Return, BCall, BReturn, broken}
use Rattle.sim_model.specs.TransportPhases.declared.phases.Rule.{Rule}
use Rattle.sim_model.specs.TransportPhases.declared.phases.Rule.TheVariants as rule_of
use Rattle.sim_model.specs.TransportPhases.Lawful.{Lawful}
use Rattle.sim_model.specs.TransportPhases.Order.{MayCome}
use Rattle.sim_model.proofs.TransportPhases.LawfulLemmas.{lawful_more, lawful_fits}
use Rattle.sim_model.specs.FlatDesign.Code as code
use Rattle.sim_model.specs.FlatDesign.Code.{Statement, statement_at}
use Rattle.sim_model.specs.FlatDesign.Sound.{SoundDesign}
use Rattle.sim_model.specs.FlatDesign.declared.names.NameUse.{NameUse}
use Rattle.sim_model.specs.FlatDesign.declared.names.NameUse.TheVariants as name_use
use Rattle.sim_model.specs.FlatDesign.declared.code.Store.{Store as Target}
use Rattle.sim_model.specs.FlatDesign.declared.design.Denoted.{Denoted}
use Rattle.sim_model.specs.FlatDesign.declared.design.Denoted.TheVariants as denoted
use Rattle.sim_model.specs.FlatDesign.declared.design.Hop.{Hop}
use Rattle.sim_model.specs.FlatDesign.declared.design.Design.{Design}
use Rattle.sim_model.specs.FlatDesign.declared.faults.RunFault.{RunFault}
use Rattle.sim_model.specs.FlatDesign.declared.faults.RunFault.TheVariants as fault
use Rattle.sim_model.specs.Values.{on_ok}
use Rattle.sim_model.specs.Residual as residual
use Rattle.sim_model.specs.Residual.{Residual, Frame, skip, put, next_of}
use Rattle.sim_model.specs.Payloads.{payload_of}
use Rattle.sim_model.specs.Configuration.{Config, Instance, arena, instance_at, start}
use Rattle.sim_model.specs.Reading.{Here, here, denotes, payload_number, live_payload}
use Rattle.sim_model.specs.Storing.{passes, set_denoted, set_name, stored_if}
use Rattle.sim_model.specs.Calls.{with_entry, answer_of, final_value}
use Rattle.sim_model.specs.Transport.{socket_of, blocking_handler, nonblocking_handler, may_enter_handler, path_of_call, int_of, value_named, is_complete, history, rule_number, judged, judged_by, for_freed, of_freed, freed_fault, judged_return, complete_if, complete_now, enters_handler, b_transport_on, nb_transport_on, b_transport_ends, nb_transport_ends}
use Rattle.sim_model.specs.Statements.{settled_in, on_statement, do_next, step_of, step_by, handed_back, via_ends, calling_statement}
use Rattle.sim_model.specs.Steps.{Outcome, faulted, ended, as_outcome, evaluate, step_in, step}
use Rattle.sim_model.specs.Runs.{after}
use Rattle.sim_model.specs.declared.plain.Command.{Command}
use Rattle.sim_model.specs.declared.plain.Via.{Via}
use Rattle.laws_runs.proofs.Changes.{change-here}
use Rattle.laws_runs.proofs.Tight.{settle-tight}
use Rattle.laws_runs.proofs.NestingFits.{In}
use Rattle.laws_runs.proofs.GoalParts.{parts, caller, IsReturnOf}
use Rattle.laws_runs.specs.Added.{IsNext, left_of, place_of, WouldAdd, b_call, nb_call, b_return, nb_return, IsJudged, WouldAddFreed, b_freed, nb_freed, IsJudgedFreed, fault_if_freed}
use Rattle.sim_model.specs.Unwinding.{left_via, left_by_unw}
use Rattle.laws_runs.proofs.Histories.{history_of, IsHop, hist-here, IsOpenFor}
use Rattle.laws_runs.proofs.OpenedCalls.{call-closed, b_call-closed}
use Rattle.laws_runs.proofs.Vias.{KindFor, leaves-vias, leaves-kind}
use Rattle.laws_runs.proofs.ProtocolKept.{calls_in, vias_at, Protocol, protocol-settled, IsClosing, closing}
use Rattle.laws_runs.proofs.LawfulRuns.{protocol-after}

-- ---- the step as what the instance on top does

pub phase-is : (c : Config) (p : ℕ) (i : Instance) → IsNext c p i → step c ≡ as_outcome (step_of (settled_in c p i.residual) p i (left_of c i))
phase-is c p i n =
    ap (λ b. cond b ended (step_in c c.cycle.phase)) n.runs ∙ ap (step_in c) n.evaluates
    ∙ ap (λ s. evaluate c s c.processes.runnable) n.top ∙ ap (λ o. as_outcome (step_by c p o)) n.at

pub on-is : {A : Type 0} (m : Result A RunFault) (x : A) (f : A → Result Config RunFault) → m ≡ Ok x → on_ok m f ≡ f x
on-is m x f is = ap (λ z. on_ok z f) is

-- ---- what is left alone by what follows

denoted_hops : (c : Config) (x : Denoted) (v : Value) → (set_denoted c x v).transactions.hops ≡ c.transactions.hops
denoted_hops c (denoted.Variable n) v = refl
denoted_hops c other v = refl

name_hops : (c : Config) (p : ℕ) (h : Here) (n : NameUse) (v : Value) → (set_name c p h n v).transactions.hops ≡ c.transactions.hops
name_hops c p h (name_use.Local n) v = refl
name_hops c p h (name_use.Declared n) v = denoted_hops c (denotes h n) v

stored_hops : (c : Config) (p : ℕ) (h : Here) (target : Option Target) (v : Value) → (stored_if c p h target v).transactions.hops ≡ c.transactions.hops
stored_hops c p h None v = refl
stored_hops c p h (Some target) v = name_hops c p h target.name _

entered_hops : (c : Config) (p : ℕ) (r : Residual) (s : ℕ) (o : Option ℕ) (args : List Value) (via : Via) → (enters_handler c p r s o args via).transactions.hops ≡ c.transactions.hops
entered_hops c p r s None args via = refl
entered_hops c p r s (Some f) args via = refl

-- ---- the judgement

module _ (c x : Config) (same : x.transactions.hops ≡ c.transactions.hops) (hop t : ℕ) (e : Entry) (there : broken (history c hop) e ≡ None → IsHop c.transactions.hops hop) (l : Lawful (history c hop)) (comes : MayCome (history c hop) e)
    (f : Config → Config) (hops : (y : Config) → (f y).transactions.hops ≡ y.transactions.hops) where
  history_same : history x hop ≡ history c hop
  history_same = ap (λ hs. history_of hs hop) same

  grown_history : broken (history c hop) e ≡ None → history (f (with_entry x hop e)) hop ≡ history c hop ++ e ∷ []
  grown_history fits =
      ap (λ hs. history_of hs hop) (hops (with_entry x hop e))
      ∙ hist-here x.transactions.hops hop (there fits).0 e (ap (λ hs. slice_get hs hop) same ∙ (there fits).1)
      ∙ ap (λ h. h ++ e ∷ []) history_same

  judged_on : (b : Option Rule) → broken (history x hop) e ≡ b → (o : Outcome) → o ≡ as_outcome (on_ok (judged_by x hop e t b) (λ y. Ok (f y))) → IsJudged c hop t e o
  judged_on None is o now = record {
    lawful = λ k. (f (with_entry x hop e), now, grown_history (ap (λ h. broken h e) (sym history_same) ∙ is));
    unlawful = λ not. absurd (not (lawful_more (history c hop) e l comes (ap (λ h. broken h e) (sym history_same) ∙ is)));
  }
  judged_on (Some rule) is o now =
      let here_too : broken (history c hop) e ≡ Some rule = ap (λ h. broken h e) (sym history_same) ∙ is in
      record {
        lawful = λ k. absurd (none-some rule (sym (lawful_fits (history c hop) e k) ∙ here_too));
        unlawful = λ not. (rule, here_too, now);
      }

  -- at a return, whose payload is not freed
  returned_on : (q : Payload) → payload_of x.transactions.pool t ≡ Some q → (b : Option Rule) → broken (history x hop) e ≡ b → (o : Outcome) → o ≡ as_outcome (on_ok (for_freed x t (judged_by x hop e t b)) (λ y. Ok (f y))) → IsJudged c hop t e o
  returned_on q there_is None is o now = judged_on None is o now
  returned_on q there_is (Some rule) is o now = judged_on (Some rule) is o (now ∙ ap (λ z. faulted (of_freed t z (fault.Protocol (rule_number rule) hop t))) there_is)

  -- and where it is freed
  freed_fault_is : (rule : Rule) → freed_fault t (fault.Protocol (rule_number rule) hop t) ≡ fault_if_freed rule hop t
  freed_fault_is rule_of.P1 = refl
  freed_fault_is rule_of.P2 = refl
  freed_fault_is rule_of.P3 = refl
  freed_fault_is rule_of.P4 = refl
  freed_fault_is rule_of.P5 = refl
  freed_fault_is rule_of.P6 = refl
  freed_fault_is rule_of.P7 = refl
  freed_fault_is rule_of.P8 = refl
  freed_fault_is rule_of.P9 = refl
  freed_fault_is rule_of.P10 = refl

  freed_on : payload_of x.transactions.pool t ≡ None → (b : Option Rule) → broken (history x hop) e ≡ b → (o : Outcome) → o ≡ as_outcome (on_ok (for_freed x t (judged_by x hop e t b)) (λ y. Ok (f y))) → IsJudgedFreed c hop t e o
  freed_on gone None is o now = record {
    lawful = λ k. (f (with_entry x hop e), now, grown_history (ap (λ h. broken h e) (sym history_same) ∙ is));
    unlawful = λ not. absurd (not (lawful_more (history c hop) e l comes (ap (λ h. broken h e) (sym history_same) ∙ is)));
  }
  freed_on gone (Some rule) is o now =
      let here_too : broken (history c hop) e ≡ Some rule = ap (λ h. broken h e) (sym history_same) ∙ is in
      record {
        lawful = λ k. absurd (none-some rule (sym (lawful_fits (history c hop) e k) ∙ here_too));
        unlawful = λ not. (rule, here_too, now ∙ ap (λ z. faulted (of_freed t z (fault.Protocol (rule_number rule) hop t))) gone ∙ ap faulted (freed_fault_is rule));
      }

-- ---- calls

module _ (design : Design) (script : List Command) (sound : SoundDesign design) (steps : ℕ) (choices : List ℕ) (c : Config) (reached : after steps choices (start design script) ≡ Some c) where
  known : Protocol (parts c)
  known = protocol-after design script sound steps choices c reached

  hop_in : (hop : ℕ) (h : Hop) → slice_get c.design.hops hop ≡ Some h → IsHop c.transactions.hops hop
  hop_in hop h at = known.many hop h at

  module _ (p : ℕ) (i : Instance) (n : IsNext c p i) where
    abbrev d : Config
    d = settled_in c p i.residual

    abbrev r : Residual
    r = left_of c i

    abbrev j : Instance
    j = record i { residual = left_of c i }

    abbrev h : Here
    h = place_of c p i

    b_call_is : (s socket : ℕ) (m delay : NameUse) (hop : ℕ) (forward : Bool) (t : ℕ) (q : Payload) → next_of r ≡ residual.statement s → statement_at (arena c) s ≡ Some (code.b_transport socket m delay)
        → socket_of (denotes h socket) ≡ Some (hop, forward) → payload_number h m ≡ Ok t → live_payload c t ≡ Ok q → may_enter_handler r (blocking_handler (slice_get c.design.hops hop)) ≡ Ok tt
        → step c ≡ as_outcome (on_ok (judged d hop (BCall t (is_some (blocking_handler (slice_get c.design.hops hop)))) t)
        (λ y. Ok (enters_handler y p r s (blocking_handler (slice_get c.design.hops hop)) (value.Pay (Some t) ∷ value_named h delay ∷ []) (record { hop = hop; forward = true; blocking = true; payload = t }))))
    b_call_is s socket m delay hop forward t q next found end number live frames =
        phase-is c p i n ∙ ap as_outcome (
        ap (do_next d p j r) next ∙ ap (on_statement d p j r s) found ∙ ap (b_transport_on d p r h s m delay) end
        ∙ on-is (payload_number h m) t _ number ∙ on-is (live_payload d t) q _ live ∙ on-is (may_enter_handler r (blocking_handler (slice_get c.design.hops hop))) tt _ frames)

    nb_call_is : (s socket : ℕ) (y : Option Target) (m ph delay : NameUse) (hop : ℕ) (forward : Bool) (t : ℕ) (q : Payload) → next_of r ≡ residual.statement s → statement_at (arena c) s ≡ Some (code.nb_transport y socket m ph delay)
        → socket_of (denotes h socket) ≡ Some (hop, forward) → payload_number h m ≡ Ok t → live_payload c t ≡ Ok q → may_enter_handler r (nonblocking_handler forward (slice_get c.design.hops hop)) ≡ Ok tt
        → step c ≡ as_outcome (on_ok (judged d hop (Call t (path_of_call forward) (int_of (value_named h ph)) (is_complete q) (is_some (nonblocking_handler forward (slice_get c.design.hops hop)))) t)
        (λ z. Ok (enters_handler z p r s (nonblocking_handler forward (slice_get c.design.hops hop)) (value.Pay (Some t) ∷ value_named h ph ∷ value_named h delay ∷ []) (record { hop = hop; forward = forward; blocking = false; payload = t }))))
    nb_call_is s socket y m ph delay hop forward t q next found end number live frames =
        phase-is c p i n ∙ ap as_outcome (
        ap (do_next d p j r) next ∙ ap (on_statement d p j r s) found ∙ ap (nb_transport_on d p r h s m ph delay) end
        ∙ on-is (payload_number h m) t _ number ∙ on-is (live_payload d t) q _ live ∙ on-is (may_enter_handler r (nonblocking_handler forward (slice_get c.design.hops hop))) tt _ frames)

    -- ---- returns

    settled : Protocol (parts d)
    settled = protocol-settled p (parts c) i n.at known

    there : instance_at d p ≡ Some j
    there = change-here c.processes.instances p _ i n.at

    module _ (x : Frame) (next : next_of r ≡ residual.leaves x) (s : ℕ) (call : x.call ≡ Some s) (via : Via) (over : x.via ≡ Some via) where
      abbrev e_ : Config
      e_ = passes d p r

      open_now : calls_in d.processes.instances p ≡ via ∷ left_by_unw (put r skip)
      open_now = ap vias_at there ∙ leaves-vias r x (settle-tight (arena c) i.residual) next ∙ ap (λ o. left_via o ++ left_by_unw (put r skip)) over

      is_open_now : IsOpenFor c.transactions.hops via
      is_open_now = settled.hopped.open_ p via (subst (In via) (sym open_now) (inl refl))

      kind : KindFor (caller c.design x.call) (Some via)
      kind = subst (KindFor (caller c.design x.call)) over (leaves-kind c.design r x (settled.kinds p j there) next)

      closes : (e : Entry) → IsReturnOf (caller c.design x.call) via.payload e → IsClosing (history c via.hop) via.payload e
      closes e entry = closing (history c via.hop) (caller c.design x.call) via.blocking via.payload e kind is_open_now.is_it entry

      abbrev b : Here
      b = here (passes d p r) p j (put r skip)

      b_return_is : (socket : ℕ) (m delay : NameUse) → statement_at (arena c) s ≡ Some (code.b_transport socket m delay)
          → step c ≡ as_outcome (b_transport_ends (passes d p r) p b x via delay)
      b_return_is socket m delay found =
          phase-is c p i n ∙ ap as_outcome (
          ap (do_next d p j r) next ∙ ap (λ o. handed_back (passes d p r) p b x (calling_statement (passes d p r) o)) call ∙ ap (handed_back (passes d p r) p b x) found
          ∙ ap (λ o. via_ends (passes d p r) o (λ w. b_transport_ends (passes d p r) p b x w delay)) over)

      nb_return_is : (socket : ℕ) (y : Option Target) (m ph delay : NameUse) → statement_at (arena c) s ≡ Some (code.nb_transport y socket m ph delay)
          → step c ≡ as_outcome (nb_transport_ends (passes d p r) p b x via y ph delay)
      nb_return_is socket y m ph delay found =
          phase-is c p i n ∙ ap as_outcome (
          ap (do_next d p j r) next ∙ ap (λ o. handed_back (passes d p r) p b x (calling_statement (passes d p r) o)) call ∙ ap (handed_back (passes d p r) p b x) found
          ∙ ap (λ o. via_ends (passes d p r) o (λ w. nb_transport_ends (passes d p r) p b x w y ph delay)) over)

      called_by : (y : Statement) → statement_at (arena c) s ≡ Some y → caller c.design x.call ≡ Some y
      called_by y found = ap (caller c.design) call ∙ found

      module _ (q : Payload) (live : payload_of c.transactions.pool via.payload ≡ Some q) where
        complete_is : complete_now (passes d p r) via.payload ≡ is_complete q
        complete_is = ap complete_if live

        b_return_judged : (socket : ℕ) (m delay : NameUse) → statement_at (arena c) s ≡ Some (code.b_transport socket m delay) → IsJudged c via.hop via.payload (BReturn via.payload (is_complete q)) (step c)
        b_return_judged socket m delay found =
            let e = BReturn via.payload (is_complete q) in
            let o = closes e (subst (λ z. IsReturnOf z via.payload e) (sym (called_by (code.b_transport socket m delay) found)) (is_complete q, refl)) in
            returned_on c (passes d p r) refl via.hop via.payload e (λ fits. is_open_now.hop) (known.hopped.lawful via.hop) o.comes
            (λ y. set_name y p b delay (final_value x 1 (value.Moment 0))) (λ y. name_hops y p b delay (final_value x 1 (value.Moment 0))) q live
            (broken (history (passes d p r) via.hop) e) refl (step c)
            (b_return_is socket m delay found ∙ ap (λ z. as_outcome (on_ok (judged_return (passes d p r) via.hop (BReturn via.payload z) via.payload) (λ y. Ok (set_name y p b delay (final_value x 1 (value.Moment 0)))))) complete_is)

        nb_return_judged : (socket : ℕ) (y : Option Target) (m ph delay : NameUse) → statement_at (arena c) s ≡ Some (code.nb_transport y socket m ph delay)
            → IsJudged c via.hop via.payload (Return via.payload (int_of (answer_of (arena c) x)) (int_of (final_value x 1 (value.Int 32 0))) (is_complete q)) (step c)
        nb_return_judged socket y m ph delay found =
            let e = Return via.payload (int_of (answer_of (arena c) x)) (int_of (final_value x 1 (value.Int 32 0))) (is_complete q) in
            let o = closes e (subst (λ z. IsReturnOf z via.payload e) (sym (called_by (code.nb_transport y socket m ph delay) found)) (int_of (answer_of (arena c) x), int_of (final_value x 1 (value.Int 32 0)), is_complete q, refl)) in
            returned_on c (passes d p r) refl via.hop via.payload e (λ fits. is_open_now.hop) (known.hopped.lawful via.hop) o.comes
            (λ z. stored_if (set_name (set_name z p b ph (final_value x 1 (value.Int 32 0))) p b delay (final_value x 2 (value.Moment 0))) p b y (answer_of (arena c) x))
            (λ z. stored_hops (set_name (set_name z p b ph (final_value x 1 (value.Int 32 0))) p b delay (final_value x 2 (value.Moment 0))) p b y (answer_of (arena c) x)
            ∙ name_hops (set_name z p b ph (final_value x 1 (value.Int 32 0))) p b delay (final_value x 2 (value.Moment 0)) ∙ name_hops z p b ph (final_value x 1 (value.Int 32 0))) q live
            (broken (history (passes d p r) via.hop) e) refl (step c)
            (nb_return_is socket y m ph delay found
            ∙ ap (λ z. as_outcome (on_ok (judged_return (passes d p r) via.hop (Return via.payload (int_of (answer_of (arena c) x)) (int_of (final_value x 1 (value.Int 32 0))) z) via.payload)
            (λ w. Ok (stored_if (set_name (set_name w p b ph (final_value x 1 (value.Int 32 0))) p b delay (final_value x 2 (value.Moment 0))) p b y (answer_of (arena c) x))))) complete_is)

      -- the payload is freed
      module _ (gone : payload_of c.transactions.pool via.payload ≡ None) where
        incomplete_is : complete_now (passes d p r) via.payload ≡ false
        incomplete_is = ap complete_if gone

        b_return_freed : (socket : ℕ) (m delay : NameUse) → statement_at (arena c) s ≡ Some (code.b_transport socket m delay) → IsJudgedFreed c via.hop via.payload (BReturn via.payload false) (step c)
        b_return_freed socket m delay found =
            let e = BReturn via.payload false in
            let o = closes e (subst (λ z. IsReturnOf z via.payload e) (sym (called_by (code.b_transport socket m delay) found)) (false, refl)) in
            freed_on c (passes d p r) refl via.hop via.payload e (λ fits. is_open_now.hop) (known.hopped.lawful via.hop) o.comes
            (λ y. set_name y p b delay (final_value x 1 (value.Moment 0))) (λ y. name_hops y p b delay (final_value x 1 (value.Moment 0))) gone
            (broken (history (passes d p r) via.hop) e) refl (step c)
            (b_return_is socket m delay found ∙ ap (λ z. as_outcome (on_ok (judged_return (passes d p r) via.hop (BReturn via.payload z) via.payload) (λ y. Ok (set_name y p b delay (final_value x 1 (value.Moment 0)))))) incomplete_is)

        nb_return_freed : (socket : ℕ) (y : Option Target) (m ph delay : NameUse) → statement_at (arena c) s ≡ Some (code.nb_transport y socket m ph delay)
            → IsJudgedFreed c via.hop via.payload (Return via.payload (int_of (answer_of (arena c) x)) (int_of (final_value x 1 (value.Int 32 0))) false) (step c)
        nb_return_freed socket y m ph delay found =
            let e = Return via.payload (int_of (answer_of (arena c) x)) (int_of (final_value x 1 (value.Int 32 0))) false in
            let o = closes e (subst (λ z. IsReturnOf z via.payload e) (sym (called_by (code.nb_transport y socket m ph delay) found)) (int_of (answer_of (arena c) x), int_of (final_value x 1 (value.Int 32 0)), false, refl)) in
            freed_on c (passes d p r) refl via.hop via.payload e (λ fits. is_open_now.hop) (known.hopped.lawful via.hop) o.comes
            (λ z. stored_if (set_name (set_name z p b ph (final_value x 1 (value.Int 32 0))) p b delay (final_value x 2 (value.Moment 0))) p b y (answer_of (arena c) x))
            (λ z. stored_hops (set_name (set_name z p b ph (final_value x 1 (value.Int 32 0))) p b delay (final_value x 2 (value.Moment 0))) p b y (answer_of (arena c) x)
            ∙ name_hops (set_name z p b ph (final_value x 1 (value.Int 32 0))) p b delay (final_value x 2 (value.Moment 0)) ∙ name_hops z p b ph (final_value x 1 (value.Int 32 0))) gone
            (broken (history (passes d p r) via.hop) e) refl (step c)
            (nb_return_is socket y m ph delay found
            ∙ ap (λ z. as_outcome (on_ok (judged_return (passes d p r) via.hop (Return via.payload (int_of (answer_of (arena c) x)) (int_of (final_value x 1 (value.Int 32 0))) z) via.payload)
            (λ w. Ok (stored_if (set_name (set_name w p b ph (final_value x 1 (value.Int 32 0))) p b delay (final_value x 2 (value.Moment 0))) p b y (answer_of (arena c) x))))) incomplete_is)

    -- ---- calls whose handler there is

    blocking_there : (hop f : ℕ) (o : Option Hop) → slice_get c.design.hops hop ≡ o → blocking_handler o ≡ Some f → IsHop c.transactions.hops hop
    blocking_there hop f None at e = absurd (none-some f e)
    blocking_there hop f (Some y) at e = hop_in hop y at

    nonblocking_there : (forward : Bool) (hop f : ℕ) (o : Option Hop) → slice_get c.design.hops hop ≡ o → nonblocking_handler forward o ≡ Some f → IsHop c.transactions.hops hop
    nonblocking_there true hop f None at e = absurd (none-some f e)
    nonblocking_there false hop f None at e = absurd (none-some f e)
    nonblocking_there true hop f (Some y) at e = hop_in hop y at
    nonblocking_there false hop f (Some y) at e = hop_in hop y at

    is_some_of : (o : Option ℕ) → is_some o ≡ true → (f : ℕ) × (o ≡ Some f)
    is_some_of None e = absurd (true≢false (sym e))
    is_some_of (Some f) e = (f, refl)

    b_call_judged : (s socket : ℕ) (m delay : NameUse) (hop : ℕ) (forward : Bool) (t : ℕ) (q : Payload) → next_of r ≡ residual.statement s → statement_at (arena c) s ≡ Some (code.b_transport socket m delay)
        → socket_of (denotes h socket) ≡ Some (hop, forward) → payload_number h m ≡ Ok t → live_payload c t ≡ Ok q → may_enter_handler r (blocking_handler (slice_get c.design.hops hop)) ≡ Ok tt
        → IsJudged c hop t (BCall t (is_some (blocking_handler (slice_get c.design.hops hop)))) (step c)
    b_call_judged s socket m delay hop forward t q next found end number live frames =
        let o = blocking_handler (slice_get c.design.hops hop) in
        let via : Via = record { hop = hop; forward = true; blocking = true; payload = t } in
        let e = BCall t (is_some o) in
        judged_on c d refl hop t e
        (λ fits. let f = is_some_of o (b_call-closed (history c hop) (known.hopped.lawful hop) t (is_some o) fits).1 in blocking_there hop f.0 (slice_get c.design.hops hop) refl f.1)
        (known.hopped.lawful hop) tt (λ y. enters_handler y p r s o (value.Pay (Some t) ∷ value_named h delay ∷ []) via) (λ y. entered_hops y p r s o (value.Pay (Some t) ∷ value_named h delay ∷ []) via)
        (broken (history d hop) e) refl (step c) (b_call_is s socket m delay hop forward t q next found end number live frames)

    nb_call_judged : (s socket : ℕ) (y : Option Target) (m ph delay : NameUse) (hop : ℕ) (forward : Bool) (t : ℕ) (q : Payload) → next_of r ≡ residual.statement s → statement_at (arena c) s ≡ Some (code.nb_transport y socket m ph delay)
        → socket_of (denotes h socket) ≡ Some (hop, forward) → payload_number h m ≡ Ok t → live_payload c t ≡ Ok q → may_enter_handler r (nonblocking_handler forward (slice_get c.design.hops hop)) ≡ Ok tt
        → IsJudged c hop t (Call t (path_of_call forward) (int_of (value_named h ph)) (is_complete q) (is_some (nonblocking_handler forward (slice_get c.design.hops hop)))) (step c)
    nb_call_judged s socket y m ph delay hop forward t q next found end number live frames =
        let o = nonblocking_handler forward (slice_get c.design.hops hop) in
        let via : Via = record { hop = hop; forward = forward; blocking = false; payload = t } in
        let e = Call t (path_of_call forward) (int_of (value_named h ph)) (is_complete q) (is_some o) in
        judged_on c d refl hop t e
        (λ fits. let f = is_some_of o (call-closed (history c hop) (known.hopped.lawful hop) t (path_of_call forward) (int_of (value_named h ph)) (is_complete q) (is_some o) fits).1 in nonblocking_there forward hop f.0 (slice_get c.design.hops hop) refl f.1)
        (known.hopped.lawful hop) tt (λ z. enters_handler z p r s o (value.Pay (Some t) ∷ value_named h ph ∷ value_named h delay ∷ []) via)
        (λ z. entered_hops z p r s o (value.Pay (Some t) ∷ value_named h ph ∷ value_named h delay ∷ []) via)
        (broken (history d hop) e) refl (step c) (nb_call_is s socket y m ph delay hop forward t q next found end number live frames)

  pub judged-exactly : (hop t : ℕ) (e : Entry) → WouldAdd c hop t e → IsJudged c hop t e (step c)
  judged-exactly hop t e (b_call p i s socket m delay hop_ forward t_ q n next found end number live frames) = b_call_judged p i n s socket m delay hop_ forward t_ q next found end number live frames
  judged-exactly hop t e (nb_call p i s socket y m ph delay hop_ forward t_ q n next found end number live frames) = nb_call_judged p i n s socket y m ph delay hop_ forward t_ q next found end number live frames
  judged-exactly hop t e (b_return p i x s socket m delay via q n next call found over live) = b_return_judged p i n x next s call via over q live socket m delay found
  judged-exactly hop t e (nb_return p i x s socket y m ph delay via q n next call found over live) = nb_return_judged p i n x next s call via over q live socket y m ph delay found

  pub judged-freed : (hop t : ℕ) (e : Entry) → WouldAddFreed c hop t e → IsJudgedFreed c hop t e (step c)
  judged-freed hop t e (b_freed p i x s socket m delay via n next call found over gone) = b_return_freed p i n x next s call via over gone socket m delay found
  judged-freed hop t e (nb_freed p i x s socket y m ph delay via n next call found over gone) = nb_return_freed p i n x next s call via over gone socket y m ph delay found
