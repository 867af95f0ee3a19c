-- A fault of the protocol comes with an entry that breaks a rule; and a payload that is freed is asked for before any rule.
use Rattle.std.proofs.Common.{◌≡◌, ℕ, Bool, true, false, cond, List, [], ◌∷◌, slice_get, Option, Some, None, refl, sym, ap, ◌∙◌, subst, inl, inr}
use Rattle.std.specs.Prelude.{⊤, Result, Ok, Err, is_some}
use Rattle.sim_model.specs.LogicValues.declared.kinds.Value.TheVariants as value
use Rattle.sim_model.specs.PayloadPool.declared.payload.Payload.{Payload}
use Rattle.sim_model.specs.TransportPhases.History.{Entry, Call, Return, BCall, BReturn, broken}
use Rattle.sim_model.specs.TransportPhases.declared.phases.Rule.{Rule}
use Rattle.sim_model.specs.TransportPhases.declared.phases.Rule.TheVariants as rule_of
use Rattle.sim_model.specs.FlatDesign.Code as code
use Rattle.sim_model.specs.FlatDesign.Code.{Statement, statement_at}
use Rattle.sim_model.specs.FlatDesign.declared.names.NameUse.{NameUse}
use Rattle.sim_model.specs.FlatDesign.declared.code.Store.{Store as Target}
use Rattle.sim_model.specs.FlatDesign.declared.faults.RunFault.{RunFault}
use Rattle.sim_model.specs.FlatDesign.declared.faults.RunFault.TheVariants as fault
use Rattle.sim_model.specs.Values.{on_ok}
use Rattle.sim_model.specs.Residual as residual
use Rattle.sim_model.specs.Residual.{Residual, Frame, Next, skip, put, taken_off, next_of}
use Rattle.sim_model.specs.Payloads.{payload_of}
use Rattle.sim_model.specs.Configuration.{Config, Instance, arena, instance_at, with_residual}
use Rattle.sim_model.specs.Reading.{Here, here, denotes, payload_number, live_payload, not_freed}
use Rattle.sim_model.specs.Storing.{passes, set_name, stored_if}
use Rattle.sim_model.specs.Calls.{answer_of, final_value}
use Rattle.sim_model.specs.Transport.{socket_of, blocking_handler, nonblocking_handler, may_enter_handler, path_of_call, int_of, value_named, is_complete, history, rule_number, judged_by, for_freed, of_freed, freed_fault, judged_return, complete_if, enters_handler, b_transport_on, nb_transport_on, b_transport_ends, nb_transport_ends}
use Rattle.sim_model.specs.Statements.{settled_in, on_statement, do_next, step_by, hands_back, handed_back, via_ends, calling_statement}
use Rattle.sim_model.specs.Steps.{Outcome, went, faulted, takes, ended, as_outcome, carry_out, next_command, evaluate, step_in, step}
use Rattle.sim_model.specs.declared.plain.Phase.{Phase}
use Rattle.sim_model.specs.declared.plain.Phase.TheVariants as phase
use Rattle.sim_model.specs.declared.plain.Command.{Command}
use Rattle.sim_model.specs.declared.plain.Command.TheVariants as command
use Rattle.sim_model.specs.declared.plain.Via.{Via}
use Rattle.laws_runs.specs.Added.{IsNext, left_of, place_of, WouldAdd, b_call, nb_call, b_return, nb_return, WouldAddFreed, b_freed, nb_freed, NamesFreed, b_named, nb_named, BreaksRule}
use Rattle.laws_runs.proofs.Faults as faults
use Rattle.laws_runs.proofs.EntryJudgements.{phase-is, on-is}

module _ (c : Config) where
  abbrev B : ℕ → ℕ → ℕ → Type 0
  B = BreaksRule c

  abbrev IfFault : {A : Type 0} → Result A RunFault → Type 0
  IfFault m = faults.IfFault B m

  -- of a call: the rule that the entry breaks is that of the fault
  call_judged : (x : Config) (hop t : ℕ) (e : Entry) (b : Option Rule) → broken (history c hop) e ≡ b → WouldAdd c hop t e → (f : Config → Config) → IfFault (on_ok (judged_by x hop e t b) (λ y. Ok (f y)))
  call_judged x hop t e None is comes f = tt
  call_judged x hop t e (Some rule) is comes f = record { entry = e; comes = inl comes; rule = rule; is_first = is; has_number = refl }

  -- and of the end of one
  return_judged : (x : Config) (hop t : ℕ) (e : Entry) (q : Payload) → payload_of x.transactions.pool t ≡ Some q → (b : Option Rule) → broken (history c hop) e ≡ b → WouldAdd c hop t e → (f : Config → Config)
      → IfFault (on_ok (for_freed x t (judged_by x hop e t b)) (λ y. Ok (f y)))
  return_judged x hop t e q there None is comes f = tt
  return_judged x hop t e q there (Some rule) is comes f =
      subst (λ o. faults.Blames B (of_freed t o (fault.Protocol (rule_number rule) hop t))) (sym there)
      (record { entry = e; comes = inl comes; rule = rule; is_first = is; has_number = refl })

  freed_rule : (hop t : ℕ) (e : Entry) → WouldAddFreed c hop t e → (rule : Rule) → broken (history c hop) e ≡ Some rule → faults.Blames B (freed_fault t (fault.Protocol (rule_number rule) hop t))
  freed_rule hop t e comes rule_of.P1 is = record { entry = e; comes = inr comes; rule = rule_of.P1; is_first = is; has_number = refl }
  freed_rule hop t e comes rule_of.P2 is = record { entry = e; comes = inr comes; rule = rule_of.P2; is_first = is; has_number = refl }
  freed_rule hop t e comes rule_of.P3 is = record { entry = e; comes = inr comes; rule = rule_of.P3; is_first = is; has_number = refl }
  freed_rule hop t e comes rule_of.P4 is = record { entry = e; comes = inr comes; rule = rule_of.P4; is_first = is; has_number = refl }
  freed_rule hop t e comes rule_of.P5 is = record { entry = e; comes = inr comes; rule = rule_of.P5; is_first = is; has_number = refl }
  freed_rule hop t e comes rule_of.P6 is = tt
  freed_rule hop t e comes rule_of.P7 is = record { entry = e; comes = inr comes; rule = rule_of.P7; is_first = is; has_number = refl }
  freed_rule hop t e comes rule_of.P8 is = record { entry = e; comes = inr comes; rule = rule_of.P8; is_first = is; has_number = refl }
  freed_rule hop t e comes rule_of.P9 is = record { entry = e; comes = inr comes; rule = rule_of.P9; is_first = is; has_number = refl }
  freed_rule hop t e comes rule_of.P10 is = record { entry = e; comes = inr comes; rule = rule_of.P10; is_first = is; has_number = refl }

  freed_judged : (x : Config) (hop t : ℕ) (e : Entry) → payload_of x.transactions.pool t ≡ None → (b : Option Rule) → broken (history c hop) e ≡ b → WouldAddFreed c hop t e → (f : Config → Config)
      → IfFault (on_ok (for_freed x t (judged_by x hop e t b)) (λ y. Ok (f y)))
  freed_judged x hop t e gone None is comes f = tt
  freed_judged x hop t e gone (Some rule) is comes f =
      subst (λ o. faults.Blames B (of_freed t o (fault.Protocol (rule_number rule) hop t))) (sym gone) (freed_rule hop t e comes rule is)

  module _ (p : ℕ) (i : Instance) (n : IsNext c p i) where
    abbrev d : Config
    d = settled_in c p i.residual

    abbrev r : Residual
    r = left_of c i

    abbrev j : Instance
    j = record i { residual = left_of c i }

    abbrev h : Here
    h = place_of c p i

    -- ---- transport calls

    b_call_is : (s socket : ℕ) (m delay : NameUse) → next_of r ≡ residual.statement s → statement_at (arena c) s ≡ Some (code.b_transport socket m delay) → (o : Option (ℕ × Bool)) → socket_of (denotes h socket) ≡ o
        → IfFault (b_transport_on d p r h s m delay o)
    b_call_is s socket m delay next found None end = tt
    b_call_is s socket m delay next found (Some o) end =
        let handler = blocking_handler (slice_get c.design.hops o.0) in
        faults.on-fault B (payload_number h m) _ (faults.number-fault B h m) (λ t number.
        faults.on-fault B (live_payload d t) _ (faults.live-fault B d t) (λ q live.
        faults.on-fault B (may_enter_handler r handler) _ (faults.handler-fault B r handler) (λ ok frames.
        call_judged d o.0 t (BCall t (is_some handler)) (broken (history c o.0) (BCall t (is_some handler))) refl
        (b_call p i s socket m delay o.0 o.1 t q n next found end number live frames)
        (λ y. enters_handler y p r s handler (value.Pay (Some t) ∷ value_named h delay ∷ []) (record { hop = o.0; forward = true; blocking = true; payload = t })))))

    nb_call_is : (s socket : ℕ) (y : Option Target) (m ph delay : NameUse) → next_of r ≡ residual.statement s → statement_at (arena c) s ≡ Some (code.nb_transport y socket m ph delay) → (o : Option (ℕ × Bool)) → socket_of (denotes h socket) ≡ o
        → IfFault (nb_transport_on d p r h s m ph delay o)
    nb_call_is s socket y m ph delay next found None end = tt
    nb_call_is s socket y m ph delay next found (Some o) end =
        let handler = nonblocking_handler o.1 (slice_get c.design.hops o.0) in
        faults.on-fault B (payload_number h m) _ (faults.number-fault B h m) (λ t number.
        faults.on-fault B (live_payload d t) _ (faults.live-fault B d t) (λ q live.
        faults.on-fault B (may_enter_handler r handler) _ (faults.handler-fault B r handler) (λ ok frames.
        let e = Call t (path_of_call o.1) (int_of (value_named h ph)) (is_complete q) (is_some handler) in
        call_judged d o.0 t e (broken (history c o.0) e) refl
        (nb_call p i s socket y m ph delay o.0 o.1 t q n next found end number live frames)
        (λ z. enters_handler z p r s handler (value.Pay (Some t) ∷ value_named h ph ∷ value_named h delay ∷ []) (record { hop = o.0; forward = o.1; blocking = false; payload = t })))))

    statement_is : (s : ℕ) → next_of r ≡ residual.statement s → (o : Option Statement) → statement_at (arena c) s ≡ o → IfFault (on_statement d p j r s o)
    statement_is s next None found = tt
    statement_is s next (Some x) found =
        faults.statement-fault B d p j r h s x
        (λ socket m delay is. b_call_is s socket m delay next (found ∙ ap (λ y. Some y) is) (socket_of (denotes h socket)) refl)
        (λ y socket m ph delay is. nb_call_is s socket y m ph delay next (found ∙ ap (λ z. Some z) is) (socket_of (denotes h socket)) refl)

    -- ---- their ends

    module _ (x : Frame) (next : next_of r ≡ residual.leaves x) where
      abbrev e_ : Config
      e_ = passes d p r

      abbrev b : Here
      b = here (passes d p r) p j (put r skip)

      b_end_is : (s socket : ℕ) (m delay : NameUse) → x.call ≡ Some s → statement_at (arena c) s ≡ Some (code.b_transport socket m delay) → (via : Via) → x.via ≡ Some via
          → (q : Option Payload) → payload_of c.transactions.pool via.payload ≡ q → IfFault (b_transport_ends (passes d p r) p b x via delay)
      b_end_is s socket m delay call found via over None gone =
          subst (λ z. IfFault (on_ok (judged_return (passes d p r) via.hop (BReturn via.payload z) via.payload) (λ y. Ok (set_name y p b delay (final_value x 1 (value.Moment 0)))))) (sym (ap complete_if gone))
          (freed_judged (passes d p r) via.hop via.payload (BReturn via.payload false) gone (broken (history c via.hop) (BReturn via.payload false)) refl
          (b_freed p i x s socket m delay via n next call found over gone) (λ y. set_name y p b delay (final_value x 1 (value.Moment 0))))
      b_end_is s socket m delay call found via over (Some q) live =
          subst (λ z. IfFault (on_ok (judged_return (passes d p r) via.hop (BReturn via.payload z) via.payload) (λ y. Ok (set_name y p b delay (final_value x 1 (value.Moment 0)))))) (sym (ap complete_if live))
          (return_judged (passes d p r) via.hop via.payload (BReturn via.payload (is_complete q)) q live (broken (history c via.hop) (BReturn via.payload (is_complete q))) refl
          (b_return p i x s socket m delay via q n next call found over live) (λ y. set_name y p b delay (final_value x 1 (value.Moment 0))))

      abbrev nb_entry : Via → Bool → Entry
      nb_entry via z = Return via.payload (int_of (answer_of (arena c) x)) (int_of (final_value x 1 (value.Int 32 0))) z

      abbrev nb_stores : Option Target → NameUse → NameUse → Config → Config
      nb_stores y ph delay w = stored_if (set_name (set_name w p b ph (final_value x 1 (value.Int 32 0))) p b delay (final_value x 2 (value.Moment 0))) p b y (answer_of (arena c) x)

      nb_end_is : (s socket : ℕ) (y : Option Target) (m ph delay : NameUse) → x.call ≡ Some s → statement_at (arena c) s ≡ Some (code.nb_transport y socket m ph delay) → (via : Via) → x.via ≡ Some via
          → (q : Option Payload) → payload_of c.transactions.pool via.payload ≡ q → IfFault (nb_transport_ends (passes d p r) p b x via y ph delay)
      nb_end_is s socket y m ph delay call found via over None gone =
          subst (λ z. IfFault (on_ok (judged_return (passes d p r) via.hop (nb_entry via z) via.payload) (λ w. Ok (nb_stores y ph delay w)))) (sym (ap complete_if gone))
          (freed_judged (passes d p r) via.hop via.payload (nb_entry via false) gone (broken (history c via.hop) (nb_entry via false)) refl
          (nb_freed p i x s socket y m ph delay via n next call found over gone) (nb_stores y ph delay))
      nb_end_is s socket y m ph delay call found via over (Some q) live =
          subst (λ z. IfFault (on_ok (judged_return (passes d p r) via.hop (nb_entry via z) via.payload) (λ w. Ok (nb_stores y ph delay w)))) (sym (ap complete_if live))
          (return_judged (passes d p r) via.hop via.payload (nb_entry via (is_complete q)) q live (broken (history c via.hop) (nb_entry via (is_complete q))) refl
          (nb_return p i x s socket y m ph delay via q n next call found over live) (nb_stores y ph delay))

      via_is : (v : Option Via) → x.via ≡ v → (f : Via → Result Config RunFault) → ((via : Via) → x.via ≡ Some via → IfFault (f via)) → IfFault (via_ends (passes d p r) v f)
      via_is None over f h_ = tt
      via_is (Some via) over f h_ = h_ via over

      hands_is : (s : ℕ) → x.call ≡ Some s → (y : Statement) → statement_at (arena c) s ≡ Some y → IfFault (hands_back (passes d p r) p b x y)
      hands_is s call (code.nb_transport y socket m ph delay) found =
          via_is x.via refl _ (λ via over. nb_end_is s socket y m ph delay call found via over (payload_of c.transactions.pool via.payload) refl)
      hands_is s call (code.b_transport socket m delay) found =
          via_is x.via refl _ (λ via over. b_end_is s socket m delay call found via over (payload_of c.transactions.pool via.payload) refl)
      hands_is s call other found = tt

      handed_is : (s : ℕ) → x.call ≡ Some s → (o : Option Statement) → statement_at (arena c) s ≡ o → IfFault (handed_back (passes d p r) p b x o)
      handed_is s call None found = tt
      handed_is s call (Some y) found = hands_is s call y found

      calling_is : (o : Option ℕ) → x.call ≡ o → IfFault (handed_back (passes d p r) p b x (calling_statement (passes d p r) o))
      calling_is None call = tt
      calling_is (Some s) call = handed_is s call (statement_at (arena c) s) refl

    next_is : (k : Next) → next_of r ≡ k → IfFault (do_next d p j r k)
    next_is (residual.statement s) next = statement_is s next (statement_at (arena c) s) refl
    next_is (residual.owes s q) next = faults.owed-fault B (with_residual d p (taken_off r)) q (statement_at (arena d) s)
    next_is (residual.leaves x) next = calling_is x next x.call refl
    next_is residual.done next = tt
    next_is (residual.reaches k) next = tt
    next_is residual.nothing next = tt

  -- ---- steps

  abbrev IfFaulted : Outcome → Type 0
  IfFaulted (went d) = ⊤
  IfFaulted (faulted f) = faults.Blames B f
  IfFaulted takes = ⊤
  IfFaulted ended = ⊤

  outcome_is : (m : Result Config RunFault) → IfFault m → IfFaulted (as_outcome m)
  outcome_is (Ok d) h = tt
  outcome_is (Err f) h = h

  by_instance : c.cycle.stopped ≡ false → c.cycle.phase ≡ phase.Evaluate → (p : ℕ) (rest : List ℕ) → c.processes.stack ≡ p ∷ rest → (o : Option Instance) → instance_at c p ≡ o → IfFault (step_by c p o)
  by_instance runs evaluates p rest top None at = tt
  by_instance runs evaluates p rest top (Some i) at = next_is p i (record { runs = runs; evaluates = evaluates; rest = rest; top = top; at = at }) (next_of (left_of c i)) refl

  evaluated : c.cycle.stopped ≡ false → c.cycle.phase ≡ phase.Evaluate → (stack : List ℕ) → c.processes.stack ≡ stack → (runnable : List ℕ) → IfFaulted (evaluate c stack runnable)
  evaluated runs evaluates [] top [] = tt
  evaluated runs evaluates [] top (q ∷ runnable) = tt
  evaluated runs evaluates (p ∷ rest) top runnable = outcome_is (step_by c p (instance_at c p)) (by_instance runs evaluates p rest top (instance_at c p) refl)

  commanded : (x : Config) (k : Command) → IfFault (carry_out x k)
  commanded x (command.Run None) = tt
  commanded x (command.Run (Some t)) = faults.begin-fault B x.cycle.now t.0 _ (λ e. tt)
  commanded x (command.Set n v) = tt
  commanded x (command.Show n) = tt

  next_commanded : (ks : List Command) → IfFaulted (next_command c ks)
  next_commanded [] = tt
  next_commanded (k ∷ ks) = outcome_is (carry_out (record c { script = ks }) k) (commanded (record c { script = ks }) k)

  in_phase : c.cycle.stopped ≡ false → (k : Phase) → c.cycle.phase ≡ k → IfFaulted (step_in c k)
  in_phase runs phase.Idle is = next_commanded c.script
  in_phase runs phase.Start is = tt
  in_phase runs phase.Evaluate is = evaluated runs is c.processes.stack refl c.processes.runnable
  in_phase runs phase.Notify is = tt
  in_phase runs phase.Timed is = tt

  unless_stopped : (b : Bool) → c.cycle.stopped ≡ b → IfFaulted (cond b ended (step_in c c.cycle.phase))
  unless_stopped true is = tt
  unless_stopped false is = in_phase is c.cycle.phase refl

  pub blamed : (number hop t : ℕ) → step c ≡ faulted (fault.Protocol number hop t) → BreaksRule c number hop t
  blamed number hop t is = subst IfFaulted is (unless_stopped c.cycle.stopped refl)

  -- ---- a payload that is freed

  freed_is : (t : ℕ) → payload_of c.transactions.pool t ≡ None → live_payload c t ≡ Err (fault.PayloadFreed t)
  freed_is t gone = ap (not_freed t) gone

  err_is : {A : Type 0} (m : Result A RunFault) (f : RunFault) (g : A → Result Config RunFault) → m ≡ Err f → on_ok m g ≡ Err f
  err_is m f g is = ap (λ z. on_ok z g) is

  pub freed-first : (t : ℕ) → NamesFreed c t → step c ≡ faulted (fault.PayloadFreed t)
  freed-first t (b_named p i s socket m delay hop forward t_ n next found end number gone) =
      phase-is c p i n ∙ ap as_outcome (
      ap (do_next (settled_in c p i.residual) p (record i { residual = left_of c i }) (left_of c i)) next ∙ ap (on_statement (settled_in c p i.residual) p (record i { residual = left_of c i }) (left_of c i) s) found
      ∙ ap (b_transport_on (settled_in c p i.residual) p (left_of c i) (place_of c p i) s m delay) end
      ∙ on-is (payload_number (place_of c p i) m) t_ _ number ∙ err_is (live_payload (settled_in c p i.residual) t_) (fault.PayloadFreed t_) _ (freed_is t_ gone))
  freed-first t (nb_named p i s socket y m ph delay hop forward t_ n next found end number gone) =
      phase-is c p i n ∙ ap as_outcome (
      ap (do_next (settled_in c p i.residual) p (record i { residual = left_of c i }) (left_of c i)) next ∙ ap (on_statement (settled_in c p i.residual) p (record i { residual = left_of c i }) (left_of c i) s) found
      ∙ ap (nb_transport_on (settled_in c p i.residual) p (left_of c i) (place_of c p i) s m ph delay) end
      ∙ on-is (payload_number (place_of c p i) m) t_ _ number ∙ err_is (live_payload (settled_in c p i.residual) t_) (fault.PayloadFreed t_) _ (freed_is t_ gone))
