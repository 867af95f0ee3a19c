-- The ends of bodies, of calls and of unwindings are made of moves.
use Rattle.std.proofs.Common.{◌≡◌, ℕ, Bool, true, false, cond, ◌∷◌, Option, Some, None, refl, sym, ◌∙◌, subst, true≢false}
use Rattle.std.specs.Prelude.{Result, Ok}
use Rattle.std.specs.Result.{IfOk}
use Rattle.sim_model.specs.LogicValues.declared.kinds.Value.TheVariants as value
use Rattle.sim_model.specs.ModelTree.declared.items.ProcessKind.{ProcessKind}
use Rattle.sim_model.specs.ModelTree.declared.items.ProcessKind.TheVariants as process
use Rattle.sim_model.specs.EventCore.declared.event.Ev.TheVariants as ev
use Rattle.sim_model.specs.TransportPhases.History.{Entry, Return, BReturn, broken}
use Rattle.sim_model.specs.TransportPhases.declared.phases.Rule.{Rule}
use Rattle.sim_model.specs.FlatDesign.Code as code
use Rattle.sim_model.specs.FlatDesign.Code.{Statement}
use Rattle.sim_model.specs.FlatDesign.declared.names.NameUse.{NameUse}
use Rattle.sim_model.specs.FlatDesign.declared.code.Store.{Store as Target}
use Rattle.sim_model.specs.FlatDesign.declared.faults.RunFault.{RunFault}
use Rattle.sim_model.specs.Values.{on_ok}
use Rattle.sim_model.specs.Residual as residual
use Rattle.sim_model.specs.Residual.{Residual, Frame, skip, put, next_of}
use Rattle.sim_model.specs.Configuration.{Config, Instance, arena, instance_at, change_instance}
use Rattle.sim_model.specs.Reading.{Here, here}
use Rattle.sim_model.specs.Waits.{fire, leaves_stack}
use Rattle.sim_model.specs.Storing.{passes, set_name, stored_if}
use Rattle.sim_model.specs.Calls.{answer_of, final_value}
use Rattle.sim_model.specs.Transport.{history, int_of, complete_now, judged_by, for_freed, b_transport_ends, nb_transport_ends}
use Rattle.sim_model.specs.Control.{ended_instance, ends, begins, stays_kept, restarts, reaches_goal, next_wait, done_by}
use Rattle.sim_model.specs.Statements.{via_ends, hands_back, handed_back, calling_statement, leaves_call}
use Rattle.sim_model.specs.declared.plain.Goal.{Goal}
use Rattle.sim_model.specs.declared.plain.Goal.TheVariants as goal_of
use Rattle.sim_model.specs.declared.plain.Via.{Via}
use Rattle.laws_runs.specs.Moves as move
use Rattle.laws_runs.specs.Moves.{InTurn, MayPass, is_transport, IsOver, IsReturnOf, Moves, then}
use Rattle.laws_runs.proofs.MoveLists.{change-at}
use Rattle.laws_runs.proofs.WakeMoves.{Twin, fire-twins}
use Rattle.laws_runs.proofs.Values.{fire-moves, name-moves, stored_if-moves, call_ends-moves}

module _ (who : Option ℕ) (o c : Config) (p : ℕ) (r : Residual) (t : InTurn who c p r) (m : Moves who o c) where
  abbrev i : Instance
  i = t.instance

  -- ---- a body that is over

  ends_moves : IsOver (next_of r) → Moves who o (ends c p)
  ends_moves over = fire-moves who o (leaves_stack (change_instance c p ended_instance)) (ev.Terminated p) (then c (move.ending p) m (r, t, over))

  pub done-moves : IsOver (next_of r) → (k : ProcessKind) → Moves who o (done_by c p i k)
  done-moves over process.Thread = ends_moves over
  done-moves over process.Method = then c (move.idling p (next_wait i.trigger).wait (next_wait i.trigger).deadline) m (r, t, over)

  passed : MayPass c (next_of r) → Moves who o (passes c p r)
  passed may = then c (move.passing p r) m (t, may)

  -- ---- goals

  abbrev bare : Config
  bare = change_instance c p (λ j. record j { residual = skip; started = false })

  -- the reset event fires, and then
  restarts_if : (b : Bool) → i.suspended ≡ b → (d : Config) → Moves who o d → d.processes.stack ≡ p ∷ t.rest → (j : Instance) → instance_at d p ≡ Some j → Twin (record i { residual = skip; started = false }) j
      → Moves who o (cond b (stays_kept d p) (begins d p i))
  restarts_if true is d n top j at twin = then d (move.staying_reset p) n (record { is_turn = t.is_turn; rest = t.rest; top = top }, j, at, twin.residual, twin.suspended ∙ is)
  restarts_if false is d n top j at twin = then d (move.beginning p i.code i.arguments) n (record { is_turn = t.is_turn; rest = t.rest; top = top }, j, at, twin.started, twin.code, twin.arguments)

  restarts_moves : next_of r ≡ residual.reaches goal_of.Restart → Moves who o (restarts c p i)
  restarts_moves next =
      let twins = fire-twins bare (ev.Restarted p) in
      let twin = twins.twin p (record i { residual = skip; started = false }) (change-at c.processes.instances p _ i t.at) in
      restarts_if i.suspended refl (fire bare (ev.Restarted p)) (fire-moves who o bare (ev.Restarted p) (then c (move.resetting p) m (r, t, next))) (twins.stack ∙ t.top) twin.0 twin.1 twin.2

  goes_on_if : (b : Bool) → i.suspended ≡ b → next_of r ≡ residual.reaches goal_of.Injected → Moves who o (cond b (stays_kept (passes c p r) p) (passes c p r))
  goes_on_if true is next = then c (move.staying_thrown p r) m (t, next, is)
  goes_on_if false is next = passed (subst (MayPass c) (sym next) tt)

  pub goal-moves : (k : Goal) → next_of r ≡ residual.reaches k → Moves who o (reaches_goal c p i r k)
  goal-moves goal_of.End next = ends_moves (subst IsOver (sym next) tt)
  goal-moves goal_of.Restart next = restarts_moves next
  goal-moves goal_of.Thrown next = passed (subst (MayPass c) (sym next) tt)
  goal-moves goal_of.Injected next = goes_on_if i.suspended refl next

  -- ---- a call that ends

  module _ (x : Frame) (next : next_of r ≡ residual.leaves x) (b : Here) where
    plain : (y : Option Statement) → calling_statement c x.call ≡ y → (is_transport y ≡ true → x.via ≡ None) → Moves who o (passes c p r)
    plain y is may = passed (subst (MayPass c) (sym next) (subst (λ z. is_transport z ≡ true → x.via ≡ None) (sym is) may))

    return_moves : (y : Option Statement) → calling_statement c x.call ≡ y → (via : Via) → x.via ≡ Some via → (e : Entry) → IsReturnOf y via.payload e → (rule : Option Rule) → broken (history c via.hop) e ≡ rule
        → (f : Config → Result Config RunFault) → ((d : Config) → Moves who o d → IfOk (f d) (Moves who o)) → IfOk (on_ok (for_freed (passes c p r) via.payload (judged_by (passes c p r) via.hop e via.payload rule)) f) (Moves who o)
    return_moves y is via over e entry None unbroken f later =
        later (move.made c (move.answering p r via e)) (then c (move.answering p r via e) m (x, t, next, over, subst (λ z. IsReturnOf z via.payload e) (sym is) entry, unbroken))
    return_moves y is via over e entry (Some rule) unbroken f later = tt

    b_moves : (s : ℕ) (n d : NameUse) → calling_statement c x.call ≡ Some (code.b_transport s n d) → (v : Option Via) → x.via ≡ v → IfOk (via_ends (passes c p r) v (λ via. b_transport_ends (passes c p r) p b x via d)) (Moves who o)
    b_moves s n d is None over = plain (Some (code.b_transport s n d)) is (λ e. over)
    b_moves s n d is (Some via) over =
        let e = BReturn via.payload (complete_now (passes c p r) via.payload) in
        return_moves (Some (code.b_transport s n d)) is via over e (complete_now (passes c p r) via.payload, refl) (broken (history c via.hop) e) refl
        (λ y. Ok (set_name y p b d (final_value x 1 (value.Moment 0)))) (λ y k. name-moves who o p t.is_turn y b d _ k)

    nb_moves : (target : Option Target) (s : ℕ) (n phase d : NameUse) → calling_statement c x.call ≡ Some (code.nb_transport target s n phase d) → (v : Option Via) → x.via ≡ v
        → IfOk (via_ends (passes c p r) v (λ via. nb_transport_ends (passes c p r) p b x via target phase d)) (Moves who o)
    nb_moves target s n phase d is None over = plain (Some (code.nb_transport target s n phase d)) is (λ e. over)
    nb_moves target s n phase d is (Some via) over =
        let e = Return via.payload (int_of (answer_of (arena (passes c p r)) x)) (int_of (final_value x 1 (value.Int 32 0))) (complete_now (passes c p r) via.payload) in
        return_moves (Some (code.nb_transport target s n phase d)) is via over e (int_of (answer_of (arena (passes c p r)) x), int_of (final_value x 1 (value.Int 32 0)), complete_now (passes c p r) via.payload, refl)
        (broken (history c via.hop) e) refl
        (λ y. Ok (stored_if (set_name (set_name y p b phase (final_value x 1 (value.Int 32 0))) p b d (final_value x 2 (value.Moment 0))) p b target (answer_of (arena (passes c p r)) x)))
        (λ y k. stored_if-moves who o p t.is_turn (set_name (set_name y p b phase (final_value x 1 (value.Int 32 0))) p b d (final_value x 2 (value.Moment 0))) b target _
        (name-moves who o p t.is_turn (set_name y p b phase (final_value x 1 (value.Int 32 0))) b d _ (name-moves who o p t.is_turn y b phase _ k)))

    hands_moves : (y : Statement) → calling_statement c x.call ≡ Some y → IfOk (hands_back (passes c p r) p b x y) (Moves who o)
    hands_moves (code.call target f arguments) is = call_ends-moves who o p t.is_turn (passes c p r) b x target arguments (plain (Some (code.call target f arguments)) is (λ e. absurd (true≢false (sym e))))
    hands_moves (code.nb_transport target s n phase d) is = nb_moves target s n phase d is x.via refl
    hands_moves (code.b_transport s n d) is = b_moves s n d is x.via refl
    hands_moves other is = plain (Some other) is (λ e. absurd (true≢false (sym e)))

    handed_moves : (y : Option Statement) → calling_statement c x.call ≡ y → IfOk (handed_back (passes c p r) p b x y) (Moves who o)
    handed_moves None is = plain None is (λ e. absurd (true≢false (sym e)))
    handed_moves (Some y) is = hands_moves y is

  pub leaves-moves : (x : Frame) → next_of r ≡ residual.leaves x → IfOk (leaves_call c p i r x) (Moves who o)
  leaves-moves x next = handed_moves x next (here (passes c p r) p i (put r skip)) (calling_statement c x.call) refl
