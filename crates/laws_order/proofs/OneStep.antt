-- One step of a process that sees two configurations alike: a statement, the end of a call, of its body or of an unwinding.
use Rattle.std.proofs.Common.{◌≡◌, ℕ, true, false, cond, List, Option, Some, None, option_map, refl, sym, ap, ◌∙◌, subst}
use Rattle.std.proofs.lemmas.Option.{none-some, same_Some}
use Rattle.sim_model.specs.ModelTree.declared.items.ProcessKind.{ProcessKind}
use Rattle.sim_model.specs.ModelTree.declared.items.ProcessKind.TheVariants as process
use Rattle.sim_model.specs.EventCore.declared.event.Ev.{Ev}
use Rattle.sim_model.specs.EventCore.declared.event.Ev.TheVariants as ev
use Rattle.sim_model.specs.EventCore.declared.notifications.Pending.{Pending}
use Rattle.sim_model.specs.FlatDesign.Code.{Statement, statement_at}
use Rattle.sim_model.specs.Residual.{Residual, Frame, Next, skip, settle, fall, next_of, put, begun, innermost, within, statement, owes, leaves, done, reaches, nothing}
use Rattle.sim_model.specs.Configuration.{Config, Instance, Processes, Channels, Store, Quantum, Trace, arena, instance_at, change_instance, with_residual}
use Rattle.sim_model.specs.Waits.{fire, leaves_stack}
use Rattle.sim_model.specs.Reading.{here, home_of_via, locals_of}
use Rattle.sim_model.specs.Storing.{passes}
use Rattle.sim_model.specs.Control.{with_kept, ended_instance, ends, begins, stays_kept, restarts, reaches_goal, next_wait, done_by}
use Rattle.sim_model.specs.Statements.{do_statement, handed_back, calling_statement, on_statement, do_next, settled_in, step_by, statement_step}
use Rattle.sim_model.specs.declared.plain.Command.{Command}
use Rattle.sim_model.specs.declared.plain.Goal.{Goal}
use Rattle.sim_model.specs.declared.plain.Goal.TheVariants as goal_of
use Rattle.kernel_bodies.specs.Strip.{strip}
use Rattle.kernel_bodies.proofs.Strips.{strip-settle, strip-next, strip-put, strip-within, strip-innermost, strip-entered}
use Rattle.order_free.specs.declared.uses.Use.{Use}
use Rattle.order_free.specs.declared.uses.Use.TheVariants as used
use Rattle.laws_order.specs.Sees.{unnumbered, Sees}
use Rattle.laws_order.specs.Alongside.{Alongside, Both, HasNoHops, OwnUses, OwnAt, OwnNext, IsDeaf, IsUnheard, AreUnheard}
use Rattle.laws_order.proofs.Along.{Along, begun as nothing_yet, own, leaving, marking, along-sees, alongside}
use Rattle.laws_order.proofs.Changes.{same-change, both-case, both-at, residual-along, passes-along}
use Rattle.laws_order.proofs.Forms.{form-along, hands_back-along}
use Rattle.laws_order.proofs.OneStatement.{no-via, none-left, both-weaker}
use Rattle.laws_order.proofs.Settled.{settle-no_hops, put-no_hops}
use Rattle.laws_order.proofs.Unheard.{fire-unheard, change-each}

module _ (Has : Use → Type 0) (unfit : Has used.Unfit → ⊥) (watches : Has used.Watches → ⊥) (p : ℕ) (c : Config) (ps : Processes) (es : List Pending) (ch : Channels) (st : Store) (qu : Quantum) (sc : List Command) (tr : Trace) where
  abbrev x : Config
  x = record c { processes = ps; events = es; channels = ch; store = st; quantum = qu; script = sc; trace = tr }

  abbrev R : Config → Config → Type 0
  R = Along Has p c x

  module _ (s : Sees Has p c x) (i : Instance) (u : Residual) (same : strip u ≡ strip i.residual) (none : HasNoHops i.residual) where
    -- what is left of both, once finished parts have fallen away
    abbrev r : Residual
    r = settle (arena c) i.residual

    abbrev t : Residual
    t = settle (arena c) u

    abbrev left_here : Instance
    left_here = record i { residual = r }

    abbrev left_there : Instance
    left_there = record i { residual = t }

    abbrev cs : Config
    cs = settled_in c p i.residual

    abbrev xs : Config
    xs = settled_in x p u

    alike : strip t ≡ strip r
    alike = strip-settle (arena c) u ∙ ap (settle (arena c)) same ∙ sym (strip-settle (arena c) i.residual)

    settled : R cs xs
    settled = marking (with_residual c p r) (with_residual x p t) (fall p (arena c) i.residual) (fall p (arena c) u) (residual-along Has p c x c x nothing_yet r t alike)

    settled_none : HasNoHops r
    settled_none = settle-no_hops (arena c) i.residual none

    passed : R (passes cs p r) (passes xs p t)
    passed = passes-along Has p c x cs xs settled r t alike

    -- a process stands in its own instance of a module: no transport call is open
    at_home : (q : Residual) (w : Statement) → HasNoHops q → OwnUses Has c.design i.home w → OwnUses Has c.design (home_of_via c.design i.home (within q)) w
    at_home q w no_hops mine = subst (λ v. OwnUses Has c.design (home_of_via c.design i.home v) w) (sym (no-via q no_hops)) mine

    here_same : (y : Config) (k q v : Residual) → strip v ≡ strip q → here (record y { design = c.design }) p (record i { residual = k }) v
        ≡ record { config = record y { design = c.design }; serial = p; home = home_of_via c.design i.home (within q); locals = locals_of (innermost q) }
    here_same y k q v same_left =
        ap (λ o. record { config = record y { design = c.design }; serial = p; home = home_of_via c.design i.home o; locals = locals_of (innermost v) }) (sym (strip-within v) ∙ ap within same_left ∙ strip-within q)
        ∙ ap (λ o. record { config = record y { design = c.design }; serial = p; home = home_of_via c.design i.home (within q); locals = locals_of o }) (sym (strip-innermost v) ∙ ap innermost same_left ∙ strip-innermost q)

    -- ---- a statement

    statement_along : (n : ℕ) (o : Option Statement) → ((w : Statement) → o ≡ Some w → OwnUses Has c.design i.home w) → Both R (on_statement cs p left_here r n o) (on_statement xs p left_there t n o)
    statement_along n None mine = passed
    statement_along n (Some w) mine =
        subst (λ g. Both R (do_statement cs p left_here r (here cs p left_here r) n w) (do_statement xs p left_there t g n w)) (sym (here_same xs t r t alike))
        (form-along Has unfit watches p cs xs.processes xs.events xs.channels xs.store xs.quantum xs.script xs.trace (along-sees Has p c x s cs xs settled) (home_of_via c.design i.home (within r)) (locals_of (innermost r))
        c x r t alike settled (λ e. none-left r e settled_none) left_here left_there n w (at_home r w settled_none (mine w refl)))

    -- ---- the end of a call

    abbrev after_here : Residual
    after_here = put r skip

    abbrev after_there : Residual
    after_there = put t skip

    after_alike : strip after_there ≡ strip after_here
    after_alike = strip-put t skip ∙ ap (λ q. put q skip) alike ∙ sym (strip-put r skip)

    after_none : HasNoHops after_here
    after_none = put-no_hops r skip settled_none tt

    abbrev ys : Config
    ys = passes xs p t

    back_along : (f : Frame) (o : Option Statement) → ((w : Statement) → o ≡ Some w → OwnUses Has c.design i.home w)
        → Both R (handed_back (passes cs p r) p (here (passes cs p r) p left_here after_here) f o) (handed_back (passes xs p t) p (here (passes xs p t) p left_there after_there) f o)
    back_along f None mine = passed
    back_along f (Some w) mine =
        subst (λ g. Both R (handed_back (passes cs p r) p (here (passes cs p r) p left_here after_here) f (Some w)) (handed_back (passes xs p t) p g f (Some w))) (sym (here_same ys t after_here after_there after_alike))
        (hands_back-along Has unfit watches p (passes cs p r) ys.processes ys.events ys.channels ys.store ys.quantum ys.script ys.trace (along-sees Has p c x s (passes cs p r) ys passed) (home_of_via c.design i.home (within after_here)) (locals_of (innermost after_here))
        c x after_here after_there after_alike passed f w (at_home after_here w after_none (mine w refl)))

    called_along : (f : Frame) (o : Option ℕ) → ((n : ℕ) → o ≡ Some n → OwnAt Has c.design i.home n)
        → Both R (handed_back (passes cs p r) p (here (passes cs p r) p left_here after_here) f (calling_statement cs o)) (handed_back (passes xs p t) p (here (passes xs p t) p left_there after_there) f (calling_statement xs o))
    called_along f None mine = passed
    called_along f (Some n) mine = back_along f (statement_at (arena c) n) (mine n refl)

    -- ---- the end of a body, and of an unwinding: nobody hears of it

    module _ (unheard : AreUnheard p c) (unheard_too : AreUnheard p x) where
      silent : (e : Ev) (f : Instance → Instance) → ((j : Instance) → IsDeaf e j → IsDeaf e (f j)) → IsUnheard e c → fire (change_instance cs p f) e ≡ change_instance cs p f
      silent e f keeps deaf = fire-unheard e (change_instance cs p f) (change-each (IsDeaf e) f keeps cs.processes.instances p (change-each (IsDeaf e) (λ (j : Instance). record j { residual = r }) (λ j h. h) c.processes.instances p deaf))

      silent_there : (e : Ev) (f : Instance → Instance) → ((j : Instance) → IsDeaf e j → IsDeaf e (f j)) → IsUnheard e x → fire (change_instance xs p f) e ≡ change_instance xs p f
      silent_there e f keeps deaf = fire-unheard e (change_instance xs p f) (change-each (IsDeaf e) f keeps xs.processes.instances p (change-each (IsDeaf e) (λ (j : Instance). record j { residual = t }) (λ j h. h) ps.instances p deaf))

      ends_silent : ends cs p ≡ leaves_stack (change_instance cs p ended_instance)
      ends_silent =
          fire-unheard (ev.Terminated p) (leaves_stack (change_instance cs p ended_instance))
          (change-each (IsDeaf (ev.Terminated p)) ended_instance (λ j h. refl) cs.processes.instances p (change-each (IsDeaf (ev.Terminated p)) (λ (j : Instance). record j { residual = r }) (λ j h. h) c.processes.instances p unheard.0))

      ends_silent_there : ends xs p ≡ leaves_stack (change_instance xs p ended_instance)
      ends_silent_there =
          fire-unheard (ev.Terminated p) (leaves_stack (change_instance xs p ended_instance))
          (change-each (IsDeaf (ev.Terminated p)) ended_instance (λ j h. refl) xs.processes.instances p (change-each (IsDeaf (ev.Terminated p)) (λ (j : Instance). record j { residual = t }) (λ j h. h) ps.instances p unheard_too.0))

      ends_along : R (ends cs p) (ends xs p)
      ends_along =
          both-at R (leaves_stack (change_instance cs p ended_instance)) (ends cs p) (leaves_stack (change_instance xs p ended_instance)) (ends xs p) (sym ends_silent) (sym ends_silent_there)
          (leaving (change_instance cs p ended_instance) (change_instance xs p ended_instance) (own cs xs ended_instance ended_instance (same-change ended_instance (λ j. refl)) settled))

      kept_along : (e y : Config) → R e y → R (stays_kept e p) (stays_kept y p)
      kept_along e y a =
          let f = λ (j : Instance). record j { kept = true } in
          leaving (with_kept e p) (with_kept y p) (own e y f f (same-change f (λ j. refl)) a)

      abbrev unbegun : Instance → Instance
      unbegun j = record j { residual = skip; started = false }

      abbrev anew : Instance → Instance
      anew j = record j { residual = begun (arena c) i.code i.arguments; started = true }

      abbrev here_now : Config
      here_now = change_instance cs p unbegun

      abbrev there_now : Config
      there_now = change_instance xs p unbegun

      restarted : R here_now there_now
      restarted = own cs xs unbegun unbegun (same-change unbegun (λ j. refl)) settled

      restarts_along : R (restarts cs p left_here) (restarts xs p left_there)
      restarts_along =
          both-at R (cond i.suspended (stays_kept here_now p) (begins here_now p left_here)) (restarts cs p left_here) (cond i.suspended (stays_kept there_now p) (begins there_now p left_there)) (restarts xs p left_there)
          (sym (ap (λ (e : Config). cond i.suspended (stays_kept e p) (begins e p left_here)) (silent (ev.Restarted p) unbegun (λ j h. h) unheard.1)))
          (sym (ap (λ (e : Config). cond i.suspended (stays_kept e p) (begins e p left_there)) (silent_there (ev.Restarted p) unbegun (λ j h. h) unheard_too.1)))
          (both-case R i.suspended (stays_kept here_now p) (begins here_now p left_here) (stays_kept there_now p) (begins there_now p left_there) (λ is. kept_along here_now there_now restarted)
          (λ is. own here_now there_now anew anew (same-change anew (λ j. ap (λ q. record j { residual = q; started = true }) (strip-entered (arena c) i.code i.arguments None None))) restarted))

      goal_along : (g : Goal) → R (reaches_goal cs p left_here r g) (reaches_goal xs p left_there t g)
      goal_along goal_of.End = ends_along
      goal_along goal_of.Restart = restarts_along
      goal_along goal_of.Thrown = passed
      goal_along goal_of.Injected =
          both-case R i.suspended (stays_kept (passes cs p r) p) (passes cs p r) (stays_kept (passes xs p t) p) (passes xs p t) (λ is. kept_along (passes cs p r) (passes xs p t) passed) (λ is. passed)

      abbrev idle : Instance → Instance
      idle j = record j { residual = skip; started = false; wait = (next_wait i.trigger).wait; deadline = (next_wait i.trigger).deadline; trigger = None }

      done_along : (kind : ProcessKind) → R (done_by cs p left_here kind) (done_by xs p left_there kind)
      done_along process.Thread = ends_along
      done_along process.Method = leaving (change_instance cs p idle) (change_instance xs p idle) (own cs xs idle idle (same-change idle (λ j. refl)) settled)

      -- ---- what comes next

      next_along : (n : Next) → OwnNext Has c.design i.home n → Both R (do_next cs p left_here r n) (do_next xs p left_there t n)
      next_along (statement n) mine = statement_along n (statement_at (arena c) n) mine
      next_along (owes n q) mine = absurd mine
      next_along (leaves f) mine = called_along f f.call mine
      next_along done mine = done_along i.kind
      next_along (reaches g) mine = goal_along g
      next_along nothing mine = done_along i.kind

      pub step-along : OwnNext Has c.design i.home (next_of r) → Both R (step_by c p (Some i)) (step_by x p (Some (record i { residual = u })))
      step-along mine =
          subst (λ n. Both R (do_next cs p left_here r (next_of r)) (do_next xs p left_there t n)) (sym (sym (strip-next t) ∙ ap next_of alike ∙ strip-next r)) (next_along (next_of r) mine)

-- the instance in the other configuration is the same but for the numbers of its guards
record Twin (o : Option Instance) (i : Instance) : Type 0 where
  left : Residual
  same : strip left ≡ strip i.residual
  is : o ≡ Some (record i { residual = left })

twin_of : (o : Option Instance) (i : Instance) → option_map unnumbered o ≡ Some (unnumbered i) → Twin o i
twin_of None i e = absurd (none-some (unnumbered i) e)
twin_of (Some j) i e =
    let alike = same_Some (unnumbered j) (unnumbered i) e in
    record { left = j.residual; same = ap (λ (n : Instance). n.residual) alike; is = ap Some (ap (λ (n : Instance). record n { residual = j.residual }) alike) }

module _ (Has : Use → Type 0) (unfit : Has used.Unfit → ⊥) (watches : Has used.Watches → ⊥) (p : ℕ) (c y : Config) (s : Sees Has p c y) (even : y.processes.stack ≡ c.processes.stack) where
  -- the other one, as it is seen
  abbrev seen : Config
  seen = record c { processes = y.processes; events = y.events; channels = y.channels; store = y.store; quantum = y.quantum; script = y.script; trace = y.trace }

  is_seen : y ≡ seen
  is_seen = ap (λ e. record y { design = e }) s.design ∙ ap (λ e. record y { design = c.design; cycle = e }) s.cycle ∙ ap (λ e. record y { design = c.design; cycle = c.cycle; transactions = e }) s.transactions

  module _ (i : Instance) (none : HasNoHops i.residual) (mine : OwnNext Has c.design i.home (next_of (settle (arena c) i.residual))) (unheard : AreUnheard p c) (unheard_too : AreUnheard p y) where
    twin_alongside : (u : Residual) → strip u ≡ strip i.residual → Both (Alongside Has p c y) (step_by c p (Some i)) (step_by y p (Some (record i { residual = u })))
    twin_alongside u same =
        subst (λ (e : Config). Both (Alongside Has p c e) (step_by c p (Some i)) (step_by e p (Some (record i { residual = u })))) (sym is_seen)
        (both-weaker (Along Has p c seen) (Alongside Has p c seen) (alongside Has p c seen sees even) (step_by c p (Some i)) (step_by seen p (Some (record i { residual = u })))
        (step-along Has unfit watches p c y.processes y.events y.channels y.store y.quantum y.script y.trace sees i u same none unheard unheard_too mine))
      where
        sees : Sees Has p c seen
        sees = subst (Sees Has p c) is_seen s

    pub step-alongside : instance_at c p ≡ Some i → Both (Alongside Has p c y) (statement_step c p) (statement_step y p)
    step-alongside at =
        let twin = twin_of (instance_at y p) i (s.own ∙ ap (option_map unnumbered) at) in
        subst (λ o. Both (Alongside Has p c y) (step_by c p o) (step_by y p (instance_at y p))) (sym at)
        (subst (λ o. Both (Alongside Has p c y) (step_by c p (Some i)) (step_by y p o)) (sym twin.is) (twin_alongside twin.left twin.same))
