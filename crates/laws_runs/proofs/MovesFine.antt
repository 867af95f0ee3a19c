-- Each move keeps instances as they have to be, in a sound design.
use Rattle.sim_model.specs.FlatDesign.Code as code
use Rattle.sim_model.specs.declared.plain.Goal.TheVariants as goal_of
use Rattle.laws_runs.specs.Moves as move
use Rattle.std.proofs.Common.{◌≡◌, ◌<◌, ℕ, Bool, true, false, List, [], ◌∷◌, ◌++◌, length, slice_get, Option, Some, None, refl, sym, ap, ◌∙◌, subst, true≢false, ⊎_elim, ◌&&◌, cond, not, arith, inl, inr, ◌⊎◌}
use Rattle.std.proofs.lemmas.Bool.{cases_eq}
use Rattle.std.proofs.lemmas.Option.{same_Some}
use Rattle.sim_model.specs.LogicValues.declared.kinds.Value.{Value}
use Rattle.sim_model.specs.EventCore.declared.event.Ev.{Ev}
use Rattle.sim_model.specs.TransportPhases.History.{Entry}
use Rattle.sim_model.specs.FlatDesign.Code.{SpawnTerm, Statement, statement_at, body_at, block_at}
use Rattle.sim_model.specs.FlatDesign.Denotes.{denoted_at}
use Rattle.sim_model.specs.FlatDesign.Blocking.{DoesNotBlock, IsPlain}
use Rattle.sim_model.specs.Residual.{Residual, skip, batch, guard, try_, followed, block, entered, put, taken_off, has_goal, next_of, statement, goal, in_nb, begun, entered_in, reaches}
use Rattle.sim_model.specs.Unwinding.{returned, unw, raise, left_by_unw, left_by_raise}
use Rattle.sim_model.specs.Configuration.{Config, Instance, Wait, Deadline, arena, instance_at, with_residual, change, change_instance, with_runnable}
use Rattle.sim_model.specs.Reading.{here}
use Rattle.sim_model.specs.Storing.{passes}
use Rattle.sim_model.specs.Waits.{waits, without, freed, leaves_stack, joined}
use Rattle.sim_model.specs.Channels.{blocks}
use Rattle.sim_model.specs.Calls.{with_entry, new_instance, added, runnable_unless, with_left}
use Rattle.sim_model.specs.Control.{is_top, is_below_top, is_thread, yields, pushed, pushed_unless_top, ended_instance}
use Rattle.sim_model.specs.Clean.{times}
use Rattle.sim_model.specs.declared.plain.Via.{Via}
use Rattle.laws_runs.proofs.Changes.{change-here, last-here, last-other}
use Rattle.laws_runs.proofs.InstancesFit.{is-false}
use Rattle.laws_runs.specs.Standing.{OfBody, OfUnwindBlock, IsOrdinary, IsStanding, place_of, code_of}
use Rattle.laws_runs.proofs.Blocks.{IsClosed, closed-body, closed-unwind, body-block}
use Rattle.laws_runs.proofs.BodiesKept.{goalless-ordinary, returned-standing, off-standing, unw-unwinding, raise-standing, ordinary-standing, statements-ordinary}
use Rattle.laws_runs.proofs.Places.{InPlace, next-standing, put-standing, past-ordinary, past-standing}
use Rattle.laws_runs.proofs.Tight.{ordinary-goalless, IsTight, goal-gone, settle-tight}
use Rattle.laws_runs.proofs.Fine.{Fine, FineAt, fine-at, moved-fine, stack-fine, same-fine, residual-fine, Same}
use Rattle.laws_runs.proofs.GoalMoves.{Sound, local-sound, residual-sound, leaves-sound, top-active, same-sound}
use Rattle.laws_runs.proofs.New.{if-new, else-new, while-new, guard-new, try-new, call-new, blocking-new, nonblocking-new, takes-no_fifo}
use Rattle.sim_model.specs.declared.plain.Goal.{Goal}
use Rattle.laws_runs.proofs.Times.{times-here, times-other}
use Rattle.laws_runs.proofs.StackPlaces.{and-left, top-is, off-stack}
use Rattle.sim_model.specs.FlatDesign.Sound.{IsHomeOf}
use Rattle.sim_model.specs.FlatDesign.declared.code.CodeBody.{CodeBody}
use Rattle.sim_model.specs.FlatDesign.declared.design.Design.{Design}
use Rattle.laws_runs.proofs.WakesKeep.{timeless-fine}
use Rattle.sim_model.specs.Phases.{is_zero_timeout, is_due_at}
use Rattle.laws_runs.specs.Moves.{made, with_suspended, InTurn, Gives, chooses, loops, tries, calls, controls, throws, MayBlock, IsHandler, IsEntryOf}
use Rattle.laws_runs.proofs.MovesKeep.{EachKeeps}

-- ---- small ones

and_right : (a b : Bool) → (a && b) ≡ true → b ≡ true
and_right true b h = h
and_right false b h = absurd (true≢false (sym h))

is_not : (b : Bool) → not b ≡ true → b ≡ false
is_not true h = absurd (true≢false (sym h))
is_not false h = refl

-- another instance with the same body, home and residual, whatever the runnable list
same_sound : (c : Config) (p : ℕ) (f : Instance → Instance) (runnable : List ℕ) → ((i : Instance) → Same i (f i)) → Sound c → Sound (with_runnable (change_instance c p f) runnable)
same_sound c p f runnable same h = (
  h.0,
  moved-fine c.design c.processes p f runnable c.processes.stack (λ q apart n. n)
      (λ i at fine. same-fine c.design i (f i) (times p c.processes.stack) (times p c.processes.stack) (same i) (λ n. n) fine) h.1,
)

-- ---- a push

pushed_more : (q p : ℕ) (stack : List ℕ) → 0 < times p stack → 0 < times p (q ∷ stack)
pushed_more q p stack n = ⊎_elim
    (λ same. subst (λ x. 0 < times p (x ∷ stack)) (sym same) (let h = times-here p stack in omega (arith, h)))
    (λ apart. let h = times-other p q stack apart in omega (arith, h, n))
    (cases_eq q p)

left_sound : (vias : List Via) (c : Config) → Sound c → Sound (with_left c vias)
left_sound [] c h = h
left_sound (via ∷ more) c h = left_sound more (with_entry c via.hop _) h

-- another residual, and on top of the stack
pushed_with : (c : Config) (q : ℕ) (i : Instance) (x : Residual) → instance_at c q ≡ Some i → IsStanding c.design i.home x → Sound c → Sound (pushed (with_residual c q x) q)
pushed_with c q i x at standing h =
    let stack = q ∷ c.processes.stack in
    let up = stack-fine c.design c.processes c.processes.runnable stack (λ p n. pushed_more q p c.processes.stack n) h.1 in
    let here = times-here q c.processes.stack in
    let changed = moved-fine c.design (record { runnable = c.processes.runnable; stack = stack; instances = c.processes.instances; parents = c.processes.parents }) q (λ j. record j { residual = x }) c.processes.runnable stack (λ p apart n. n)
    (λ j there f. residual-fine c.design j (record j { residual = x }) (times q stack) (times q stack) x refl refl refl
    (subst (λ (k : Instance). IsStanding c.design k.home x) (same_Some i j (sym at ∙ there)) standing) (λ g. omega (arith, here)) f) up in (
      h.0,
      moved-fine c.design (record { runnable = c.processes.runnable; stack = stack; instances = change c.processes.instances q (λ j. record j { residual = x }); parents = c.processes.parents }) q (λ j. record (freed j) { kept = false; trigger = None }) (without c.processes.runnable q) stack (λ p apart n. n)
          (λ j there f. same-fine c.design j (record (freed j) { kept = false; trigger = None }) (times q stack) (times q stack) (record { home = refl; code = refl; residual = refl }) (λ n. n) f) changed,
    )

-- ---- an instance that a control call names

module _ (c : Config) (q : ℕ) (i : Instance) (at : instance_at c q ≡ Some i) (h : Sound c) where
  fine_here : Fine c.design i (times q c.processes.stack)
  fine_here = fine-at c.design c.processes q i at h.1

  yielded : yields (with_suspended c q) q i ≡ true → Sound (made c (move.yielding q))
  yielded is =
      let d = with_suspended c q in
      let t = top-is d q (and-left (is_top d q) _ is) in
      let none = is_not (has_goal i.residual) (and_right (not (in_nb i.residual)) _ (and_right (is_thread i.kind) _ (and_right (is_top d q) _ is))) in
      leaves-sound d q t.0 t.1 (λ j. record j { kept = true }) (λ j there. refl) (λ j there. refl)
      (λ j there f. (f.standing, ap (λ (k : Instance). has_goal k.residual) (same_Some j (record i { suspended = true }) (sym there ∙ change-here c.processes.instances q _ i at)) ∙ none))
      (same-sound c q _ (λ j. record { home = refl; code = refl; residual = refl }) h)

  -- what is not on the stack has no goal
  pub off-goal : times q c.processes.stack ≡ 0 → has_goal i.residual ≡ false
  off-goal off = is-false (has_goal i.residual) (λ g. let n = fine_here.active g in omega (arith, n, off))

  on_top : is_top c q ≡ true → 0 < times q c.processes.stack
  on_top top = let t = top-is c q top in top-active c q t.0 t.1

  pub no-goal-by : (b g : Bool) → is_below_top c q ≡ false → is_top c q ≡ b → has_goal i.residual ≡ g → (b && g) ≡ false → has_goal i.residual ≡ false
  no-goal-by true g below top is none = is ∙ none
  no-goal-by false g below top is none = off-goal (off-stack c q top below)

  unwound_if : (b : Bool) (k : Goal) → is_top c q ≡ b → has_goal i.residual ≡ false → Sound (cond b (with_residual c q (goal (unw i.residual) k)) (pushed (with_residual c q (goal (unw i.residual) k)) q))
  unwound_if true k top none =
      residual-sound c q i (goal (unw i.residual) k) at (unw-unwinding (OfBody c.design) c.design i.home i.residual (goalless-ordinary c.design i.home i.residual fine_here.standing none)) (λ g. on_top top) h
  unwound_if false k top none =
      pushed_with c q i (goal (unw i.residual) k) at (unw-unwinding (OfBody c.design) c.design i.home i.residual (goalless-ordinary c.design i.home i.residual fine_here.standing none)) h

  throws_sound : (r : Residual) (e : ℕ) → i.residual ≡ r → has_goal r ≡ false → 0 < times q c.processes.stack → Sound (made c (move.throwing q r e))
  throws_sound r e same none active =
      left_sound (left_by_raise r e) (with_residual c q (raise (arena c) r e goal_of.Thrown))
      (residual-sound c q i (raise (arena c) r e goal_of.Thrown) at
      (raise-standing c.design e goal_of.Thrown i.home r (goalless-ordinary c.design i.home r (subst (IsStanding c.design i.home) same fine_here.standing) none)) (λ g. active) h)

  injects_sound : (e : ℕ) → has_goal i.residual ≡ false → Sound (made c (move.injecting q i e))
  injects_sound e none =
      left_sound (left_by_raise i.residual e) (pushed (with_residual c q (raise (arena c) i.residual e goal_of.Injected)) q)
      (pushed_with c q i (raise (arena c) i.residual e goal_of.Injected) at (raise-standing c.design e goal_of.Injected i.home i.residual (goalless-ordinary c.design i.home i.residual fine_here.standing none)) h)

-- ---- the one in turn

module _ (who : Option ℕ) (c : Config) (p : ℕ) (r : Residual) (t : InTurn who c p r) (s : Sound c) where
  abbrev i : Instance
  i = t.instance

  abbrev place : ℕ
  place = place_of c.design i.home r

  pub turn-standing : IsStanding c.design i.home r
  turn-standing = subst (IsStanding c.design i.home) t.left (fine-at c.design c.processes p i t.at s.1).standing

  pub turn-tight : IsTight r
  turn-tight = subst IsTight (sym t.settled) (settle-tight (arena c) t.before)

  active : 0 < times p c.processes.stack
  active = top-active c p t.rest t.top

  passed : Sound (passes c p r)
  passed = residual-sound c p i (put r skip) t.at (past-standing c.design i.home r turn-standing) (λ g. active) s

  returned_sound : (v : Option Value) → Sound (with_residual c p (returned v r))
  returned_sound v = residual-sound c p i (returned v r) t.at (returned-standing v c.design i.home r turn-standing) (λ g. active) s

  stays_thrown : next_of r ≡ reaches goal_of.Injected → Sound (made c (move.staying_thrown p r))
  stays_thrown next =
      leaves-sound (passes c p r) p t.rest t.top (λ j. record j { kept = true }) (λ j there. refl) (λ j there. refl)
      (λ j there f. (
        f.standing,
        ap (λ (k : Instance). has_goal k.residual) (same_Some j (record i { residual = put r skip }) (sym there ∙ change-here c.processes.instances p _ i t.at))
            ∙ goal-gone c.design i.home r goal_of.Injected turn-standing turn-tight next,
      )) passed

  off_sound : Sound (with_residual c p (taken_off r))
  off_sound = residual-sound c p i (taken_off r) t.at (off-standing c.design i.home r turn-standing) (λ g. active) s

  -- where there is no goal, a wait is past and the instance leaves the stack; and so does one that is blocked
  waits_sound : has_goal r ≡ false → (w : Wait) (d : Deadline) → Sound (waits (passes c p r) p w d)
  waits_sound none w d =
      leaves-sound (passes c p r) p t.rest t.top _ (λ j there. refl) (λ j there. refl)
      (λ j there f. (
        f.standing,
        ap (λ (k : Instance). has_goal k.residual) (same_Some j (record i { residual = put r skip }) (sym there ∙ change-here c.processes.instances p _ i t.at))
            ∙ ordinary-goalless (OfBody c.design) c.design i.home (put r skip) (past-ordinary (OfBody c.design) c.design i.home r (goalless-ordinary c.design i.home r turn-standing none)),
      )) passed

  blocked_sound : has_goal r ≡ false → (e : Ev) → Sound (blocks c p r e)
  blocked_sound none e =
      leaves-sound (with_residual c p r) p t.rest t.top _ (λ j there. refl) (λ j there. refl)
      (λ j there f. (f.standing, ap (λ (k : Instance). has_goal k.residual) (same_Some j (record i { residual = r }) (sym there ∙ change-here c.processes.instances p _ i t.at)) ∙ none))
      (residual-sound c p i r t.at turn-standing (λ g. active) s)

  -- the statement in place
  module _ (n : ℕ) (x : Statement) (next : next_of r ≡ statement n) (found : statement_at (arena c) n ≡ Some x) where
    placed : InPlace c.design i.home r n
    placed = next-standing c.design i.home r n turn-standing next

    -- below a goal it neither blocks nor throws nor spawns nor calls over a hop
    pub no-goal : (DoesNotBlock c.design place x × IsPlain x → ⊥) → has_goal r ≡ false
    no-goal not = is-false (has_goal r) (λ g.
        let u = placed.of_unwind g in
        not (s.0.unwinding u.is_block.function u.is_block.body place u.is_block.block u.unwind x u.is_block.found u.is_block.home_of u.is_block.stands (u.reached x found)))

    -- something new in its place
    puts : (new : Residual) → ((P : ℕ → ℕ → Type 0) → IsClosed c.design P → P place n → IsOrdinary P c.design place new) → Sound (with_residual c p (put r new))
    puts new ordinary =
        residual-sound c p i (put r new) t.at
        (put-standing c.design i.home r new n turn-standing next (ordinary (OfBody c.design) (closed-body c.design) placed.of_body) (λ g. ordinary (OfUnwindBlock c.design) (closed-unwind c.design) (placed.of_unwind g)))
        (λ g. active) s

    called_sound : (IsPlain x → ⊥) → (hop f : ℕ) (e : Entry) (args : List Value) (via : Via) → IsOrdinary (OfBody c.design) c.design place (entered (arena c) f args (Some n) (Some via))
        → Sound (with_residual (with_entry c hop e) p (put r (entered (arena c) f args (Some n) (Some via))))
    called_sound not hop f e args via ordinary =
        residual-sound (with_entry c hop e) p i (put r (entered (arena c) f args (Some n) (Some via))) t.at
        (put-standing c.design i.home r (entered (arena c) f args (Some n) (Some via)) n turn-standing next ordinary (λ g. absurd (goal_or (no-goal (λ b. not b.1)) g))) (λ g. active) s
      where
        goal_or : has_goal r ≡ false → has_goal r ≡ true → ⊥
        goal_or none some = true≢false (sym some ∙ none)

  gives_sound : (n : ℕ) (x : Statement) (new : Residual) → next_of r ≡ statement n → statement_at (arena c) n ≡ Some x → Gives c n x new → Sound (with_residual c p (put r new))
  gives_sound n _ _ next found (chooses e b other true) = puts n (code.if_ e b other) next found (block (arena c) b) (λ P closed here_. if-new P c.design closed place n here_ e b other found)
  gives_sound n _ _ next found (chooses e b None false) = puts n (code.if_ e b None) next found skip (λ P closed here_. tt)
  gives_sound n _ _ next found (chooses e b (Some o) false) = puts n (code.if_ e b (Some o)) next found (block (arena c) o) (λ P closed here_. else-new P c.design closed place n here_ e b o found)
  gives_sound n _ _ next found (loops e b true) = puts n (code.while_ e b) next found (followed (block (arena c) b) (n ∷ [])) (λ P closed here_. while-new P c.design closed place n here_ e b found)
  gives_sound n _ _ next found (loops e b false) = puts n (code.while_ e b) next found skip (λ P closed here_. tt)
  gives_sound n _ _ next found (tries b handlers) = puts n (code.try_ b handlers) next found (try_ (block (arena c) b) handlers) (λ P closed here_. try-new P c.design closed place n here_ b handlers found)
  gives_sound n _ _ next found (calls y f arguments args) = puts n (code.call y f arguments) next found (entered (arena c) f args (Some n) None) (λ P closed here_. call-new P c.design closed place n here_ s.0 y f arguments args (Some n) found)
  gives_sound n _ _ next found (controls k whom qs) = puts n (code.control k whom true) next found (batch n qs) (λ P closed here_. here_)
  gives_sound n _ _ next found (throws whom e qs) = puts n (code.throw_it whom e true) next found (batch n qs) (λ P closed here_. here_)

  pub block-goal : (n : ℕ) (x : Statement) → next_of r ≡ statement n → statement_at (arena c) n ≡ Some x → MayBlock (here c p i r) x → has_goal r ≡ false
  block-goal n (code.read y ch) next found may = no-goal n (code.read y ch) next found (λ b. b.0)
  block-goal n (code.lock ch) next found may = no-goal n (code.lock ch) next found (λ b. b.0)
  block-goal n (code.sem_wait ch) next found may = no-goal n (code.sem_wait ch) next found (λ b. b.0)
  block-goal n (code.write ch y v) next found (k, m, events, is) = no-goal n (code.write ch y v) next found (λ b. takes-no_fifo c.design s.0 (denoted_at c.design place ch.channel_name) k m events b.0 is)
  block-goal n other next found may = absurd may

  -- ---- spawned instances, and calls over hops

  added_sound : (d : Config) (new : Instance) → ((k : ℕ) → Fine d.design new k) → Sound d → Sound (added d new)
  added_sound d new f good = (
    good.0,
    λ q. ⊎_elim
        (λ same. subst (λ m. FineAt d.design (slice_get (d.processes.instances ++ new ∷ []) m) (times m d.processes.stack)) (sym same)
        (subst (λ o. FineAt d.design o (times (length d.processes.instances) d.processes.stack)) (sym (last-here d.processes.instances new)) (f (times (length d.processes.instances) d.processes.stack))))
        (λ apart. subst (λ o. FineAt d.design o (times q d.processes.stack)) (sym (last-other d.processes.instances new q apart)) (good.1 q))
        (cases_eq q (length d.processes.instances)),
  )

  unless_runnable : (b : Bool) (q : ℕ) (d : Config) → Sound d → Sound (runnable_unless b q d)
  unless_runnable true q d good = good
  unless_runnable false q d good = good

  spawned_sound : (n : ℕ) (x : SpawnTerm) → next_of r ≡ statement n → statement_at (arena c) n ≡ Some (code.spawn x) → (args : List Value) → Sound (made c (move.spawning p r (here c p i r) x args))
  spawned_sound n x next found args =
      unless_runnable x.dont_initialize _ (added (passes c p r) (new_instance (passes c p r) (here c p i r) x args)) (added_sound (passes c p r) (new_instance (passes c p r) (here c p i r) x args) new_fine passed)
    where
      new_fine : (k : ℕ) → Fine c.design (new_instance (passes c p r) (here c p i r) x args) k
      new_fine k =
          let b = (next-standing c.design i.home r n turn-standing next).of_body (code.spawn x) found in
          let typed = s.0.typed b.function b.body place (code.spawn x) b.found b.home_of b.stands in
          record { body = typed.0; found = typed.1.found; home_of = record { instance = b.home_of.instance; found = b.home_of.found; same = b.home_of.same ∙ sym typed.1.here }; standing = tt; active = λ g. absurd (true≢false (sym g)) }

  abbrev EntersAt : ℕ → ℕ → List Value → Via → Type 0
  EntersAt n f args via = IsOrdinary (OfBody c.design) c.design place (entered (arena c) f args (Some n) (Some via))

  handler_ordinary : (n f : ℕ) (args : List Value) (via : Via) → IsHandler c via f → EntersAt n f args via
  handler_ordinary n f args via (inl (blocking, forward, is)) =
      subst (λ b. EntersAt n f args (record { hop = via.hop; forward = via.forward; blocking = b; payload = via.payload })) (sym blocking)
      (subst (λ b. EntersAt n f args (record { hop = via.hop; forward = b; blocking = true; payload = via.payload })) (sym forward) (blocking-new c.design s.0 place n f via.hop args via.payload is))
  handler_ordinary n f args via (inr (blocking, is)) =
      subst (λ b. EntersAt n f args (record { hop = via.hop; forward = via.forward; blocking = b; payload = via.payload })) (sym blocking) (nonblocking-new c.design s.0 place n f via.hop via.forward args via.payload is)

  hop_calls : (n : ℕ) (x : Statement) → next_of r ≡ statement n → statement_at (arena c) n ≡ Some x → (f : ℕ) (args : List Value) (via : Via) (e : Entry) → IsHandler c via f → IsEntryOf (Some x) via.blocking via.payload true e
      → Sound (made c (move.calling p r n f args via e))
  hop_calls n (code.b_transport k m d) next found f args via e handler entry = called_sound n (code.b_transport k m d) next found (λ h. h) via.hop f e args via (handler_ordinary n f args via handler)
  hop_calls n (code.nb_transport y k m ph d) next found f args via e handler entry = called_sound n (code.nb_transport y k m ph d) next found (λ h. h) via.hop f e args via (handler_ordinary n f args via handler)
  hop_calls n other next found f args via e handler entry = absurd entry

-- ---- bodies that begin and are over

-- a body that begins stands in itself
pub begun-ordinary : (d : Design) (home f : ℕ) (args : List Value) (b : CodeBody) → body_at (code_of d) f ≡ Some b → IsHomeOf d home b → IsOrdinary (OfBody d) d home (begun (code_of d) f args)
begun-ordinary d home f args b found home_of =
    subst (λ o. IsOrdinary (OfBody d) d home (entered_in (code_of d) f args None None o)) (sym found)
    (tt, statements-ordinary (OfBody d) d home (block_at (code_of d) b.block) (body-block d home f b found home_of))

module _ (c : Config) (p : ℕ) (rest : List ℕ) (top : c.processes.stack ≡ p ∷ rest) (s : Sound c) where
  begins_sound : (f : ℕ) (args : List Value) (j : Instance) → instance_at c p ≡ Some j → j.code ≡ f → Sound (made c (move.beginning p f args))
  begins_sound f args j at same = (
    s.0,
    moved-fine c.design c.processes p _ c.processes.runnable c.processes.stack (λ q apart n. n)
        (λ k there g.
        let e = same_Some k j (sym there ∙ at) in
        let found : body_at (code_of c.design) f ≡ Some g.body = ap (body_at (code_of c.design)) (sym (ap (λ (x : Instance). x.code) e ∙ same)) ∙ g.found in
        let ord = begun-ordinary c.design k.home f args g.body found g.home_of in
        residual-fine c.design k _ (times p c.processes.stack) (times p c.processes.stack) (begun (arena c) f args) refl refl refl (ordinary-standing c.design k.home _ ord) (λ h. top-active c p rest top) g) s.1,
  )

  -- one of which nothing is left leaves the stack
  bare_leaves : (f : Instance → Instance) → ((j : Instance) → (f j).home ≡ j.home) → ((j : Instance) → (f j).code ≡ j.code) → ((j : Instance) → (f j).residual ≡ skip) → Sound (leaves_stack (change_instance c p f))
  bare_leaves f home code bare =
      leaves-sound c p rest top f (λ j at. home j) (λ j at. code j) (λ j at g. (subst (IsStanding c.design j.home) (sym (bare j)) tt, ap has_goal (bare j))) s

  resets_sound : Sound (made c (move.resetting p))
  resets_sound = (
    s.0,
    moved-fine c.design c.processes p _ c.processes.runnable c.processes.stack (λ q apart n. n)
        (λ k there f. residual-fine c.design k _ (times p c.processes.stack) (times p c.processes.stack) skip refl refl refl tt (λ g. top-active c p rest top) f) s.1,
  )

  stays_reset : (i : Instance) → instance_at c p ≡ Some i → i.residual ≡ skip → Sound (made c (move.staying_reset p))
  stays_reset i at bare =
      leaves-sound c p rest top (λ j. record j { kept = true }) (λ j there. refl) (λ j there. refl)
      (λ j there f. (f.standing, ap (λ (k : Instance). has_goal k.residual) (same_Some j i (sym there ∙ at)) ∙ ap has_goal bare)) s

pub throw-goal : (who : Option ℕ) (c : Config) (p : ℕ) (r : Residual) (e : ℕ) → Sound c → (has_goal r ≡ false) ⊎ ((n : ℕ) × move.InPlace who c p r n (code.throw e)) → has_goal r ≡ false
throw-goal who c p r e s (inl none) = none
throw-goal who c p r e s (inr (n, t)) = no-goal who c p r t.turn s n (code.throw e) t.next t.found (λ b. b.1)

-- ---- each move

pub each-sound : (w : Option ℕ) → EachKeeps w Sound
each-sound w c (move.passing p r) (t, may) s = passed w c p r t s
each-sound w c (move.placing p r new) (n, x, t, g) s = gives_sound w c p r t.turn s n x new t.next t.found g
each-sound w c (move.entering p r b u) (n, t) s =
    puts w c p r t.turn s n (code.guard b u) t.next t.found (guard (block (arena c) b) c.trace.next_guard u) (λ P closed here_. guard-new P c.design closed (place_of c.design t.turn.instance.home r) n here_ b u c.trace.next_guard t.found)
each-sound w c (move.taking_off p r) (n, q, t, next) s = off_sound w c p r t s
each-sound w c (move.returning p r v) (n, e, t) s = returned_sound w c p r t.turn s v
each-sound w c (move.beginning p f args) (t, i, at, not, same, too) s = begins_sound c p t.rest t.top s f args i at same
each-sound w c (move.ending p) (r, t, over) s = bare_leaves c p t.rest t.top s ended_instance (λ j. refl) (λ j. refl) (λ j. refl)
each-sound w c (move.idling p v d) (r, t, over) s = bare_leaves c p t.rest t.top s _ (λ j. refl) (λ j. refl) (λ j. refl)
each-sound w c (move.resetting p) (r, t, next) s = resets_sound c p t.rest t.top s
each-sound w c (move.waiting p r v d) (n, x, t) s = waits_sound w c p r t.turn s (no-goal w c p r t.turn s n (code.wait x) t.next t.found (λ b. b.0)) v d
each-sound w c (move.blocking p r e) (n, x, t, may) s = blocked_sound w c p r t.turn s (block-goal w c p r t.turn s n x t.next t.found may) e
each-sound w c (move.triggering p v) may s = same-sound c p _ (λ j. record { home = refl; code = refl; residual = refl }) s
each-sound w c (move.spawning p r h x args) (n, t, is) s = subst (λ k. Sound (made c (move.spawning p r k x args))) (sym is) (spawned_sound w c p r t.turn s n x t.next t.found args)
each-sound w c (move.throwing p r e) (t, i, at, is, caught, how) s = throws_sound c p i at s r e is (throw-goal w c p r e s how) (top-active c p t.rest t.top)
each-sound w c (move.injecting q i e) (p, t, live, off, below, caught) s = injects_sound c q i live.at s e (off-goal c q i live.at s (off-stack c q off below))
each-sound w c (move.unwinding q i k) (p, t, live, below, none, outer) s =
    left_sound (left_by_unw i.residual) (pushed_unless_top (with_residual c q (goal (unw i.residual) k)) q)
    (unwound_if c q i live.at s (is_top c q) k refl (no-goal-by c q i live.at s (is_top c q) (has_goal i.residual) below refl refl none))
each-sound w c (move.suspending_runnable q) may s =
    same_sound (with_suspended c q) q (λ j. record j { kept = true }) (without c.processes.runnable q) (λ j. record { home = refl; code = refl; residual = refl }) (same-sound c q _ (λ j. record { home = refl; code = refl; residual = refl }) s)
each-sound w c (move.yielding q) (p, t, i, live, off, is) s = yielded c q i live.at s is
each-sound w c (move.suspending q) may s = same-sound c q _ (λ j. record { home = refl; code = refl; residual = refl }) s
each-sound w c (move.resuming_kept q) may s = same_sound c q (λ j. record j { suspended = false; kept = false }) (c.processes.runnable ++ q ∷ []) (λ j. record { home = refl; code = refl; residual = refl }) s
each-sound w c (move.resuming q) may s = same-sound c q _ (λ j. record { home = refl; code = refl; residual = refl }) s
each-sound w c (move.disabling q flag) may s = same-sound c q _ (λ j. record { home = refl; code = refl; residual = refl }) s
each-sound w c (move.staying_reset p) (t, i, at, bare, is) s = stays_reset c p t.rest t.top s i at bare
each-sound w c (move.staying_thrown p r) (t, next, is) s = stays_thrown w c p r t s next
each-sound w c (move.joining p) may s = same_sound c p freed (joined c.processes.runnable p) (λ j. record { home = refl; code = refl; residual = refl }) s
each-sound w c (move.keeping p) may s = same-sound c p _ (λ j. record { home = refl; code = refl; residual = refl }) s
each-sound w c (move.striking p es) may s = same-sound c p _ (λ j. record { home = refl; code = refl; residual = refl }) s
each-sound w c move.falling_due may s = (s.0, timeless-fine c.design is_zero_timeout c.processes s.1)
each-sound w c (move.falling_due_at t) may s = (s.0, timeless-fine c.design (is_due_at t) c.processes s.1)
each-sound w c (move.setting_local p n v) may s = local-sound c p n v s
each-sound w c (move.calling p r n f args via e) (x, t, hop, handler, entry, unbroken) s = hop_calls w c p r t.turn s n x t.next t.found f args via e handler entry
each-sound w c (move.answering p r via e) (x, t, next, over, entry, unbroken) s = passed w c p r t s
each-sound w c other may s = s
