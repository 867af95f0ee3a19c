-- What a law on stacks, guards, marks and hops keeps by each of its moves is kept by each move of a turn, and between turns.
use Rattle.std.proofs.Common.{◌≡◌, ◌&&◌, ℕ, Bool, true, false, cond, not, List, [], ◌∷◌, drop, length, Some, None, refl, sym, ap, ◌∙◌, subst, true≢false}
use Rattle.std.proofs.lemmas.Option.{none-some, same_Some}
use Rattle.sim_model.specs.EventCore.declared.event.Ev.{Ev}
use Rattle.sim_model.specs.FlatDesign.Code as code
use Rattle.sim_model.specs.FlatDesign.Code.{Statement}
use Rattle.sim_model.specs.Residual as residual
use Rattle.sim_model.specs.Residual.{Residual, goal, skip, batch, put, block, has_goal, in_nb, next_of}
use Rattle.sim_model.specs.Unwinding.{unw, raise, left_by_unw, left_by_raise}
use Rattle.sim_model.specs.Configuration.{Config, Instance, Wait, Deadline, waits_for_any, waits_for_all, no_deadline, change, change_instance, instance_at, with_residual, arena}
use Rattle.sim_model.specs.Waits.{freed}
use Rattle.sim_model.specs.Storing.{passes}
use Rattle.sim_model.specs.Calls.{with_left, with_entry, new_instance, added, runnable_unless}
use Rattle.sim_model.specs.Control.{is_top, is_below_top, is_thread, with_kept, yields, pushed, pushed_unless_top, ended_instance}
use Rattle.sim_model.specs.Phases.{without_deadline, is_zero_timeout, is_due_at}
use Rattle.sim_model.specs.Clean.{times}
use Rattle.sim_model.specs.declared.plain.Goal.{Goal}
use Rattle.sim_model.specs.declared.plain.Goal.TheVariants as goal_of
use Rattle.sim_model.specs.declared.plain.Via.{Via}
use Rattle.laws_runs.specs.Moves as move
use Rattle.laws_runs.specs.Moves.{made, with_suspended, OnTop, InTurn, Gives, chooses, loops, tries, calls, controls, throws}
use Rattle.laws_runs.proofs.MovesKeep.{EachKeeps}
use Rattle.laws_runs.specs.Standing.{OfBody, IsStanding}
use Rattle.laws_runs.proofs.Changes.{change-here}
use Rattle.laws_runs.proofs.BodiesKept.{goalless-ordinary}
use Rattle.laws_runs.proofs.Places.{past-ordinary}
use Rattle.laws_runs.proofs.StackPlaces.{and-left, top-is, off-stack}
use Rattle.laws_runs.proofs.Tight.{ordinary-goalless, goal-gone}
use Rattle.laws_runs.proofs.Fine.{Fine, fine-at}
use Rattle.laws_runs.proofs.GoalMoves.{Sound}
use Rattle.laws_runs.proofs.MovesFine.{each-sound, turn-standing, turn-tight, no-goal, block-goal, throw-goal, off-goal, no-goal-by}
use Rattle.laws_runs.proofs.GoalParts.{Parts, parts, left_in, Kept, Alike, At, IsOver, IsOuter, IsEntryOf, IsKept, IsKeptBetween}
use Rattle.laws_runs.proofs.News.{skip-new, block-new, looped-new, try-new, call-new, batch-new, change-same}

and_right : (a b : Bool) → (a && b) ≡ true → b ≡ true
and_right true b h = h
and_right false b h = absurd (true≢false (sym h))

is_not : (b : Bool) → not b ≡ true → b ≡ false
is_not true h = absurd (true≢false (sym h))
is_not false h = refl

-- entries of calls that are left
pub left-parts : (vias : List Via) (c : Config) → parts (with_left c vias) ≡ record (parts c) { hops = left_in c.transactions.hops vias }
left-parts [] c = refl
left-parts (via ∷ more) c = left-parts more (with_entry c via.hop _)

deadline_if : (b : Bool) (i j : Instance) → Alike i j → Alike i (cond b j i)
deadline_if true i j a = a
deadline_if false i j a = record { kind = refl; home = refl; code = refl; residual = refl; started = refl; ended = refl }

module _ (Q : Parts → Type 0) where
  left_kept : (vias : List Via) (c : Config) → Q (record (parts c) { hops = left_in c.transactions.hops vias }) → Q (parts (with_left c vias))
  left_kept vias c h = subst Q (sym (left-parts vias c)) h

  unless_kept : (b : Bool) (q : ℕ) (c : Config) → Q (parts c) → Q (parts (runnable_unless b q c))
  unless_kept true q c h = h
  unless_kept false q c h = h

-- ---- in the turn of p

module _ (p : ℕ) (Q : Parts → Type 0) (moves : IsKept p Q) where
  -- whoever is in turn is p
  at : (q : ℕ) → Some p ≡ Some q → IsKept q Q
  at q mine = subst (λ n. IsKept n Q) (same_Some p q mine) moves

  -- another residual, and on top of the stack
  pushed_kept : (c : Config) (q : ℕ) (t : (n : ℕ) × OnTop (Some p) c n) → times q c.processes.stack ≡ 0 → (hops : List _) (r : Residual)
      → Q (record (parts (with_residual c q r)) { hops = hops }) → Q (record (parts (pushed (with_residual c q r) q)) { hops = hops })
  pushed_kept c q t off hops r h =
      (at t.0 t.1.is_turn).pushes (record (parts (change_instance (with_residual c q r) q (λ j. record (freed j) { kept = false; trigger = None }))) { hops = hops }) q t.1.rest t.1.top off
      (moves.same (record (parts (with_residual c q r)) { hops = hops }) q (λ j. record (freed j) { kept = false; trigger = None }) (λ j. record { kind = refl; home = refl; code = refl; residual = refl; started = refl; ended = refl }) h)

  module _ (c : Config) (q : ℕ) (i : Instance) (there : instance_at c q ≡ Some i) (s : Sound c) (h : Kept Q c) where
    fine_here : Fine c.design i (times q c.processes.stack)
    fine_here = fine-at c.design c.processes q i there s.1

    flagged : Kept Q (with_suspended c q)
    flagged = moves.same (parts c) q _ (λ j. record { kind = refl; home = refl; code = refl; residual = refl; started = refl; ended = refl }) h

    kept_too : Kept Q (with_kept (with_suspended c q) q)
    kept_too = moves.same (parts (with_suspended c q)) q _ (λ j. record { kind = refl; home = refl; code = refl; residual = refl; started = refl; ended = refl }) flagged

    yielded : (n : ℕ) → OnTop (Some p) c n → yields (with_suspended c q) q i ≡ true → Kept Q (made c (move.yielding q))
    yielded n t is =
        let d = with_kept (with_suspended c q) q in
        let top = top-is c q (and-left (is_top c q) _ is) in
        let mine : Some p ≡ Some q = t.is_turn ∙ ap Some (same_first n q t.rest top.0 (sym t.top ∙ top.1)) in
        let none = is_not (has_goal i.residual) (and_right (not (in_nb i.residual)) _ (and_right (is_thread i.kind) _ (and_right (is_top c q) _ is))) in
        let on : instance_at d q ≡ Some (record i { suspended = true; kept = true }) =
        change-here (change c.processes.instances q (λ j. record j { suspended = true })) q _ (record i { suspended = true }) (change-here c.processes.instances q _ i there) in
        (at q mine).leaves (parts d) top.0 top.1 (λ j on_too. ap (λ (k : Instance). has_goal k.residual) (same_Some j (record i { suspended = true; kept = true }) (sym on_too ∙ on)) ∙ none) kept_too
      where
        same_first : (a b : ℕ) (rest more : List ℕ) → ◌≡◌ {A = List ℕ} (a ∷ rest) (b ∷ more) → a ≡ b
        same_first a b rest more e = cc

    hops_if : (b : Bool) (r : Residual) → (cond b (with_residual c q r) (pushed (with_residual c q r) q)).transactions.hops ≡ c.transactions.hops
    hops_if true r = refl
    hops_if false r = refl

    unwound_if : (t : (n : ℕ) × OnTop (Some p) c n) (b : Bool) (k : Goal) → IsOuter k → is_below_top c q ≡ false → is_top c q ≡ b → has_goal i.residual ≡ false
        → Q (record (parts (cond b (with_residual c q (goal (unw i.residual) k)) (pushed (with_residual c q (goal (unw i.residual) k)) q))) { hops = left_in c.transactions.hops (left_by_unw i.residual) })
    unwound_if t true k outer below is none = moves.unwinds (parts c) q i k there fine_here.standing none outer h
    unwound_if t false k outer below is none =
        pushed_kept c q t (off-stack c q is below) (left_in c.transactions.hops (left_by_unw i.residual)) (goal (unw i.residual) k) (moves.unwinds (parts c) q i k there fine_here.standing none outer h)

    unwinds_kept : (t : (n : ℕ) × OnTop (Some p) c n) (k : Goal) → IsOuter k → is_below_top c q ≡ false → has_goal i.residual ≡ false → Kept Q (made c (move.unwinding q i k))
    unwinds_kept t k outer below none =
        let d = pushed_unless_top (with_residual c q (goal (unw i.residual) k)) q in
        left_kept Q (left_by_unw i.residual) d
        (subst (λ hops. Q (record (parts d) { hops = left_in hops (left_by_unw i.residual) })) (sym (hops_if (is_top c q) (goal (unw i.residual) k)))
        (unwound_if t (is_top c q) k outer below refl none))

  -- the one in turn
  module _ (c : Config) (q : ℕ) (r : Residual) (t : InTurn (Some p) c q r) (s : Sound c) (h : Kept Q c) where
    abbrev i : Instance
    i = t.instance

    here_at : At (parts c) q i r
    here_at = record { here = t.at; is = t.left; tight = turn-tight (Some p) c q r t s; stands = turn-standing (Some p) c q r t s }

    mine : IsKept q Q
    mine = at q t.is_turn

    passed : move.MayPass c (next_of r) → Kept Q (passes c q r)
    passed may = mine.passes (parts c) i r here_at may h

    gives_kept : (n : ℕ) (x : Statement) (new : Residual) → next_of r ≡ residual.statement n → Gives c n x new → Kept Q (with_residual c q (put r new))
    gives_kept n _ _ next (chooses e b other true) = mine.puts (parts c) i r n here_at next (block (arena c) b) (block-new (arena c) b) h
    gives_kept n _ _ next (chooses e b None false) = mine.puts (parts c) i r n here_at next skip skip-new h
    gives_kept n _ _ next (chooses e b (Some o) false) = mine.puts (parts c) i r n here_at next (block (arena c) o) (block-new (arena c) o) h
    gives_kept n _ _ next (loops e b true) = mine.puts (parts c) i r n here_at next _ (looped-new (arena c) b n) h
    gives_kept n _ _ next (loops e b false) = mine.puts (parts c) i r n here_at next skip skip-new h
    gives_kept n _ _ next (tries b handlers) = mine.puts (parts c) i r n here_at next _ (try-new (arena c) b handlers) h
    gives_kept n _ _ next (calls y f arguments args) = mine.puts (parts c) i r n here_at next _ (call-new (arena c) f args n) h
    gives_kept n _ _ next (controls k whom qs) = mine.puts (parts c) i r n here_at next (batch n qs) (batch-new n qs) h
    gives_kept n _ _ next (throws whom e qs) = mine.puts (parts c) i r n here_at next (batch n qs) (batch-new n qs) h

    waits_kept : (n : ℕ) → next_of r ≡ residual.statement n → has_goal r ≡ false → (v : Wait) (d : Deadline) → Kept Q (made c (move.waiting q r v d))
    waits_kept n next none v d =
        let e = change_instance (passes c q r) q (λ j. record j { wait = v; deadline = d }) in
        let there : instance_at e q ≡ Some (record i { residual = put r skip; wait = v; deadline = d }) =
        change-here (change c.processes.instances q (λ j. record j { residual = put r skip })) q _ (record i { residual = put r skip }) (change-here c.processes.instances q _ i t.at) in
        mine.leaves (parts e) t.rest t.top
        (λ j on. ap (λ (k : Instance). has_goal k.residual) (same_Some j (record i { residual = put r skip; wait = v; deadline = d }) (sym on ∙ there))
        ∙ ordinary-goalless (OfBody c.design) c.design i.home (put r skip) (past-ordinary (OfBody c.design) c.design i.home r (goalless-ordinary c.design i.home r here_at.stands none)))
        (moves.same (parts (passes c q r)) q (λ j. record j { wait = v; deadline = d }) (λ j. record { kind = refl; home = refl; code = refl; residual = refl; started = refl; ended = refl }) (passed (subst (move.MayPass c) (sym next) tt)))

    stays : Kept Q (with_residual c q r)
    stays = subst (λ is_. Q (record (parts c) { instances = is_ })) (sym (change-same c.processes.instances q (λ j. record j { residual = r }) i t.at (ap (λ x. record i { residual = x }) (sym t.left)))) h

    blocked_kept : has_goal r ≡ false → (e : Ev) → Kept Q (made c (move.blocking q r e))
    blocked_kept none e =
        let d = change_instance (with_residual c q r) q (λ j. record j { wait = waits_for_any (e ∷ []); deadline = no_deadline }) in
        let there : instance_at d q ≡ Some (record i { residual = r; wait = waits_for_any (e ∷ []); deadline = no_deadline }) =
        change-here (change c.processes.instances q (λ j. record j { residual = r })) q _ (record i { residual = r }) (change-here c.processes.instances q _ i t.at) in
        mine.leaves (parts d) t.rest t.top
        (λ j on. ap (λ (k : Instance). has_goal k.residual) (same_Some j (record i { residual = r; wait = waits_for_any (e ∷ []); deadline = no_deadline }) (sym on ∙ there)) ∙ none)
        (moves.same (parts (with_residual c q r)) q (λ j. record j { wait = waits_for_any (e ∷ []); deadline = no_deadline }) (λ j. record { kind = refl; home = refl; code = refl; residual = refl; started = refl; ended = refl }) stays)

    over_leaves : IsOver (next_of r) → (f : Instance → Instance) → ((j : Instance) → (f j).residual ≡ skip) → ((j : Instance) → j.ended ≡ true → (f j).ended ≡ true) → Q (record (parts (change_instance c q f)) { stack = drop 1 c.processes.stack })
    over_leaves over f none ends =
        mine.leaves (parts (change_instance c q f)) t.rest t.top
        (λ j there. ap (λ (k : Instance). has_goal k.residual) (same_Some j (f i) (sym there ∙ change-here c.processes.instances q f i t.at)) ∙ ap has_goal (none i))
        (mine.over (parts c) i r here_at over f none ends h)

    stays_thrown : next_of r ≡ residual.reaches goal_of.Injected → Kept Q (made c (move.staying_thrown q r))
    stays_thrown next =
        let before = passes c q r in
        mine.leaves (parts (with_kept before q)) t.rest t.top
        (λ j there. ap (λ (k : Instance). has_goal k.residual) (same_Some j (record i { residual = put r skip; kept = true }) (sym there ∙ change-here (change c.processes.instances q _) q _ (record i { residual = put r skip }) (change-here c.processes.instances q _ i t.at)))
        ∙ goal-gone c.design i.home r goal_of.Injected here_at.stands here_at.tight next)
        (moves.same (parts before) q (λ j. record j { kept = true }) (λ j. record { kind = refl; home = refl; code = refl; residual = refl; started = refl; ended = refl }) (passed (subst (move.MayPass c) (sym next) tt)))

  stays_reset : (c : Config) (q : ℕ) (t : OnTop (Some p) c q) (i : Instance) → instance_at c q ≡ Some i → i.residual ≡ skip → Kept Q c → Kept Q (made c (move.staying_reset q))
  stays_reset c q t i there bare h =
      (at q t.is_turn).leaves (parts (with_kept c q)) t.rest t.top
      (λ j on. ap (λ (k : Instance). has_goal k.residual) (same_Some j (record i { kept = true }) (sym on ∙ change-here c.processes.instances q _ i there)) ∙ ap has_goal bare)
      (moves.same (parts c) q (λ j. record j { kept = true }) (λ j. record { kind = refl; home = refl; code = refl; residual = refl; started = refl; ended = refl }) h)

  pub turn-kept : (c : Config) (m : move.Move) → move.May (Some p) c m → Sound c → Kept Q c → Kept Q (made c m)
  turn-kept c (move.passing q r) (t, may) s h = passed c q r t s h may
  turn-kept c (move.placing q r new) (n, x, t, g) s h = gives_kept c q r t.turn s h n x new t.next g
  turn-kept c (move.entering q r b u) (n, t) s h = (at q t.turn.is_turn).guards (parts c) t.turn.instance r n (here_at c q r t.turn s h) t.next b u h
  turn-kept c (move.taking_off q r) (n, o, t, next) s h = (at q t.is_turn).takes_off (parts c) t.instance r (here_at c q r t s h) h
  turn-kept c (move.returning q r v) (n, e, t) s h = (at q t.turn.is_turn).returns (parts c) t.turn.instance r n (here_at c q r t.turn s h) t.next v h
  turn-kept c (move.beginning q f args) (t, i, there, not, same, too) s h = moves.begins (parts c) q i f args there (λ e. absurd (true≢false (sym e ∙ not))) h
  turn-kept c (move.ending q) (r, t, over) s h = over_leaves c q r t s h over ended_instance (λ j. refl) (λ j e. refl)
  turn-kept c (move.idling q v d) (r, t, over) s h = over_leaves c q r t s h over _ (λ j. refl) (λ j e. e)
  turn-kept c (move.resetting q) (r, t, next) s h = (at q t.is_turn).over (parts c) t.instance r (here_at c q r t s h) (subst IsOver (sym next) tt) _ (λ j. refl) (λ j e. e) h
  turn-kept c (move.waiting q r v d) (n, x, t) s h = waits_kept c q r t.turn s h n t.next (no-goal (Some p) c q r t.turn s n (code.wait x) t.next t.found (λ b. b.0)) v d
  turn-kept c (move.blocking q r e) (n, x, t, may) s h = blocked_kept c q r t.turn s h (block-goal (Some p) c q r t.turn s n x t.next t.found may) e
  turn-kept c (move.triggering q v) own s h = moves.same (parts c) q _ (λ j. record { kind = refl; home = refl; code = refl; residual = refl; started = refl; ended = refl }) h
  turn-kept c (move.spawning q r k x args) (n, t, is) s h =
      let new = new_instance (passes c q r) k x args in
      let good : Kept Q (added (passes c q r) new) = moves.spawned (parts (passes c q r)) new refl refl refl (passed c q r t.turn s h (subst (move.MayPass c) (sym t.next) tt)) in
      unless_kept Q x.dont_initialize (length (passes c q r).processes.instances) (added (passes c q r) new) good
  turn-kept c (move.throwing q r e) (t, i, there, is, caught, how) s h =
      left_kept Q (left_by_raise r e) (with_residual c q (raise (arena c) r e goal_of.Thrown))
      (moves.raises (parts c) q i r e goal_of.Thrown there is (subst (IsStanding c.design i.home) is (fine-at c.design c.processes q i there s.1).standing) (throw-goal (Some p) c q r e s how) caught tt h)
  turn-kept c (move.injecting q i e) (n, t, live, off, below, caught) s h =
      let none_on = off-stack c q off below in
      left_kept Q (left_by_raise i.residual e) (pushed (with_residual c q (raise (arena c) i.residual e goal_of.Injected)) q)
      (pushed_kept c q (n, t) none_on (left_in c.transactions.hops (left_by_raise i.residual e)) (raise (arena c) i.residual e goal_of.Injected)
      (moves.raises (parts c) q i i.residual e goal_of.Injected live.at refl (fine-at c.design c.processes q i live.at s.1).standing (off-goal c q i live.at s none_on) caught tt h))
  turn-kept c (move.unwinding q i k) (n, t, live, below, none, outer) s h =
      unwinds_kept c q i live.at s h (n, t) k outer below (no-goal-by c q i live.at s (is_top c q) (has_goal i.residual) below refl refl none)
  turn-kept c (move.suspending_runnable q) (n, t, i, live, is) s h = kept_too c q i live.at s h
  turn-kept c (move.yielding q) (n, t, i, live, off, is) s h = yielded c q i live.at s h n t is
  turn-kept c (move.suspending q) (n, t, i, live, off) s h = flagged c q i live.at s h
  turn-kept c (move.resuming_kept q) may s h = moves.same (parts c) q (λ j. record j { suspended = false; kept = false }) (λ j. record { kind = refl; home = refl; code = refl; residual = refl; started = refl; ended = refl }) h
  turn-kept c (move.resuming q) may s h = moves.same (parts c) q (λ j. record j { suspended = false; kept = false }) (λ j. record { kind = refl; home = refl; code = refl; residual = refl; started = refl; ended = refl }) h
  turn-kept c (move.disabling q flag) may s h = moves.same (parts c) q (λ j. record j { disabled = flag }) (λ j. record { kind = refl; home = refl; code = refl; residual = refl; started = refl; ended = refl }) h
  turn-kept c (move.staying_reset q) (t, i, there, bare, is) s h = stays_reset c q t i there bare h
  turn-kept c (move.staying_thrown q r) (t, next, is) s h = stays_thrown c q r t s h next
  turn-kept c (move.joining q) may s h = moves.same (parts c) q freed (λ j. record { kind = refl; home = refl; code = refl; residual = refl; started = refl; ended = refl }) h
  turn-kept c (move.keeping q) may s h = moves.same (parts c) q (λ j. record (freed j) { kept = true }) (λ j. record { kind = refl; home = refl; code = refl; residual = refl; started = refl; ended = refl }) h
  turn-kept c (move.striking q es) may s h = moves.same (parts c) q (λ j. record j { wait = waits_for_all es }) (λ j. record { kind = refl; home = refl; code = refl; residual = refl; started = refl; ended = refl }) h
  turn-kept c move.falling_due none s h = absurd (none-some p (sym none))
  turn-kept c (move.falling_due_at t) none s h = absurd (none-some p (sym none))
  turn-kept c (move.setting_local q n v) own s h = (at q own).locals (parts c) n v h
  turn-kept c (move.trying hop e) (own, x, b, t, entry, unbroken) s h = moves.tries_hop (parts c) x hop t e b entry unbroken h
  turn-kept c (move.calling q r n f args via e) (x, t, hop, handler, entry, unbroken) s h =
      (at q t.turn.is_turn).calls_hop (parts c) t.turn.instance r n (here_at c q r t.turn s h) t.next via f args e hop (subst (λ y. IsEntryOf y via.blocking via.payload true e) (sym t.found) entry) unbroken h
  turn-kept c (move.answering q r via e) (x, t, next, over, entry, unbroken) s h = (at q t.is_turn).returns_hop (parts c) t.instance r x (here_at c q r t s h) next via e over entry unbroken h
  turn-kept c other may s h = h

  pub each-kept : EachKeeps (Some p) (λ (c : Config). Sound c × Kept Q c)
  each-kept c m may h = (each-sound (Some p) c m may h.0, turn-kept c m may h.0 h.1)

-- ---- between turns, where it is nobody's

module _ (Q : Parts → Type 0) (between : IsKeptBetween Q) where
  nobody : {A : Type 0} (q : ℕ) → None ≡ Some q → A
  nobody q e = absurd (none-some q e)

  between_kept : (c : Config) (m : move.Move) → move.May None c m → Kept Q c → Kept Q (made c m)
  between_kept c (move.passing q r) (t, may) h = nobody q t.is_turn
  between_kept c (move.placing q r new) (n, x, t, g) h = nobody q t.turn.is_turn
  between_kept c (move.entering q r b u) (n, t) h = nobody q t.turn.is_turn
  between_kept c (move.taking_off q r) (n, o, t, next) h = nobody q t.is_turn
  between_kept c (move.returning q r v) (n, e, t) h = nobody q t.turn.is_turn
  between_kept c (move.beginning q f args) (t, i, there, not, same, too) h = nobody q t.is_turn
  between_kept c (move.ending q) (r, t, over) h = nobody q t.is_turn
  between_kept c (move.idling q v d) (r, t, over) h = nobody q t.is_turn
  between_kept c (move.resetting q) (r, t, next) h = nobody q t.is_turn
  between_kept c (move.waiting q r v d) (n, x, t) h = nobody q t.turn.is_turn
  between_kept c (move.blocking q r e) (n, x, t, may) h = nobody q t.turn.is_turn
  between_kept c (move.triggering q v) mine h = nobody q mine
  between_kept c (move.spawning q r k x args) (n, t, is) h = nobody q t.turn.is_turn
  between_kept c (move.throwing q r e) (t, i, there, is, caught, how) h = nobody q t.is_turn
  between_kept c (move.injecting q i e) (n, t, live, off, below, caught) h = nobody n t.is_turn
  between_kept c (move.unwinding q i k) (n, t, live, below, none, outer) h = nobody n t.is_turn
  between_kept c (move.suspending_runnable q) (n, t, i, live, is) h = nobody n t.is_turn
  between_kept c (move.yielding q) (n, t, i, live, off, is) h = nobody n t.is_turn
  between_kept c (move.suspending q) (n, t, i, live, off) h = nobody n t.is_turn
  between_kept c (move.resuming_kept q) (n, t, i, live, is) h = nobody n t.is_turn
  between_kept c (move.resuming q) (n, t, i, live, is) h = nobody n t.is_turn
  between_kept c (move.disabling q flag) (n, t, i, live) h = nobody n t.is_turn
  between_kept c (move.staying_reset q) (t, i, there, bare, is) h = nobody q t.is_turn
  between_kept c (move.staying_thrown q r) (t, next, is) h = nobody q t.is_turn
  between_kept c (move.joining q) may h = between.same (parts c) q freed (λ j. record { kind = refl; home = refl; code = refl; residual = refl; started = refl; ended = refl }) h
  between_kept c (move.keeping q) may h = between.same (parts c) q (λ j. record (freed j) { kept = true }) (λ j. record { kind = refl; home = refl; code = refl; residual = refl; started = refl; ended = refl }) h
  between_kept c (move.striking q es) may h = between.same (parts c) q (λ j. record j { wait = waits_for_all es }) (λ j. record { kind = refl; home = refl; code = refl; residual = refl; started = refl; ended = refl }) h
  between_kept c move.falling_due may h =
      between.alike (parts c) (without_deadline is_zero_timeout) (λ j. deadline_if (is_zero_timeout j.deadline) j (record j { deadline = no_deadline }) (record { kind = refl; home = refl; code = refl; residual = refl; started = refl; ended = refl })) h
  between_kept c (move.falling_due_at t) may h =
      between.alike (parts c) (without_deadline (is_due_at t)) (λ j. deadline_if (is_due_at t j.deadline) j (record j { deadline = no_deadline }) (record { kind = refl; home = refl; code = refl; residual = refl; started = refl; ended = refl })) h
  between_kept c (move.setting_local q n v) mine h = nobody q mine
  between_kept c (move.calling q r n f args via e) (x, t, hop, handler, entry, unbroken) h = nobody q t.turn.is_turn
  between_kept c (move.answering q r via e) (x, t, next, over, entry, unbroken) h = nobody q t.is_turn
  between_kept c (move.trying hop e) (own, x, b, t, entry, unbroken) h = nobody own.0 own.1
  between_kept c other may h = h

  pub each-between : EachKeeps None (λ (c : Config). Kept Q c)
  each-between c m may h = between_kept c m may h
