-- Whatever others do, a thread that is off the stack keeps what is left of it, or is unwound.
use Rattle.std.proofs.Common.{◌≡◌, ◌≢◌, ◌⊎◌, ◌||◌, ℕ, suc, Bool, true, false, cond, List, [], ◌∷◌, ◌++◌, drop, length, map, slice_get, Option, Some, None, option_map, refl, sym, ap, ◌∙◌, subst, arith, inl, inr, ⊎_elim, true≢false}
use Rattle.std.proofs.lemmas.Bool.{cases_eq}
use Rattle.std.proofs.lemmas.Option.{none-some, slice_get-map}
use Rattle.laws_runs.specs.FlatDesign.Code.{Arena}
use Rattle.laws_runs.specs.FlatDesign.declared.code.Handler.{Handler}
use Rattle.laws_runs.specs.FlatDesign.declared.design.Design.{Design}
use Rattle.laws_runs.specs.FlatDesign.declared.design.ProcessPart.{ProcessPart}
use Rattle.laws_runs.specs.SimModel.Residual.{Residual, skip, one, batch, seq, owing, guard, try_, frame, shell, run, goal, followed, has_goal, settle}
use Rattle.laws_runs.specs.SimModel.Unwinding.{unw, catches, handles, handler_block, handler_of, handled, raise, left_by_unw, left_by_raise}
use Rattle.laws_runs.specs.SimModel.Configuration.{Config, Instance, Deadline, no_deadline, arena, change, change_instance, with_residual, with_runnable}
use Rattle.laws_runs.specs.SimModel.Waits.{freed}
use Rattle.laws_runs.specs.SimModel.Calls.{with_left, with_entry, new_instance, added, runnable_unless}
use Rattle.laws_runs.specs.SimModel.Control.{is_top, pushed, pushed_unless_top}
use Rattle.laws_runs.specs.SimModel.Storing.{passes}
use Rattle.laws_runs.specs.SimModel.Phases.{without_deadline, is_zero_timeout, is_due_at, initialize_each}
use Rattle.laws_runs.specs.SimModel.Statements.{settled_in}
use Rattle.laws_runs.specs.SimModel.Clean.{times}
use Rattle.laws_runs.specs.SimModel.declared.plain.Goal.{Goal}
use Rattle.laws_runs.specs.SimModel.declared.plain.Goal.TheVariants as goal_of
use Rattle.laws_runs.specs.SimModel.declared.plain.Via.{Via}
use Rattle.laws_runs.proofs.Changes.{change-here, change-other, last-other, past-end}
use Rattle.laws_runs.proofs.Times.{times-here, times-other, times-drop}
use Rattle.laws_runs.specs.Moves as move
use Rattle.laws_runs.specs.Moves.{Move, May, made, Moves, StepMoves, in_turn, between, initializing, moving_now, TakingMoves, of_none, of_one, time_moved, turn_taken}
use Rattle.laws_runs.proofs.MovesKeep.{EachKeeps, moves-keep}

-- ---- an exception that is caught has a goal

followed_goal : (r : Residual) (ss : List ℕ) → has_goal (followed r ss) ≡ has_goal r
followed_goal r [] = refl
followed_goal r (s ∷ ss) = refl

module _ (a : Arena) (e : ℕ) (k : Goal) where
  try_goal : (b c : Bool) (r : Residual) (handlers : List Handler) → (b ≡ true → has_goal (raise a r e k) ≡ true) → (b || c) ≡ true
      → has_goal (cond b (try_ (raise a r e k) handlers) (cond c (handled a r handlers e k) (try_ r handlers))) ≡ true
  try_goal true c r handlers later caught = later refl
  try_goal false true r handlers later caught = followed_goal (goal (unw r) k) (handler_block a (handler_of handlers e))
  try_goal false false r handlers later caught = absurd (true≢false (sym caught))

  pub raise-goal : (r : Residual) → catches r e ≡ true → has_goal (raise a r e k) ≡ true
  raise-goal skip caught = absurd (true≢false (sym caught))
  raise-goal (one s) caught = absurd (true≢false (sym caught))
  raise-goal (batch s qs) caught = absurd (true≢false (sym caught))
  raise-goal (seq r ss) caught = raise-goal r caught
  raise-goal (owing r g u) caught = raise-goal r caught
  raise-goal (guard r g u) caught = raise-goal r caught
  raise-goal (try_ r handlers) caught = try_goal (catches r e) (handles handlers e) r handlers (λ is. raise-goal r is) caught
  raise-goal (frame r x) caught = raise-goal r caught
  raise-goal (shell r x) caught = raise-goal r caught
  raise-goal (run g r) caught = raise-goal r caught
  raise-goal (goal r j) caught = refl

-- ---- p off the stack, of which r is left; or p being unwound

module _ (p : ℕ) (d : Design) (r : Residual) where
  abbrev pub IsOff : Instance → List ℕ → Type 0
  IsOff i stack = ((i.residual ≡ r) × (times p stack ≡ 0)) ⊎ (has_goal i.residual ≡ true)

  pub record AwayIn (now : Design) (is : List Instance) (stack : List ℕ) : Type 0 where
    pub same : now ≡ d
    pub instance : Instance
    pub at : slice_get is p ≡ Some instance
    pub begun : instance.started ≡ true
    pub how : IsOff instance stack

  abbrev pub Away : Config → Type 0
  Away c = AwayIn c.design c.processes.instances c.processes.stack

  -- another instance changes
  other : (x : Design) (is : List Instance) (stack : List ℕ) (q : ℕ) (f : Instance → Instance) → p ≢ q → AwayIn x is stack → AwayIn x (change is q f) stack
  other x is stack q f apart h = record { same = h.same; instance = h.instance; at = change-other is q p f apart ∙ h.at; begun = h.begun; how = h.how }

  -- what changes of an instance is neither its body nor whether that was begun
  flagged : (x : Design) (is : List Instance) (stack : List ℕ) (q : ℕ) (f : Instance → Instance) → ((i : Instance) → (f i).residual ≡ i.residual) → ((i : Instance) → (f i).started ≡ i.started) → AwayIn x is stack → AwayIn x (change is q f) stack
  flagged x is stack q f body began h = ⊎_elim
      (λ e. record {
        same = h.same;
        instance = f h.instance;
        at = subst (λ n. slice_get (change is n f) p ≡ Some (f h.instance)) e (change-here is p f h.instance h.at);
        begun = began h.instance ∙ h.begun;
        how = ⊎_elim (λ off. inl (body h.instance ∙ off.0, off.1)) (λ g. inr (ap has_goal (body h.instance) ∙ g)) h.how;
      })
      (λ apart. other x is stack q f apart h)
      (cases_eq p q)

  -- the stack is another, on which p does not stand either
  stacked : (x : Design) (is : List Instance) (stack new : List ℕ) → (times p stack ≡ 0 → times p new ≡ 0) → AwayIn x is stack → AwayIn x is new
  stacked x is stack new off h = record { same = h.same; instance = h.instance; at = h.at; begun = h.begun; how = ⊎_elim (λ o. inl (o.0, off o.1)) (λ g. inr g) h.how }

  dropped : (x : Design) (is : List Instance) (stack : List ℕ) → AwayIn x is stack → AwayIn x is (drop 1 stack)
  dropped x is stack h = stacked x is stack (drop 1 stack) (λ off. let fewer = times-drop p stack in omega (arith, fewer, off)) h

  topped : (x : Design) (is : List Instance) (stack : List ℕ) (q : ℕ) → p ≢ q → AwayIn x is stack → AwayIn x is (q ∷ stack)
  topped x is stack q apart h = stacked x is stack (q ∷ stack) (λ off. times-other p q stack (λ e. apart (sym e)) ∙ off) h

  -- p itself has a goal
  unwound : (x : Design) (is : List Instance) (stack new : List ℕ) (f : Instance → Instance) → ((i : Instance) → (f i).started ≡ i.started) → ((i : Instance) → has_goal (f i).residual ≡ true) → AwayIn x is stack → AwayIn x (change is p f) new
  unwound x is stack new f began g h = record { same = h.same; instance = f h.instance; at = change-here is p f h.instance h.at; begun = began h.instance ∙ h.begun; how = inr (g h.instance) }

  more : (x : Design) (is : List Instance) (stack : List ℕ) (new : Instance) → AwayIn x is stack → AwayIn x (is ++ new ∷ []) stack
  more x is stack new h = record {
    same = h.same;
    instance = h.instance;
    at = ⊎_elim (λ e. absurd (none-some h.instance (sym (ap (slice_get is) e ∙ past-end is) ∙ h.at))) (λ apart. last-other is new p apart ∙ h.at) (cases_eq p (length is));
    begun = h.begun;
    how = h.how;
  }

  mapped : (x : Design) (is : List Instance) (stack : List ℕ) (f : Instance → Instance) → ((i : Instance) → (f i).residual ≡ i.residual) → ((i : Instance) → (f i).started ≡ i.started) → AwayIn x is stack → AwayIn x (map f is) stack
  mapped x is stack f body began h = record {
    same = h.same;
    instance = f h.instance;
    at = slice_get-map f is p ∙ ap (option_map f) h.at;
    begun = began h.instance ∙ h.begun;
    how = ⊎_elim (λ off. inl (body h.instance ∙ off.0, off.1)) (λ g. inr (ap has_goal (body h.instance) ∙ g)) h.how;
  }

  -- ---- answers

  away_if : (b : Bool) (x y : Config) → Away x → Away y → Away (cond b x y)
  away_if true x y one_ two = one_
  away_if false x y one_ two = two

  left_away : (vias : List Via) (x : Config) → Away x → Away (with_left x vias)
  left_away [] x h = h
  left_away (via ∷ more_) x h = left_away more_ (with_entry x via.hop _) h

  unless_away : (b : Bool) (q : ℕ) (x : Config) → Away x → Away (runnable_unless b q x)
  unless_away true q x h = h
  unless_away false q x h = h

  body_if : (b : Bool) (i j : Instance) → j.residual ≡ i.residual → (cond b j i).residual ≡ i.residual
  body_if true i j is = is
  body_if false i j is = refl

  began_if : (b : Bool) (i j : Instance) → j.started ≡ i.started → (cond b j i).started ≡ i.started
  began_if true i j is = is
  began_if false i j is = refl

  due_away : (test : Deadline → Bool) (x : Config) → Away x → AwayIn x.design (map (without_deadline test) x.processes.instances) x.processes.stack
  due_away test x h =
      mapped x.design x.processes.instances x.processes.stack (without_deadline test)
      (λ i. body_if (test i.deadline) i (record i { deadline = no_deadline }) refl) (λ i. began_if (test i.deadline) i (record i { deadline = no_deadline }) refl) h

  -- ---- a kill, a reset, and an exception that is thrown at another: of p, or of another

  abbrev free : Instance → Instance
  free j = record (freed j) { kept = false; trigger = None }

  abbrev having : Residual → Instance → Instance
  having new j = record j { residual = new }

  -- with this left, which has a goal, it comes on top of the stack
  own_pushed : (x : Config) (new : Residual) → has_goal new ≡ true → Away x → Away (pushed (with_residual x p new) p)
  own_pushed x new g h =
      flagged x.design (change x.processes.instances p (having new)) (p ∷ x.processes.stack) p free (λ j. refl) (λ j. refl)
      (unwound x.design x.processes.instances x.processes.stack (p ∷ x.processes.stack) (having new) (λ j. refl) (λ j. g) h)

  other_body : (x : Config) (q : ℕ) (new : Residual) → p ≢ q → Away x → Away (with_residual x q new)
  other_body x q new apart h = other x.design x.processes.instances x.processes.stack q (having new) apart h

  other_pushed : (x : Config) (q : ℕ) → p ≢ q → Away x → Away (pushed x q)
  other_pushed x q apart h = topped x.design (change x.processes.instances q free) x.processes.stack q apart (other x.design x.processes.instances x.processes.stack q free apart h)

  goes_pushed : (x : Config) (q : ℕ) (new : Residual) → has_goal new ≡ true → Away x → Away (pushed (with_residual x q new) q)
  goes_pushed x q new g h = ⊎_elim
      (λ same. subst (λ n. Away (pushed (with_residual x n new) n)) same (own_pushed x new g h))
      (λ apart. other_pushed (with_residual x q new) q apart (other_body x q new apart h))
      (cases_eq p q)

  goes_stays : (x : Config) (q : ℕ) (new : Residual) → has_goal new ≡ true → Away x → Away (with_residual x q new)
  goes_stays x q new g h = ⊎_elim
      (λ same. subst (λ n. Away (with_residual x n new)) same (unwound x.design x.processes.instances x.processes.stack x.processes.stack (having new) (λ j. refl) (λ j. g) h))
      (λ apart. other_body x q new apart h)
      (cases_eq p q)

  unwinds_away : (x : Config) (q : ℕ) (i : Instance) (k : Goal) → Away x → Away (pushed_unless_top (with_residual x q (goal (unw i.residual) k)) q)
  unwinds_away x q i k h =
      let new = goal (unw i.residual) k in
      away_if (is_top (with_residual x q new) q) (with_residual x q new) (pushed (with_residual x q new) q) (goes_stays x q new refl h) (goes_pushed x q new refl h)

  -- ---- each move

  module _ (who : Option ℕ) (apart : (q : ℕ) → who ≡ Some q → p ≢ q) where
    acts : (x : Config) (q : ℕ) → who ≡ Some q → (f : Instance → Instance) → Away x → Away (change_instance x q f)
    acts x q mine f h = other x.design x.processes.instances x.processes.stack q f (apart q mine) h

    leaves : (x : Config) (q : ℕ) → who ≡ Some q → (f : Instance → Instance) → Away x → AwayIn x.design (change x.processes.instances q f) (drop 1 x.processes.stack)
    leaves x q mine f h = dropped x.design (change x.processes.instances q f) x.processes.stack (acts x q mine f h)

    flags : (x : Config) (q : ℕ) (f : Instance → Instance) → ((i : Instance) → (f i).residual ≡ i.residual) → ((i : Instance) → (f i).started ≡ i.started) → Away x → Away (change_instance x q f)
    flags x q f body began h = flagged x.design x.processes.instances x.processes.stack q f body began h

    suspends : (x : Config) (q : ℕ) → Away x → Away (change_instance x q (λ j. record j { suspended = true }))
    suspends x q h = flags x q (λ j. record j { suspended = true }) (λ j. refl) (λ j. refl) h

    keeps : (x : Config) (q : ℕ) → Away x → Away (change_instance x q (λ j. record j { kept = true }))
    keeps x q h = flags x q (λ j. record j { kept = true }) (λ j. refl) (λ j. refl) h

    pub away-move : EachKeeps who Away
    away-move x (move.passing q s) (t, may) h = acts x q t.is_turn _ h
    away-move x (move.placing q s new) (n, y, t, g) h = acts x q t.turn.is_turn _ h
    away-move x (move.entering q s b u) (n, t) h = acts x q t.turn.is_turn _ h
    away-move x (move.taking_off q s) (n, o, t, next) h = acts x q t.is_turn _ h
    away-move x (move.returning q s v) (n, e, t) h = acts x q t.turn.is_turn _ h
    away-move x (move.beginning q f args) (t, i, there, not, same, too) h = acts x q t.is_turn _ h
    away-move x (move.ending q) (s, t, over) h = leaves x q t.is_turn _ h
    away-move x (move.idling q w e) (s, t, over) h = leaves x q t.is_turn _ h
    away-move x (move.resetting q) (s, t, next) h = acts x q t.is_turn _ h
    away-move x (move.waiting q s w e) (n, y, t) h = leaves (passes x q s) q t.turn.is_turn _ (acts x q t.turn.is_turn _ h)
    away-move x (move.blocking q s e) (n, y, t, may) h = leaves (with_residual x q s) q t.turn.is_turn _ (acts x q t.turn.is_turn _ h)
    away-move x (move.triggering q v) mine h = acts x q mine _ h
    away-move x (move.spawning q s k y args) (n, t, is) h =
        let old = passes x q s in
        let new = new_instance old k y args in
        unless_away y.dont_initialize (length old.processes.instances) (added old new) (more x.design old.processes.instances x.processes.stack new (acts x q t.turn.is_turn _ h))
    away-move x (move.throwing q s e) (t, i, there, is, caught, how) h = left_away (left_by_raise s e) (with_residual x q (raise (arena x) s e goal_of.Thrown)) (acts x q t.is_turn _ h)
    away-move x (move.injecting q i e) (n, t, live, off, below, caught) h =
        let new = raise (arena x) i.residual e goal_of.Injected in
        left_away (left_by_raise i.residual e) (pushed (with_residual x q new) q) (goes_pushed x q new (raise-goal (arena x) e goal_of.Injected i.residual caught) h)
    away-move x (move.unwinding q i k) (n, t, live, below, none, outer) h = left_away (left_by_unw i.residual) (pushed_unless_top (with_residual x q (goal (unw i.residual) k)) q) (unwinds_away x q i k h)
    away-move x (move.suspending_runnable q) (n, t, i, live, is) h = keeps (change_instance x q (λ j. record j { suspended = true })) q (suspends x q h)
    away-move x (move.yielding q) (n, t, i, live, off, is) h =
        dropped x.design (change (change x.processes.instances q (λ j. record j { suspended = true })) q (λ j. record j { kept = true })) x.processes.stack
        (keeps (change_instance x q (λ j. record j { suspended = true })) q (suspends x q h))
    away-move x (move.suspending q) (n, t, i, live, off) h = suspends x q h
    away-move x (move.resuming_kept q) may h = flags x q (λ j. record j { suspended = false; kept = false }) (λ j. refl) (λ j. refl) h
    away-move x (move.resuming q) may h = flags x q (λ j. record j { suspended = false; kept = false }) (λ j. refl) (λ j. refl) h
    away-move x (move.disabling q flag) may h = flags x q (λ j. record j { disabled = flag }) (λ j. refl) (λ j. refl) h
    away-move x (move.staying_reset q) (t, i, there, bare, is) h = leaves x q t.is_turn _ h
    away-move x (move.staying_thrown q s) (t, next, is) h = leaves (passes x q s) q t.is_turn _ (acts x q t.is_turn _ h)
    away-move x (move.joining q) may h = flags x q freed (λ j. refl) (λ j. refl) h
    away-move x (move.keeping q) may h = flags x q (λ j. record (freed j) { kept = true }) (λ j. refl) (λ j. refl) h
    away-move x (move.striking q es) may h = flags x q _ (λ j. refl) (λ j. refl) h
    away-move x move.falling_due may h = due_away is_zero_timeout x h
    away-move x (move.falling_due_at t) may h = due_away (is_due_at t) x h
    away-move x (move.setting_local q n v) mine h = acts x q mine _ h
    away-move x (move.calling q s n f args via e) (y, t, hop, handler, entry, unbroken) h = acts x q t.turn.is_turn _ h
    away-move x (move.answering q s via e) (y, t, next, over, entry, unbroken) h = acts x q t.is_turn _ h
    away-move x m may h = h

    pub away-moves : (x y : Config) → Moves who x y → Away x → Away y
    away-moves x y ms h = moves-keep who Away away-move x y ms h

  -- ---- each step, and each taking of another

  nobody : (q : ℕ) → None ≡ Some q → p ≢ q
  nobody q e = absurd (none-some q e)

  initialize_away : (n : ℕ) (xs : List ProcessPart) (x : Config) → Away x → Away (initialize_each n xs x)
  initialize_away n [] x h = h
  initialize_away n (y ∷ ys) x h =
      away_if y.dont_initialize (initialize_each (suc n) ys x) (initialize_each (suc n) ys (with_runnable (change_instance x n freed) (x.processes.runnable ++ n ∷ [])))
      (initialize_away (suc n) ys x h)
      (initialize_away (suc n) ys (with_runnable (change_instance x n freed) (x.processes.runnable ++ n ∷ [])) (flagged x.design x.processes.instances x.processes.stack n freed (λ j. refl) (λ j. refl) h))

  off_top : (q : ℕ) (rest stack : List ℕ) → stack ≡ q ∷ rest → times p stack ≡ 0 → p ≢ q
  off_top q rest stack top off same =
      let here = times-here p rest in
      let is = ap (times p) (top ∙ ap (λ n. n ∷ rest) (sym same)) in
      omega (arith, here, is, off)

  same_turn : (q n : ℕ) → Some q ≡ Some n → p ≢ q → p ≢ n
  same_turn q n e apart is = apart (is ∙ sym (same_some q n e))
    where
      same_some : (q n : ℕ) → Some q ≡ Some n → q ≡ n
      same_some q n e = cc

  pub away-step : (x y : Config) → times p x.processes.stack ≡ 0 → StepMoves x y → Away x → Away y
  away-step x _ off (in_turn q rest i y now top at ms is) h =
      let apart = off_top q rest x.processes.stack top off in
      away-moves (Some q) (λ n e. same_turn q n e apart) (settled_in x q i.residual) y ms (other x.design x.processes.instances x.processes.stack q (having (settle (arena x) i.residual)) apart h)
  away-step x _ off (between y later ms) h = away-moves None nobody x y ms h
  away-step x _ off (initializing y z now ms same cycle more_ after) h =
      away-moves None nobody (initialize_each 0 x.design.processes y) z more_ (initialize_away 0 x.design.processes y (away-moves None nobody x y ms h))
  away-step x _ off (moving_now t y now apart ms same) h = away-moves None nobody (time_moved x t) y ms h

  pub away-taking : (x y : Config) (q : ℕ) → p ≢ q → TakingMoves x q y → Away x → Away y
  away-taking x _ q apart of_none h = h
  away-taking x _ q apart (of_one i y empty at is ms) h =
      away-moves (Some q) (λ n e. same_turn q n e apart) (turn_taken x q) y ms
      (stacked x.design x.processes.instances x.processes.stack (q ∷ []) (λ off. times-other p q [] (λ e. apart (sym e))) h)
