-- The steps of a clocked thread go from place to place of its body.
use Rattle.std.proofs.Common.{◌≡◌, ◌⊎◌, ℕ, Bool, true, false, cond, List, [], ◌∷◌, ◌++◌, slice_get, unwrap_or, Contains, Option, Some, None, refl, sym, ap, ◌∙◌, subst, inl, inr, ⊎_elim, true≢false}
use Rattle.std.specs.Prelude.{Result, Ok, Err}
use Rattle.std.specs.Result.{IfOk}
use Rattle.std.proofs.lemmas.Bool.{cases_eq}
use Rattle.std.proofs.lemmas.List.Elements.{Contains-append_left}
use Rattle.std.proofs.lemmas.Option.{none-some, same_Some}
use Rattle.laws_runs.specs.LogicValues.declared.kinds.Value.{Value}
use Rattle.laws_runs.specs.LogicValues.declared.kinds.Value.TheVariants as value
use Rattle.laws_runs.specs.EventCore.declared.event.Ev.{Ev}
use Rattle.laws_runs.specs.EventCore.declared.event.Ev.TheVariants as ev
use Rattle.laws_runs.specs.ModelTree.declared.items.ProcessKind.{ProcessKind}
use Rattle.laws_runs.specs.ModelTree.declared.items.ProcessKind.TheVariants as process
use Rattle.laws_runs.specs.FlatDesign.Code as code
use Rattle.laws_runs.specs.FlatDesign.Code.{Statement, arena_of, block_at, body_at, statement_at}
use Rattle.laws_runs.specs.FlatDesign.Typed.{EachOf}
use Rattle.laws_runs.specs.FlatDesign.declared.value_types.ValueType.TheVariants as type
use Rattle.laws_runs.specs.FlatDesign.declared.code.CodeBody.{CodeBody}
use Rattle.laws_runs.specs.FlatDesign.declared.design.Design.{Design}
use Rattle.laws_runs.specs.FlatDesign.declared.faults.RunFault.{RunFault}
use Rattle.laws_runs.specs.SimModel.Values.{truth, widened, cut_to}
use Rattle.laws_runs.specs.SimModel.Residual as residual
use Rattle.laws_runs.specs.SimModel.Residual.{Residual, Frame, Next, skip, one, batch, seq, owing, guard, try_, frame, shell, run, goal, followed, statements, block, changed_if, innermost, in_innermost, taken_off, frame_or, goal_or, put, next_of, entered_in, begun}
use Rattle.laws_runs.specs.SimModel.Unwinding.{has_exit, returned}
use Rattle.laws_runs.specs.SimModel.Configuration.{Config, Instance, arena, instance_at, change_instance, with_residual}
use Rattle.laws_runs.specs.SimModel.Reading.{here}
use Rattle.laws_runs.specs.SimModel.Waits.{fire, leaves_stack}
use Rattle.laws_runs.specs.SimModel.Storing.{passes, with_local, set_local, looped, first_value}
use Rattle.laws_runs.specs.SimModel.Control.{ended_instance, stays_kept, begins, ends, restarts, reaches_goal, done_by}
use Rattle.laws_runs.specs.SimModel.Statements.{do_statement, leaves_call, calling_statement, owed_call, owed_by, on_statement, do_next}
use Rattle.laws_runs.specs.SimModel.declared.plain.Goal.{Goal}
use Rattle.laws_runs.specs.SimModel.declared.plain.Goal.TheVariants as goal_of
use Rattle.laws_runs.proofs.Changes.{change-here}
use Rattle.laws_runs.proofs.MarkLemmas.{before_statement, frame_statement}
use Rattle.laws_runs.proofs.GoalParts.{IsInner}
use Rattle.laws_runs.proofs.WakeMoves.{fire-keeps}
use Rattle.laws_clocked.specs.Stores.{OnlyStores}
use Rattle.laws_clocked.specs.Again.{Around}
use Rattle.laws_clocked.specs.Clocked.{HasClocked}
use Rattle.laws_clocked.proofs.Storing.{IsKeptUnwound, IsKeptSet, IsGiven, LeftSo, changed_here, flagged, becomes, if_held, fire-held, moved_held, control_held, throw_held, local_held, form-held}
use Rattle.laws_clocked.proofs.Keeping.{HasCall, IsKeeping, put-call, set_call, any_stores, handed_held, set_other, set_call_keeps}
use Rattle.laws_clocked.proofs.Undoing.{none_next, no_leaving, before_leaves, followed_call, goal_call}
use Rattle.laws_clocked.proofs.Owned.{IsOwn, each-own, CallSo, next-own, leaves-own, put-own, past-own, off-own, local-own, returned-own, given-own}
use Rattle.laws_clocked.proofs.Rounds.{Own, More, more_left, IsUnder, IsTrue, Place, at_start, at_loop, at_try, in_own, unwound, over, Rounds, Places, then-more, more-put, more-past, more-off, more-set, more-returned, rounds-unwound}

-- ---- whatever is kept of what is left: at the end of a body, of an unwinding, of a call, and at a call that is owed

module _ (p : ℕ) (F : Residual → Type 0) (c : Config) (k : IsKeptUnwound (arena c) F) (anew : (g : ℕ) (args : List Value) → F (begun (arena c) g args)) (i : Instance) (r : Residual) (so : LeftSo p F c.processes.instances) where
  abbrev To : Config → Type 0
  To d = LeftSo p F d.processes.instances

  ends_so : To (ends c p)
  ends_so = fire-held p F (leaves_stack (change_instance c p ended_instance)) (ev.Terminated p) (becomes p F c p ended_instance skip (λ j. refl) (λ same. k.bare) so)

  done_so : (g : ProcessKind) → To (done_by c p i g)
  done_so process.Thread = ends_so
  done_so process.Method = becomes p F c p _ skip (λ j. refl) (λ same. k.bare) so

  fired_design : (d : Config) (e : Ev) → (fire d e).design ≡ d.design
  fired_design d e = fire-keeps (λ (x : Config). x.design ≡ d.design) (record { joins = λ x n j may on z. z; keeps = λ x n j may on z. z; strikes = λ x n es j all at is z. z }) d e refl

  restarts_so : To (restarts c p i)
  restarts_so =
      let bare = change_instance c p (λ j. record j { residual = skip; started = false }) in
      let d = fire bare (ev.Restarted p) in
      let here_so = fire-held p F bare (ev.Restarted p) (becomes p F c p (λ j. record j { residual = skip; started = false }) skip (λ j. refl) (λ same. k.bare) so) in
      if_held p F i.suspended (stays_kept d p) (begins d p i)
      (flagged p F d p (λ j. record j { kept = true }) (λ j. refl) here_so)
      (becomes p F d p (λ j. record j { residual = begun (arena d) i.code i.arguments; started = true }) (begun (arena d) i.code i.arguments) (λ j. refl)
      (λ same. subst (λ z. F (begun z i.code i.arguments)) (sym (ap (λ (x : Design). arena_of x.code) (fired_design bare (ev.Restarted p)))) (anew i.code i.arguments)) here_so)

  module _ (past : F (put r skip)) (off : F (taken_off r)) where
    passed : To (passes c p r)
    passed = moved_held p F c p (put r skip) (λ same. past) so

    goal_so : (g : Goal) → To (reaches_goal c p i r g)
    goal_so goal_of.End = ends_so
    goal_so goal_of.Restart = restarts_so
    goal_so goal_of.Thrown = passed
    goal_so goal_of.Injected = if_held p F i.suspended (stays_kept (passes c p r) p) (passes c p r) (flagged p F (passes c p r) p (λ j. record j { kept = true }) (λ j. refl) passed) passed

    less_owed : To (with_residual c p (taken_off r))
    less_owed = moved_held p F c p (taken_off r) (λ same. off) so

    owed_so : (m : ℕ) (y : Statement) → IfOk (owed_call (with_residual c p (taken_off r)) m y) To
    owed_so m (code.control g whom all) = control_held p F (arena c) k (with_residual c p (taken_off r)) m g less_owed
    owed_so m (code.throw_it whom e all) = throw_held p F (arena c) k (with_residual c p (taken_off r)) refl m e less_owed
    owed_so m other = less_owed

    owed_if : (m : ℕ) (y : Option Statement) → IfOk (owed_by (with_residual c p (taken_off r)) m y) To
    owed_if m None = less_owed
    owed_if m (Some y) = owed_so m y

    module _ (by_form : (n : ℕ) → next_of r ≡ residual.statement n → (y : Statement) → statement_at (arena c) n ≡ Some y → IfOk (do_statement c p i r (here c p i r) n y) To)
        (back : (z : Frame) → next_of r ≡ residual.leaves z → IfOk (leaves_call c p i r z) To) where
      on_so : (n : ℕ) → next_of r ≡ residual.statement n → (y : Option Statement) → statement_at (arena c) n ≡ y → IfOk (on_statement c p i r n y) To
      on_so n next None found = passed
      on_so n next (Some y) found = by_form n next y found

      by_next : (y : Next) → next_of r ≡ y → IfOk (do_next c p i r y) To
      by_next (residual.statement n) next = on_so n next (statement_at (arena c) n) refl
      by_next (residual.owes n m) next = owed_if m (statement_at (arena c) n)
      by_next (residual.leaves z) next = back z next
      by_next residual.done next = done_so i.kind
      by_next (residual.reaches g) next = goal_so g
      by_next residual.nothing next = done_so i.kind

      pub next-so : IfOk (do_next c p i r (next_of r)) To
      next-so = by_next (next_of r) refl

-- ---- a clocked thread

-- of its own statements the last is past, in a step from c to d that does nothing else but that
pub record IsPast (b : Around) (p : ℕ) (c d : Config) : Type 0 where
  pub instance : Instance
  pub there : instance_at d p ≡ Some instance
  pub call : Frame
  pub left : instance.residual ≡ frame (seq (try_ skip b.handlers) (b.loops ∷ [])) call
  pub stack : d.processes.stack ≡ c.processes.stack
  pub cycle : d.cycle ≡ c.cycle
  pub design : d.design ≡ c.design

same_truth : (v : Value) → truth (widened v) ≡ truth v
same_truth (value.Bool b) = refl
same_truth (value.Int width n) = refl
same_truth (value.Uint width n) = refl
same_truth (value.Logic d) = refl
same_truth (value.Vector v) = refl
same_truth (value.Moment t) = refl
same_truth (value.Handle h) = refl
same_truth (value.Pay q) = refl

goal_left : (z : Residual) (g : Goal) (n inside : Residual) (s : ℕ) → next_of z ≡ residual.statement s → goal_or z g n inside ≡ goal inside g
goal_left skip g n inside s is = absurd (none_next s is)
goal_left (one t) g n inside s is = refl
goal_left (batch t qs) g n inside s is = refl
goal_left (seq r ss) g n inside s is = refl
goal_left (owing r h u) g n inside s is = refl
goal_left (guard r h u) g n inside s is = refl
goal_left (try_ r hs) g n inside s is = refl
goal_left (frame r x) g n inside s is = refl
goal_left (shell r x) g n inside s is = refl
goal_left (run h r) g n inside s is = refl
goal_left (goal r j) g n inside s is = refl

module _ (b : Around) (e f : ℕ) (c : Config) (has : HasClocked (arena c) b e f) where
  abbrev R : Residual → Type 0
  R r = Rounds (arena c) b e f has r

  -- ---- a body that begins

  begun_by : (g : ℕ) (args : List Value) (m : Option CodeBody) → body_at (arena c) g ≡ m → R (entered_in (arena c) g args None None m)
  begun_by g args None at = λ is. inl (over refl)
  begun_by g args (Some y) at = λ is.
      let same : y ≡ has.body = same_Some y has.body (sym at ∙ ap (body_at (arena c)) is ∙ has.found) in
      inl (at_start (ap (λ (z : CodeBody). statements (block_at (arena c) z.block)) same ∙ ap statements has.begins))

  pub anew-rounds : (g : ℕ) (args : List Value) → R (begun (arena c) g args)
  anew-rounds g args = begun_by g args (body_at (arena c) g) refl

  -- ---- where all is unwound, and in other bodies

  abbrev Other : Residual → Type 0
  Other skip = Unit {0}
  Other (goal r g) = Unit {0}
  Other (frame q x) = x.body ≡ f → ⊥
  Other other = ⊥

  other_rounds : (r : Residual) → Other r → R r
  other_rounds skip h = tt
  other_rounds (goal r g) h = tt
  other_rounds (frame q x) h = λ is. absurd (h is)
  other_rounds other h = absurd h

  other_body : (w : Option Frame) (n : ℕ) (v : Value) (x : Frame) → (x.body ≡ f → ⊥) → (changed_if w (with_local n v) x).body ≡ f → ⊥
  other_body None n v x h is = h is
  other_body (Some y) n v x h is = h is

  other_set : IsKeptSet Other (λ n. Unit {0})
  other_set n v skip so h = tt
  other_set n v (goal r g) so h = tt
  other_set n v (frame q x) so h = other_body (innermost q) n v x h
  other_set n v other so h = absurd h

  other_frame : (q : Residual) (x : Frame) (n inside : Residual) (s : ℕ) → next_of q ≡ residual.statement s → (x.body ≡ f → ⊥) → Other (frame_or q x n inside)
  other_frame skip x n inside s is h = absurd (none_next s is)
  other_frame other x n inside s is h = h

  other_goal : (q : Residual) (g : Goal) (n inside : Residual) (s : ℕ) → next_of q ≡ residual.statement s → Other (goal_or q g n inside)
  other_goal skip g n inside s is = absurd (none_next s is)
  other_goal other g n inside s is = tt

  other_put : (r n : Residual) (s : ℕ) → next_of r ≡ residual.statement s → Other r → Other (put r n)
  other_put skip n s is h = tt
  other_put (goal q g) n s is h = other_goal q g n (put q n) s (before_statement (next_of q) g s is)
  other_put (frame q x) n s is h = other_frame q x n (put q n) s (frame_statement (next_of q) x s is) h
  other_put other n s is h = absurd h

  other_past_frame : (q : Residual) (x : Frame) (inside : Residual) → (x.body ≡ f → ⊥) → Other (frame_or q x skip inside)
  other_past_frame skip x inside h = tt
  other_past_frame other x inside h = h

  other_past_goal : (q : Residual) (g : Goal) (inside : Residual) → Other (goal_or q g skip inside)
  other_past_goal skip g inside = tt
  other_past_goal other g inside = tt

  other_past : (r : Residual) → Other r → Other (put r skip)
  other_past skip h = tt
  other_past (goal q g) h = other_past_goal q g (put q skip)
  other_past (frame q x) h = other_past_frame q x (put q skip) h
  other_past other h = absurd h

  other_off : (r : Residual) → Other r → Other (taken_off r)
  other_off skip h = tt
  other_off (goal q g) h = tt
  other_off (frame q x) h = h
  other_off other h = absurd h

  other_ended : (d : Bool) (v : Option Value) (q r : Residual) (x : Frame) → (x.body ≡ f → ⊥) → Other (cond d (frame q x) (frame r (record x { answer = v })))
  other_ended true v q r x h = h
  other_ended false v q r x h = h

  other_returned : (v : Option Value) (r : Residual) → Other r → Other (returned v r)
  other_returned v skip h = tt
  other_returned v (goal q g) h = tt
  other_returned v (frame q x) h = other_ended (has_exit q) v (returned v q) skip x h
  other_returned v other h = absurd h

  -- ---- among its own statements, but the last, and while these are unwound

  data Shape (q : Residual) : Type 0 where
    with_more : (z : Residual) → More (arena c) b e f has z → q ≡ seq (try_ z b.handlers) (b.loops ∷ []) → Shape q
    with_goal : (z : Residual) (g : Goal) → IsInner g → Own (arena c) b e f has z → q ≡ seq (goal z g) (b.loops ∷ []) → Shape q

  shape_place : (x : Frame) (q : Residual) → IsTrue (arena c) b e f has x → Shape q → Place (arena c) b e f has x q
  shape_place x q t (with_more z m is) = in_own z t (inr m) is
  shape_place x q t (with_goal z g inner own is) = unwound z g t inner own is

  shape_next : (q : Residual) (n : ℕ) → next_of q ≡ residual.statement n → Shape q → HasCall q ⊎ IsOwn (arena c) b n
  shape_next q n next (with_more z (more_left r ss seq_ own spares) is) =
      let all = is ∙ ap (λ y. seq (try_ y b.handlers) (b.loops ∷ [])) seq_ in
      ⊎_elim (λ (h : HasCall r). inl (subst HasCall (sym all) h)) (λ s. inr s) (next-own (arena c) (IsOwn (arena c) b) r n own (ap next_of (sym all) ∙ next))
  shape_next q n next (with_goal z g inner own is) =
      ⊎_elim (λ (h : HasCall z). inl (subst HasCall (sym is) h)) (λ s. inr s) (next-own (arena c) (IsOwn (arena c) b) z n own (before_statement (next_of z) g n (ap next_of (sym is) ∙ next)))

  shape_leaves : (q : Residual) (z : Frame) → next_of q ≡ residual.leaves z → Shape q → HasCall (put q skip) ⊎ CallSo (arena c) (IsOwn (arena c) b) z.call
  shape_leaves q w next (with_more z (more_left r ss seq_ own spares) is) =
      let all = is ∙ ap (λ y. seq (try_ y b.handlers) (b.loops ∷ [])) seq_ in
      ⊎_elim (λ (h : HasCall (put r skip)). inl (subst (λ y. HasCall (put y skip)) (sym all) (followed_call (put r skip) (ss ++ has.last ∷ []) h))) (λ s. inr s)
      (leaves-own (arena c) (IsOwn (arena c) b) r w own (ap next_of (sym all) ∙ next))
  shape_leaves q w next (with_goal z g inner own is) =
      let there = before_leaves (next_of z) g w (ap next_of (sym is) ∙ next) in
      ⊎_elim (λ (h : HasCall (put z skip)). inl (subst (λ y. HasCall (put y skip)) (sym is) (goal_call z g (put z skip) w there h))) (λ s. inr s) (leaves-own (arena c) (IsOwn (arena c) b) z w own there)

  shape_put : (q n : Residual) (s : ℕ) → next_of q ≡ residual.statement s → (IsOwn (arena c) b s → Own (arena c) b e f has n) → Shape q → Shape (put q n)
  shape_put q n s next new (with_more z m is) = with_more (put z n) (more-put (arena c) b e f has z n s new (ap next_of (sym is) ∙ next) m) (ap (λ y. put y n) is)
  shape_put q n s next new (with_goal z g inner own is) =
      let there = before_statement (next_of z) g s (ap next_of (sym is) ∙ next) in
      with_goal (put z n) g inner (put-own (arena c) (IsOwn (arena c) b) n s new z there own) (ap (λ y. put y n) is ∙ ap (λ y. seq y (b.loops ∷ [])) (goal_left z g n (put z n) s there))

  shape_off : (q : Residual) → Shape q → Shape (taken_off q)
  shape_off q (with_more z m is) = with_more (taken_off z) (more-off (arena c) b e f has z m) (ap taken_off is)
  shape_off q (with_goal z g inner own is) = with_goal (taken_off z) g inner (off-own (arena c) (IsOwn (arena c) b) z own) (ap taken_off is)

  shape_set : (n : ℕ) (v : Value) (q : Residual) → Shape q → Shape (in_innermost (with_local n v) q)
  shape_set n v q (with_more z m is) = with_more (in_innermost (with_local n v) z) (more-set (arena c) b e f has n v z m) (ap (in_innermost (with_local n v)) is)
  shape_set n v q (with_goal z g inner own is) = with_goal (in_innermost (with_local n v) z) g inner (local-own (arena c) (IsOwn (arena c) b) n v z own) (ap (in_innermost (with_local n v)) is)

  shape_returned : (v : Option Value) (q : Residual) → Shape q → Shape (returned v q)
  shape_returned v q (with_more z m is) = with_more (returned v z) (more-returned (arena c) b e f has v z m) (ap (returned v) is)
  shape_returned v q (with_goal z g inner own is) = with_goal (returned v z) g inner (returned-own (arena c) (IsOwn (arena c) b) v z own) (ap (returned v) is)

  -- what is past: its goal too
  shape_past : (x : Frame) (q : Residual) → IsTrue (arena c) b e f has x → Shape q → R (frame (put q skip) x)
  shape_past x q t (with_more z m is) = λ same. inl (in_own (put z skip) t (inr (more-past (arena c) b e f has z m)) (ap (λ y. put y skip) is))
  shape_past x q t (with_goal z g inner own is) = λ same. by z refl
    where
      by : (y : Residual) → z ≡ y → Place (arena c) b e f has x (put q skip) ⊎ (put q skip ≡ seq skip (b.loops ∷ []))
      by skip bare = inr (ap (λ y. put y skip) is ∙ ap (λ y. seq (goal_or y g skip (put y skip)) (b.loops ∷ [])) bare)
      by (one s) bare = inl (unwound (put z skip) g t inner (past-own (arena c) (IsOwn (arena c) b) z own) (ap (λ y. put y skip) is ∙ ap (λ y. seq (goal_or y g skip (put z skip)) (b.loops ∷ [])) bare))
      by (batch s qs) bare = inl (unwound (put z skip) g t inner (past-own (arena c) (IsOwn (arena c) b) z own) (ap (λ y. put y skip) is ∙ ap (λ y. seq (goal_or y g skip (put z skip)) (b.loops ∷ [])) bare))
      by (seq r ss) bare = inl (unwound (put z skip) g t inner (past-own (arena c) (IsOwn (arena c) b) z own) (ap (λ y. put y skip) is ∙ ap (λ y. seq (goal_or y g skip (put z skip)) (b.loops ∷ [])) bare))
      by (owing r h u) bare = inl (unwound (put z skip) g t inner (past-own (arena c) (IsOwn (arena c) b) z own) (ap (λ y. put y skip) is ∙ ap (λ y. seq (goal_or y g skip (put z skip)) (b.loops ∷ [])) bare))
      by (guard r h u) bare = inl (unwound (put z skip) g t inner (past-own (arena c) (IsOwn (arena c) b) z own) (ap (λ y. put y skip) is ∙ ap (λ y. seq (goal_or y g skip (put z skip)) (b.loops ∷ [])) bare))
      by (try_ r hs) bare = inl (unwound (put z skip) g t inner (past-own (arena c) (IsOwn (arena c) b) z own) (ap (λ y. put y skip) is ∙ ap (λ y. seq (goal_or y g skip (put z skip)) (b.loops ∷ [])) bare))
      by (frame r y) bare = inl (unwound (put z skip) g t inner (past-own (arena c) (IsOwn (arena c) b) z own) (ap (λ y. put y skip) is ∙ ap (λ y. seq (goal_or y g skip (put z skip)) (b.loops ∷ [])) bare))
      by (shell r y) bare = inl (unwound (put z skip) g t inner (past-own (arena c) (IsOwn (arena c) b) z own) (ap (λ y. put y skip) is ∙ ap (λ y. seq (goal_or y g skip (put z skip)) (b.loops ∷ [])) bare))
      by (run h r) bare = inl (unwound (put z skip) g t inner (past-own (arena c) (IsOwn (arena c) b) z own) (ap (λ y. put y skip) is ∙ ap (λ y. seq (goal_or y g skip (put z skip)) (b.loops ∷ [])) bare))
      by (goal r h) bare = inl (unwound (put z skip) g t inner (past-own (arena c) (IsOwn (arena c) b) z own) (ap (λ y. put y skip) is ∙ ap (λ y. seq (goal_or y g skip (put z skip)) (b.loops ∷ [])) bare))

  not_bare : (q : Residual) (x : Frame) (n : Residual) → Shape q → frame_or q x n (put q n) ≡ frame (put q n) x
  not_bare q x n (with_more z m is) = subst (λ y. frame_or y x n (put y n) ≡ frame (put y n) x) (sym is) refl
  not_bare q x n (with_goal z g inner own is) = subst (λ y. frame_or y x n (put y n) ≡ frame (put y n) x) (sym is) refl

  module _ (v : Value) where
    -- so it is left, and the variable has this value; and a call is open in it
    abbrev Held : Residual → Type 0
    Held skip = Unit {0}
    Held (goal r g) = Unit {0}
    Held (frame q x) = IsKeeping b.again v f x × Shape q
    Held other = ⊥

    abbrev HeldInCall : Residual → Type 0
    HeldInCall skip = Unit {0}
    HeldInCall (goal r g) = Unit {0}
    HeldInCall (frame q x) = IsKeeping b.again v f x × Shape q × HasCall q
    HeldInCall other = ⊥

    held_set : IsKeptSet Held (λ n. n ≡ b.again → ⊥)
    held_set n y skip apart h = tt
    held_set n y (goal r g) apart h = tt
    held_set n y (frame q x) apart h = (set_other b.again v f (innermost q) n y x apart h.0, shape_set n y q h.1)
    held_set n y other apart h = absurd h

    call_held_set : IsKeptSet HeldInCall (λ n. Unit {0})
    call_held_set n y skip so h = tt
    call_held_set n y (goal r g) so h = tt
    call_held_set n y (frame q x) so h = (set_call_keeps b.again v f (innermost q) n y x h.2.0 h.2.1 h.0, shape_set n y q h.1, set_call (with_local n y) q h.2)
    call_held_set n y other so h = absurd h

    module _ (is_true : truth v ≡ true) where
      held_rounds : (r : Residual) → Held r → R r
      held_rounds skip h = tt
      held_rounds (goal r g) h = tt
      held_rounds (frame q x) h = λ is. inl (shape_place x q (v, h.0.0, is_true) h.1)
      held_rounds other h = absurd h

      call_rounds : (r : Residual) → HeldInCall r → R r
      call_rounds skip h = tt
      call_rounds (goal r g) h = tt
      call_rounds (frame q x) h = λ is. inl (shape_place x q (v, h.0.0, is_true) h.1)
      call_rounds other h = absurd h

  -- ---- a step

  module _ (p : ℕ) (i : Instance) (at : instance_at c p ≡ Some i) where
    abbrev Goes : Config → Type 0
    Goes d = LeftSo p R d.processes.instances

    all_so : (H : Residual → Type 0) → H i.residual → LeftSo p H c.processes.instances
    all_so H h j there = subst (λ (z : Instance). H z.residual) (same_Some i j (sym at ∙ there)) h

    past_so : (H : Residual → Type 0) (r : Residual) → H (put r skip) → LeftSo p H (passes c p r).processes.instances
    past_so H r h = changed_here p H c.processes.instances (λ j. record j { residual = put r skip }) (slice_get c.processes.instances p) refl (λ j there. h)

    -- in another body, or where all is unwound
    other_step : (r : Residual) → i.residual ≡ r → Other r → IfOk (do_next c p i r (next_of r)) Goes
    other_step r is h =
        next-so p R c (rounds-unwound (arena c) b e f has) anew-rounds i r (all_so R (subst R (sym is) (other_rounds r h))) (other_rounds (put r skip) (other_past r h)) (other_rounds (taken_off r) (other_off r h))
        (λ n next y found.
        form-held p Other R (λ m. Unit {0}) other_set tt (arena c) (rounds-unwound (arena c) b e f has) other_rounds c refl r (here c p i r) (all_so Other (subst Other (sym is) h)) n (other_past r h) (λ z new there given. other_put r new n next h) h
        (λ w. other_rounds (returned w r) (other_returned w r h)) i y found (any_stores y))
        (λ z next. handed_held p Other R (λ m. Unit {0}) other_set other_rounds (passes c p r) (past_so Other r (other_past r h)) (here (passes c p r) p i (put r skip)) z (calling_statement c z.call) (λ w there. any_stores w))

    module _ (q : Residual) (x : Frame) (is : i.residual ≡ frame q x) (same : x.body ≡ f) (root : x.call ≡ None) where
      abbrev r : Residual
      r = frame q x

      returned_rounds : (v : Value) → slice_get x.locals b.again ≡ Some v → truth v ≡ true → Shape q → (d : Bool) (w : Option Value) → R (cond d (frame (returned w q) x) (frame skip (record x { answer = w })))
      returned_rounds v slot is_true shape true w = λ is_. inl (shape_place x (returned w q) (v, slot, is_true) (shape_returned w q shape))
      returned_rounds v slot is_true shape false w = λ is_. inl (over refl)

      -- among its own statements, or where they are unwound
      shape_step : (v : Value) → slice_get x.locals b.again ≡ Some v → truth v ≡ true → Shape q → IfOk (do_next c p i r (next_of r)) Goes
      shape_step v slot is_true shape =
          let keeping : IsKeeping b.again v f x = (slot, same) in
          let k = rounds-unwound (arena c) b e f has in
          let t : IsTrue (arena c) b e f has x = (v, slot, is_true) in
          next-so p R c k anew-rounds i r (all_so R (subst R (sym is) (λ is_. inl (shape_place x q t shape))))
          (subst R (sym (not_bare q x skip shape)) (shape_past x q t shape)) (λ is_. inl (shape_place x (taken_off q) t (shape_off q shape)))
          (λ n next y found.
          let inner = frame_statement (next_of q) x n next in
          let new : (z : Statement) (m : Residual) → statement_at (arena c) n ≡ Some z → IsGiven c n z m → Shape (put q m) = λ z m there given. shape_put q m n inner (λ s. given-own c b n s z m there given) shape in
          let bare = shape_put q skip n inner (λ s. tt) shape in
          ⊎_elim
          (λ call.
          form-held p (HeldInCall v) R (λ m. Unit {0}) (call_held_set v) tt (arena c) k (call_rounds v is_true) c refl r (here c p i r) (all_so (HeldInCall v) (subst (HeldInCall v) (sym is) (keeping, shape, call))) n
          (subst (HeldInCall v) (sym (not_bare q x skip shape)) (keeping, bare, put-call q skip n inner call))
          (λ z m there given. subst (HeldInCall v) (sym (not_bare q x m shape)) (keeping, new z m there given, put-call q m n inner call)) (keeping, shape, call)
          (λ w. returned_rounds v slot is_true shape (has_exit q) w) i y found (any_stores y))
          (λ spares.
          form-held p (Held v) R (λ m. m ≡ b.again → ⊥) (held_set v) tt (arena c) k (held_rounds v is_true) c refl r (here c p i r) (all_so (Held v) (subst (Held v) (sym is) (keeping, shape))) n
          (subst (Held v) (sym (not_bare q x skip shape)) (keeping, bare))
          (λ z m there given. subst (Held v) (sym (not_bare q x m shape)) (keeping, new z m there given)) (keeping, shape)
          (λ w. returned_rounds v slot is_true shape (has_exit q) w) i y found (spares.spares.itself y found))
          (shape_next q n inner shape))
          (λ z next. leaves_by v slot is_true shape z (leaves_in (next_of q) z next))
        where
          no_end : (z : Frame) → residual.done ≡ residual.leaves z → ⊥
          no_end z next = cc

          leaves_in : (m : Next) (z : Frame) → residual.in_frame m x ≡ residual.leaves z → m ≡ residual.leaves z
          leaves_in (residual.statement n) z next = next
          leaves_in (residual.owes n l) z next = next
          leaves_in (residual.leaves y) z next = next
          leaves_in residual.done z next = next
          leaves_in (residual.reaches g) z next = next
          leaves_in residual.nothing z next = absurd (no_end z (sym (ap (λ o. residual.frame_end o x) root) ∙ next))

          call_spares : (call : Option ℕ) → CallSo (arena c) (IsOwn (arena c) b) call → (w : Statement) → calling_statement c call ≡ Some w → OnlyStores (λ m. m ≡ b.again → ⊥) w
          call_spares None so w there = absurd (none-some w there)
          call_spares (Some n) so w there = so.spares.itself w there

          leaves_by : (v : Value) → slice_get x.locals b.again ≡ Some v → truth v ≡ true → Shape q → (z : Frame) → next_of q ≡ residual.leaves z → IfOk (leaves_call c p i r z) Goes
          leaves_by v slot is_true shape z next = ⊎_elim
              (λ call. handed_held p (HeldInCall v) R (λ m. Unit {0}) (call_held_set v) (call_rounds v is_true) (passes c p r)
              (past_so (HeldInCall v) r (subst (HeldInCall v) (sym (not_bare q x skip shape)) ((slot, same), left_shape q shape z next, call))) (here (passes c p r) p i (put r skip)) z (calling_statement c z.call) (λ w there. any_stores w))
              (λ so. handed_held p (Held v) R (λ m. m ≡ b.again → ⊥) (held_set v) (held_rounds v is_true) (passes c p r)
              (past_so (Held v) r (subst (Held v) (sym (not_bare q x skip shape)) ((slot, same), left_shape q shape z next))) (here (passes c p r) p i (put r skip)) z (calling_statement c z.call) (call_spares z.call so))
              (shape_leaves q z next shape)
            where
              left_shape : (q : Residual) → Shape q → (z : Frame) → next_of q ≡ residual.leaves z → Shape (put q skip)
              left_shape q (with_more y m is_) z next = with_more (put y skip) (more-past (arena c) b e f has y m) (ap (λ u. put u skip) is_)
              left_shape q (with_goal y g inner own is_) z next =
                  let there = before_leaves (next_of y) g z (ap next_of (sym is_) ∙ next) in
                  with_goal (put y skip) g inner (past-own (arena c) (IsOwn (arena c) b) y own) (ap (λ u. put u skip) is_ ∙ ap (λ u. seq u (b.loops ∷ [])) (leaves_goal y g (put y skip) z there))
                where
                  leaves_goal : (y : Residual) (g : Goal) (inside : Residual) (z : Frame) → next_of y ≡ residual.leaves z → goal_or y g skip inside ≡ goal inside g
                  leaves_goal skip g inside z next = absurd (no_leaving z next)
                  leaves_goal (one t) g inside z next = refl
                  leaves_goal (batch t qs) g inside z next = refl
                  leaves_goal (seq y ss) g inside z next = refl
                  leaves_goal (owing y h u) g inside z next = refl
                  leaves_goal (guard y h u) g inside z next = refl
                  leaves_goal (try_ y hs) g inside z next = refl
                  leaves_goal (frame y u) g inside z next = refl
                  leaves_goal (shell y u) g inside z next = refl
                  leaves_goal (run h y) g inside z next = refl
                  leaves_goal (goal y h) g inside z next = refl

    -- ---- at the other places

    -- the loop comes next, once a finished part has fallen away
    abbrev NextLoop : Residual → Type 0
    NextLoop skip = Unit {0}
    NextLoop (goal r g) = Unit {0}
    NextLoop (frame q x) = q ≡ seq skip (b.loops ∷ [])
    NextLoop other = ⊥

    loop_rounds : (r : Residual) → NextLoop r → R r
    loop_rounds skip h = tt
    loop_rounds (goal r g) h = tt
    loop_rounds (frame q x) h = λ is. inr h
    loop_rounds other h = absurd h

    loop_set : IsKeptSet NextLoop (λ n. Unit {0})
    loop_set n v skip so h = tt
    loop_set n v (goal r g) so h = tt
    loop_set n v (frame q x) so h = ap (in_innermost (with_local n v)) h
    loop_set n v other so h = absurd h

    -- the declaration
    start_step : (x : Frame) → IfOk (do_next c p i (frame (seq (one has.declares) (b.loops ∷ [])) x) (residual.statement has.declares)) Goes
    start_step x =
        let r = frame (seq (one has.declares) (b.loops ∷ [])) x in
        let v = first_value type.Bool (Some (value.Bool true)) in
        let set : LeftSo p NextLoop (set_local (passes c p r) p b.again v).processes.instances = local_held p NextLoop NextLoop (λ n. Unit {0}) loop_set (passes c p r) b.again v tt (past_so NextLoop r refl) in
        subst (λ o. IfOk (on_statement c p i r has.declares o) Goes) (sym has.first_true) (λ j there. loop_rounds j.residual (set j there))

    -- the test of the loop
    truth_by : (x : Frame) (o : Option Value) → slice_get x.locals b.again ≡ o → truth (widened (unwrap_or o (value.Bool false))) ≡ true → IsTrue (arena c) b e f has x
    truth_by x None there is = absurd (true≢false (sym is))
    truth_by x (Some w) there is = (w, there, sym (same_truth w) ∙ is)

    loop_by : (x : Frame) → LeftSo p R c.processes.instances → (t : Bool) → truth (widened (unwrap_or (slice_get x.locals b.again) (value.Bool false))) ≡ t → Goes (with_residual c p (put (frame (one b.loops) x) (looped c t b.loops b.round)))
    loop_by x so true is =
        moved_held p R c p (frame (followed (block (arena c) b.round) (b.loops ∷ [])) x)
        (λ same_. λ body_is. inl (at_try (truth_by x (slice_get x.locals b.again) refl is) (ap (λ ss. seq (statements ss) (b.loops ∷ [])) has.around.round))) so
    loop_by x so false is = moved_held p R c p (frame skip x) (λ same_. λ body_is. inl (over refl)) so

    loop_step : (x : Frame) → i.residual ≡ frame (one b.loops) x → IfOk (do_next c p i (frame (one b.loops) x) (residual.statement b.loops)) Goes
    loop_step x is =
        subst (λ o. IfOk (on_statement c p i (frame (one b.loops) x) b.loops o) Goes) (sym has.around.loops)
        (loop_by x (all_so R (subst R (sym is) (λ body_is. inl (at_loop refl)))) (truth (widened (unwrap_or (slice_get x.locals b.again) (value.Bool false)))) refl)

    -- the try
    under_statements : (ss : List ℕ) → EachOf (IsOwn (arena c) b) ss → IsUnder (arena c) b e f has (statements (ss ++ has.last ∷ []))
    under_statements [] h = inl refl
    under_statements (s ∷ ss) h = inr (more_left (one s) ss (then-more (arena c) b e f has (one s) ss [] has.last) h.0 h.1)

    own_front : EachOf (IsOwn (arena c) b) has.front
    own_front =
        each-own (arena c) b has.front
        (λ s there. subst (λ ss. Contains ss s) (sym (has.around.inside ∙ has.own)) (Contains-append_left has.front (has.last ∷ []) s there)) has.spares

    try_step : (x : Frame) → IsTrue (arena c) b e f has x → i.residual ≡ frame (seq (one b.tries) (b.loops ∷ [])) x → IfOk (do_next c p i (frame (seq (one b.tries) (b.loops ∷ [])) x) (residual.statement b.tries)) Goes
    try_step x t is =
        let r = frame (seq (one b.tries) (b.loops ∷ [])) x in
        subst (λ o. IfOk (on_statement c p i r b.tries o) Goes) (sym has.around.tries)
        (moved_held p R c p (frame (seq (try_ (block (arena c) b.inside) b.handlers) (b.loops ∷ [])) x)
        (λ same_. λ body_is. inl (in_own (block (arena c) b.inside) t
        (subst (λ ss. IsUnder (arena c) b e f has (statements ss)) (sym (has.around.inside ∙ has.own)) (under_statements has.front own_front)) refl))
        (all_so R (subst R (sym is) (λ body_is. inl (at_try t refl)))))

    -- nothing
    over_step : (x : Frame) → i.residual ≡ frame skip x → IfOk (do_next c p i (frame skip x) (residual.frame_end x.call x)) Goes
    over_step x is = by x.call
      where
        by : (o : Option ℕ) → IfOk (do_next c p i (frame skip x) (residual.frame_end o x)) Goes
        by None = done_so p R c (rounds-unwound (arena c) b e f has) anew-rounds i (frame skip x) (all_so R (subst R (sym is) (λ body_is. inl (over refl)))) i.kind
        by (Some n) = handed_held p NextLoop R (λ m. Unit {0}) loop_set loop_rounds (passes c p (frame skip x)) (past_so NextLoop (frame skip x) tt) (here (passes c p (frame skip x)) p i skip) x (calling_statement c x.call) (λ w there. any_stores w)

    -- the last of its own statements
    last_step : (x : Frame) → IfOk (do_next c p i (frame (seq (try_ (one has.last) b.handlers) (b.loops ∷ [])) x) (residual.statement has.last)) (IsPast b p c)
    last_step x =
        let r = frame (seq (try_ (one has.last) b.handlers) (b.loops ∷ [])) x in
        let v = cut_to type.Bool (value.Bool false) in
        let left = frame (seq (try_ skip b.handlers) (b.loops ∷ [])) (with_local b.again v x) in
        let first : slice_get (passes c p r).processes.instances p ≡ Some (record i { residual = put r skip }) = change-here c.processes.instances p (λ j. record j { residual = put r skip }) i at in
        subst (λ o. IfOk (on_statement c p i r has.last o) (IsPast b p c)) (sym has.last_false) (record {
          instance = record i { residual = left };
          there = change-here (passes c p r).processes.instances p (λ j. record j { residual = in_innermost (with_local b.again v) j.residual }) (record i { residual = put r skip }) first;
          call = with_local b.again v x;
          left = refl;
          stack = refl;
          cycle = refl;
          design = refl;
        })

    -- ---- all together

    abbrev pub Went : Config → Type 0
    Went d = Goes d ⊎ IsPast b p c d

    goes_on : (m : Result Config RunFault) → IfOk m Goes → IfOk m Went
    goes_on (Ok d) h = inl h
    goes_on (Err x) h = tt

    is_past : (m : Result Config RunFault) → IfOk m (IsPast b p c) → IfOk m Went
    is_past (Ok d) h = inr h
    is_past (Err x) h = tt

    place_step : (q : Residual) (x : Frame) → i.residual ≡ frame q x → x.body ≡ f → x.call ≡ None → Place (arena c) b e f has x q → IfOk (do_next c p i (frame q x) (next_of (frame q x))) Went
    place_step q x is same root (at_start q_is) = subst (λ y. IfOk (do_next c p i (frame y x) (next_of (frame y x))) Went) (sym q_is) (goes_on (do_next c p i (frame (seq (one has.declares) (b.loops ∷ [])) x) (residual.statement has.declares)) (start_step x))
    place_step q x is same root (at_loop q_is) = subst (λ y. IfOk (do_next c p i (frame y x) (next_of (frame y x))) Went) (sym q_is) (goes_on (do_next c p i (frame (one b.loops) x) (residual.statement b.loops)) (loop_step x (is ∙ ap (λ y. frame y x) q_is)))
    place_step q x is same root (at_try t q_is) =
        subst (λ y. IfOk (do_next c p i (frame y x) (next_of (frame y x))) Went) (sym q_is) (goes_on (do_next c p i (frame (seq (one b.tries) (b.loops ∷ [])) x) (residual.statement b.tries)) (try_step x t (is ∙ ap (λ y. frame y x) q_is)))
    place_step q x is same root (in_own z t (inl last) q_is) =
        let all = q_is ∙ ap (λ y. seq (try_ y b.handlers) (b.loops ∷ [])) last in
        subst (λ y. IfOk (do_next c p i (frame y x) (next_of (frame y x))) Went) (sym all) (is_past (do_next c p i (frame (seq (try_ (one has.last) b.handlers) (b.loops ∷ [])) x) (residual.statement has.last)) (last_step x))
    place_step q x is same root (in_own z t (inr m) q_is) = goes_on (do_next c p i (frame q x) (next_of (frame q x))) (shape_step q x is same root t.0 t.1 t.2 (with_more z m q_is))
    place_step q x is same root (unwound z g t inner own q_is) = goes_on (do_next c p i (frame q x) (next_of (frame q x))) (shape_step q x is same root t.0 t.1 t.2 (with_goal z g inner own q_is))
    place_step q x is same root (over q_is) = subst (λ y. IfOk (do_next c p i (frame y x) (next_of (frame y x))) Went) (sym q_is) (goes_on (do_next c p i (frame skip x) (residual.frame_end x.call x)) (over_step x (is ∙ ap (λ y. frame y x) q_is)))

    pub places-step : (r : Residual) → i.residual ≡ r → ((q : Residual) (x : Frame) → r ≡ frame q x → x.call ≡ None) → Places (arena c) b e f has r → IfOk (do_next c p i r (next_of r)) Went
    places-step skip is root h = goes_on (do_next c p i skip (next_of skip)) (other_step skip is tt)
    places-step (goal r g) is root h = goes_on (do_next c p i (goal r g) (next_of (goal r g))) (other_step (goal r g) is tt)
    places-step (frame q x) is root h = ⊎_elim
        (λ same. place_step q x is same (root q x refl) (h same))
        (λ apart. goes_on (do_next c p i (frame q x) (next_of (frame q x))) (other_step (frame q x) is apart))
        (cases_eq x.body f)
    places-step other is root h = absurd h
