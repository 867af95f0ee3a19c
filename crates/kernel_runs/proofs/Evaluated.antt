-- A step of the evaluation phase.
use Rattle.std.proofs.Common.{◌≡◌, ◌≢◌, ◌||◌, ℕ, Bool, true, false, List, [], ◌∷◌, reverse, Option, Some, None, Result, Ok, Err, refl, sym, ap, ◌∙◌, subst, true≢false, eq-eqb}
use Rattle.std.specs.Prelude.{is_some, slice_get, if◌then◌else◌}
use Rattle.std.specs.Ordering.{nat_cmp}
use Rattle.std.proofs.lemmas.List.{reverse-append}
use Rattle.std.specs.FinSet as set
use Rattle.flat_design.specs.declared.faults.RunFault.{RunFault}
use Rattle.kernel_phases.specs.SimModel.Configuration.{Config, Instance, instance_at}
use Rattle.kernel_phases.specs.SimModel.Waits.{holds}
use Rattle.kernel_phases.specs.SimModel.Statements.{statement_step}
use Rattle.kernel_phases.specs.SimModel.Phases.{update_step}
use Rattle.kernel_phases.specs.SimModel.Steps.{went, takes, as_outcome, evaluate, taken_if, taking}
use Rattle.kernel_phases.specs.ReadySet.Ready.{rising, in_order, IsLeast}
use Rattle.std.specs.FinMap as map
use Rattle.kernel_phases.specs.InstanceTable.declared.instances.Instance.{Instance as Entry}
use Rattle.kernel_phases.specs.KernelProcesses.InstanceViews.{Seen, seen, shown_at}
use Rattle.kernel_phases.specs.KernelProcesses.InstanceViews.{body_at as kept_at}
use Rattle.kernel_phases.specs.KernelProcesses.Sound.{IsNobody, FitsAs, Fits}
use Rattle.kernel_phases.specs.KernelProcesses.declared.parts.Process.{Process}
use Rattle.kernel_phases.proofs.Orders.{same_order}
use Rattle.kernel_phases.specs.KernelState.Processes.{Tells}
use Rattle.kernel_phases.specs.KernelState.Kernel.{Shows, StandsFor, IsSound, whole_design}
use Rattle.kernel_phases.specs.KernelState.Moves.{Moves, IsOnTop, Lives}
use Rattle.kernel_phases.specs.KernelState.declared.kernel.Kept.{Kept}
use Rattle.kernel_phases.specs.KernelState.declared.kernel.Kernel.{Kernel}
use Rattle.kernel_phases.proofs.KernelState.Frames.{shown_where_lives, lives_on_top}
use Rattle.kernel_steps.specs.StepAnswers.{TellsAll, MakesStep}
use Rattle.kernel_steps.specs.declared.answers.StepAnswer.{StepAnswer}
use Rattle.kernel_steps.specs.declared.answers.StepAnswer.TheVariants as answer
use Rattle.kernel_steps.proofs.Prints.{lives_still}
use Rattle.kernel_runs.specs.Takings.{taking_of, FollowsTaking, Takes}
use Rattle.kernel_runs.specs.Made.{MadeAs, Makes, TookIt, AskedAs, Asks, made_of, taken_as}
use Rattle.kernel_runs.specs.declared.answers.Telling.TheVariants as telling
use Rattle.kernel_runs.specs.declared.answers.Made.{Made}
use Rattle.kernel_runs.specs.declared.answers.Made.TheVariants as made
use Rattle.kernel_runs.proofs.Quiet.{quiet_goes, update_quiet}
use Rattle.kernel_runs.proofs.Turns.{taking_tells}
use Rattle.kernel_runs.proofs.Choices.{not_asked}

-- an instance that has not ended is there
pub lives_there : (k : Kernel) (c : Config) (p : ℕ) → StandsFor k c → Lives k p → is_some (instance_at c p) ≡ true
lives_there k c p h lives = by (instance_at c p) refl
  where
    by : (o : Option Instance) → instance_at c p ≡ o → is_some o ≡ true
    by None none =
        let ended : shown_at k.schedule p ≡ None = subst (λ o. Tells (Shows (whole_design k) k.program.now) (shown_at k.schedule p) (kept_at k.schedule p) o) none (h.processes.each p) in
        absurd (true≢false (sym (shown_where_lives k p lives) ∙ ap is_some ended))
    by (Some i) some = refl

-- so is a runnable one
ready_by : (s : Seen Kept) → Fits s → s.ready ≡ true → (o : Option (Entry (Process Kept))) → s.entry ≡ o → is_some o ≡ true
ready_by s fits runs None none = let nobody : IsNobody s = subst (λ o. FitsAs o s) none fits in absurd (true≢false (sym runs ∙ nobody.ready))
ready_by s fits runs (Some x) some = refl

ready_lives : (k : Kernel) (p : ℕ) → IsSound k → set.contains k.schedule.ready.members p ≡ true → Lives k p
ready_lives k p sound runs = ready_by (seen k.schedule p) (sound.schedule.each p) runs (map.get k.schedule.table.live p) refl

taking_runs : (c d : Config) (p : ℕ) → taking c p ≡ Some d → holds c.processes.runnable p ≡ true
taking_runs c d p taken = by (holds c.processes.runnable p) refl taken
  where
    by : (b : Bool) → holds c.processes.runnable p ≡ b → taken_if c p b ≡ Some d → holds c.processes.runnable p ≡ true
    by true is e = is
    by false is e = cc

-- what is there is something
there_when : (o : Option Instance) → is_some o ≡ true → (i : Instance) × (o ≡ Some i)
there_when None is = absurd (true≢false (sym is))
there_when (Some i) is = (i, refl)

-- ---- a step of the instance on top

-- it is refused, or at fault, where the instance's is
pub top_refused : (m : Made) (a : StepAnswer) (P : Type 0) → m ≡ made_of a → (a ≡ answer.NoMemory → P) → m ≡ made.NoMemory → P
top_refused m answer.Went P is rest e = cc
top_refused m (answer.Printed p s v) P is rest e = cc
top_refused m (answer.Fault f) P is rest e = cc
top_refused m answer.NoMemory P is rest e = rest refl

pub top_faulted : (m : Made) (a : StepAnswer) (P : Type 0) → m ≡ made_of a → ((f : RunFault) → a ≡ answer.Fault f → P) → (f : RunFault) → m ≡ made.Fault f → P
top_faulted m answer.Went P is rest f e = cc
top_faulted m (answer.Printed p s v) P is rest f e = cc
top_faulted m (answer.Fault g) P is rest f e = rest g refl
top_faulted m answer.NoMemory P is rest f e = cc

module _ (k new : Kernel) where
  module _ (c : Config) (i : Instance) where
    told_made : (a : StepAnswer) (r : Result Config RunFault) → TellsAll new a c i r → MadeAs new c (as_outcome r) (made_of a)
    told_made answer.Went (Ok d) t = quiet_goes new c d t.1 t.0
    told_made answer.Went (Err f) t = absurd t
    told_made (answer.Printed p s v) (Ok d) t = (t.0, t.1.1, t.2)
    told_made (answer.Printed p s v) (Err f) t = absurd t
    told_made (answer.Fault g) (Ok d) t = absurd t
    told_made (answer.Fault g) (Err f) t = t
    told_made answer.NoMemory (Ok d) t = t
    told_made answer.NoMemory (Err f) t = t

  module _ (p : ℕ) (top : IsOnTop k p) where
    stack_on : (c : Config) → StandsFor k c → c.processes.stack ≡ p ∷ reverse top.0
    stack_on c h = h.processes.stack ∙ ap reverse top.1 ∙ reverse-append top.0 (p ∷ [])

    pub top_made : (a : StepAnswer) → IsSound k → MakesStep k new a p → Makes k new (made_of a) (λ c. evaluate c c.processes.stack c.processes.runnable)
    top_made a sound makes c h =
        let there = there_when (instance_at c p) (lives_there k c p h (lives_on_top k p sound top)) in
        subst (λ xs. MadeAs new c (evaluate c xs c.processes.runnable) (made_of a)) (sym (stack_on c h)) (told_made c there.0 a (statement_step c p) (makes c there.0 h there.1))

    pub top_asks : {C : Type 0} (picks : C → List ℕ → Option ℕ) (later : C → List ℕ → C) (held : C) (m : Made) → Asks picks later k held held m (λ c. evaluate c c.processes.stack c.processes.runnable)
    top_asks picks later held m c h = subst (λ xs. AskedAs picks later held held c m (evaluate c xs c.processes.runnable)) (sym (stack_on c h)) (not_asked picks later held m c (statement_step c p))

-- ---- with no instance active

-- a set that is not empty has a member: the first of its rising order
pub has_one : (s : set.FinSet nat_cmp) → ((p : ℕ) → slice_get (rising s) 0 ≡ Some p → IsLeast s p) → (slice_get (rising s) 0 ≡ None → s ≡ set.empty) → set.len s ≢ 0
    → (r : ℕ) × (set.contains s r ≡ true)
has_one s least none some = by (slice_get (rising s) 0) refl
  where
    by : (o : Option ℕ) → slice_get (rising s) 0 ≡ o → (r : ℕ) × (set.contains s r ≡ true)
    by None is = absurd (some (ap set.len (none is) ∙ set.len-empty nat_cmp))
    by (Some p) is = (p, (least p is).member)

-- and one without members has none
pub has_none : (s : set.FinSet nat_cmp) → set.len s ≡ 0 → (q : ℕ) → set.contains s q ≡ false
has_none s none q = ap (λ s. set.contains s q) (set.empty_of_len s none) ∙ set.contains-empty nat_cmp q

stack_is : (k : Kernel) (c : Config) → StandsFor k c → k.schedule.stack.items ≡ [] → c.processes.stack ≡ []
stack_is k c h nobody = h.processes.stack ∙ ap reverse nobody

none_runs : (xs : List ℕ) → ((q : ℕ) → holds xs q ≡ false) → xs ≡ []
none_runs [] each = refl
none_runs (x ∷ xs) each = absurd (true≢false (sym (ap (λ b. b || holds xs x) (eq-eqb x x refl)) ∙ each x))

module _ (k : Kernel) (nobody : k.schedule.stack.items ≡ []) where
  -- nobody is runnable: the update phase follows
  module _ (none : (q : ℕ) → set.contains k.schedule.ready.members q ≡ false) where
    is_update : (c : Config) → StandsFor k c → evaluate c c.processes.stack c.processes.runnable ≡ went (update_step c)
    is_update c h =
        ap (λ xs. evaluate c xs c.processes.runnable) (stack_is k c h nobody)
        ∙ ap (evaluate c []) (none_runs c.processes.runnable (λ q. sym (h.processes.ready q) ∙ none q))

    pub update_made : (new : Kernel) → Moves k new update_step → Makes k new (made.Went telling.Nothing) (λ c. evaluate c c.processes.stack c.processes.runnable)
    update_made new moves c h = subst (λ o. MadeAs new c o (made.Went telling.Nothing)) (sym (is_update c h)) (quiet_goes new c (update_step c) (update_quiet c) (moves c h))

    pub update_asks : {C : Type 0} (picks : C → List ℕ → Option ℕ) (later : C → List ℕ → C) (held : C) (m : Made) → Asks picks later k held held m (λ c. evaluate c c.processes.stack c.processes.runnable)
    update_asks picks later held m c h = subst (AskedAs picks later held held c m) (sym (is_update c h)) refl

  -- somebody is: the step is a taking
  module _ (r : ℕ) (runs : set.contains k.schedule.ready.members r ≡ true) where
    takes_one : (c : Config) (xs : List ℕ) → holds xs r ≡ true → evaluate c [] xs ≡ takes
    takes_one c [] is = absurd (true≢false (sym is))
    takes_one c (x ∷ xs) is = refl

    is_taking : (c : Config) → StandsFor k c → evaluate c c.processes.stack c.processes.runnable ≡ takes
    is_taking c h = ap (λ xs. evaluate c xs c.processes.runnable) (stack_is k c h nobody) ∙ takes_one c c.processes.runnable (sym (h.processes.ready r) ∙ runs)

    module _ (new : Kernel) (o : Option ℕ) where
      took : IsSound k → (c : Config) (p : ℕ) (t : Option Config) → StandsFor k c → taking_of c o ≡ t → FollowsTaking k new (Some p) o t → TookIt new p c
      took sound c p None h is follows = absurd follows
      took sound c p (Some d) h is follows =
          let taken : taking c p ≡ Some d = ap (taking_of c) (sym follows.0) ∙ is in
          let lives = ready_lives k p sound (h.processes.ready p ∙ taking_runs c d p taken) in
          let there = there_when (instance_at c p) (lives_there k c p h lives) in
          let tells = taking_tells c d p there.0 there.1 (lives_still k c p there.0 h there.1 lives) taken in
          record { to = d; taken = taken; stands = follows.1; script = tells.0; turn = tells.1 }

      pub took_made : IsSound k → (p : ℕ) → Takes k new o (Some p) → Makes k new (made.Took p) (λ c. evaluate c c.processes.stack c.processes.runnable)
      took_made sound p follows c h = subst (λ x. MadeAs new c x (made.Took p)) (sym (is_taking c h)) (took sound c p (taking_of c o) h refl (follows c h))

      as_before : (t : Option Config) → FollowsTaking k new None o t → new ≡ k
      as_before None follows = follows
      as_before (Some d) follows = absurd follows

      pub untaken_made : Takes k new o None → Makes k new made.NotReady (λ c. evaluate c c.processes.stack c.processes.runnable)
      untaken_made follows c h = subst (λ x. MadeAs new c x made.NotReady) (sym (is_taking c h)) (subst (λ l. StandsFor l c) (sym (as_before (taking_of c o) (follows c h))) h)

    -- the chooser is asked for it
    answer_if : ℕ → Bool → Made
    answer_if p b = if b then made.Took p else made.NotReady

    took_as : (new : Kernel) (c : Config) (p : ℕ) (o : Option ℕ) (t : Option Config) → taking_of c o ≡ t → FollowsTaking k new (Some p) o t → made.Took p ≡ taken_as c o
    unfolding answer_if
    took_as new c p o None is follows = absurd follows
    took_as new c p o (Some d) is follows =
        sym (ap (taken_as c) follows.0 ∙ ap (answer_if p) (taking_runs c d p (ap (taking_of c) (sym follows.0) ∙ is)))

    untaken_as : (new : Kernel) (c : Config) (o : Option ℕ) (t : Option Config) → taking_of c o ≡ t → FollowsTaking k new None o t → made.NotReady ≡ taken_as c o
    unfolding answer_if
    untaken_as new c None t is follows = refl
    untaken_as new c (Some p) (Some d) is follows = absurd follows
    untaken_as new c (Some p) None is follows = by (holds c.processes.runnable p) is
      where
        by : (b : Bool) → taken_if c p b ≡ None → made.NotReady ≡ answer_if p b
        by true none = cc
        by false none = refl

    module _ {C : Type 0} (picks : C → List ℕ → Option ℕ) (later : C → List ℕ → C) (held : C) where
      shown : (c : Config) → StandsFor k c → rising k.schedule.ready.members ≡ in_order c.processes.runnable
      shown c h = sym (same_order k.schedule.ready.members c.processes.runnable (λ q. h.processes.ready q))

      asked : (m : Made) (c : Config) → StandsFor k c → m ≡ taken_as c (picks held (rising k.schedule.ready.members))
          → AskedAs picks later held (later held (rising k.schedule.ready.members)) c m (evaluate c c.processes.stack c.processes.runnable)
      asked m c h is =
          subst (AskedAs picks later held (later held (rising k.schedule.ready.members)) c m) (sym (is_taking c h))
          (is ∙ ap (λ xs. taken_as c (picks held xs)) (shown c h), ap (later held) (shown c h))

      pub took_asks : (new : Kernel) (p : ℕ) → Takes k new (picks held (rising k.schedule.ready.members)) (Some p)
          → Asks picks later k held (later held (rising k.schedule.ready.members)) (made.Took p) (λ c. evaluate c c.processes.stack c.processes.runnable)
      took_asks new p follows c h = let o = picks held (rising k.schedule.ready.members) in asked (made.Took p) c h (took_as new c p o (taking_of c o) refl (follows c h))

      pub untaken_asks : (new : Kernel) → Takes k new (picks held (rising k.schedule.ready.members)) None
          → Asks picks later k held (later held (rising k.schedule.ready.members)) made.NotReady (λ c. evaluate c c.processes.stack c.processes.runnable)
      untaken_asks new follows c h = let o = picks held (rising k.schedule.ready.members) in asked made.NotReady c h (untaken_as new c o (taking_of c o) refl (follows c h))
