-- Whatever happens, the unwinding of a thread's own statements goes on with the thread on the stack, until all of it is over.
use Rattle.std.proofs.Common.{◌≡◌, ◌≢◌, ◌⊎◌, ◌<◌, ℕ, zero, suc, Bool, true, false, cond, List, [], ◌∷◌, ◌++◌, length, map, slice_get, Option, Some, None, option_map, refl, sym, ap, ◌∙◌, subst, arith, inl, inr, ⊎_elim, true≢false}
use Rattle.std.specs.Prelude.{Ok}
use Rattle.std.proofs.lemmas.Bool.{cases_eq}
use Rattle.std.proofs.lemmas.Option.{none-some, same_Some, slice_get-map}
use Rattle.laws_runs.specs.TransportPhases.History.{Left}
use Rattle.laws_runs.specs.FlatDesign.Code as code
use Rattle.laws_runs.specs.FlatDesign.Code.{Arena, statement_at}
use Rattle.laws_runs.specs.FlatDesign.Sound.{SoundDesign}
use Rattle.laws_runs.specs.FlatDesign.declared.design.Design.{Design}
use Rattle.laws_runs.specs.FlatDesign.declared.design.ProcessPart.{ProcessPart}
use Rattle.laws_runs.specs.SimModel.Residual.{Residual, Frame, skip, seq, try_, frame, goal, settle, put, taken_off, in_innermost, changed_if, innermost, next_of, statement, has_goal}
use Rattle.laws_runs.specs.LogicValues.declared.kinds.Value.{Value}
use Rattle.laws_runs.specs.SimModel.Unwinding.{unw, catches, left_by_unw, has_exit, returned}
use Rattle.laws_runs.specs.SimModel.Storing.{with_local}
use Rattle.laws_runs.specs.SimModel.Configuration.{Config, Instance, arena, instance_at, change, change_instance, with_residual, with_runnable}
use Rattle.laws_runs.specs.SimModel.Waits.{freed}
use Rattle.laws_runs.specs.SimModel.Calls.{with_left, with_entry}
use Rattle.laws_runs.specs.SimModel.Phases.{initialize_each}
use Rattle.laws_runs.specs.SimModel.Statements.{settled_in, statement_step}
use Rattle.laws_runs.specs.SimModel.Steps.{Outcome, went, faulted, takes, ended, step, step_in}
use Rattle.laws_runs.specs.SimModel.Runs.{after, and_then}
use Rattle.laws_runs.specs.SimModel.Clean.{times}
use Rattle.laws_runs.specs.SimModel.declared.plain.Command.{Command}
use Rattle.laws_runs.specs.SimModel.declared.plain.Phase.TheVariants as phase
use Rattle.laws_runs.specs.SimModel.declared.plain.Via.{Via}
use Rattle.laws_runs.proofs.Changes.{change-here, change-other, last-other, past-end}
use Rattle.laws_runs.proofs.GoalMoves.{Sound}
use Rattle.laws_runs.proofs.GoalSteps.{settled-sound}
use Rattle.laws_runs.proofs.GoalParts.{Parts, parts, Kept, At, Alike, IsOver, IsKept, IsKeptBetween}
use Rattle.laws_runs.proofs.NestingKept.{Marked, marked-kept, marked-settled}
use Rattle.laws_runs.proofs.KeptStatements.{moves-kept}
use Rattle.laws_runs.proofs.KeptMoves.{each-between}
use Rattle.laws_runs.proofs.KeptRuns.{sound-run}
use Rattle.laws_runs.proofs.GoalRuns.{goals-after}
use Rattle.laws_runs.proofs.Roots.{IsRooted, IsBare, over_skip, over_frame, over_goal, rooted-over}
use Rattle.laws_runs.proofs.MarkedRuns.{marked-after}
use Rattle.laws_runs.specs.Moves.{Moves, StepMoves, in_turn, between, initializing, moving_now, time_moved}
use Rattle.laws_runs.proofs.MovesKeep.{moves-keep}
use Rattle.laws_runs.proofs.RunSteps.{step-moves, takes-empty}
use Rattle.laws_clocked.specs.Spots.{IsLeft}
use Rattle.laws_clocked.specs.Again.{Around, HasAround, trying, unwinding, StandsAt, Unwinds, goes_on, is_over}
use Rattle.laws_clocked.proofs.OwnSteps.{changed-at}
use Rattle.laws_clocked.proofs.Ticking.{IsReached, reached-went}
use Rattle.laws_clocked.proofs.Catching.{throw_steps}
use Rattle.laws_clocked.proofs.Owed.{IsOwed, owed-unw, skip-or_left, owed-settled, owed-put, left-put, owed-off, left-off, owed-returned, left-returned, owed-local, left-local, owed-exit, put-unwinding, returned-unwinding, next-unwinding}

-- whatever is left, and whichever call
abbrev pub Any : Residual → Type 0
Any r = Unit {0}

abbrev pub AnyNumber : ℕ → Type 0
AnyNumber n = Unit {0}

abbrev pub AnyCall : Frame → Type 0
AnyCall y = Unit {0}

pub bare-not : (b : Around) (y : Frame) (r q : Residual) → IsBare q → q ≡ unwinding b y r → ⊥
bare-not b y r _ over_skip e = cc
bare-not b y r _ (over_frame x) e = cc
bare-not b y r _ (over_goal k) e = cc

-- Ways to stand around what is left of an unwinding, in a call, so that each change goes on inside.
pub record IsAround (U : Frame → Residual → Residual) : Type 0 where
  pub goals : (y : Frame) (r : Residual) → has_goal (U y r) ≡ true
  pub settles : (a : Arena) (y : Frame) (r : Residual) → settle a (U y r) ≡ U y (settle a r)
  pub puts : (y : Frame) (r n : Residual) → IsLeft r → put (U y r) n ≡ U y (put r n)
  pub offs : (y : Frame) (r : Residual) → taken_off (U y r) ≡ U y (taken_off r)
  pub returns : (y : Frame) (r : Residual) (v : Option Value) → has_exit r ≡ true → returned v (U y r) ≡ U y (returned v r)
  pub sets : (y : Frame) (r : Residual) (f : Frame → Frame) → in_innermost f (U y r) ≡ U (changed_if (innermost r) f y) (in_innermost f r)
  pub nexts : (y : Frame) (r : Residual) (n : ℕ) → next_of (U y r) ≡ statement n → next_of r ≡ statement n
  pub bare : (y : Frame) (r q : Residual) → IsLeft r → IsBare q → q ≡ U y r → ⊥

pub around-unwinding : (b : Around) → IsAround (unwinding b)
around-unwinding b = record {
  goals = λ y r. refl;
  settles = λ a y r. refl;
  puts = λ y r n l. put-unwinding b y r n l;
  offs = λ y r. refl;
  returns = λ y r v exit. returned-unwinding b y r v exit;
  sets = λ y r f. refl;
  nexts = λ y r n is. next-unwinding b y r n is;
  bare = λ y r q l bare is. bare-not b y r q bare is;
}

module _ (p : ℕ) (N : ℕ → Type 0) (U : Frame → Residual → Residual) (around : IsAround U) where
  -- p, whose body is such, is being unwound, K is so of what is left of that, and F of its body's call
  module _ (K : Residual → Type 0) (F : Frame → Type 0) where
    pub record Held (is : List Instance) : Type 0 where
      pub instance : Instance
      pub at : slice_get is p ≡ Some instance
      pub begun : instance.started ≡ true
      pub coded : N instance.code
      pub frame_ : Frame
      pub framed : F frame_
      pub inner : Residual
      pub owed : IsOwed inner
      pub so : K inner
      pub left : instance.residual ≡ U frame_ inner

    abbrev In : Parts → Type 0
    In x = Held x.instances

    own : (is : List Instance) (f : Instance → Instance) (h : Held is) (y : Frame) (r : Residual) → F y → IsOwed r → K r → (f h.instance).residual ≡ U y r → (f h.instance).started ≡ true → (f h.instance).code ≡ h.instance.code → Held (change is p f)
    own is f h y r framed owed so left begun same_code = record { instance = f h.instance; at = change-here is p f h.instance h.at; begun = begun; coded = subst N (sym same_code) h.coded; frame_ = y; framed = framed; inner = r; owed = owed; so = so; left = left }

    other : (is : List Instance) (q : ℕ) (f : Instance → Instance) → p ≢ q → Held is → Held (change is q f)
    other is q f apart h = record { instance = h.instance; at = change-other is q p f apart ∙ h.at; begun = h.begun; coded = h.coded; frame_ = h.frame_; framed = h.framed; inner = h.inner; owed = h.owed; so = h.so; left = h.left }

    -- what is changed of an instance is neither its body nor how far that is
    like : (is : List Instance) (q : ℕ) (f : Instance → Instance) → ((i : Instance) → Alike i (f i)) → Held is → Held (change is q f)
    like is q f alike h = ⊎_elim
        (λ same. subst (λ n. Held (change is n f)) same (own is f h h.frame_ h.inner h.framed h.owed h.so ((alike h.instance).residual ∙ h.left) ((alike h.instance).started ∙ h.begun) (alike h.instance).code))
        (λ apart. other is q f apart h)
        (cases_eq p q)

    all_like : (is : List Instance) (f : Instance → Instance) → ((i : Instance) → Alike i (f i)) → Held is → Held (map f is)
    all_like is f alike h = record {
      instance = f h.instance;
      at = slice_get-map f is p ∙ ap (option_map f) h.at;
      begun = (alike h.instance).started ∙ h.begun;
      coded = subst N (sym (alike h.instance).code) h.coded;
      frame_ = h.frame_;
      framed = h.framed;
      inner = h.inner;
      owed = h.owed;
      so = h.so;
      left = (alike h.instance).residual ∙ h.left;
    }

    more : (is : List Instance) (new : Instance) → Held is → Held (is ++ new ∷ [])
    more is new h = record {
      instance = h.instance;
      at = ⊎_elim (λ e. absurd (none-some h.instance (sym (ap (slice_get is) e ∙ past-end is) ∙ h.at))) (λ apart. last-other is new p apart ∙ h.at) (cases_eq p (length is));
      begun = h.begun;
      coded = h.coded;
      frame_ = h.frame_;
      framed = h.framed;
      inner = h.inner;
      owed = h.owed;
      so = h.so;
      left = h.left;
    }

    -- it has a goal, and was begun
    apart_goal : (is : List Instance) (h : Held is) (q : ℕ) (i : Instance) → slice_get is q ≡ Some i → has_goal i.residual ≡ false → p ≢ q
    apart_goal is h q i at none same =
        true≢false (sym (ap has_goal h.left ∙ around.goals h.frame_ h.inner) ∙ ap (λ (j : Instance). has_goal j.residual) (same_Some h.instance i (sym h.at ∙ subst (λ n. slice_get is n ≡ Some i) (sym same) at)) ∙ none)

    apart_begun : (is : List Instance) (h : Held is) (q : ℕ) (i : Instance) → slice_get is q ≡ Some i → (i.started ≡ true → i.residual ≡ skip) → p ≢ q
    apart_begun is h q i at bare same =
        let e = same_Some h.instance i (sym h.at ∙ subst (λ n. slice_get is n ≡ Some i) (sym same) at) in
        true≢false (sym (ap has_goal h.left ∙ around.goals h.frame_ h.inner) ∙ ap (λ (j : Instance). has_goal j.residual) e ∙ ap has_goal (bare (sym (ap (λ (j : Instance). j.started) e) ∙ h.begun)))

    raised : (x : Parts) (q : ℕ) (i : Instance) (r new : Residual) → slice_get x.instances q ≡ Some i → i.residual ≡ r → has_goal r ≡ false → In x → Held (change x.instances q (λ j. record j { residual = new }))
    raised x q i r new at is none h = other x.instances q (λ j. record j { residual = new }) (apart_goal x.instances h q i at (ap has_goal is ∙ none)) h

    pub kept-between : IsKeptBetween In
    kept-between = record { same = λ x q f alike h. like x.instances q f alike h; alike = λ x f alike h. all_like x.instances f alike h }

    -- in the turn of another
    pub kept-other : (q : ℕ) → p ≢ q → IsKept q In
    kept-other q apart = record {
      same = λ x n f alike h. like x.instances n f alike h;
      leaves = λ x rest top none h. h;
      pushes = λ x n rest top off h. h;
      passes = λ x i r at may h. other x.instances q (λ j. record j { residual = put r skip }) apart h;
      puts = λ x i r n at next new is_new h. other x.instances q (λ j. record j { residual = put r new }) apart h;
      takes_off = λ x i r at h. other x.instances q (λ j. record j { residual = taken_off r }) apart h;
      guards = λ x i r n at next c u h. other x.instances q _ apart h;
      returns = λ x i r n at next v h. other x.instances q (λ j. record j { residual = returned v r }) apart h;
      locals = λ x n v h. other x.instances q (λ j. record j { residual = in_innermost (with_local n v) j.residual }) apart h;
      raises = λ x n i r e k at is stands none caught inner h. raised x n i r _ at is none h;
      unwinds = λ x n i k at stands none outer h. raised x n i i.residual (goal (unw i.residual) k) at refl none h;
      over = λ x i r at over f none stays h. other x.instances q f apart h;
      begins = λ x n i f args at bare h. other x.instances n _ (apart_begun x.instances h n i at bare) h;
      spawned = λ x new none begun lives h. more x.instances new h;
      tries_hop = λ x s hop t e blocking entry unbroken h. h;
      calls_hop = λ x i r n at next via f args e hop entry unbroken h. other x.instances q _ apart h;
      returns_hop = λ x i r y at next via e over entry unbroken h. other x.instances q (λ j. record j { residual = put r skip }) apart h;
    }

  -- ---- in its own turn, where its unwinding is not over

  abbrev Own : Parts → Type 0
  Own x = Marked x × Held IsLeft AnyCall x.instances

  module _ (x : Parts) (i : Instance) (r : Residual) (at : At x p i r) (h : Held IsLeft AnyCall x.instances) where
    left_as : r ≡ U h.frame_ h.inner
    left_as = sym at.is ∙ sym (ap (λ (j : Instance). j.residual) (same_Some h.instance i (sym h.at ∙ at.here))) ∙ h.left

    put_own : (n : Residual) → Held IsLeft AnyCall (change x.instances p (λ j. record j { residual = put r n }))
    put_own n =
        own IsLeft AnyCall x.instances (λ j. record j { residual = put r n }) h h.frame_ (put h.inner n) tt (owed-put h.inner n h.owed) (left-put h.inner n h.owed h.so)
        (ap (λ z. put z n) left_as ∙ around.puts h.frame_ h.inner n h.so) h.begun refl

    off_own : Held IsLeft AnyCall (change x.instances p (λ j. record j { residual = taken_off r }))
    off_own = own IsLeft AnyCall x.instances (λ j. record j { residual = taken_off r }) h h.frame_ (taken_off h.inner) tt (owed-off h.inner h.owed) (left-off h.inner h.owed h.so) (ap taken_off left_as ∙ around.offs h.frame_ h.inner) h.begun refl

    returned_own : (n : ℕ) → next_of r ≡ statement n → (v : _) → Held IsLeft AnyCall (change x.instances p (λ j. record j { residual = returned v r }))
    returned_own n next v =
        own IsLeft AnyCall x.instances (λ j. record j { residual = returned v r }) h h.frame_ (returned v h.inner) tt (owed-returned v h.inner h.owed) (left-returned v h.inner h.owed h.so)
        (ap (returned v) left_as ∙ around.returns h.frame_ h.inner v (owed-exit h.inner n h.owed (around.nexts h.frame_ h.inner n (sym (ap next_of left_as) ∙ next)))) h.begun refl

    not_over : Marked x → IsOver (next_of r) → ⊥
    not_over m over = around.bare h.frame_ h.inner r h.so (rooted-over i.started r (subst (IsRooted i.started) at.is (m.rooted p i at.here)) at.tight over) left_as

  local_own : (x : Parts) (n : ℕ) (v : _) → (h : Held IsLeft AnyCall x.instances) → Held IsLeft AnyCall (change x.instances p (λ j. record j { residual = in_innermost (with_local n v) j.residual }))
  local_own x n v h =
      own IsLeft AnyCall x.instances (λ j. record j { residual = in_innermost (with_local n v) j.residual }) h (changed_if (innermost h.inner) (with_local n v) h.frame_) (in_innermost (with_local n v) h.inner) tt
      (owed-local (with_local n v) h.inner h.owed) (left-local (with_local n v) h.inner h.owed h.so) (ap (in_innermost (with_local n v)) h.left ∙ around.sets h.frame_ h.inner (with_local n v)) h.begun refl

  kept_own : IsKept p Own
  kept_own =
      let m : IsKept p Marked = marked-kept p in
      record {
        same = λ x q f alike h. (m.same x q f alike h.0, like IsLeft AnyCall x.instances q f alike h.1);
        leaves = λ x rest top none h. (m.leaves x rest top none h.0, h.1);
        pushes = λ x q rest top off h. (m.pushes x q rest top off h.0, h.1);
        passes = λ x i r at may h. (m.passes x i r at may h.0, put_own x i r at h.1 skip);
        puts = λ x i r n at next new is_new h. (m.puts x i r n at next new is_new h.0, put_own x i r at h.1 new);
        takes_off = λ x i r at h. (m.takes_off x i r at h.0, off_own x i r at h.1);
        guards = λ x i r n at next c u h. (m.guards x i r n at next c u h.0, put_own x i r at h.1 _);
        returns = λ x i r n at next v h. (m.returns x i r n at next v h.0, returned_own x i r at h.1 n next v);
        locals = λ x n v h. (m.locals x n v h.0, local_own x n v h.1);
        raises = λ x q i r e k at is stands none caught inner h. (m.raises x q i r e k at is stands none caught inner h.0, raised IsLeft AnyCall x q i r _ at is none h.1);
        unwinds = λ x q i k at stands none outer h. (m.unwinds x q i k at stands none outer h.0, raised IsLeft AnyCall x q i i.residual (goal (unw i.residual) k) at refl none h.1);
        over = λ x i r at over f none stays h. absurd (not_over x i r at h.1 h.0 over);
        begins = λ x q i f args at bare h. (m.begins x q i f args at bare h.0, other IsLeft AnyCall x.instances q _ (apart_begun IsLeft AnyCall x.instances h.1 q i at bare) h.1);
        spawned = λ x new none begun lives h. (m.spawned x new none begun lives h.0, more IsLeft AnyCall x.instances new h.1);
        tries_hop = λ x s hop t e blocking entry unbroken h. (m.tries_hop x s hop t e blocking entry unbroken h.0, h.1);
        calls_hop = λ x i r n at next via f args e hop entry unbroken h. (m.calls_hop x i r n at next via f args e hop entry unbroken h.0, put_own x i r at h.1 _);
        returns_hop = λ x i r y at next via e over entry unbroken h. (m.returns_hop x i r y at next via e over entry unbroken h.0, put_own x i r at h.1 skip);
      }

  -- ---- each step

  weaker : (is : List Instance) → Held IsLeft AnyCall is → Held Any AnyCall is
  weaker is h = record { instance = h.instance; at = h.at; begun = h.begun; coded = h.coded; frame_ = h.frame_; framed = h.framed; inner = h.inner; owed = h.owed; so = tt; left = h.left }

  module _ (F : Frame → Type 0) where
    -- p is on top, and all is unwound
    pub record Over (c : Config) : Type 0 where
      pub rest : List ℕ
      pub frame_ : Frame
      pub framed : F frame_
      pub stands : StandsAt c p rest (U frame_ skip)
      pub coded : N stands.instance.code

    held_if : (c : Bool) (x y : Config) → Held Any F x.processes.instances → Held Any F y.processes.instances → Held Any F (cond c x y).processes.instances
    held_if true x y one_ two = one_
    held_if false x y one_ two = two

    init_held : (n : ℕ) (xs : List ProcessPart) (x : Config) → Held Any F x.processes.instances → Held Any F (initialize_each n xs x).processes.instances
    init_held n [] x h = h
    init_held n (y ∷ ys) x h =
        held_if y.dont_initialize (initialize_each (suc n) ys x) (initialize_each (suc n) ys (with_runnable (change_instance x n freed) (x.processes.runnable ++ n ∷ [])))
        (init_held (suc n) ys x h)
        (init_held (suc n) ys (with_runnable (change_instance x n freed) (x.processes.runnable ++ n ∷ []))
        (like Any F x.processes.instances n freed (λ i. record { kind = refl; home = refl; code = refl; residual = refl; started = refl; ended = refl }) h))

    between_kept : (c d : Config) → Moves None c d → Held Any F c.processes.instances → Held Any F d.processes.instances
    between_kept c d ms h = moves-keep None (Kept (In Any F)) (each-between (In Any F) (kept-between Any F)) c d ms h

    pub left-held : (vias : List Via) (x : Config) → Held Any F x.processes.instances → Held Any F (with_left x vias).processes.instances
    left-held [] x h = h
    left-held (via ∷ more_) x h = left-held more_ (with_entry x via.hop (Left via.payload)) h

  runs_on : (c d : Config) (s : Bool) → cond s ended (step_in c c.cycle.phase) ≡ went d → s ≡ false
  runs_on c d true e = absurd (no e)
    where
      no : ended ≡ went d → ⊥
      no e = cc
  runs_on c d false e = refl

  -- what the steps of p itself keep of its body's call is told
  module _ (F : Frame → Type 0) (c : Config) (sound : Sound c) (marked : Marked (parts c)) (h : Held Any F c.processes.instances)
      (keeps : (rest : List ℕ) (i : Instance) (d : Config) → c.processes.stack ≡ p ∷ rest → instance_at c p ≡ Some i → statement_step c p ≡ Ok d → IsLeft (settle (arena c) h.inner) → Held Any AnyCall d.processes.instances → Held Any F d.processes.instances) where
    abbrev On : Config → Type 0
    On d = (Held Any F d.processes.instances) ⊎ (Over F c)

    module _ (rest : List ℕ) (i : Instance) (d : Config) (runs : c.cycle.stopped ≡ false) (now : c.cycle.phase ≡ phase.Evaluate) (top : c.processes.stack ≡ p ∷ rest) (at : instance_at c p ≡ Some i) where
      left_is : settle (arena c) i.residual ≡ U h.frame_ (settle (arena c) h.inner)
      left_is = ap (λ (j : Instance). settle (arena c) j.residual) (same_Some i h.instance (sym at ∙ h.at)) ∙ ap (settle (arena c)) h.left ∙ around.settles (arena c) h.frame_ h.inner

      is_all : settle (arena c) h.inner ≡ skip → Over F c
      is_all bare = record {
        rest = rest;
        frame_ = h.frame_;
        framed = h.framed;
        stands = record { runs = runs; evaluates = now; top = top; instance = i; at = at; left = left_is ∙ ap (λ z. U h.frame_ z) bare };
        coded = subst (λ (j : Instance). N j.code) (same_Some h.instance i (sym h.at ∙ at)) h.coded;
      }

      settled_held : IsLeft (settle (arena c) h.inner) → Held IsLeft AnyCall (settled_in c p i.residual).processes.instances
      settled_held l = record {
        instance = record h.instance { residual = settle (arena c) i.residual };
        at = change-here c.processes.instances p (λ j. record j { residual = settle (arena c) i.residual }) h.instance h.at;
        begun = h.begun;
        coded = h.coded;
        frame_ = h.frame_;
        framed = tt;
        inner = settle (arena c) h.inner;
        owed = owed-settled (arena c) h.inner h.owed;
        so = l;
        left = left_is;
      }

      own_step : Moves (Some p) (settled_in c p i.residual) d → statement_step c p ≡ Ok d → On d
      own_step ms is = ⊎_elim
          (λ bare. inr (is_all bare))
          (λ l. inl (keeps rest i d top at is l (weaker d.processes.instances (moves-kept p Own kept_own (settled_in c p i.residual) d ms (settled-sound c sound p rest i top at) (marked-settled p (parts c) i at marked, settled_held l)).1)))
          (skip-or_left (settle (arena c) h.inner))

    by_moves : (d : Config) → StepMoves c d → c.cycle.stopped ≡ false → On d
    by_moves _ (in_turn q rest i d now top at ms is) runs = ⊎_elim
        (λ same. subst (λ n. c.processes.stack ≡ n ∷ rest → instance_at c n ≡ Some i → Moves (Some n) (settled_in c n i.residual) d → statement_step c n ≡ Ok d → On d) same (λ top_ at_ ms_ is_. own_step rest i d runs now top_ at_ ms_ is_) top at ms is)
        (λ apart.
        inl (moves-kept q (In Any F) (kept-other Any F q apart) (settled_in c q i.residual) d ms (settled-sound c sound q rest i top at) (other Any F c.processes.instances q (λ j. record j { residual = settle (arena c) i.residual }) apart h)))
        (cases_eq p q)
    by_moves _ (between d later ms) runs = inl (between_kept F c d ms h)
    by_moves _ (initializing d e now ms same cycle more_ after_) runs =
        inl (between_kept F (initialize_each 0 c.design.processes d) e more_ (init_held F 0 c.design.processes d (between_kept F c d ms h)))
    by_moves _ (moving_now t d now apart ms same) runs = inl (between_kept F (time_moved c t) d ms h)

    pub step-held : (d : Config) → step c ≡ went d → On d
    step-held d now = by_moves d (step-moves c d now) (runs_on c d c.cycle.stopped now)

module _ (p : ℕ) (b : Around) where
  -- ---- the step that throws

  frame_begun : (a : Arena) (s : Bool) (r q : Residual) (y : Frame) → IsRooted s r → settle a r ≡ frame q y → s ≡ true
  frame_begun a true r q y rooted is = refl
  frame_begun a false skip q y rooted is = absurd (no is)
    where
      no : skip ≡ frame q y → ⊥
      no e = cc
  frame_begun a false (goal r k) q y rooted is = absurd (no is)
    where
      no : goal (settle a r) k ≡ frame q y → ⊥
      no e = cc
  frame_begun a false other_ q y rooted is = absurd rooted

  pub first-held : (F : Frame → Type 0) (c : Config) → Marked (parts c) → (rest : List ℕ) (x : Frame) (r : Residual) → F x → (h : StandsAt c p rest (trying b x r)) → Held p AnyNumber (unwinding b) (around-unwinding b) Any F (with_residual (settled_in c p h.instance.residual) p (unwinding b x (unw r))).processes.instances
  first-held F c marked rest x r framed h = record {
    instance = record h.instance { residual = unwinding b x (unw r) };
    at = changed-at c p h.instance h.at (λ j. record j { residual = unwinding b x (unw r) });
    begun = frame_begun (arena c) h.instance.started h.instance.residual (seq (try_ r b.handlers) (b.loops ∷ [])) x (marked.rooted p h.instance h.at) h.left;
    coded = tt;
    frame_ = x;
    framed = framed;
    inner = unw r;
    owed = owed-unw r;
    so = tt;
    left = refl;
  }

  -- ---- a run

  module _ (design : Design) (script : List Command) (sound : SoundDesign design) where
    shift : (c e d : Config) (n : ℕ) (choices : List ℕ) → step c ≡ went e → Unwinds e d p b n choices → Unwinds c d p b (suc n) choices
    shift c e d n choices now (goes_on i x r at left on) = goes_on i x r at left on
    shift c e d n choices now (is_over k own left y rest x less split there stands) =
        is_over (suc k) own left y rest x (omega (arith, less)) split (ap (λ o. and_then o c own (after k)) now ∙ there) stands

    pub on-stack : (F : Frame → Type 0) (c : Config) → IsReached design script c → (h : Held p AnyNumber (unwinding b) (around-unwinding b) Any F c.processes.instances) → 0 < times p c.processes.stack
    on-stack F c r h = (goals-after design script sound r.steps r.choices c r.reached).goal_is_active p h.instance h.at (ap has_goal h.left)

    abbrev Later : ℕ → Config → Type 0
    Later n d = (choices : List ℕ) (c : Config) → IsReached design script c → Held p AnyNumber (unwinding b) (around-unwinding b) Any AnyCall c.processes.instances → after n choices c ≡ Some d → Unwinds c d p b n choices

    unwinds_on : (n : ℕ) (d : Config) → Later n d → (choices : List ℕ) (c : Config) → IsReached design script c → Held p AnyNumber (unwinding b) (around-unwinding b) Any AnyCall c.processes.instances → (o : Outcome) → step c ≡ o → and_then o c choices (after n) ≡ Some d → Unwinds c d p b (suc n) choices
    unwinds_on n d later choices c r h (went e) now reached = ⊎_elim
        (λ k. shift c e d n choices now (later choices e (reached-went design script c e r now) k reached))
        (λ o. is_over 0 [] choices c o.rest o.frame_ (omega arith) refl refl o.stands)
        (step-held p AnyNumber (unwinding b) (around-unwinding b) AnyCall c (sound-run design script sound r.steps r.choices c r.reached) (marked-after design script sound r.steps r.choices c r.reached) h (λ rest i d top at is l z. z) e now)
    unwinds_on n d later choices c r h (faulted f) now reached = absurd (none-some d reached)
    unwinds_on n d later choices c r h takes now reached = let on = on-stack AnyCall c r h in let none = ap (times p) (takes-empty c now) in absurd (omega (arith, on, none))
    unwinds_on n d later choices c r h ended now reached = absurd (none-some d reached)

    unwinds : (n : ℕ) (d : Config) → Later n d
    unwinds zero d [] c r h reached = subst (λ z. Unwinds c z p b 0 []) (same_Some c d reached) (goes_on h.instance h.frame_ h.inner h.at h.left (on-stack AnyCall c r h))
    unwinds zero d (q ∷ choices) c r h reached = absurd (none-some d reached)
    unwinds (suc n) d choices c r h reached = unwinds_on n d (unwinds n d) choices c r h (step c) refl reached

    pub unwinds-from : (c : Config) → IsReached design script c → (rest : List ℕ) (e s : ℕ) → HasAround (arena c) b e → (x : Frame) (r : Residual) → StandsAt c p rest (trying b x r)
        → next_of r ≡ statement s → statement_at (arena c) s ≡ Some (code.throw e) → catches r e ≡ false → (n : ℕ) (choices : List ℕ) (d : Config) → after (suc n) choices c ≡ Some d → Unwinds c d p b (suc n) choices
    unwinds-from c k rest e s has x r h next throws none n choices d reached =
        let first = with_residual (settled_in c p h.instance.residual) p (unwinding b x (unw r)) in
        let now = throw_steps c p rest b e has x r h s next throws none in
        shift c (with_left first (left_by_unw r)) d n choices now
        (unwinds n d choices (with_left first (left_by_unw r)) (reached-went design script c (with_left first (left_by_unw r)) k now)
        (left-held p AnyNumber (unwinding b) (around-unwinding b) AnyCall (left_by_unw r) first (first-held AnyCall c (marked-after design script sound k.steps k.choices c k.reached) rest x r tt h))
        (sym (ap (λ o. and_then o c choices (after n)) now) ∙ reached))
