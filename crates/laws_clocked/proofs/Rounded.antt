-- In every run of a sound design a clocked thread goes from place to place of its body, whatever others do; and each try among its own
-- statements stands around them by a statement of these.
use Rattle.std.proofs.Common.{◌≡◌, ◌≢◌, ◌⊎◌, ℕ, suc, Bool, true, false, cond, List, [], ◌∷◌, ◌++◌, map, slice_get, Option, Some, None, option_map, refl, sym, ap, ◌∙◌, subst, inl, inr, ⊎_elim}
use Rattle.std.specs.Prelude.{Result, Ok, Err}
use Rattle.std.specs.Result.{IfOk}
use Rattle.std.proofs.lemmas.Bool.{cases_eq}
use Rattle.std.proofs.lemmas.Option.{none-some, same_Some, slice_get-map}
use Rattle.laws_runs.specs.LogicValues.declared.kinds.Value.{Value}
use Rattle.laws_runs.specs.FlatDesign.Code.{Arena}
use Rattle.laws_runs.specs.FlatDesign.Sound.{SoundDesign}
use Rattle.laws_runs.specs.FlatDesign.declared.design.Design.{Design}
use Rattle.laws_runs.specs.FlatDesign.declared.design.ProcessPart.{ProcessPart}
use Rattle.laws_runs.specs.FlatDesign.declared.faults.RunFault.{RunFault}
use Rattle.laws_runs.specs.SimModel.Residual.{Residual, Frame, skip, one, seq, try_, frame, goal, settle, next_of, innermost, begun}
use Rattle.laws_runs.specs.SimModel.Unwinding.{catches, raise}
use Rattle.laws_runs.specs.SimModel.Configuration.{Config, Instance, arena, instance_at, change_instance, with_runnable, first_instance, start}
use Rattle.laws_runs.specs.SimModel.Waits.{freed}
use Rattle.laws_runs.specs.SimModel.Phases.{initialize_each}
use Rattle.laws_runs.specs.SimModel.Statements.{settled_in, do_next, step_by, statement_step}
use Rattle.laws_runs.specs.SimModel.Steps.{Outcome, went, faulted, takes, ended, as_outcome, step, step_in, taking}
use Rattle.laws_runs.specs.SimModel.Runs.{after}
use Rattle.laws_runs.specs.SimModel.declared.plain.Command.{Command}
use Rattle.laws_runs.specs.SimModel.declared.plain.Goal.{Goal}
use Rattle.laws_runs.specs.SimModel.declared.plain.Goal.TheVariants as goal_of
use Rattle.laws_runs.specs.SimModel.declared.plain.Phase.TheVariants as phase
use Rattle.laws_runs.specs.Standing.{code_of}
use Rattle.laws_runs.proofs.GoalMoves.{Sound}
use Rattle.laws_runs.proofs.GoalParts.{Parts, parts, Kept, Alike, IsKept, IsKeptBetween, IsKeptByTakings, changed_in}
use Rattle.laws_runs.proofs.KeptStatements.{moves-kept}
use Rattle.laws_runs.proofs.KeptMoves.{each-between}
use Rattle.laws_runs.proofs.KeptSteps.{taking-kept}
use Rattle.laws_runs.proofs.GoalRuns.{holds-after}
use Rattle.laws_runs.proofs.GoalSteps.{IfWent, settled-sound, takes-empty}
use Rattle.laws_runs.proofs.KeptRuns.{sound-run}
use Rattle.laws_runs.proofs.MarkedRuns.{marked-after}
use Rattle.laws_runs.proofs.Roots.{IsRooted, settle-rooted}
use Rattle.laws_runs.specs.Moves.{Moves, StepMoves, in_turn, between, initializing, moving_now, time_moved}
use Rattle.laws_runs.proofs.MovesKeep.{moves-keep}
use Rattle.laws_runs.proofs.RunSteps.{step-moves}
use Rattle.laws_clocked.specs.Again.{Around, trying, unwinding, injected_into}
use Rattle.laws_clocked.specs.Clocked.{HasClocked, UncaughtIn, AsksTrue}
use Rattle.laws_clocked.proofs.OwnSteps.{step-top, settled-at}
use Rattle.laws_clocked.proofs.SameDesign.{design-went, design-after}
use Rattle.laws_clocked.proofs.Ticking.{IsReached, reached-went, reached-taken}
use Rattle.laws_clocked.proofs.Storing.{IsKeptUnwound, LeftSo, changed, more_held}
use Rattle.laws_clocked.proofs.Rounds.{IsTrue, IsUnder, Place, at_start, at_loop, at_try, in_own, unwound, over, Rounds, Places, rounds-unwound, settled-places}
use Rattle.laws_clocked.proofs.OwnTries.{under-catches}
use Rattle.laws_clocked.proofs.Looping.{anew-rounds, IsPast, places-step}

no_outcome : (d : Config) (x : RunFault) → faulted x ≡ went d → ⊥
no_outcome d x e = cc

same_outcome : (d y : Config) → went y ≡ went d → y ≡ d
same_outcome d y e = cc

went_ok : (m : Result Config RunFault) (d : Config) → as_outcome m ≡ went d → m ≡ Ok d
went_ok (Ok y) d e = ap (λ (z : Config). Ok z) (same_outcome d y e)
went_ok (Err x) d e = absurd (no_outcome d x e)

module _ (b : Around) (e f : ℕ) (d0 : Design) (script : List Command) (has : HasClocked (code_of d0) b e f) (p : ℕ) where
  abbrev R : Residual → Type 0
  R r = Rounds (code_of d0) b e f has r

  abbrev Q : Parts → Type 0
  Q x = (x.design ≡ d0) × LeftSo p R x.instances

  abbrev unwinds_so : IsKeptUnwound (code_of d0) R
  unwinds_so = rounds-unwound (code_of d0) b e f has

  -- ---- what others do

  same_so : (x : Parts) (q : ℕ) (g : Instance → Instance) → ((i : Instance) → Alike i (g i)) → Q x → Q (changed_in x q g)
  same_so x q g alike h = (h.0, changed p R x.instances q g (λ i same at z. subst R (sym (alike i).residual) z) h.1)

  mapped_so : (x : Parts) (g : Instance → Instance) → ((i : Instance) → Alike i (g i)) → Q x → Q (record x { instances = map g x.instances })
  mapped_so x g alike h = (h.0, λ j at. by (slice_get x.instances p) refl j (sym (slice_get-map g x.instances p) ∙ at))
    where
      by : (o : Option Instance) → slice_get x.instances p ≡ o → (j : Instance) → option_map g o ≡ Some j → R j.residual
      by None there j is = absurd (none-some j is)
      by (Some i) there j is = subst (λ (y : Instance). R y.residual) (same_Some (g i) j is) (subst R (sym (alike i).residual) (h.1 i there))

  between_so : IsKeptBetween Q
  between_so = record { same = same_so; alike = mapped_so }

  begins_so : (x : Parts) (q : ℕ) (g : ℕ) (args : List Value) → Q x → Q (changed_in x q (λ j. record j { residual = begun (code_of x.design) g args; started = true }))
  begins_so x q g args h = (h.0, changed p R x.instances q _ (λ i same at z. subst (λ (d : Design). R (begun (code_of d) g args)) (sym h.0) (anew-rounds b e f (start d0 script) has g args)) h.1)

  takings_so : IsKeptByTakings Q
  takings_so = record { taken = λ x q empty h. h; begins = λ x q i g args at bare h. begins_so x q g args h }

  others : (q : ℕ) → p ≢ q → (x : Parts) (g : Instance → Instance) → Q x → Q (changed_in x q g)
  others q apart x g h = (h.0, changed p R x.instances q g (λ i same at z. absurd (apart (sym same))) h.1)

  kept_other : (q : ℕ) → p ≢ q → IsKept q Q
  kept_other q apart = record {
    same = same_so;
    leaves = λ x rest top none h. h;
    pushes = λ x n rest top off h. h;
    passes = λ x i r at may h. others q apart x _ h;
    puts = λ x i r n at next new is_new h. others q apart x _ h;
    takes_off = λ x i r at h. others q apart x _ h;
    guards = λ x i r n at next m u h. others q apart x _ h;
    returns = λ x i r n at next v h. others q apart x _ h;
    locals = λ x n v h. others q apart x _ h;
    raises = λ x n i r m g at is stands none caught inner h. (
      h.0,
      changed p R x.instances n _ (λ j same there z.
          subst (λ (d : Design). R (raise (code_of d) r m g)) (sym h.0) (unwinds_so.raises r m g inner (subst R (ap (λ (y : Instance). y.residual) (same_Some j i (sym there ∙ at)) ∙ is) z))) h.1,
    );
    unwinds = λ x n i g at stands none outer h. (h.0, changed p R x.instances n _ (λ j same there z. tt) h.1);
    over = λ x i r at over f none stays h. others q apart x _ h;
    begins = λ x n i g args at bare h. begins_so x n g args h;
    spawned = λ x new none begun lives h. (h.0, more_held p R x.instances new (subst R (sym none) tt) h.1);
    tries_hop = λ x s hop t m blocking entry unbroken h. h;
    calls_hop = λ x i r n at next via g args m hop entry unbroken h. others q apart x _ h;
    returns_hop = λ x i r y at next via m over entry unbroken h. others q apart x _ h;
  }

  -- ---- where it is

  -- its last own statement is past, and its next step comes next
  pub record PastNow (c : Config) : Type 0 where
    pub same : c.design ≡ d0
    pub runs : c.cycle.stopped ≡ false
    pub evaluates : c.cycle.phase ≡ phase.Evaluate
    pub rest : List ℕ
    pub top : c.processes.stack ≡ p ∷ rest
    pub instance : Instance
    pub at : instance_at c p ≡ Some instance
    pub call : Frame
    pub left : instance.residual ≡ frame (seq (try_ skip b.handlers) (b.loops ∷ [])) call

  abbrev State : Config → Type 0
  State c = Kept Q c ⊎ PastNow c

  -- its body's call is made by no statement
  abbrev IsRoot : Config → Instance → Type 0
  IsRoot c i = (q : Residual) (x : Frame) → settle (arena c) i.residual ≡ frame q x → x.call ≡ None

  module _ (c : Config) (same : c.design ≡ d0) (i : Instance) (at : instance_at c p ≡ Some i) (root : IsRoot c i) where
    abbrev left : Residual
    left = settle (arena c) i.residual

    abbrev Goes : (a : Arena) → HasClocked a b e f → Config → Type 0
    Goes a h d = LeftSo p (Rounds a b e f h) d.processes.instances ⊎ IsPast b p c d

    own_here : (h : HasClocked (arena c) b e f) → Places (arena c) b e f h left → IfOk (statement_step c p) (Goes (arena c) h)
    own_here h places =
        subst (λ o. IfOk (step_by c p o) (Goes (arena c) h)) (sym at)
        (as_here (do_next (settled_in c p i.residual) p (record i { residual = left }) left (next_of left)) (places-step b e f (settled_in c p i.residual) h p (record i { residual = left }) (settled-at c p i at) left refl root places))
      where
        as_here : (m : Result Config RunFault) → IfOk m (λ (d : Config). LeftSo p (Rounds (arena c) b e f h) d.processes.instances ⊎ IsPast b p (settled_in c p i.residual) d) → IfOk m (Goes (arena c) h)
        as_here (Ok d) z = ⊎_elim (λ k. inl k) (λ k. inr (record { instance = k.instance; there = k.there; call = k.call; left = k.left; stack = k.stack; cycle = k.cycle; design = k.design })) z
        as_here (Err x) z = tt

    own_as : (a : Arena) → arena c ≡ a → (h : HasClocked a b e f) → Places a b e f h left → IfOk (statement_step c p) (Goes a h)
    own_as a code_is = subst (λ z. (h : HasClocked z b e f) → Places z b e f h left → IfOk (statement_step c p) (Goes z h)) code_is own_here

    own_step : (d : Config) → c.cycle.stopped ≡ false → c.cycle.phase ≡ phase.Evaluate → (rest : List ℕ) → c.processes.stack ≡ p ∷ rest → Places (code_of d0) b e f has left → d.design ≡ d0 → statement_step c p ≡ Ok d → State d
    own_step d runs now rest top places design_is is = ⊎_elim
        (λ k. inl (design_is, k))
        (λ k. inr (record {
          same = design_is;
          runs = ap (λ z. z.stopped) k.cycle ∙ runs;
          evaluates = ap (λ z. z.phase) k.cycle ∙ now;
          rest = rest;
          top = k.stack ∙ top;
          instance = k.instance;
          at = k.there;
          call = k.call;
          left = k.left;
        }))
        (subst (λ m. IfOk m (Goes (code_of d0) has)) is (own_as (code_of d0) (ap code_of same) has places))

  runs_on : (c d : Config) (s : Bool) → cond s ended (step_in c c.cycle.phase) ≡ went d → s ≡ false
  runs_on c d true is = absurd (no is)
    where
      no : ended ≡ went d → ⊥
      no is = cc
  runs_on c d false is = refl

  init_so : (n : ℕ) (xs : List ProcessPart) (x : Config) → Kept Q x → Kept Q (initialize_each n xs x)
  init_so n [] x h = h
  init_so n (y ∷ ys) x h =
      if_so y.dont_initialize (initialize_each (suc n) ys x) (initialize_each (suc n) ys (with_runnable (change_instance x n freed) (x.processes.runnable ++ n ∷ [])))
      (init_so (suc n) ys x h)
      (init_so (suc n) ys (with_runnable (change_instance x n freed) (x.processes.runnable ++ n ∷ [])) (same_so (parts x) n freed (λ i. record { kind = refl; home = refl; code = refl; residual = refl; started = refl; ended = refl }) h))
    where
      if_so : (c : Bool) (x y : Config) → Kept Q x → Kept Q y → Kept Q (cond c x y)
      if_so true x y first other = first
      if_so false x y first other = other

  on_so : (c d : Config) → Moves None c d → Kept Q c → Kept Q d
  on_so c d ms h = moves-keep None (Kept Q) (each-between Q between_so) c d ms h

  settled_here : (c : Config) → c.design ≡ d0 → (r : Residual) → R r → Places (code_of d0) b e f has (settle (arena c) r)
  settled_here c same r h = subst (λ (z : Arena). Places (code_of d0) b e f has (settle z r)) (sym (ap code_of same)) (settled-places (code_of d0) b e f has r h)

  module _ (c : Config) (sound : Sound c) (root : (i : Instance) → instance_at c p ≡ Some i → IsRoot c i) (design_on : (d : Config) → step c ≡ went d → d.design ≡ c.design) where
    kept_step : Kept Q c → (d : Config) → step c ≡ went d → StepMoves c d → State d
    kept_step h _ to (in_turn q rest i d now top at ms is) = ⊎_elim
        (λ same. subst (λ n. c.processes.stack ≡ n ∷ rest → instance_at c n ≡ Some i → statement_step c n ≡ Ok d → State d) same
        (λ top_ at_ is_. own_step c h.0 i at_ (root i at_) d (runs_on c d c.cycle.stopped to) now rest top_ (settled_here c h.0 i.residual (h.1 i at_)) (design_on d to ∙ h.0) is_) top at is)
        (λ apart. inl (moves-kept q Q (kept_other q apart) (settled_in c q i.residual) d ms (settled-sound c sound q rest i top at) (others q apart (parts c) (λ j. record j { residual = settle (arena c) i.residual }) h)))
        (cases_eq p q)
    kept_step h _ to (between d later ms) = inl (on_so c d ms h)
    kept_step h _ to (initializing d x now ms same cycle more after_) = inl (on_so (initialize_each 0 c.design.processes d) x more (init_so 0 c.design.processes d (on_so c d ms h)))
    kept_step h _ to (moving_now t d now apart ms same) = inl (on_so (time_moved c t) d ms h)

    past_step : PastNow c → (d : Config) → step c ≡ went d → State d
    past_step h d to =
        own_step c h.same h.instance h.at (root h.instance h.at) d h.runs h.evaluates h.rest h.top
        (subst (λ r. Places (code_of d0) b e f has (settle (arena c) r)) (sym h.left) (λ is. at_loop refl)) (design_on d to ∙ h.same)
        (went_ok (statement_step c p) d (sym (step-top c p h.rest h.runs h.evaluates h.top) ∙ to))

    pub state-step : State c → (d : Config) → step c ≡ went d → State d
    state-step h d to = ⊎_elim (λ k. kept_step k d to (step-moves c d to)) (λ k. past_step k d to) h

  -- ---- a run

  start_so : Kept Q (start d0 script)
  start_so = (refl, λ j at. by (slice_get d0.processes p) j (sym (slice_get-map (first_instance d0) d0.processes p) ∙ at))
    where
      by : (o : Option ProcessPart) (j : Instance) → option_map (first_instance d0) o ≡ Some j → R j.residual
      by None j is = absurd (none-some j is)
      by (Some x) j is = subst (λ (y : Instance). R y.residual) (same_Some (first_instance d0 x) j is) tt

  module _ (sound : SoundDesign d0) where
    abbrev Good : Config → Type 0
    Good c = IsReached d0 script c × State c

    root_of : (c : Config) → IsReached d0 script c → (i : Instance) → instance_at c p ≡ Some i → IsRoot c i
    root_of c r i at q x is = by i.started (subst (IsRooted i.started) is (settle-rooted (arena c) i.started i.residual ((marked-after d0 script sound r.steps r.choices c r.reached).rooted p i at)))
      where
        by : (s : Bool) → IsRooted s (frame q x) → x.call ≡ None
        by true h = h.0
        by false h = absurd h

    good_step : (c : Config) → Good c → IfWent (step c) Good
    good_step c g = by (step c) refl
      where
        by : (o : Outcome) → step c ≡ o → IfWent o Good
        by (went d) to = (
          reached-went d0 script c d g.0 to,
          state-step c (sound-run d0 script sound g.0.steps g.0.choices c g.0.reached) (root_of c g.0) (λ x now. design-went c.design c x (step-moves c x now) refl) g.1 d to,
        )
        by (faulted x) to = tt
        by takes to = tt
        by ended to = tt

    not_empty : (rest : List ℕ) (stack : List ℕ) → stack ≡ p ∷ rest → stack ≡ [] → ⊥
    not_empty rest stack top empty = no (sym top ∙ empty)
      where
        no : ◌≡◌ {A = List ℕ} (p ∷ rest) [] → ⊥
        no is = cc

    good_taking : (c : Config) (q : ℕ) (d : Config) → step c ≡ takes → Good c → taking c q ≡ Some d → Good d
    good_taking c q d now g to =
        let empty = takes-empty c now in
        (reached-taken d0 script c d q g.0 now to, ⊎_elim (λ k. inl (taking-kept Q between_so takings_so c q d empty k to)) (λ k. absurd (not_empty k.rest c.processes.stack k.top empty)) g.1)

    pub state-after : (n : ℕ) (choices : List ℕ) (last : Config) → after n choices (start d0 script) ≡ Some last → State last
    state-after n choices last reached =
        (holds-after Good good_step good_taking n choices (start d0 script) last (record { steps = 0; choices = []; reached = refl }, inl start_so) reached).1

  -- ---- where its own statements are left, or are unwound

  in_try : (x : Frame) (r : Residual) → Place (code_of d0) b e f has x (seq (try_ r b.handlers) (b.loops ∷ [])) → IsTrue (code_of d0) b e f has x
  in_try x r (at_start is) = absurd cc
  in_try x r (at_loop is) = absurd cc
  in_try x r (at_try t is) = t
  in_try x r (in_own z t u is) = t
  in_try x r (unwound z g t inner own is) = t
  in_try x r (over is) = absurd cc

  in_goal : (x : Frame) (r : Residual) (g : Goal) → Place (code_of d0) b e f has x (seq (goal r g) (b.loops ∷ [])) → IsTrue (code_of d0) b e f has x
  in_goal x r g (at_start is) = absurd cc
  in_goal x r g (at_loop is) = absurd cc
  in_goal x r g (at_try t is) = t
  in_goal x r g (in_own z t u is) = t
  in_goal x r g (unwound z h t inner own is) = t
  in_goal x r g (over is) = absurd cc

  same_try : (z r : Residual) (ss : List ℕ) → seq (try_ r b.handlers) ss ≡ seq (try_ z b.handlers) ss → z ≡ r
  same_try z r ss is = cc

  left_under : (x : Frame) (r : Residual) → Place (code_of d0) b e f has x (seq (try_ r b.handlers) (b.loops ∷ [])) → IsUnder (code_of d0) b e f has r
  left_under x r (at_start is) = absurd cc
  left_under x r (at_loop is) = absurd cc
  left_under x r (at_try t is) = absurd cc
  left_under x r (in_own z t u is) = subst (IsUnder (code_of d0) b e f has) (same_try z r (b.loops ∷ []) is) u
  left_under x r (unwound z g t inner own is) = absurd cc
  left_under x r (over is) = absurd cc

  module _ (sound : SoundDesign d0) (n : ℕ) (choices : List ℕ) (c : Config) (reached : after n choices (start d0 script) ≡ Some c) (q : Residual) (x : Frame) (i : Instance) (at : instance_at c p ≡ Some i) (left_is : settle (arena c) i.residual ≡ frame q x) (same : x.body ≡ f) where
    pub place-at : (q ≡ one b.loops → ⊥) → Place (code_of d0) b e f has x q
    place-at not = ⊎_elim
        (λ k. subst (Places (code_of d0) b e f has) left_is (settled_here c k.0 i.residual (k.1 i at)) same)
        (λ k. absurd (not (inner (sym left_is ∙ ap (λ (j : Instance). settle (arena c) j.residual) (same_Some i k.instance (sym at ∙ k.at)) ∙ ap (settle (arena c)) k.left))))
        (state-after sound n choices c reached)
      where
        inner : {y : Frame} → frame q x ≡ frame (one b.loops) y → q ≡ one b.loops
        inner is = cc

-- ---- of a configuration that a run comes to

module _ (design : Design) (script : List Command) (sound : SoundDesign design) (n : ℕ) (choices : List ℕ) (c : Config) (reached : after n choices (start design script) ≡ Some c) (p : ℕ) (i : Instance) (at : instance_at c p ≡ Some i) where
  same_design : c.design ≡ design
  same_design = design-after design script n choices c reached

  module _ (b : Around) (e : ℕ) (x : Frame) (r : Residual) (has : HasClocked (arena c) b e x.body) where
    there : HasClocked (code_of design) b e x.body
    there = subst (λ (d : Design). HasClocked (code_of d) b e x.body) same_design has

    not_one : (q : Residual) (ss : List ℕ) (s : ℕ) → seq q ss ≡ one s → ⊥
    not_one q ss s is = cc

    pub true-among : settle (arena c) i.residual ≡ trying b x r → AsksTrue b x
    true-among left =
        let t = in_try b e x.body design script there p x r (place-at b e x.body design script there p sound n choices c reached (seq (try_ r b.handlers) (b.loops ∷ [])) x i at left refl (not_one (try_ r b.handlers) (b.loops ∷ []) b.loops)) in
        record { answer = t.0; has = t.1; is_true = t.2 }

    pub none-catches : (k : ℕ) → UncaughtIn (arena c) b k → settle (arena c) i.residual ≡ trying b x r → innermost r ≡ None → catches r k ≡ false
    none-catches k none left bare =
        under-catches (code_of design) b k (subst (λ (d : Design). UncaughtIn (code_of d) b k) same_design none) e x.body there r
        (left_under b e x.body design script there p x r (place-at b e x.body design script there p sound n choices c reached (seq (try_ r b.handlers) (b.loops ∷ [])) x i at left refl (not_one (try_ r b.handlers) (b.loops ∷ []) b.loops))) bare

    pub true-unwound : settle (arena c) i.residual ≡ unwinding b x r → AsksTrue b x
    true-unwound left =
        let t = in_goal b e x.body design script there p x r goal_of.Thrown (place-at b e x.body design script there p sound n choices c reached (seq (goal r goal_of.Thrown) (b.loops ∷ [])) x i at left refl (not_one (goal r goal_of.Thrown) (b.loops ∷ []) b.loops)) in
        record { answer = t.0; has = t.1; is_true = t.2 }

    pub true-injected : settle (arena c) i.residual ≡ injected_into b x r → AsksTrue b x
    true-injected left =
        let t = in_goal b e x.body design script there p x r goal_of.Injected (place-at b e x.body design script there p sound n choices c reached (seq (goal r goal_of.Injected) (b.loops ∷ [])) x i at left refl (not_one (goal r goal_of.Injected) (b.loops ∷ []) b.loops)) in
        record { answer = t.0; has = t.1; is_true = t.2 }
