-- An exception comes to the try around a clocked thread's own statements, and these begin again.
use Rattle.std.proofs.Common.{◌≡◌, ◌||◌, ℕ, suc, Bool, true, false, cond, List, [], ◌∷◌, slice_get, Option, Some, refl, ap, ◌∙◌, subst}
use Rattle.std.specs.Prelude.{Result, Ok, Err, is_some, unwrap_or}
use Rattle.laws_runs.specs.LogicValues.declared.kinds.Value.{Value}
use Rattle.laws_runs.specs.LogicValues.declared.kinds.Value.TheVariants as value
use Rattle.laws_runs.specs.TransportPhases.History.{Left}
use Rattle.laws_runs.specs.FlatDesign.Code as code
use Rattle.laws_runs.specs.FlatDesign.Code.{Arena, statement_at}
use Rattle.laws_runs.specs.FlatDesign.declared.names.NameUse.TheVariants as name_use
use Rattle.laws_runs.specs.FlatDesign.declared.code.Handler.{Handler}
use Rattle.laws_runs.specs.FlatDesign.declared.faults.RunFault.{RunFault}
use Rattle.laws_runs.specs.FlatDesign.declared.faults.RunFault.TheVariants as fault
use Rattle.laws_runs.specs.SimModel.Values.{on_ok, truth, widened}
use Rattle.laws_runs.specs.SimModel.Residual.{Residual, Frame, skip, one, seq, try_, frame, goal, followed, statements, block, settle, put, next_of, in_frame, statement}
use Rattle.laws_runs.specs.SimModel.Unwinding.{unw, catches, handles, handler_of, handler_block, raise, left_by_unw, left_by_raise}
use Rattle.laws_runs.specs.SimModel.Configuration.{Config, Instance, arena, with_residual}
use Rattle.laws_runs.specs.SimModel.Reading.{here, val}
use Rattle.laws_runs.specs.SimModel.Storing.{looped}
use Rattle.laws_runs.specs.SimModel.Calls.{with_left, with_entry, thrown}
use Rattle.laws_runs.specs.SimModel.Statements.{settled_in, step_by, do_next}
use Rattle.laws_runs.specs.SimModel.Steps.{step, went, as_outcome}
use Rattle.laws_runs.specs.SimModel.declared.plain.Goal.TheVariants as goal_of
use Rattle.laws_runs.specs.SimModel.declared.plain.Via.{Via}
use Rattle.laws_clocked.specs.Again.{Around, HasAround, trying, unwinding, StandsAt, no_step, one_more, IsCaught, BeginsAgain}
use Rattle.laws_clocked.proofs.OwnSteps.{step-top, changed-at, carries}

same_truth : (v : Value) → truth (widened v) ≡ truth v
same_truth (value.Bool b) = refl
same_truth (value.Int width n) = refl
same_truth (value.Uint width n) = refl
same_truth (value.Logic d) = refl
same_truth (value.Vector v) = refl
same_truth (value.Moment t) = refl
same_truth (value.Handle h) = refl
same_truth (value.Pay q) = refl

-- ---- a step of one that stands there, and what is left behind it

abbrev old : (c : Config) (p : ℕ) (rest : List ℕ) (r : Residual) → StandsAt c p rest r → Config
old c p rest r h = settled_in c p h.instance.residual

abbrev own : (c : Config) (p : ℕ) (rest : List ℕ) (r : Residual) → StandsAt c p rest r → Instance
own c p rest r h = record h.instance { residual = r }

module _ (c : Config) (p : ℕ) (rest : List ℕ) (r : Residual) (h : StandsAt c p rest r) where
  steps_by : step c ≡ as_outcome (do_next (old c p rest r h) p (own c p rest r h) r (next_of r))
  steps_by =
      step-top c p rest h.runs h.evaluates h.top
      ∙ ap as_outcome (ap (step_by c p) h.at ∙ ap (λ (x : Residual). do_next (old c p rest r h) p (record h.instance { residual = x }) x (next_of x)) h.left)

  stands_behind : (n m : Residual) → settle (arena c) n ≡ m → StandsAt (with_residual (old c p rest r h) p n) p rest m
  stands_behind n m is = record {
    runs = h.runs;
    evaluates = h.evaluates;
    top = h.top;
    instance = record h.instance { residual = n };
    at = changed-at c p h.instance h.at (λ j. record j { residual = n });
    left = is;
  }

-- ---- transport calls that are left change nothing of it

stands_left : (vias : List Via) (c : Config) (p : ℕ) (rest : List ℕ) (r : Residual) → StandsAt c p rest r → StandsAt (with_left c vias) p rest r
stands_left [] c p rest r h = h
stands_left (via ∷ more) c p rest r h =
    stands_left more (with_entry c via.hop (Left via.payload)) p rest r (record { runs = h.runs; evaluates = h.evaluates; top = h.top; instance = h.instance; at = h.at; left = h.left })

around_left : (vias : List Via) (c : Config) (b : Around) (e : ℕ) → HasAround (arena c) b e → HasAround (arena (with_left c vias)) b e
around_left [] c b e has = has
around_left (via ∷ more) c b e has = around_left more (with_entry c via.hop (Left via.payload)) b e has

-- ---- the exception comes to the try

module _ (c : Config) (p : ℕ) (rest : List ℕ) (b : Around) (e : ℕ) (has : HasAround (arena c) b e) (x : Frame) (r : Residual) (h : StandsAt c p rest (trying b x r)) where
  abbrev before : Config
  before = old c p rest (trying b x r) h

  abbrev caught_in : Config
  caught_in = with_residual before p (unwinding b x (unw r))

  abbrev by_tests : Bool → Bool → Option Handler → Result Config RunFault
  by_tests u w m =
      cond (u || w)
      (Ok (with_left (with_residual before p (frame (seq (cond u (try_ (raise (arena c) r e goal_of.Thrown) b.handlers) (cond w (followed (goal (unw r) goal_of.Thrown) (handler_block (arena c) m)) (try_ r b.handlers))) (b.loops ∷ [])) x))
      (cond u (left_by_raise r e) (cond w (left_by_unw r) []))))
      (Err (fault.Uncaught e))

  thrown_is : catches r e ≡ false → thrown before p (trying b x r) e ≡ Ok (with_left caught_in (left_by_unw r))
  thrown_is none =
      ap (λ u. by_tests u (handles b.handlers e) (handler_of b.handlers e)) none
      ∙ ap (λ m. by_tests false (is_some m) m) has.catches
      ∙ ap (λ ss. Ok (with_left (with_residual before p (frame (seq (followed (goal (unw r) goal_of.Thrown) ss) (b.loops ∷ [])) x)) (left_by_unw r))) has.does_nothing

  module _ (s : ℕ) (next : next_of r ≡ statement s) (throws : statement_at (arena c) s ≡ Some (code.throw e)) (none : catches r e ≡ false) where
    pub throw_steps : step c ≡ went (with_left caught_in (left_by_unw r))
    throw_steps =
        step-top c p rest h.runs h.evaluates h.top
        ∙ ap as_outcome (carries c p h.instance h.at s (code.throw e) (ap next_of h.left ∙ ap (λ n. in_frame n x) next) throws ∙ ap (λ z. thrown before p z e) h.left ∙ thrown_is none)

    pub caught_stands : StandsAt (with_left caught_in (left_by_unw r)) p rest (unwinding b x (settle (arena c) (unw r)))
    caught_stands = stands_left (left_by_unw r) caught_in p rest _ (stands_behind c p rest (trying b x r) h (unwinding b x (unw r)) (unwinding b x (settle (arena c) (unw r))) refl)

    abbrev pub is-caught : IsCaught c p rest b x (settle (arena c) (unw r))
    is-caught = record { then = with_left caught_in (left_by_unw r); steps = throw_steps; stands = caught_stands }

    caught_around : HasAround (arena (with_left caught_in (left_by_unw r))) b e
    caught_around = around_left (left_by_unw r) caught_in b e has

-- ---- the thread's own statements begin again

whole_left : (a : Arena) (b : Around) (x : Frame) (s : ℕ) (ss : List ℕ) → settle a (trying b x (statements (s ∷ ss))) ≡ trying b x (statements (s ∷ ss))
whole_left a b x s [] = refl
whole_left a b x s (t ∷ ss) = refl

whole_next : (b : Around) (x : Frame) (s : ℕ) (ss : List ℕ) → next_of (trying b x (statements (s ∷ ss))) ≡ statement s
whole_next b x s [] = refl
whole_next b x s (t ∷ ss) = refl

module _ (p : ℕ) (rest : List ℕ) (b : Around) (e : ℕ) (x : Frame) (v : Value) (asks : slice_get x.locals b.again ≡ Some v) (is_true : truth v ≡ true) where
  abbrev Begins : ℕ → Config → Type 0
  Begins n c = BeginsAgain c p rest b x n

  pub a-step : (n : ℕ) (c d : Config) → step c ≡ went d → d.processes.stack ≡ p ∷ rest → Begins n d → Begins (suc n) c
  a-step n c d now same l = record { then = l.then; stays = one_more n c d l.then now same l.stays; stands = l.stands; next = l.next }

  -- the whole try is left
  begun : (c : Config) → StandsAt c p rest (trying b x (statements (b.first ∷ b.more))) → Begins 0 c
  begun c h = record { then = c; stays = no_step c; stands = h; next = ap next_of h.left ∙ whole_next b x b.first b.more }

  -- the try comes next
  tries : (c : Config) → HasAround (arena c) b e → StandsAt c p rest (frame (seq (one b.tries) (b.loops ∷ [])) x) → Begins 1 c
  tries c has h =
      let r = frame (seq (one b.tries) (b.loops ∷ [])) x in
      let n = frame (seq (try_ (block (arena c) b.inside) b.handlers) (b.loops ∷ [])) x in
      let d = with_residual (old c p rest r h) p n in
      a-step 0 c d
      (step-top c p rest h.runs h.evaluates h.top
      ∙ ap as_outcome (carries c p h.instance h.at b.tries (code.try_ b.inside b.handlers) (ap next_of h.left) has.tries
      ∙ ap (λ z. Ok (with_residual (old c p rest r h) p (put z (try_ (block (arena c) b.inside) b.handlers)))) h.left))
      h.top
      (begun d (stands_behind c p rest r h n (trying b x (statements (b.first ∷ b.more))) (ap (λ ss. settle (arena c) (trying b x (statements ss))) has.inside ∙ whole_left (arena c) b x b.first b.more)))

  -- the test of the loop comes next
  asked : (c : Config) (i : Instance) → val (here c p i (frame (one b.loops) x)) (code.name (name_use.Local b.again)) ≡ Ok (widened v)
  asked c i = ap (λ (o : Option Value). answers (widened (unwrap_or o (value.Bool false)))) asks
    where
      answers : Value → Result Value RunFault
      answers w = Ok w

  pub loop-begins : (c : Config) → HasAround (arena c) b e → StandsAt c p rest (frame (one b.loops) x) → Begins 2 c
  loop-begins c has h =
      let r = frame (one b.loops) x in
      let before = old c p rest r h in
      let n = frame (seq (one b.tries) (b.loops ∷ [])) x in
      let d = with_residual before p n in
      let going : (z : Residual) → Value → Result Config RunFault = λ z w. Ok (with_residual before p (put z (looped before (truth w) b.loops b.round))) in
      a-step 1 c d
      (step-top c p rest h.runs h.evaluates h.top
      ∙ ap as_outcome (carries c p h.instance h.at b.loops (code.while_ (code.name (name_use.Local b.again)) b.round) (ap next_of h.left) has.loops
      ∙ ap (λ z. on_ok (val (here before p (record h.instance { residual = z }) z) (code.name (name_use.Local b.again))) (going z)) h.left
      ∙ ap (λ (m : Result Value RunFault). on_ok m (going r)) (asked before (record h.instance { residual = r }))
      ∙ ap (λ u. Ok (with_residual before p (put r (looped before u b.loops b.round)))) (same_truth v ∙ is_true)
      ∙ ap (λ ss. Ok (with_residual before p (frame (seq (statements ss) (b.loops ∷ [])) x))) has.round))
      h.top
      (tries d has (stands_behind c p rest r h n n refl))

  -- all is unwound
  pub begins-again : (c : Config) → HasAround (arena c) b e → StandsAt c p rest (unwinding b x skip) → Begins 3 c
  begins-again c has h =
      let r = unwinding b x skip in
      let n = frame (seq skip (b.loops ∷ [])) x in
      let d = with_residual (old c p rest r h) p n in
      a-step 2 c d (steps_by c p rest r h) h.top (loop-begins d has (stands_behind c p rest r h n (frame (one b.loops) x) refl))

-- ---- with no unwind block that is owed

pub throw-begins : (c : Config) (p : ℕ) (rest : List ℕ) (b : Around) (e : ℕ) (has : HasAround (arena c) b e) (x : Frame) (r : Residual) (h : StandsAt c p rest (trying b x r)) (s : ℕ) → next_of r ≡ statement s
    → statement_at (arena c) s ≡ Some (code.throw e) → catches r e ≡ false → settle (arena c) (unw r) ≡ skip → (v : Value) → slice_get x.locals b.again ≡ Some v → truth v ≡ true
    → BeginsAgain c p rest b x 4
throw-begins c p rest b e has x r h s next throws none bare v asks is_true =
    let k = is-caught c p rest b e has x r h s next throws none in
    a-step p rest b e x v asks is_true 3 c k.then k.steps k.stands.top
    (begins-again p rest b e x v asks is_true k.then (caught_around c p rest b e has x r h s next throws none) (subst (λ z. StandsAt k.then p rest (unwinding b x z)) bare k.stands))
