-- A call that ends hands back values of the types of the caller's variables; and bodies that end, or begin, stay typed.
use Rattle.std.proofs.Common.{◌≡◌, ℕ, suc, true, false, List, [], ◌∷◌, slice_get, Option, Some, None, refl, sym, ap, ◌∙◌, subst}
use Rattle.std.specs.Prelude.{Result, IfOk}
use Rattle.std.proofs.lemmas.Option.{same_Some}
use Rattle.sim_model.specs.LogicValues.declared.kinds.Value.{Value}
use Rattle.sim_model.specs.LogicValues.declared.kinds.Value.TheVariants as value
use Rattle.sim_model.specs.EventCore.declared.event.Ev.TheVariants as ev
use Rattle.sim_model.specs.ModelTree.declared.items.ProcessKind.{ProcessKind}
use Rattle.sim_model.specs.ModelTree.declared.items.ProcessKind.TheVariants as process
use Rattle.sim_model.specs.TransportPhases.History.{Entry, Return, BReturn, broken}
use Rattle.sim_model.specs.TransportPhases.declared.phases.Rule.{Rule}
use Rattle.sim_model.specs.FlatDesign.Code as code
use Rattle.sim_model.specs.FlatDesign.Code.{ArgumentTerm, Statement, statement_at, body_at}
use Rattle.sim_model.specs.FlatDesign.Denotes.{Context, variable_type}
use Rattle.sim_model.specs.FlatDesign.Typed.{Stores, IfWritten, StoresAnswer, AreArguments, IsTyped, parameters_of}
use Rattle.sim_model.specs.FlatDesign.Sound.{SoundDesign, IsHomeOf, HasParameters, blocking_parameters, nonblocking_parameters}
use Rattle.sim_model.specs.FlatDesign.declared.value_types.ValueType.{ValueType}
use Rattle.sim_model.specs.FlatDesign.declared.value_types.ValueType.TheVariants as type
use Rattle.sim_model.specs.FlatDesign.declared.names.NameUse.{NameUse}
use Rattle.sim_model.specs.FlatDesign.declared.code.CodeBody.{CodeBody}
use Rattle.sim_model.specs.FlatDesign.declared.code.Local.{Local}
use Rattle.sim_model.specs.FlatDesign.declared.code.Store.{Store as Target}
use Rattle.sim_model.specs.FlatDesign.declared.design.Design.{Design}
use Rattle.sim_model.specs.FlatDesign.declared.faults.RunFault.{RunFault}
use Rattle.sim_model.specs.Values.{cut_to}
use Rattle.sim_model.specs.Residual.{Residual, Frame, skip, put, next_of, leaves, begun}
use Rattle.sim_model.specs.Configuration.{Config, Instance, arena, change_instance, instance_at}
use Rattle.sim_model.specs.Reading.{Here, here}
use Rattle.sim_model.specs.Storing.{passes, set_name, stored, stored_if}
use Rattle.sim_model.specs.Waits.{leaves_stack}
use Rattle.sim_model.specs.Calls.{final_value, given_back, answer_of, call_ends}
use Rattle.sim_model.specs.Transport.{history, judged_by, complete_now, for_freed, judged_return, int_of, b_transport_ends, nb_transport_ends}
use Rattle.sim_model.specs.Control.{ended_instance, ends, begins, stays_kept, next_wait, idles, done_by}
use Rattle.sim_model.specs.Statements.{via_ends, hands_back, handed_back, calling_statement, leaves_call}
use Rattle.sim_model.specs.declared.plain.Via.{Via}
use Rattle.laws_runs.proofs.Changes.{change-here}
use Rattle.laws_runs.specs.Standing.{code_of, place_of}
use Rattle.laws_runs.proofs.Tight.{IsTight}
use Rattle.laws_runs.specs.Contents.{Pairwise, IsOf, LocalFits, context_of}
use Rattle.laws_runs.specs.Frames.{AnswerFits, Calls, CallFits, FrameFits, LeftFits, InstanceFits}
use Rattle.laws_runs.specs.TypedConfig.{TypesHaveValues}
use Rattle.laws_runs.proofs.EachLists.{each-change}
use Rattle.laws_runs.proofs.TypedLeft.{inner, past-fits}
use Rattle.laws_runs.proofs.Returns.{leaves-at}
use Rattle.laws_runs.proofs.Bodies.{begun-fits, answer-type}
use Rattle.laws_runs.proofs.TypedMoves.{if-is, Fits, same-fits, fire-fits, residual-fits, FitsHere, name-in}
use Rattle.laws_runs.proofs.Arguments.{store-type, Follows, follows, final-type, parameter-final}
use Rattle.laws_runs.proofs.Place.{StatementFits, left-here, inside-fits}

-- ---- a call that ends

module _ (c : Config) (p : ℕ) (i : Instance) (at : instance_at c p ≡ Some i) (r : Residual) (is : i.residual ≡ r) (sound : SoundDesign c.design) (types : TypesHaveValues c.design) (k : Fits c.design c) (tight : IsTight r)
    (x : Frame) (next : next_of r ≡ leaves x) where
  abbrev d : Design
  d = c.design

  left : LeftFits d None i.home r
  left = left-here c p i r k at is

  past : Fits d (passes c p r)
  past = residual-fits d c p (put r skip) (λ j there h. subst (λ (y : Instance). LeftFits d None y.home (put r skip)) (same_Some i j (sym at ∙ there)) (past-fits d None i.home r left)) k

  call_at : FrameFits d (inner None (put r skip)) (place_of d i.home (put r skip)) x
  call_at = leaves-at d x None i.home r tight left next

  module _ (s : ℕ) (stands : StatementFits (passes c p r) p i (put r skip) s) where
    abbrev f : ℕ
    f = stands.place.number

    abbrev b : CodeBody
    b = stands.place.body

    abbrev h : Here
    h = here (passes c p r) p i (put r skip)

    abbrev ctx : Context
    ctx = context_of stands.place.body.locals (here (passes c p r) p i (put r skip))

    abbrev G : Config → Type 0
    G = FitsHere c.design p stands.place.number

    passed : G (passes c p r)
    passed = (past, (record i { residual = put r skip }, change-here c.processes.instances p (λ j. record j { residual = put r skip }) i at, stands.place.inside))

    name-kept : (e : Config) (m : NameUse) (t : ValueType) (v : Value) → variable_type ctx m ≡ Some t → IsOf t v → G e → G (set_name e p h m v)
    name-kept e m t v is_ typed g = name-in d p f b stands.place.found h refl e m t v is_ typed g

    stored-kept : (e : Config) (target : Target) (t : ValueType) (v : Value) → Stores ctx t target → IsOf t v → G e → G (stored e p h target v)
    stored-kept e target t v fits typed g = name-kept e target.name target.value_type (cut_to target.value_type v) fits.0 (store-type target.value_type t v fits.1 typed) g

    stored_if-kept : (e : Config) (y : Option Target) (t : ValueType) (v : Value) → IfWritten (Stores ctx t) y → IsOf t v → G e → G (stored_if e p h y v)
    stored_if-kept e None t v fits typed g = g
    stored_if-kept e (Some target) t v fits typed g = stored-kept e target t v fits typed g

    -- the final values of inout arguments
    given-kept : (ls : List Local) (j : ℕ) (ps : List Local) (xs : List ArgumentTerm) (e : Config) → Follows ls j ps → AreArguments ctx ps xs → Pairwise LocalFits ls x.locals → G e → G (given_back e p h x j xs)
    given-kept ls j [] [] e fo ar fits g = g
    given-kept ls j [] (y ∷ xs) e fo ar fits g = absurd ar
    given-kept ls j (q ∷ qs) [] e fo ar fits g = absurd ar
    given-kept ls j (q ∷ qs) (code.by_value t ∷ xs) e fo ar fits g = given-kept ls (suc j) qs xs e fo.1 ar.1 fits g
    given-kept ls j (q ∷ qs) (code.inout m ∷ xs) e fo ar fits g =
        given-kept ls (suc j) qs xs (set_name e p h m (final_value x j (value.Bool false))) fo.1 ar.1 fits
        (name-kept e m q.value_type (final_value x j (value.Bool false)) ar.0.1 (final-type ls x j q (value.Bool false) fo.0 fits) g)

    -- its answer
    answer-kept : (cb : CodeBody) (y : Option Target) (e : Config) → body_at (code_of d) x.body ≡ Some cb → AnswerFits cb.answer x.answer → IfWritten (StoresAnswer ctx cb.answer) y → G e → G (stored_if e p h y (answer_of (code_of d) x))
    answer-kept cb None e found fits typed g = g
    answer-kept cb (Some target) e found fits typed g = of_type cb.answer refl typed
      where
        of_type : (a : Option ValueType) → cb.answer ≡ a → StoresAnswer ctx a target → G (stored e p h target (answer_of (code_of d) x))
        of_type None same stores = absurd stores
        of_type (Some t) same stores = stored-kept e target t (answer_of (code_of d) x) stores (answer-type d x cb t found same (types.bodies x.body cb found).answer fits) g

    call-ended : (y : Option Target) (g : ℕ) (xs : List ArgumentTerm) → g ≡ x.body → IsTyped (code_of d) b.module_place b.answer ctx (code.call y g xs) → Fits d (call_ends (passes c p r) p h x y xs)
    call-ended y g xs same typed =
        let cb = typed.0 in
        let found : body_at (code_of d) x.body ≡ Some cb = subst (λ m. body_at (code_of d) m ≡ Some cb) same typed.1.found in
        let own : call_at.body ≡ cb = same_Some call_at.body cb (sym call_at.found ∙ found) in
        let locals = subst (λ (z : CodeBody). Pairwise LocalFits z.locals x.locals) own call_at.locals_fit in
        let answers = subst (λ (z : CodeBody). AnswerFits z.answer x.answer) own call_at.answer_fits in
        (answer-kept cb y (given_back (passes c p r) p h x 0 xs) found answers typed.3 (given-kept cb.locals 0 (parameters_of cb) xs (passes c p r) (follows cb.locals cb.parameters) typed.2 locals passed)).0

    -- the return of a call over a hop is judged first
    judged-kept : (hop : ℕ) (e : Entry) (t : ℕ) (rule : Option Rule) → IfOk (for_freed (passes c p r) t (judged_by (passes c p r) hop e t rule)) G
    judged-kept hop e t None = passed
    judged-kept hop e t (Some rule) = tt

    blocking-ended : (via : Via) (delay : NameUse) → HasParameters (parameters_of call_at.body) blocking_parameters → variable_type ctx delay ≡ Some type.Time → IfOk (b_transport_ends (passes c p r) p h x via delay) (Fits d)
    blocking-ended via delay has typed =
        let e = BReturn via.payload (complete_now (passes c p r) via.payload) in
        if-is (Fits d) G (judged_return (passes c p r) via.hop e via.payload) _ (judged-kept via.hop e via.payload (broken (history (passes c p r) via.hop) e))
        (λ y g. (name-kept y delay type.Time (final_value x 1 (value.Moment 0)) typed
        (parameter-final call_at.body.parameters call_at.body.locals blocking_parameters 1 (type.Time, true) x (value.Moment 0) has refl call_at.locals_fit) g).0)

    nonblocking-ended : (via : Via) (target : Option Target) (phase delay : NameUse) → HasParameters (parameters_of call_at.body) nonblocking_parameters → call_at.body.answer ≡ Some (type.Int 32)
        → variable_type ctx phase ≡ Some (type.Int 32) → variable_type ctx delay ≡ Some type.Time → IfWritten (Stores ctx (type.Int 32)) target → IfOk (nb_transport_ends (passes c p r) p h x via target phase delay) (Fits d)
    nonblocking-ended via target phase delay has answers one two three =
        let e = Return via.payload (int_of (answer_of (code_of d) x)) (int_of (final_value x 1 (value.Int 32 0))) (complete_now (passes c p r) via.payload) in
        let ph = parameter-final call_at.body.parameters call_at.body.locals nonblocking_parameters 1 (type.Int 32, true) x (value.Int 32 0) has refl call_at.locals_fit in
        let dl = parameter-final call_at.body.parameters call_at.body.locals nonblocking_parameters 2 (type.Time, true) x (value.Moment 0) has refl call_at.locals_fit in
        let an = answer-type d x call_at.body (type.Int 32) call_at.found answers (types.bodies x.body call_at.body call_at.found).answer call_at.answer_fits in
        if-is (Fits d) G (judged_return (passes c p r) via.hop e via.payload) _ (judged-kept via.hop e via.payload (broken (history (passes c p r) via.hop) e))
        (λ y g. (stored_if-kept (set_name (set_name y p h phase (final_value x 1 (value.Int 32 0))) p h delay (final_value x 2 (value.Moment 0))) target (type.Int 32) (answer_of (code_of d) x) three an
        (name-kept (set_name y p h phase (final_value x 1 (value.Int 32 0))) delay type.Time (final_value x 2 (value.Moment 0)) two dl
        (name-kept y phase (type.Int 32) (final_value x 1 (value.Int 32 0)) one ph g))).0)

    via-kept : (via : Option Via) (g : Via → Result Config RunFault) → ((v : Via) → IfOk (g v) (Fits d)) → IfOk (via_ends (passes c p r) via g) (Fits d)
    via-kept None g each = past
    via-kept (Some v) g each = each v

    handed : (y : Statement) → IsTyped (code_of d) b.module_place b.answer ctx y → Calls (Some y) x.body call_at.body → IfOk (hands_back (passes c p r) p h x y) (Fits d)
    handed (code.call target g xs) typed calls = call-ended target g xs calls typed
    handed (code.b_transport socket m delay) typed calls = via-kept x.via (λ via. b_transport_ends (passes c p r) p h x via delay) (λ via. blocking-ended via delay calls.0 typed.2)
    handed (code.nb_transport target socket m phase delay) typed calls =
        via-kept x.via (λ via. nb_transport_ends (passes c p r) p h x via target phase delay) (λ via. nonblocking-ended via target phase delay calls.0 calls.1 typed.2 typed.3 typed.4)
    handed other typed calls = absurd calls

    handed_at : (o : Option Statement) → statement_at (code_of d) s ≡ o → Calls o x.body call_at.body → IfOk (handed_back (passes c p r) p h x o) (Fits d)
    handed_at None there calls = past
    handed_at (Some y) there calls = handed y (stands.typed y there) calls

  left_at : (call : Option ℕ) → CallFits d (inner None (put r skip)) call x.body call_at.body → IfOk (handed_back (passes c p r) p (here (passes c p r) p i (put r skip)) x (calling_statement c call)) (Fits d)
  left_at None fits = past
  left_at (Some s) fits =
      handed_at s (inside-fits (passes c p r) p i (put r skip) s sound past (past-fits d None i.home r left) fits.0) (statement_at (code_of d) s) refl fits.1

  pub leaves-fits : IfOk (leaves_call c p i r x) (Fits d)
  leaves-fits = left_at x.call call_at.call_fits

-- ---- bodies that end, and begin

module _ (d : Design) (types : TypesHaveValues d) where
  over-fits : (c : Config) (p : ℕ) (g : Instance → Instance) → ((i : Instance) → (g i).home ≡ i.home) → ((i : Instance) → (g i).code ≡ i.code) → ((i : Instance) → (g i).arguments ≡ i.arguments) → ((i : Instance) → (g i).residual ≡ skip) → Fits d c → Fits d (change_instance c p g)
  over-fits c p g home code_ arguments left k = (
    k.0,
    k.1,
    each-change (InstanceFits d) c.processes.instances p g (λ i at h. record {
      body = h.body;
      found = ap (body_at (code_of d)) (code_ i) ∙ h.found;
      home_of = subst (λ m. IsHomeOf d m h.body) (sym (home i)) h.home_of;
      arguments = subst (Pairwise LocalFits (parameters_of h.body)) (sym (arguments i)) h.arguments;
      left = subst (LeftFits d None (g i).home) (sym (left i)) tt;
    }) k.2,
    k.3,
  )

  pub ends-fits : (c : Config) (p : ℕ) → Fits d c → Fits d (ends c p)
  ends-fits c p k = fire-fits d (leaves_stack (change_instance c p ended_instance)) (ev.Terminated p) (over-fits c p ended_instance (λ i. refl) (λ i. refl) (λ i. refl) (λ i. refl) k)

  idles-fits : (c : Config) (p : ℕ) (i : Instance) → Fits d c → Fits d (idles c p i)
  idles-fits c p i k =
      over-fits c p (λ j. record j { residual = skip; started = false; wait = (next_wait i.trigger).wait; deadline = (next_wait i.trigger).deadline; trigger = None }) (λ j. refl) (λ j. refl) (λ j. refl) (λ j. refl) k

  pub done-fits : (c : Config) (p : ℕ) (i : Instance) (kind : ProcessKind) → Fits d c → Fits d (done_by c p i kind)
  done-fits c p i process.Thread k = ends-fits c p k
  done-fits c p i process.Method k = idles-fits c p i k

  -- the body of the instance begins; i is it, but for what is left and its flags
  pub begins-fits : (c : Config) (p : ℕ) (i : Instance) → c.design ≡ d → ((j : Instance) → slice_get c.processes.instances p ≡ Some j → (j.code ≡ i.code) × (j.arguments ≡ i.arguments)) → Fits d c → Fits d (begins c p i)
  begins-fits c p i same alike k = (
    k.0,
    k.1,
    each-change (InstanceFits d) c.processes.instances p (λ j. record j { residual = begun (arena c) i.code i.arguments; started = true }) (λ j at h. record {
      body = h.body;
      found = h.found;
      home_of = h.home_of;
      arguments = h.arguments;
      left =
          let a = alike j at in
          subst (λ x. LeftFits d None j.home (begun (code_of x) i.code i.arguments)) (sym same)
          (subst (λ args. LeftFits d None j.home (begun (code_of d) i.code args)) a.1 (subst (λ m. LeftFits d None j.home (begun (code_of d) m j.arguments)) a.0
          (begun-fits d j.home j.code h.body j.arguments h.found h.home_of (types.bodies j.code h.body h.found) h.arguments)));
    }) k.2,
    k.3,
  )

  pub kept-fits : (c : Config) (p : ℕ) → Fits d c → Fits d (stays_kept c p)
  kept-fits c p k = same-fits d c p (λ j. record j { kept = true }) (λ j. record { home = refl; code = refl; arguments = refl; residual = refl }) k

  -- nothing is left of it
  pub gone-fits : (c : Config) (p : ℕ) → Fits d c → Fits d (change_instance c p (λ j. record j { residual = skip; started = false }))
  gone-fits c p k = over-fits c p (λ j. record j { residual = skip; started = false }) (λ j. refl) (λ j. refl) (λ j. refl) (λ j. refl) k
