-- Each move keeps histories lawful, and their open calls those of what is left of bodies.
use Rattle.std.proofs.Common.{Bool, List, None, Option, Some, [], ap, append-nil, cond, drop, eq-eqb, false, inl, length, map, ne_eqb, option_map, refl, slice_get, subst, sym, true, true≢false, ℕ, ⊎_elim, ◌++◌, ◌+◌, ◌==◌, ◌∙◌, ◌∷◌, ◌≡◌, ◌≢◌}
use Rattle.std.proofs.lemmas.Bool.{cases_eq}
use Rattle.std.proofs.lemmas.Option.{same_Some, slice_get-map}
use Rattle.sim_model.specs.TransportPhases.declared.transaction.Open.TheVariants.{Nothing}
use Rattle.sim_model.specs.TransportPhases.History.{BReturn, Entry, Left, Return, broken, is_open, transaction}
use Rattle.sim_model.specs.TransportPhases.Lawful.{Lawful}
use Rattle.sim_model.specs.TransportPhases.Order.{MayCome}
use Rattle.sim_model.specs.TransportPhases.declared.transaction.Kept.{Kept}
use Rattle.sim_model.specs.LogicValues.declared.kinds.Value.{Value}
use Rattle.sim_model.specs.Clean.{times}
use Rattle.sim_model.specs.declared.plain.Goal.{Goal}
use Rattle.sim_model.specs.FlatDesign.Code as code
use Rattle.sim_model.specs.FlatDesign.Code.{Statement, statement_at}
use Rattle.sim_model.specs.FlatDesign.declared.design.Hop.{Hop}
use Rattle.sim_model.specs.Residual as residual_
use Rattle.sim_model.specs.Residual.{Frame, Residual, begun, block, enter, entered, goal, guard, has_goal, in_innermost, leaves, next_of, put, taken_off, settle, skip, statement}
use Rattle.sim_model.specs.Unwinding.{catches, left_by_raise, left_by_unw, left_via, raise, return_marks, returned, unw}
use Rattle.sim_model.specs.Configuration.{Instance, change}
use Rattle.sim_model.specs.Storing.{with_local}
use Rattle.sim_model.specs.declared.plain.Via.{Via}
use Rattle.laws_runs.proofs.Changes.{change-here, change-other, change-none, last-here, last-other, past-end}
use Rattle.laws_runs.specs.Standing.{code_of, IsStanding}
use Rattle.laws_runs.proofs.GoalParts.{Parts, changed_in, residual_in, with_entry_in, left_in, history_in, At, Alike, caller, MayPass, IsOver, IsOuter, IsInner, IsNew, IsEntryOf, IsReturnOf, IsKept, IsSettled, IsKeptBetween, IsKeptByTakings}
use Rattle.laws_runs.proofs.Each.{Each, each-change, each-last, each-map}
use Rattle.laws_runs.proofs.NestingFits.{In}
use Rattle.laws_runs.proofs.Roots.{IsRooted, IsBare, over_skip, over_frame, over_goal, rooted-over, rooted-unbegun}
use Rattle.laws_runs.proofs.NestingKept.{AllRooted, Marked, marked-kept, marked-settled, marked-between, marked-taken}
use Rattle.laws_runs.specs.OpenCalls.{call_of}
use Rattle.laws_runs.proofs.Histories.{history_of, IsHop, hop-stays, call-open, Hopped, same-hopped, kept-here, closes-hopped, opens-hopped}
use Rattle.laws_runs.proofs.OpenedCalls.{call-closed, b_call-closed, call-opened, b_call-opened}
use Rattle.laws_runs.proofs.Vias.{block-vias, settle-vias, put-vias, leaves-vias, returned-vias, local-vias, off-vias, unw-vias, raise-vias, calls-vias, entered-vias, IsCallOver, KindFor, Kinds, block-kinds, settle-kinds, put-kinds, returned-kinds, local-kinds, off-kinds, unw-kinds, raise-kinds, calls-kinds, entered-kinds, leaves-kind, passes-vias}

abbrev pub vias_at : Option Instance → List Via
vias_at None = []
vias_at (Some i) = left_by_unw i.residual

abbrev pub calls_in : List Instance → ℕ → List Via
calls_in is p = vias_at (slice_get is p)

pub record Protocol (x : Parts) : Type 0 where
  pub hopped : Hopped x.hops (calls_in x.instances)
  pub many : (hop : ℕ) (h : Hop) → slice_get x.design.hops hop ≡ Some h → IsHop x.hops hop
  pub kinds : Each (λ p (i : Instance). Kinds x.design i.residual) x.instances

-- with the marks of guards, which tell bodies that are over
pub record Whole (x : Parts) : Type 0 where
  pub marked : Marked x
  pub protocol : Protocol x

-- ---- calls of an instance that changes

calls_changed : (is : List Instance) (q : ℕ) (f : Instance → Instance) (o : Option Instance) → slice_get is q ≡ o → ((i : Instance) → slice_get is q ≡ Some i → left_by_unw (f i).residual ≡ left_by_unw i.residual) → calls_in (change is q f) q ≡ calls_in is q
calls_changed is q f None at same = ap (λ js. calls_in js q) (change-none is q f at)
calls_changed is q f (Some i) at same = ap vias_at (change-here is q f i at) ∙ same i at ∙ sym (ap vias_at at)

calls_same : (is : List Instance) (q : ℕ) (f : Instance → Instance) → ((i : Instance) → slice_get is q ≡ Some i → left_by_unw (f i).residual ≡ left_by_unw i.residual) → (p : ℕ) → calls_in (change is q f) p ≡ calls_in is p
calls_same is q f same p = ⊎_elim
    (λ e. subst (λ n. calls_in (change is q f) n ≡ calls_in is n) (sym e) (calls_changed is q f (slice_get is q) refl same))
    (λ apart. ap vias_at (change-other is q p f apart))
    (cases_eq p q)

calls_here : (is : List Instance) (q : ℕ) (i : Instance) (r : Residual) → slice_get is q ≡ Some i → calls_in (change is q (λ j. record j { residual = r })) q ≡ left_by_unw r
calls_here is q i r at = ap vias_at (change-here is q (λ j. record j { residual = r }) i at)

calls_other : (is : List Instance) (q : ℕ) (f : Instance → Instance) (p : ℕ) → p ≢ q → calls_in (change is q f) p ≡ calls_in is p
calls_other is q f p apart = ap vias_at (change-other is q p f apart)

calls_none : (is : List Instance) (q : ℕ) (f : Instance → Instance) → ((i : Instance) → left_by_unw (f i).residual ≡ []) → calls_in (change is q f) q ≡ []
calls_none is q f none = by (slice_get is q) refl
  where
    by : (o : Option Instance) → slice_get is q ≡ o → calls_in (change is q f) q ≡ []
    by None at = ap (λ js. calls_in js q) (change-none is q f at) ∙ ap vias_at at
    by (Some i) at = ap vias_at (change-here is q f i at) ∙ none i

-- ---- calls that an unwinding leaves

left_stays : (hops : List (List Entry)) (gone : List Via) (k : ℕ) → IsHop hops k → IsHop (left_in hops gone) k
left_stays hops [] k h = h
left_stays hops (v ∷ gone) k h = left_stays (with_entry_in hops v.hop (Left v.payload)) gone k (hop-stays hops v.hop k (Left v.payload) h)

left_hopped : (gone : List Via) (hops : List (List Entry)) (calls others : ℕ → List Via) (q : ℕ) (rest : List Via) → calls q ≡ gone ++ rest → others q ≡ rest → ((p : ℕ) → p ≢ q → others p ≡ calls p) → Hopped hops calls → Hopped (left_in hops gone) others
left_hopped [] hops calls others q rest was now same h = same-hopped hops calls others (λ p. ⊎_elim (λ e. ap others e ∙ now ∙ sym was ∙ ap calls (sym e)) (λ apart. same p apart) (cases_eq p q)) h
left_hopped (v ∷ gone) hops calls others q rest was now same h =
    left_hopped gone (with_entry_in hops v.hop (Left v.payload)) (λ p. cond (p == q) (gone ++ rest) (calls p)) others q rest
    (ap (λ b. cond b (gone ++ rest) (calls q)) (eq-eqb q q refl)) now
    (λ p apart. same p apart ∙ sym (ap (λ b. cond b (gone ++ rest) (calls p)) (ne_eqb p q apart)))
    (closes-hopped hops calls (λ p. cond (p == q) (gone ++ rest) (calls p)) q v (gone ++ rest) was (ap (λ b. cond b (gone ++ rest) (calls q)) (eq-eqb q q refl))
    (λ p apart. ap (λ b. cond b (gone ++ rest) (calls p)) (ne_eqb p q apart)) h (Left v.payload) refl
    (λ none. call-open v.blocking (sym (h.open_ q v (subst (In v) (sym was) (inl refl))).is_it ∙ none)) refl
    (ap (λ (k : Kept). k.call) (kept-here (history_of hops v.hop) (Left v.payload) v.payload refl)))

-- ---- entries of calls and of returns

pub record IsOpening (h : List Entry) (t : ℕ) (blocking handled : Bool) (e : Entry) : Type 0 where
  pub of : transaction e ≡ t
  pub comes : MayCome h e
  pub closed : is_open h t ≡ Nothing
  pub handled_too : handled ≡ true
  pub opens : is_open (h ++ e ∷ []) t ≡ call_of blocking

pub opening : (h : List Entry) → Lawful h → (s : Option Statement) (blocking : Bool) (t : ℕ) (handled : Bool) (e : Entry) → IsEntryOf s blocking t handled e → broken h e ≡ None → IsOpening h t blocking handled e
opening h l (Some (code.b_transport s n d)) blocking t handled e entry unbroken =
    subst (λ x. IsOpening h t blocking handled x) (sym entry.1)
    (let closed = b_call-closed h l t handled (subst (λ x. broken h x ≡ None) entry.1 unbroken) in
    record { of = refl; comes = tt; closed = closed.0; handled_too = closed.1; opens = b_call-opened h t handled ∙ ap call_of (sym entry.0) })
opening h l (Some (code.nb_transport y s n phase d)) blocking t handled e entry unbroken =
    subst (λ x. IsOpening h t blocking handled x) (sym entry.4)
    (let closed = call-closed h l t entry.1 entry.2 entry.3 handled (subst (λ x. broken h x ≡ None) entry.4 unbroken) in
    record { of = refl; comes = tt; closed = closed.0; handled_too = closed.1; opens = call-opened h t entry.1 entry.2 entry.3 handled ∙ ap call_of (sym entry.0) })
opening h l other blocking t handled e entry unbroken = absurd entry

pub record IsClosing (h : List Entry) (t : ℕ) (e : Entry) : Type 0 where
  pub of : transaction e ≡ t
  pub comes : MayCome h e
  pub shuts : is_open (h ++ e ∷ []) t ≡ Nothing

pub closing : (h : List Entry) (s : Option Statement) (blocking : Bool) (t : ℕ) (e : Entry) → IsCallOver s blocking → is_open h t ≡ call_of blocking → IsReturnOf s t e → IsClosing h t e
closing h (Some (code.b_transport s n d)) blocking t e kind open_ entry = subst (IsClosing h t) (sym entry.1) (record { of = refl; comes = open_ ∙ ap call_of kind; shuts = ap (λ (k : Kept). k.call) (kept-here h (BReturn t entry.0) t refl) })
closing h (Some (code.nb_transport y s n phase d)) blocking t e kind open_ entry = subst (IsClosing h t) (sym entry.3) (record { of = refl; comes = open_ ∙ ap call_of kind; shuts = ap (λ (k : Kept). k.call) (kept-here h (Return t entry.0 entry.1 entry.2) t refl) })
closing h other blocking t e kind open_ entry = absurd kind

-- a call that goes out was made by a statement of its kind
call_kind : (s : Option Statement) (via : Via) (handled : Bool) (e : Entry) → IsEntryOf s via.blocking via.payload handled e → KindFor s (Some via)
call_kind (Some (code.b_transport s n d)) via handled e entry = entry.0
call_kind (Some (code.nb_transport y s n phase d)) via handled e entry = entry.0
call_kind other via handled e entry = absurd entry

-- ---- moves

-- the same calls, told by another residual
told_same : (x : Parts) (q : ℕ) (i : Instance) (r : Residual) → slice_get x.instances q ≡ Some i → left_by_unw r ≡ left_by_unw i.residual → (Kinds x.design i.residual → Kinds x.design r) → Protocol x → Protocol (residual_in x q r)
told_same x q i r at same kind h = record {
  hopped = same-hopped x.hops (calls_in x.instances) (calls_in (residual_in x q r).instances) (calls_same x.instances q (λ j. record j { residual = r }) (λ j there. same ∙ ap (λ (z : Instance). left_by_unw z.residual) (same_Some i j (sym at ∙ there)))) h.hopped;
  many = h.many;
  kinds = each-change (λ p (j : Instance). Kinds x.design j.residual) x.instances q (λ j. record j { residual = r }) (λ j there k. kind (subst (λ (z : Instance). Kinds x.design z.residual) (same_Some j i (sym there ∙ at)) k)) h.kinds;
}

told_here : (x : Parts) (q : ℕ) (i : Instance) (r s : Residual) → slice_get x.instances q ≡ Some i → i.residual ≡ r → left_by_unw s ≡ left_by_unw r → (Kinds x.design r → Kinds x.design s) → Protocol x → Protocol (residual_in x q s)
told_here x q i r s at is same kind h = told_same x q i s at (same ∙ ap left_by_unw (sym is)) (λ k. kind (subst (Kinds x.design) is k)) h

kinds_at : (x : Parts) (q : ℕ) (i : Instance) (r : Residual) → slice_get x.instances q ≡ Some i → i.residual ≡ r → Protocol x → Kinds x.design r
kinds_at x q i r at is h = subst (Kinds x.design) is (h.kinds q i at)

same_protocol : (x : Parts) (q : ℕ) (f : Instance → Instance) → ((i : Instance) → Alike i (f i)) → Protocol x → Protocol (changed_in x q f)
same_protocol x q f alike h = record {
  hopped = same-hopped x.hops (calls_in x.instances) (calls_in (change x.instances q f)) (calls_same x.instances q f (λ i at. ap left_by_unw (alike i).residual)) h.hopped;
  many = h.many;
  kinds = each-change (λ p (j : Instance). Kinds x.design j.residual) x.instances q f (λ i at k. subst (Kinds x.design) (sym (alike i).residual) k) h.kinds;
}

-- nothing was open, and nothing is
none_protocol : (x : Parts) (q : ℕ) (f : Instance → Instance) → calls_in x.instances q ≡ [] → ((i : Instance) → left_by_unw (f i).residual ≡ []) → ((i : Instance) → Kinds x.design (f i).residual) → Protocol x → Protocol (changed_in x q f)
none_protocol x q f was none kind h = record {
  hopped = same-hopped x.hops (calls_in x.instances) (calls_in (change x.instances q f))
      (λ p. ⊎_elim (λ e. ap (calls_in (change x.instances q f)) e ∙ calls_none x.instances q f none ∙ sym was ∙ ap (calls_in x.instances) (sym e)) (λ apart. calls_other x.instances q f p apart) (cases_eq p q)) h.hopped;
  many = h.many;
  kinds = each-change (λ p (j : Instance). Kinds x.design j.residual) x.instances q f (λ i at k. kind i) h.kinds;
}

-- of a body that is over, or was not begun, no call is open
bare_vias : (d : _) (b : Bool) (r : Residual) → IsRooted b r → Kinds d r → IsBare r → left_by_unw r ≡ []
bare_vias d b r rooted kinds bare = by bare b rooted kinds
  where
    by : {q : Residual} → IsBare q → (b : Bool) → IsRooted b q → Kinds d q → left_by_unw q ≡ []
    by over_skip b rooted_ kinds_ = refl
    by (over_frame x) true rooted_ kinds_ = own x.via (subst (λ o. KindFor (caller d o) x.via) rooted_.0 kinds_.0)
      where
        own : (o : Option Via) → KindFor None o → left_via o ≡ []
        own None k = refl
        own (Some via) k = absurd k
    by (over_frame x) false rooted_ kinds_ = absurd rooted_
    by (over_goal k) b rooted_ kinds_ = refl

-- an unwinding leaves calls
leaving : (x : Parts) (q : ℕ) (i : Instance) (r s : Residual) (gone : List Via) → slice_get x.instances q ≡ Some i → i.residual ≡ r → left_by_unw r ≡ gone ++ left_by_unw s → (Kinds x.design r → Kinds x.design s) → Protocol x
    → Protocol (record (residual_in x q s) { hops = left_in x.hops gone })
leaving x q i r s gone at is split kind h = record {
  hopped = left_hopped gone x.hops (calls_in x.instances) (calls_in (residual_in x q s).instances) q (left_by_unw s) (ap vias_at at ∙ ap left_by_unw is ∙ split) (calls_here x.instances q i s at) (λ p apart. calls_other x.instances q _ p apart) h.hopped;
  many = λ hop x_hop there. left_stays x.hops gone hop (h.many hop x_hop there);
  kinds = each-change (λ p (j : Instance). Kinds x.design j.residual) x.instances q (λ j. record j { residual = s }) (λ j there k. kind (subst (Kinds x.design) (ap (λ (z : Instance). z.residual) (same_Some j i (sym there ∙ at)) ∙ is) k)) h.kinds;
}

grown_hops : (x : Parts) (hop k : ℕ) (e : Entry) → IsHop x.hops k → IsHop (with_entry_in x.hops hop e) k
grown_hops x hop k e h = hop-stays x.hops hop k e h

module _ (p : ℕ) where
  pub protocol-settled : IsSettled p Protocol
  protocol-settled x i at h = let g = told_same x p i (settle (code_of x.design) i.residual) at (settle-vias (code_of x.design) i.residual) (settle-kinds x.design i.residual) h in record { hopped = g.hopped; many = g.many; kinds = g.kinds }

  pub whole-settled : IsSettled p Whole
  whole-settled x i at h = record { marked = marked-settled p x i at h.marked; protocol = protocol-settled x i at h.protocol }

  calls_protocol : (x : Parts) (i : Instance) (r : Residual) (n : ℕ) → At x p i r → next_of r ≡ statement n → (via : Via) (f : ℕ) (args : List _) (e : Entry) → (y : _) × (slice_get x.design.hops via.hop ≡ Some y)
      → IsEntryOf (statement_at (code_of x.design) n) via.blocking via.payload true e → broken (history_in x via.hop) e ≡ None → Protocol x
      → Protocol (record (residual_in x p (put r (entered (code_of x.design) f args (Some n) (Some via)))) { hops = with_entry_in x.hops via.hop e })
  calls_protocol x i r n at next via f args e hop entry unbroken h =
      let new = entered (code_of x.design) f args (Some n) (Some via) in
      let o = opening (history_in x via.hop) (h.hopped.lawful via.hop) (statement_at (code_of x.design) n) via.blocking via.payload true e entry unbroken in
      let grown : left_by_unw (put r new) ≡ via ∷ left_by_unw r = put-vias r new n next ∙ ap (λ vs. vs ++ left_by_unw r) (entered-vias (code_of x.design) f args (Some n) (Some via)) in
      record {
        hopped = opens-hopped x.hops (calls_in x.instances) (calls_in (residual_in x p (put r new)).instances) p via
            (calls_here x.instances p i (put r new) at.here ∙ grown ∙ ap (λ vs. via ∷ vs) (ap left_by_unw (sym at.is) ∙ sym (ap vias_at at.here))) (λ q apart. calls_other x.instances p _ q apart) h.hopped (h.many via.hop hop.0 hop.1) e o.of o.comes unbroken o.closed o.opens;
        many = λ k y there. grown_hops x via.hop k e (h.many k y there);
        kinds = each-change (λ q (j : Instance). Kinds x.design j.residual) x.instances p (λ j. record j { residual = put r new })
            (λ j there k. put-kinds x.design new (entered-kinds x.design f args (Some n) (Some via) (call_kind (statement_at (code_of x.design) n) via true e entry)) r (kinds_at x p i r at.here at.is h)) h.kinds;
      }

  returns_protocol : (x : Parts) (i : Instance) (r : Residual) (y : Frame) → At x p i r → next_of r ≡ leaves y → (via : Via) (e : Entry) → y.via ≡ Some via
      → IsReturnOf (caller x.design y.call) via.payload e → broken (history_in x via.hop) e ≡ None → Protocol x
      → Protocol (record (residual_in x p (put r skip)) { hops = with_entry_in x.hops via.hop e })
  returns_protocol x i r y at next via e over entry unbroken h =
      let was : calls_in x.instances p ≡ via ∷ left_by_unw (put r skip) = ap vias_at at.here ∙ ap left_by_unw at.is ∙ leaves-vias r y at.tight next ∙ ap (λ o. left_via o ++ left_by_unw (put r skip)) over in
      let kind = subst (KindFor (caller x.design y.call)) over (leaves-kind x.design r y (kinds_at x p i r at.here at.is h) next) in
      let is_open_now = h.hopped.open_ p via (subst (In via) (sym was) (inl refl)) in
      let c = closing (history_in x via.hop) (caller x.design y.call) via.blocking via.payload e kind is_open_now.is_it entry in
      record {
        hopped = closes-hopped x.hops (calls_in x.instances) (calls_in (residual_in x p (put r skip)).instances) p via (left_by_unw (put r skip)) was (calls_here x.instances p i (put r skip) at.here) (λ q apart. calls_other x.instances p _ q apart) h.hopped e c.of c.comes unbroken c.shuts;
        many = λ k z there. grown_hops x via.hop k e (h.many k z there);
        kinds = each-change (λ q (j : Instance). Kinds x.design j.residual) x.instances p (λ j. record j { residual = put r skip }) (λ j there k. put-kinds x.design skip tt r (kinds_at x p i r at.here at.is h)) h.kinds;
      }

  spawned_protocol : (x : Parts) (new : Instance) → new.residual ≡ skip → Protocol x → Protocol (record x { instances = x.instances ++ new ∷ [] })
  spawned_protocol x new none h = record {
    hopped = same-hopped x.hops (calls_in x.instances) (calls_in (x.instances ++ new ∷ []))
        (λ q. ⊎_elim
        (λ e. ap (λ n. calls_in (x.instances ++ new ∷ []) n) e ∙ ap vias_at (last-here x.instances new) ∙ ap left_by_unw none ∙ sym (ap (calls_in x.instances) e ∙ ap vias_at (past-end x.instances)))
        (λ apart. ap vias_at (last-other x.instances new q apart))
        (cases_eq q (length x.instances))) h.hopped;
    many = h.many;
    kinds = each-last (λ q (j : Instance). Kinds x.design j.residual) x.instances new (subst (Kinds x.design) (sym none) tt) h.kinds;
  }

  over_calls : (x : Parts) (i : Instance) (r : Residual) → At x p i r → IsOver (next_of r) → AllRooted x → Protocol x → calls_in x.instances p ≡ []
  over_calls x i r at over rooted h =
      let here_rooted = subst (IsRooted i.started) at.is (rooted p i at.here) in
      ap vias_at at.here ∙ ap left_by_unw at.is ∙ bare_vias x.design i.started r here_rooted (kinds_at x p i r at.here at.is h) (rooted-over i.started r here_rooted at.tight over)

  begins_calls : (x : Parts) (q : ℕ) (i : Instance) → slice_get x.instances q ≡ Some i → (i.started ≡ true → i.residual ≡ skip) → AllRooted x → Protocol x → calls_in x.instances q ≡ []
  begins_calls x q i at left rooted h = ap vias_at at ∙ by i.started refl (rooted q i at)
    where
      by : (b : Bool) → i.started ≡ b → IsRooted b i.residual → left_by_unw i.residual ≡ []
      by true is k = ap left_by_unw (left is)
      by false is k = bare_vias x.design false i.residual k (h.kinds q i at) (rooted-unbegun i.residual k)

  begun_protocol : (x : Parts) (q : ℕ) (i : Instance) (f : ℕ) (args : List Value) → slice_get x.instances q ≡ Some i → (i.started ≡ true → i.residual ≡ skip) → AllRooted x → Protocol x
      → Protocol (changed_in x q (λ j. record j { residual = begun (code_of x.design) f args; started = true }))
  begun_protocol x q i f args at left rooted h = none_protocol x q _ (begins_calls x q i at left rooted h) (λ j. entered-vias (code_of x.design) f args None None) (λ j. entered-kinds x.design f args None None tt) h

  protocol_same : (x : Parts) (q : ℕ) (f : Instance → Instance) → ((i : Instance) → Alike i (f i)) → Protocol x → Protocol (changed_in x q f)
  protocol_same = same_protocol

  protocol_leaves : (x : Parts) (rest : List ℕ) → x.stack ≡ p ∷ rest → ((i : Instance) → slice_get x.instances p ≡ Some i → has_goal i.residual ≡ false) → Protocol x → Protocol (record x { stack = drop 1 x.stack })
  protocol_leaves = λ x more top none h. record { hopped = h.hopped; many = h.many; kinds = h.kinds }

  protocol_pushes : (x : Parts) (q : ℕ) (rest : List ℕ) → x.stack ≡ p ∷ rest → times q x.stack ≡ 0 → Protocol x → Protocol (record x { stack = q ∷ x.stack })
  protocol_pushes = λ x q more top off h. record { hopped = h.hopped; many = h.many; kinds = h.kinds }

  protocol_passes : (x : Parts) (i : Instance) (r : Residual) → At x p i r → MayPass x.design (next_of r) → Protocol x → Protocol (residual_in x p (put r skip))
  protocol_passes = λ x i r at may h. told_here x p i r (put r skip) at.here at.is (passes-vias x.design r (next_of r) refl at.tight (kinds_at x p i r at.here at.is h) may) (put-kinds x.design skip tt r) h

  protocol_puts : (x : Parts) (i : Instance) (r : Residual) (n : ℕ) → At x p i r → next_of r ≡ residual_.statement n → (new : Residual) → IsNew new → Protocol x → Protocol (residual_in x p (put r new))
  protocol_puts = λ x i r n at next new is_new h. told_here x p i r (put r new) at.here at.is (put-vias r new n next ∙ ap (λ vs. vs ++ left_by_unw r) (calls-vias new is_new.calls)) (put-kinds x.design new (calls-kinds x.design new is_new.calls) r) h

  protocol_takes_off : (x : Parts) (i : Instance) (r : Residual) → At x p i r → Protocol x → Protocol (residual_in x p (taken_off r))
  protocol_takes_off = λ x i r at h. told_here x p i r (taken_off r) at.here at.is (off-vias r) (off-kinds x.design r) h

  protocol_guards : (x : Parts) (i : Instance) (r : Residual) (n : ℕ) → At x p i r → next_of r ≡ residual_.statement n → (b u : ℕ) → Protocol x
      → Protocol (record (residual_in x p (put r (guard (block (code_of x.design) b) x.next_guard u))) { marks = x.marks ++ enter p x.next_guard ∷ []; next_guard = x.next_guard + 1 })
  protocol_guards = λ x i r n at next b u h.
      let new = guard (block (code_of x.design) b) x.next_guard u in
      let g = told_here x p i r (put r new) at.here at.is (put-vias r new n next ∙ ap (λ vs. vs ++ left_by_unw r) (block-vias (code_of x.design) b)) (put-kinds x.design new (block-kinds x.design b) r) h in
      record { hopped = g.hopped; many = g.many; kinds = g.kinds }

  protocol_returns : (x : Parts) (i : Instance) (r : Residual) (n : ℕ) → At x p i r → next_of r ≡ residual_.statement n → (v : Option Value) → Protocol x
      → Protocol (record (residual_in x p (returned v r)) { marks = x.marks ++ return_marks p r })
  protocol_returns = λ x i r n at next v h. let g = told_here x p i r (returned v r) at.here at.is (returned-vias v r) (returned-kinds x.design v r) h in record { hopped = g.hopped; many = g.many; kinds = g.kinds }

  protocol_locals : (x : Parts) (n : ℕ) (v : Value) → Protocol x → Protocol (changed_in x p (λ i. record i { residual = in_innermost (with_local n v) i.residual }))
  protocol_locals = λ x n v h. record {
    hopped = same-hopped x.hops (calls_in x.instances) (calls_in (change x.instances p _)) (calls_same x.instances p (λ j. record j { residual = in_innermost (with_local n v) j.residual }) (λ j there. local-vias n v j.residual)) h.hopped;
    many = h.many;
    kinds = each-change (λ q (j : Instance). Kinds x.design j.residual) x.instances p _ (λ j there k. local-kinds x.design n v j.residual k) h.kinds;
  }

  protocol_raises : (x : Parts) (q : ℕ) (i : Instance) (r : Residual) (e : ℕ) (k : Goal) → slice_get x.instances q ≡ Some i → i.residual ≡ r → IsStanding x.design i.home r → has_goal r ≡ false → catches r e ≡ true → IsInner k → Protocol x
      → Protocol (record (residual_in x q (raise (code_of x.design) r e k)) { hops = left_in x.hops (left_by_raise r e) })
  protocol_raises = λ x q i r e k at is stands none caught inner h. leaving x q i r (raise (code_of x.design) r e k) (left_by_raise r e) at is (raise-vias (code_of x.design) e k r) (raise-kinds x.design e k r) h

  protocol_unwinds : (x : Parts) (q : ℕ) (i : Instance) (k : Goal) → slice_get x.instances q ≡ Some i → IsStanding x.design i.home i.residual → has_goal i.residual ≡ false → IsOuter k → Protocol x
      → Protocol (record (residual_in x q (residual_.goal (unw i.residual) k)) { hops = left_in x.hops (left_by_unw i.residual) })
  protocol_unwinds = λ x q i k at stands none outer h.
      leaving x q i i.residual (goal (unw i.residual) k) (left_by_unw i.residual) at refl (sym (append-nil (left_by_unw i.residual)) ∙ ap (λ vs. left_by_unw i.residual ++ vs) (sym (unw-vias i.residual))) (unw-kinds x.design i.residual) h

  protocol_spawned : (x : Parts) (new : Instance) → new.residual ≡ skip → new.started ≡ false → new.ended ≡ false → Protocol x → Protocol (record x { instances = x.instances ++ new ∷ [] })
  protocol_spawned = λ x new none begun_ lives h. spawned_protocol x new none h

  protocol_tries_hop : (x : Parts) (s : Option Statement) (hop t : ℕ) (e : Entry) (blocking : Bool) → IsEntryOf s blocking t false e → broken (history_in x hop) e ≡ None → Protocol x → Protocol (record x { hops = with_entry_in x.hops hop e })
  protocol_tries_hop = λ x s hop t e blocking entry unbroken h. absurd (true≢false (sym (opening (history_in x hop) (h.hopped.lawful hop) s blocking t false e entry unbroken).handled_too))

  protocol_calls_hop : (x : Parts) (i : Instance) (r : Residual) (n : ℕ) → At x p i r → next_of r ≡ residual_.statement n → (via : Via) (f : ℕ) (args : List Value) (e : Entry) → (h : _) × (slice_get x.design.hops via.hop ≡ Some h)
      → IsEntryOf (statement_at (code_of x.design) n) via.blocking via.payload true e → broken (history_in x via.hop) e ≡ None → Protocol x
      → Protocol (record (residual_in x p (put r (entered (code_of x.design) f args (Some n) (Some via)))) { hops = with_entry_in x.hops via.hop e })
  protocol_calls_hop = calls_protocol

  protocol_returns_hop : (x : Parts) (i : Instance) (r : Residual) (y : Frame) → At x p i r → next_of r ≡ residual_.leaves y → (via : Via) (e : Entry) → y.via ≡ Some via
      → IsReturnOf (caller x.design y.call) via.payload e → broken (history_in x via.hop) e ≡ None → Protocol x
      → Protocol (record (residual_in x p (put r skip)) { hops = with_entry_in x.hops via.hop e })
  protocol_returns_hop = returns_protocol

  pub whole-kept : IsKept p Whole
  whole-kept = record {
    same = λ x q f alike h. record { marked = (marked-kept p).same x q f alike h.marked; protocol = protocol_same x q f alike h.protocol };
    leaves = λ x more top none h. record { marked = (marked-kept p).leaves x more top none h.marked; protocol = protocol_leaves x more top none h.protocol };
    pushes = λ x q more top off h. record { marked = (marked-kept p).pushes x q more top off h.marked; protocol = protocol_pushes x q more top off h.protocol };
    passes = λ x i r at may h. record { marked = (marked-kept p).passes x i r at may h.marked; protocol = protocol_passes x i r at may h.protocol };
    puts = λ x i r n at next new is_new h. record { marked = (marked-kept p).puts x i r n at next new is_new h.marked; protocol = protocol_puts x i r n at next new is_new h.protocol };
    takes_off = λ x i r at h. record { marked = (marked-kept p).takes_off x i r at h.marked; protocol = protocol_takes_off x i r at h.protocol };
    guards = λ x i r n at next b u h. record { marked = (marked-kept p).guards x i r n at next b u h.marked; protocol = protocol_guards x i r n at next b u h.protocol };
    returns = λ x i r n at next v h. record { marked = (marked-kept p).returns x i r n at next v h.marked; protocol = protocol_returns x i r n at next v h.protocol };
    locals = λ x n v h. record { marked = (marked-kept p).locals x n v h.marked; protocol = protocol_locals x n v h.protocol };
    raises = λ x q i r e k at is stands none caught inner h. record { marked = (marked-kept p).raises x q i r e k at is stands none caught inner h.marked; protocol = protocol_raises x q i r e k at is stands none caught inner h.protocol };
    unwinds = λ x q i k at stands none outer h. record { marked = (marked-kept p).unwinds x q i k at stands none outer h.marked; protocol = protocol_unwinds x q i k at stands none outer h.protocol };
    over = λ x i r at over f none stays h. record { marked = (marked-kept p).over x i r at over f none stays h.marked; protocol = none_protocol x p f (over_calls x i r at over h.marked.rooted h.protocol) (λ j. ap left_by_unw (none j)) (λ j. subst (Kinds x.design) (sym (none j)) tt) h.protocol };
    begins = λ x q i f args at left h. record { marked = (marked-kept p).begins x q i f args at left h.marked; protocol = begun_protocol x q i f args at left h.marked.rooted h.protocol };
    spawned = λ x new none begun_ lives h. record { marked = (marked-kept p).spawned x new none begun_ lives h.marked; protocol = protocol_spawned x new none begun_ lives h.protocol };
    tries_hop = λ x s hop t e blocking entry unbroken h. record { marked = (marked-kept p).tries_hop x s hop t e blocking entry unbroken h.marked; protocol = protocol_tries_hop x s hop t e blocking entry unbroken h.protocol };
    calls_hop = λ x i r n at next via f args e hop entry unbroken h. record { marked = (marked-kept p).calls_hop x i r n at next via f args e hop entry unbroken h.marked; protocol = protocol_calls_hop x i r n at next via f args e hop entry unbroken h.protocol };
    returns_hop = λ x i r y at next via e over entry unbroken h. record { marked = (marked-kept p).returns_hop x i r y at next via e over entry unbroken h.marked; protocol = protocol_returns_hop x i r y at next via e over entry unbroken h.protocol };
  }

alike_protocol : (x : Parts) (f : Instance → Instance) → ((i : Instance) → Alike i (f i)) → Protocol x → Protocol (record x { instances = map f x.instances })
alike_protocol x f alike h = record {
  hopped = same-hopped x.hops (calls_in x.instances) (calls_in (map f x.instances)) (λ q. ap vias_at (slice_get-map f x.instances q) ∙ mapped f alike (slice_get x.instances q)) h.hopped;
  many = h.many;
  kinds = each-map (λ q (j : Instance). Kinds x.design j.residual) x.instances f (λ q i k. subst (Kinds x.design) (sym (alike i).residual) k) h.kinds;
}
  where
    mapped : (f : Instance → Instance) → ((i : Instance) → Alike i (f i)) → (o : Option Instance) → vias_at (option_map f o) ≡ vias_at o
    mapped f alike None = refl
    mapped f alike (Some i) = ap left_by_unw (alike i).residual

pub whole-between : IsKeptBetween Whole
whole-between = record {
  same = λ x q f alike h. record { marked = marked-between.same x q f alike h.marked; protocol = same_protocol x q f alike h.protocol };
  alike = λ x f alike h. record { marked = marked-between.alike x f alike h.marked; protocol = alike_protocol x f alike h.protocol };
}

pub whole-taken : IsKeptByTakings Whole
whole-taken = record {
  taken = λ x p empty h. record { marked = marked-taken.taken x p empty h.marked; protocol = record { hopped = h.protocol.hopped; many = h.protocol.many; kinds = h.protocol.kinds } };
  begins = λ x q i f args at left h. record { marked = marked-taken.begins x q i f args at left h.marked; protocol = begun_protocol 0 x q i f args at left h.marked.rooted h.protocol };
}
