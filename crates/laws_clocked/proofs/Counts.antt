-- In every run of a sound design, a thread that stands inside a tick has a local variable that counts it.
use Rattle.std.proofs.Common.{◌≡◌, ◌⊎◌, ℕ, zero, true, false, List, [], ◌∷◌, slice_get, get_or, Option, Some, None, option_map, refl, ap, subst, arith, inl, inr, ⊎_elim}
use Rattle.std.proofs.lemmas.Option.{none-some, slice_get_within, slice_get-get_or}
use Rattle.laws_runs.specs.LogicValues.declared.kinds.Value.{Value}
use Rattle.laws_runs.specs.LogicValues.declared.kinds.Value.TheVariants as value
use Rattle.laws_runs.specs.ModelTree.declared.expressions.BinaryOp.TheVariants as op
use Rattle.laws_runs.specs.FlatDesign.Code as code
use Rattle.laws_runs.specs.FlatDesign.Code.{body_at}
use Rattle.laws_runs.specs.FlatDesign.Typed.{EachOf, NameType}
use Rattle.laws_runs.specs.FlatDesign.Sound.{SoundDesign}
use Rattle.laws_runs.specs.FlatDesign.declared.code.CodeBody.{CodeBody}
use Rattle.laws_runs.specs.FlatDesign.declared.code.Local.{Local}
use Rattle.laws_runs.specs.FlatDesign.declared.names.NameUse.TheVariants as name_use
use Rattle.laws_runs.specs.FlatDesign.declared.design.Design.{Design}
use Rattle.laws_runs.specs.FlatDesign.declared.value_types.ValueType.{ValueType}
use Rattle.laws_runs.specs.FlatDesign.declared.value_types.ValueType.TheVariants as type
use Rattle.laws_runs.specs.SimModel.Residual.{Residual, Frame, seq, statements, settle, or_frame, innermost}
use Rattle.laws_runs.specs.SimModel.Configuration.{Config, arena, start}
use Rattle.laws_runs.specs.SimModel.Runs.{after}
use Rattle.laws_runs.specs.SimModel.declared.plain.Command.{Command}
use Rattle.laws_runs.specs.Standing.{code_of}
use Rattle.laws_clocked.specs.Spots.{Shows, itself, followed_by, guarded, tried, called}
use Rattle.laws_clocked.specs.Ticks.{Tick, HasTick, behind, count_of, left_at, entering, checking, IsIn}
use Rattle.laws_clocked.specs.Turns.{LeavesNormally, IsBehindWait}
use Rattle.laws_clocked.proofs.Counted.{LeavesCounted}
use Rattle.laws_clocked.proofs.Placed.{IsOf, HasRoom, Placed, inner-of, settle-placed}
use Rattle.laws_clocked.proofs.PlacedMoves.{placed-after}

module _ (d : Design) where
  -- ---- the call that shows of what is left

  pub record IsFrame (x : Residual) (w : Option Frame) : Type 0 where
    pub frame : Frame
    pub is : w ≡ Some frame
    pub room : HasRoom d frame
    pub placed : Placed d false (Some frame.body) x

  module _ (x : Residual) (none : innermost x ≡ None) where
    in_frame : (o : Option ℕ) (r : Residual) → Shows x r → Placed d false o r → ((innermost r ≡ None) × Placed d false o x) ⊎ IsFrame x (innermost r)
    in_frame o _ itself h = inl (none, h)
    in_frame o _ (followed_by r ss s) h = in_frame o r s h.0
    in_frame o _ (guarded r g u s) h = in_frame o r s h.0
    in_frame o _ (tried r handlers s) h = in_frame o r s h.0
    in_frame o _ (called r y s) h =
        ⊎_elim
        (λ (k : (innermost r ≡ None) × Placed d false (Some y.body) x). inr (record { frame = y; is = ap (λ w. or_frame w y) k.0; room = h.0; placed = k.1 }))
        (λ (k : IsFrame x (innermost r)). inr (record { frame = k.frame; is = ap (λ w. or_frame w y) k.is; room = k.room; placed = k.placed }))
        (in_frame (Some y.body) r s h.2)

    pub frame-of : (Placed d false None x → ⊥) → (r : Residual) → Shows x r → Placed d false None r → IsFrame x (innermost r)
    frame-of outside r s h = ⊎_elim (λ (k : (innermost r ≡ None) × Placed d false None x). absurd (outside k.1)) (λ k. k) (in_frame None r s h)

  -- ---- a local variable that a statement of the body names

  record HasSlot (f k : ℕ) : Type 0 where
    body : CodeBody
    found : body_at (code_of d) f ≡ Some body
    slot : Local
    there : slice_get body.locals k ≡ Some slot

  has_value : (x : Frame) (k : ℕ) → HasRoom d x → HasSlot x.body k → (v : Value) × (slice_get x.locals k ≡ Some v)
  has_value x k room s =
      let within = slice_get_within s.body.locals k s.slot s.there in
      let many = room s.body s.found in
      (get_or x.locals k (value.Bool false), slice_get-get_or x.locals k (value.Bool false) (omega (arith, within, many)))

  slot_by : (ls : List Local) (k : ℕ) (o : Option Local) (t : ValueType) → slice_get ls k ≡ o → option_map (λ (l : Local). l.value_type) o ≡ Some t → (l : Local) × (slice_get ls k ≡ Some l)
  slot_by ls k None t at is = absurd (none-some t is)
  slot_by ls k (Some l) t at is = (l, at)

  module _ (sound : SoundDesign d) (t : Tick) (has : HasTick (code_of d) t) where
    named_slot : (f : ℕ) (b : CodeBody) (home : ℕ) → body_at (code_of d) f ≡ Some b → (u : ValueType) → NameType (record { design = d; home = home; locals = b.locals }) (name_use.Local t.local) u → HasSlot f t.local
    named_slot f b home found u (inl (s, is, same)) = let l = slot_by b.locals t.local (slice_get b.locals t.local) s refl is in record { body = b; found = found; slot = l.0; there = l.1 }
    named_slot f b home found u (inr (inl (s, offers, same))) = absurd offers
    named_slot f b home found u (inr (inr (is, same))) = let l = slot_by b.locals t.local (slice_get b.locals t.local) type.Process refl is in record { body = b; found = found; slot = l.0; there = l.1 }

    -- where the loop stands
    loop_slot : (f : ℕ) → IsOf d false (Some f) t.loops → HasSlot f t.local
    loop_slot f h =
        let e = code.binary op.Greater (type.Uint has.zero_width) (count_of t) (code.literal has.zero) in
        let typed = sound.typed f h.body h.is_body.home (code.while_ e t.round) h.is_body.found h.is_body.home_of (h.stands (code.while_ e t.round) has.loops) in
        named_slot f h.body h.is_body.home h.is_body.found (type.Uint has.zero_width) typed.0

    -- where the tick stands
    tick_slot : (f : ℕ) → IsOf d false (Some f) t.whole → HasSlot f t.local
    tick_slot f h =
        let inside = inner-of d false (Some f) t.whole t.inside (code.if_ (code.literal (value.Bool true)) t.inside None) h has.whole (zero, omega arith, refl) in
        let both = subst (EachOf (IsOf d false (Some f))) has.inside inside in
        loop_slot f both.1.0

  -- ---- inside a tick

  module _ (sound : SoundDesign d) (t : Tick) (has : HasTick (code_of d) t) (r : Residual) (h : Placed d false None r) where
    abbrev left : Residual
    left = settle (code_of d) r

    pub counted-entering : Shows (left_at t entering) left → (v : Value) × IsIn (code_of d) t entering v r
    counted-entering shows =
        let f = frame-of (left_at t entering) refl (λ k. k) left shows (settle-placed d false None r h) in
        let v = has_value f.frame t.local f.room (tick_slot sound t has f.frame.body f.placed) in
        (v.0, record { shows = shows; frame = f.frame; innermost_is = f.is; counts = v.1 })

    none_inside : (ss : List ℕ) → innermost (seq (statements ss) (t.loops ∷ [])) ≡ None
    none_inside [] = refl
    none_inside (s ∷ []) = refl
    none_inside (s ∷ u ∷ us) = refl

    pub counted-checking : Shows (left_at t (checking t.tests)) left → (v : Value) × IsIn (code_of d) t (checking t.tests) v r
    counted-checking shows =
        let f = frame-of (left_at t (checking t.tests)) (none_inside (behind t t.tests)) (λ k. k.1.0) left shows (settle-placed d false None r h) in
        let v = has_value f.frame t.local f.room (loop_slot sound t has f.frame.body f.placed.1.0) in
        (v.0, record { shows = shows; frame = f.frame; innermost_is = f.is; counts = v.1 })

-- ---- in a run

module _ (design : Design) (script : List Command) (sound : SoundDesign design) (steps : ℕ) (chosen : List ℕ) (c : Config) (reached : after steps chosen (start design script) ≡ Some c) (p : ℕ) (t : Tick) (has : HasTick (arena c) t) where
  pub counted-leaves : (n : ℕ) (choices : List ℕ) (e : Config) → LeavesNormally c e p t n choices → LeavesCounted c e p t n choices
  counted-leaves n choices e l =
      let good = placed-after design script sound steps chosen c reached in
      let count = counted-entering c.design good.0.0 t has l.enters.instance.residual (good.1 p l.enters.instance l.enters.at) l.enters.shows in
      record {
        reached = l.reached;
        old = count.0;
        enters = record { runs = l.enters.runs; evaluates = l.enters.evaluates; rest = l.enters.rest; top = l.enters.top; instance = l.enters.instance; at = l.enters.at; inside = count.1 };
        leaves = l.leaves;
        not_before = l.not_before;
        not_unwound = l.not_unwound;
      }

  -- the count where it is behind the wait
  pub count-behind : (w : IsBehindWait c p t) → (v : Value) × IsIn (arena c) t (checking t.tests) v w.instance.residual
  count-behind w =
      let good = placed-after design script sound steps chosen c reached in
      counted-checking c.design good.0.0 t has w.instance.residual (good.1 p w.instance w.at) w.shows
