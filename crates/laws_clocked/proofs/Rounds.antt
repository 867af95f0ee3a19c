-- What is left of a clocked thread, at each place of its body: where it is among its own statements, and where an exception unwinds these,
-- each of them is such a one, and the variable that its loop asks is true.
use Rattle.std.proofs.Common.{◌≡◌, ◌⊎◌, ◌==◌, ℕ, Bool, true, false, cond, List, [], ◌∷◌, ◌++◌, slice_get, Option, Some, None, refl, sym, ap, ◌∙◌, subst, inl, inr, ⊎_elim}
use Rattle.laws_runs.specs.LogicValues.declared.kinds.Value.{Value}
use Rattle.laws_runs.specs.FlatDesign.Code.{Arena}
use Rattle.laws_runs.specs.FlatDesign.Typed.{EachOf}
use Rattle.laws_runs.specs.SimModel.Values.{truth}
use Rattle.laws_runs.specs.SimModel.Residual.{Residual, Frame, skip, one, batch, seq, owing, guard, try_, frame, shell, run, goal, followed, then_on, in_try, settle, in_innermost, taken_off, put, next_of, statement}
use Rattle.laws_runs.specs.SimModel.Unwinding.{unw, catches, handles, handler_block, handler_of, handled, raise, returned}
use Rattle.laws_runs.specs.SimModel.Storing.{with_local}
use Rattle.laws_runs.specs.SimModel.declared.plain.Goal.{Goal}
use Rattle.laws_runs.proofs.GoalParts.{IsInner}
use Rattle.laws_clocked.specs.Again.{Around}
use Rattle.laws_clocked.specs.Clocked.{HasClocked}
use Rattle.laws_clocked.proofs.Storing.{IsKeptUnwound}
use Rattle.laws_clocked.proofs.Owned.{IsOwn, EachOwn, settle-own, put-own, past-own, off-own, local-own, returned-own, unw-own, raise-own}

module _ (a : Arena) (b : Around) (e f : ℕ) (has : HasClocked a b e f) where
  abbrev pub Own : Residual → Type 0
  Own r = EachOwn a (IsOwn a b) r

  -- ---- of the thread's own statements some are left, the last at the end

  pub data More (z : Residual) : Type 0 where
    more_left : (r : Residual) (ss : List ℕ) → z ≡ seq r (ss ++ has.last ∷ []) → Own r → EachOf (IsOwn a b) ss → More z

  -- the last alone, or more
  abbrev pub IsUnder : Residual → Type 0
  IsUnder z = (z ≡ one has.last) ⊎ More z

  -- ---- the places of the body

  abbrev pub IsTrue : Frame → Type 0
  IsTrue x = (v : Value) × (slice_get x.locals b.again ≡ Some v) × (truth v ≡ true)

  pub data Place (x : Frame) (q : Residual) : Type 0 where
    at_start : q ≡ seq (one has.declares) (b.loops ∷ []) → Place x q
    at_loop : q ≡ one b.loops → Place x q
    at_try : IsTrue x → q ≡ seq (one b.tries) (b.loops ∷ []) → Place x q
    in_own : (z : Residual) → IsTrue x → IsUnder z → q ≡ seq (try_ z b.handlers) (b.loops ∷ []) → Place x q
    unwound : (z : Residual) (k : Goal) → IsTrue x → IsInner k → Own z → q ≡ seq (goal z k) (b.loops ∷ []) → Place x q
    over : q ≡ skip → Place x q

  -- or the loop comes next once a finished part has fallen away
  abbrev pub Inside : Frame → Residual → Type 0
  Inside x q = Place x q ⊎ (q ≡ seq skip (b.loops ∷ []))

  -- of an instance this is left
  abbrev pub Rounds : Residual → Type 0
  Rounds skip = Unit {0}
  Rounds (goal r k) = Unit {0}
  Rounds (frame q x) = x.body ≡ f → Inside x q
  Rounds other = ⊥

  -- once finished parts have fallen away
  abbrev pub Places : Residual → Type 0
  Places skip = Unit {0}
  Places (goal r k) = Unit {0}
  Places (frame q x) = x.body ≡ f → Place x q
  Places other = ⊥

  -- ---- what each change makes of that

  under_settled : (z : Residual) → IsUnder z → IsUnder (settle a z)
  under_settled z (inl is) = inl (ap (settle a) is)
  under_settled z (inr (more_left r ss is own spares)) = subst (λ y. IsUnder (settle a y)) (sym is) (by (settle a r) (settle-own a (IsOwn a b) r own) ss spares)
    where
      by : (q : Residual) → Own q → (us : List ℕ) → EachOf (IsOwn a b) us → IsUnder (then_on q (us ++ has.last ∷ []))
      by skip o [] s = inl refl
      by skip o (u ∷ []) s = inr (more_left (one u) [] refl s.0 tt)
      by skip o (u ∷ w ∷ us) s = inr (more_left (one u) (w ∷ us) refl s.0 s.1)
      by (one t) o [] s = inr (more_left (one t) [] refl o tt)
      by (one t) o (u ∷ us) s = inr (more_left (one t) (u ∷ us) refl o s)
      by (batch t qs) o [] s = inr (more_left (batch t qs) [] refl o tt)
      by (batch t qs) o (u ∷ us) s = inr (more_left (batch t qs) (u ∷ us) refl o s)
      by (seq y ts) o [] s = inr (more_left (seq y ts) [] refl o tt)
      by (seq y ts) o (u ∷ us) s = inr (more_left (seq y ts) (u ∷ us) refl o s)
      by (owing y g w) o [] s = inr (more_left (owing y g w) [] refl o tt)
      by (owing y g w) o (u ∷ us) s = inr (more_left (owing y g w) (u ∷ us) refl o s)
      by (guard y g w) o [] s = inr (more_left (guard y g w) [] refl o tt)
      by (guard y g w) o (u ∷ us) s = inr (more_left (guard y g w) (u ∷ us) refl o s)
      by (try_ y hs) o [] s = inr (more_left (try_ y hs) [] refl o tt)
      by (try_ y hs) o (u ∷ us) s = inr (more_left (try_ y hs) (u ∷ us) refl o s)
      by (frame y x) o [] s = inr (more_left (frame y x) [] refl o tt)
      by (frame y x) o (u ∷ us) s = inr (more_left (frame y x) (u ∷ us) refl o s)
      by (shell y x) o [] s = inr (more_left (shell y x) [] refl o tt)
      by (shell y x) o (u ∷ us) s = inr (more_left (shell y x) (u ∷ us) refl o s)
      by (run g y) o [] s = inr (more_left (run g y) [] refl o tt)
      by (run g y) o (u ∷ us) s = inr (more_left (run g y) (u ∷ us) refl o s)
      by (goal y k) o [] s = inr (more_left (goal y k) [] refl o tt)
      by (goal y k) o (u ∷ us) s = inr (more_left (goal y k) (u ∷ us) refl o s)

  pub then-more : (r : Residual) (ss us : List ℕ) (t : ℕ) → followed r (ss ++ t ∷ us) ≡ seq r (ss ++ t ∷ us)
  then-more r [] us t = refl
  then-more r (s ∷ ss) us t = refl

  -- what is more than the last stays so
  pub more-put : (z n : Residual) (s : ℕ) → (IsOwn a b s → Own n) → next_of z ≡ statement s → More z → More (put z n)
  more-put z n s new next (more_left r ss is own spares) =
      more_left (put r n) ss (ap (λ y. put y n) is ∙ then-more (put r n) ss [] has.last) (put-own a (IsOwn a b) n s new r (ap next_of (sym is) ∙ next) own) spares

  pub more-past : (z : Residual) → More z → More (put z skip)
  more-past z (more_left r ss is own spares) = more_left (put r skip) ss (ap (λ y. put y skip) is ∙ then-more (put r skip) ss [] has.last) (past-own a (IsOwn a b) r own) spares

  pub more-off : (z : Residual) → More z → More (taken_off z)
  more-off z (more_left r ss is own spares) = more_left (taken_off r) ss (ap taken_off is) (off-own a (IsOwn a b) r own) spares

  pub more-set : (n : ℕ) (v : Value) (z : Residual) → More z → More (in_innermost (with_local n v) z)
  more-set n v z (more_left r ss is own spares) = more_left (in_innermost (with_local n v) r) ss (ap (in_innermost (with_local n v)) is) (local-own a (IsOwn a b) n v r own) spares

  pub more-returned : (v : Option Value) (z : Residual) → More z → More (returned v z)
  more-returned v z (more_left r ss is own spares) = more_left (returned v r) ss (ap (returned v) is) (returned-own a (IsOwn a b) v r own) spares

  raised_under : (n : ℕ) (k : Goal) (z : Residual) → IsUnder z → IsUnder (raise a z n k)
  raised_under n k z (inl is) = inl (ap (λ y. raise a y n k) is)
  raised_under n k z (inr (more_left r ss is own spares)) = inr (more_left (raise a r n k) ss (ap (λ y. raise a y n k) is) (raise-own a (IsOwn a b) n k r own) spares)

  under_own : (z : Residual) → IsUnder z → Own (unw z)
  under_own z (inl is) = subst (λ y. Own (unw y)) (sym is) tt
  under_own z (inr (more_left r ss is own spares)) = subst (λ y. Own (unw y)) (sym is) (unw-own a (IsOwn a b) r own)

  -- the handler of the try does nothing
  one_handler : (n : ℕ) → handler_block a (handler_of b.handlers n) ≡ []
  one_handler n = ap (λ hs. handler_block a (handler_of hs n)) has.only ∙ by (has.handler.exception == n)
    where
      by : (c : Bool) → handler_block a (cond c (Some has.handler) None) ≡ []
      by true = has.does_nothing
      by false = refl

  raised_try : (x : Frame) (z : Residual) (n : ℕ) (k : Goal) → IsTrue x → IsUnder z → IsInner k → (c d : Bool)
      → Place x (seq (cond c (try_ (raise a z n k) b.handlers) (cond d (handled a z b.handlers n k) (try_ z b.handlers))) (b.loops ∷ []))
  raised_try x z n k t u inner true d = in_own (raise a z n k) t (raised_under n k z u) refl
  raised_try x z n k t u inner false true = unwound (unw z) k t inner (under_own z u) (ap (λ ss. seq (followed (goal (unw z) k) ss) (b.loops ∷ [])) (one_handler n))
  raised_try x z n k t u inner false false = in_own z t u refl

  raised_place : (x : Frame) (q : Residual) (n : ℕ) (k : Goal) → IsInner k → Place x q → Place x (raise a q n k)
  raised_place x q n k inner (at_start is) = at_start (ap (λ y. raise a y n k) is)
  raised_place x q n k inner (at_loop is) = at_loop (ap (λ y. raise a y n k) is)
  raised_place x q n k inner (at_try t is) = at_try t (ap (λ y. raise a y n k) is)
  raised_place x q n k inner (in_own z t u is) = subst (λ y. Place x (raise a y n k)) (sym is) (raised_try x z n k t u inner (catches z n) (handles b.handlers n))
  raised_place x q n k inner (unwound z j t outer own is) = unwound (raise a z n k) j t outer (raise-own a (IsOwn a b) n k z own) (ap (λ y. raise a y n k) is)
  raised_place x q n k inner (over is) = over (ap (λ y. raise a y n k) is)

  pub rounds-unwound : IsKeptUnwound a Rounds
  rounds-unwound = record { bare = tt; goals = λ r g. tt; raises = raised }
    where
      raised : (r : Residual) (n : ℕ) (k : Goal) → IsInner k → Rounds r → Rounds (raise a r n k)
      raised skip n k inner h = tt
      raised (goal r j) n k inner h = tt
      raised (frame q x) n k inner h = λ is. ⊎_elim (λ place. inl (raised_place x q n k inner place)) (λ to. inr (ap (λ y. raise a y n k) to)) (h is)
      raised other n k inner h = absurd h

  -- ---- what falls away

  settled_place : (x : Frame) (q : Residual) → Place x q → Place x (settle a q)
  settled_place x q (at_start is) = at_start (ap (settle a) is)
  settled_place x q (at_loop is) = at_loop (ap (settle a) is)
  settled_place x q (at_try t is) = at_try t (ap (settle a) is)
  settled_place x q (in_own z t u is) = subst (Place x) (sym (ap (settle a) is)) (by (settle a z) (under_settled z u))
    where
      by : (y : Residual) → IsUnder y → Place x (then_on (in_try y b.handlers) (b.loops ∷ []))
      by y (inl one_) = subst (λ w. Place x (then_on (in_try w b.handlers) (b.loops ∷ []))) (sym one_) (in_own (one has.last) t (inl refl) refl)
      by y (inr (more_left r ss seq_ own spares)) = subst (λ w. Place x (then_on (in_try w b.handlers) (b.loops ∷ []))) (sym seq_) (in_own (seq r (ss ++ has.last ∷ [])) t (inr (more_left r ss refl own spares)) refl)
  settled_place x q (unwound z k t inner own is) = unwound (settle a z) k t inner (settle-own a (IsOwn a b) z own) (ap (settle a) is)
  settled_place x q (over is) = over (ap (settle a) is)

  pub settled-places : (r : Residual) → Rounds r → Places (settle a r)
  settled-places skip h = tt
  settled-places (goal r k) h = tt
  settled-places (frame q x) h = λ is. ⊎_elim (λ place. settled_place x q place) (λ to. at_loop (ap (settle a) to)) (h is)
  settled-places other h = absurd h
