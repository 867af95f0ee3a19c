-- What is left stays typed after a return; and a call that ends stood where its statement stands.
use Rattle.std.proofs.Common.{◌≡◌, ℕ, Bool, true, false, cond, List, [], ◌∷◌, Option, Some, None, refl, sym, ap, ◌∙◌, subst, true≢false}
use Rattle.std.proofs.lemmas.Option.{same_Some}
use Rattle.sim_model.specs.LogicValues.declared.kinds.Value.{Value}
use Rattle.sim_model.specs.FlatDesign.Code.{body_at}
use Rattle.sim_model.specs.FlatDesign.declared.code.CodeBody.{CodeBody}
use Rattle.sim_model.specs.FlatDesign.declared.design.Design.{Design}
use Rattle.sim_model.specs.Residual.{Residual, Frame, Next, skip, one, batch, seq, owing, guard, try_, frame, shell, run, goal, followed, innermost, frame_or, goal_or, put, in_frame, frame_end, before_goal, next_of, statement, owes, leaves, done, reaches, nothing}
use Rattle.sim_model.specs.Unwinding.{has_exit, returned}
use Rattle.sim_model.specs.Reading.{home_of_via}
use Rattle.sim_model.specs.declared.plain.Goal.{Goal}
use Rattle.laws_runs.proofs.MarkLemmas.{before_statement, frame_statement}
use Rattle.laws_runs.specs.Standing.{code_of, place_of, OfUnwindBlock, IsOrdinary, IsUnwinding, IsStanding}
use Rattle.laws_runs.proofs.Tight.{IsLeft, IsTight}
use Rattle.laws_runs.specs.Frames.{AnswerFits, FrameFits, LeftFits}
use Rattle.laws_runs.proofs.TypedLeft.{number_or, inner, inner-call, moved-in, past-fits}

-- ---- inside a call that is being unwound no statement is in place but in an unwind block

abbrev pub NoStatement : Residual → Type 0
NoStatement r = (s : ℕ) → has_exit r ≡ false → next_of r ≡ statement s → ⊥

abbrev pub IsQuiet : Residual → Type 0
IsQuiet skip = Unit {0}
IsQuiet (one s) = Unit {0}
IsQuiet (batch s qs) = Unit {0}
IsQuiet (seq r ss) = IsQuiet r
IsQuiet (owing r g u) = IsQuiet r
IsQuiet (guard r g u) = IsQuiet r
IsQuiet (try_ r handlers) = IsQuiet r
IsQuiet (frame r x) = IsQuiet r
IsQuiet (shell r x) = NoStatement r × IsQuiet r
IsQuiet (run g r) = IsQuiet r
IsQuiet (goal r k) = IsQuiet r

module _ (d : Design) where
  ordinary_quiet : (P : ℕ → ℕ → Type 0) (home : ℕ) (r : Residual) → IsOrdinary P d home r → IsQuiet r
  ordinary_quiet P home skip h = tt
  ordinary_quiet P home (one s) h = tt
  ordinary_quiet P home (batch s qs) h = tt
  ordinary_quiet P home (seq r ss) h = ordinary_quiet P home r h.0
  ordinary_quiet P home (owing r g u) h = absurd h
  ordinary_quiet P home (guard r g u) h = ordinary_quiet P home r h.0
  ordinary_quiet P home (try_ r handlers) h = ordinary_quiet P home r h.0
  ordinary_quiet P home (frame r x) h = ordinary_quiet P (home_of_via d home x.via) r h.1
  ordinary_quiet P home (shell r x) h = absurd h
  ordinary_quiet P home (run g r) h = absurd h
  ordinary_quiet P home (goal r k) h = absurd h

  unwinding_silent : (home : ℕ) (r : Residual) → IsUnwinding d home r → NoStatement r
  unwinding_silent home skip h s none is = cc
  unwinding_silent home (one t) h s none is = absurd h
  unwinding_silent home (batch t qs) h s none is = absurd h
  unwinding_silent home (seq r ss) h s none is = absurd h
  unwinding_silent home (owing r g u) h s none is = unwinding_silent home r h.0 s none is
  unwinding_silent home (guard r g u) h s none is = absurd h
  unwinding_silent home (try_ r handlers) h s none is = absurd h
  unwinding_silent home (frame r x) h s none is = absurd h
  unwinding_silent home (shell r x) h s none is = unwinding_silent (home_of_via d home x.via) r h.1 s none is
  unwinding_silent home (run g r) h s none is = absurd (true≢false none)
  unwinding_silent home (goal r k) h s none is = absurd h

  unwinding_quiet : (home : ℕ) (r : Residual) → IsUnwinding d home r → IsQuiet r
  unwinding_quiet home skip h = tt
  unwinding_quiet home (one s) h = absurd h
  unwinding_quiet home (batch s qs) h = absurd h
  unwinding_quiet home (seq r ss) h = absurd h
  unwinding_quiet home (owing r g u) h = unwinding_quiet home r h.0
  unwinding_quiet home (guard r g u) h = absurd h
  unwinding_quiet home (try_ r handlers) h = absurd h
  unwinding_quiet home (frame r x) h = absurd h
  unwinding_quiet home (shell r x) h = (unwinding_silent (home_of_via d home x.via) r h.1, unwinding_quiet (home_of_via d home x.via) r h.1)
  unwinding_quiet home (run g r) h = ordinary_quiet (OfUnwindBlock d) home r h
  unwinding_quiet home (goal r k) h = absurd h

  pub standing-quiet : (home : ℕ) (r : Residual) → IsStanding d home r → IsQuiet r
  standing-quiet home skip h = tt
  standing-quiet home (one s) h = tt
  standing-quiet home (batch s qs) h = tt
  standing-quiet home (seq r ss) h = standing-quiet home r h.0
  standing-quiet home (owing r g u) h = absurd h
  standing-quiet home (guard r g u) h = standing-quiet home r h.0
  standing-quiet home (try_ r handlers) h = standing-quiet home r h.0
  standing-quiet home (frame r x) h = standing-quiet (home_of_via d home x.via) r h.1
  standing-quiet home (shell r x) h = absurd h
  standing-quiet home (run g r) h = absurd h
  standing-quiet home (goal r k) h = unwinding_quiet home r h

-- so a statement in place stands in the call that a return ends
exitless : (r : Residual) (s : ℕ) → IsQuiet r → has_exit r ≡ false → next_of r ≡ statement s → innermost r ≡ None
exitless skip s q none is = refl
exitless (one t) s q none is = refl
exitless (batch t qs) s q none is = refl
exitless (seq r ss) s q none is = exitless r s q none is
exitless (owing r g u) s q none is = exitless r s q none is
exitless (guard r g u) s q none is = exitless r s q none is
exitless (try_ r handlers) s q none is = exitless r s q none is
exitless (frame r x) s q none is = absurd (true≢false none)
exitless (shell r x) s q none is = absurd (q.0 s none is)
exitless (run g r) s q none is = absurd (true≢false none)
exitless (goal r k) s q none is = exitless r s q none (before_statement (next_of r) k s is)

-- ---- a return with an answer of the type of the body in place

module _ (d : Design) (f : ℕ) (b : CodeBody) (found : body_at (code_of d) f ≡ Some b) (v : Option Value) (typed : AnswerFits b.answer v) (s : ℕ) where
  answer_frame : (o : Option ℕ) (home : ℕ) (x : Frame) → x.body ≡ f → FrameFits d o home x → FrameFits d o home (record x { answer = v })
  answer_frame o home x same h = record {
    body = h.body;
    found = h.found;
    home_of = h.home_of;
    over = h.over;
    locals_fit = h.locals_fit;
    answer_fits = subst (λ (c : CodeBody). AnswerFits c.answer v) (same_Some b h.body (sym found ∙ ap (body_at (code_of d)) (sym same) ∙ h.found)) typed;
    call_fits = h.call_fits;
  }

  frame_returned : (e : Bool) (o : Option ℕ) (home : ℕ) (r : Residual) (x : Frame) → FrameFits d o home x → LeftFits d (Some x.body) (home_of_via d home x.via) (returned v r) → (e ≡ false → x.body ≡ f)
      → LeftFits d o home (cond e (frame (returned v r) x) (frame skip (record x { answer = v })))
  frame_returned true o home r x h l same = (h, l)
  frame_returned false o home r x h l same = (answer_frame o home x (same refl) h, tt)

  run_returned : (e : Bool) (o : Option ℕ) (home g : ℕ) (r : Residual) → LeftFits d o home (returned v r) → LeftFits d o home (cond e (run g (returned v r)) (run g skip))
  run_returned true o home g r l = l
  run_returned false o home g r l = tt

  pub returned-fits : (o : Option ℕ) (home : ℕ) (r : Residual) → IsQuiet r → LeftFits d o home r → next_of r ≡ statement s → inner o r ≡ Some f → LeftFits d o home (returned v r)
  returned-fits o home skip q h is there = tt
  returned-fits o home (one t) q h is there = h
  returned-fits o home (batch t qs) q h is there = h
  returned-fits o home (seq r ss) q h is there = (returned-fits o home r q h.0 is there, h.1)
  returned-fits o home (owing r g u) q h is there = (returned-fits o home r q h.0 is there, h.1)
  returned-fits o home (guard r g u) q h is there = (returned-fits o home r q h.0 is there, h.1)
  returned-fits o home (try_ r handlers) q h is there = (returned-fits o home r q h.0 is there, h.1)
  returned-fits o home (frame r x) q h is there =
      let next = frame_statement (next_of r) x s is in
      let in_ = inner-call o x (innermost r) ∙ there in
      frame_returned (has_exit r) o home r x h.0 (returned-fits (Some x.body) (home_of_via d home x.via) r q h.1 next in_)
      (λ none. same_Some x.body f (sym (ap (number_or (Some x.body)) (exitless r s q none next)) ∙ in_))
  returned-fits o home (shell r x) q h is there = (h.0, returned-fits (Some x.body) (home_of_via d home x.via) r q.1 h.1 is (inner-call o x (innermost r) ∙ there))
  returned-fits o home (run g r) q h is there = run_returned (has_exit r) o home g r (returned-fits o home r q h is there)
  returned-fits o home (goal r k) q h is there = returned-fits o home r q h (before_statement (next_of r) k s is) there

-- ---- a call that ends, and the place where its statement stands

no_end : (call : Option ℕ) (x : Frame) → frame_end call x ≡ nothing → ⊥
no_end None x e = cc
no_end (Some t) x e = cc

frame_ends : (n : Next) (x : Frame) → in_frame n x ≡ nothing → ⊥
frame_ends (statement t) x e = cc
frame_ends (owes t q) x e = cc
frame_ends (leaves y) x e = cc
frame_ends done x e = cc
frame_ends (reaches k) x e = cc
frame_ends nothing x e = no_end x.call x e

goal_ends : (n : Next) (k : Goal) → before_goal n k ≡ nothing → ⊥
goal_ends (statement t) k e = cc
goal_ends (owes t q) k e = cc
goal_ends (leaves y) k e = cc
goal_ends done k e = cc
goal_ends (reaches j) k e = cc
goal_ends nothing k e = cc

something : (r : Residual) → IsLeft r → IsTight r → next_of r ≡ nothing → ⊥
something skip l t e = absurd l
something (one s) l t e = cc
something (batch s []) l t e = t
something (batch s (q ∷ qs)) l t e = cc
something (seq r ss) l t e = something r t.0 t.1 e
something (owing r g u) l t e = something r t.0 t.1 e
something (guard r g u) l t e = something r t.0 t.1 e
something (try_ r handlers) l t e = something r t.0 t.1 e
something (frame r x) l t e = frame_ends (next_of r) x e
something (shell r x) l t e = something r t.0 t.1 e
something (run g r) l t e = something r t.0 t.1 e
something (goal r k) l t e = goal_ends (next_of r) k e

module _ (d : Design) (x : Frame) where
  -- the call x fits where r is
  abbrev FitsAt : Option ℕ → ℕ → Residual → Type 0
  FitsAt o home r = FrameFits d (inner o r) (place_of d home r) x

  followed_at : (o : Option ℕ) (home : ℕ) (r : Residual) (ss : List ℕ) → FitsAt o home r → FitsAt o home (followed r ss)
  followed_at o home r [] h = h
  followed_at o home r (s ∷ ss) h = h

  ended_call : (call : Option ℕ) (y : Frame) → frame_end call y ≡ leaves x → y ≡ x
  ended_call None y e = cc
  ended_call (Some t) y e = cc

  -- a call in which the call x ends, or that is x
  frame_at : (o : Option ℕ) (home : ℕ) (r : Residual) (y : Frame) (n : Next) → next_of r ≡ n → in_frame n y ≡ leaves x → IsTight r → FrameFits d o home y → LeftFits d (Some y.body) (home_of_via d home y.via) r
      → (next_of r ≡ leaves x → FitsAt (Some y.body) (home_of_via d home y.via) (put r skip)) → FitsAt o home (frame_or r y skip (put r skip))
  frame_at o home r y (statement t) at e tight f h later = cc
  frame_at o home r y (owes t q) at e tight f h later = cc
  frame_at o home skip y (leaves z) at e tight f h later = cc
  frame_at o home r y (leaves z) at e tight f h later = moved-in (λ n p. FrameFits d n p x) d o home (put r skip) y (past-fits d (Some y.body) (home_of_via d home y.via) r h) (later (at ∙ e))
  frame_at o home r y done at e tight f h later = cc
  frame_at o home r y (reaches k) at e tight f h later = cc
  frame_at o home skip y nothing at e tight f h later = subst (FrameFits d o home) (ended_call y.call y e) f
  frame_at o home r y nothing at e tight f h later = absurd (something r tt tight at)

  before_leaves : (n : Next) (k : Goal) → before_goal n k ≡ leaves x → n ≡ leaves x
  before_leaves (statement t) k e = e
  before_leaves (owes t q) k e = e
  before_leaves (leaves y) k e = e
  before_leaves done k e = e
  before_leaves (reaches j) k e = e
  before_leaves nothing k e = cc

  goal_at : (o : Option ℕ) (home : ℕ) (r : Residual) (k : Goal) (inside : Residual) → next_of r ≡ leaves x → FitsAt o home inside → FitsAt o home (goal_or r k skip inside)
  goal_at o home skip k inside e h = cc
  goal_at o home other k inside e h = h

  pub leaves-at : (o : Option ℕ) (home : ℕ) (r : Residual) → IsTight r → LeftFits d o home r → next_of r ≡ leaves x → FitsAt o home (put r skip)
  leaves-at o home skip t h e = cc
  leaves-at o home (one s) t h e = cc
  leaves-at o home (batch s []) t h e = cc
  leaves-at o home (batch s (q ∷ qs)) t h e = cc
  leaves-at o home (seq r ss) t h e = followed_at o home (put r skip) ss (leaves-at o home r t.1 h.0 e)
  leaves-at o home (owing r g u) t h e = leaves-at o home r t.1 h.0 e
  leaves-at o home (guard r g u) t h e = leaves-at o home r t.1 h.0 e
  leaves-at o home (try_ r handlers) t h e = leaves-at o home r t.1 h.0 e
  leaves-at o home (frame r y) t h e = frame_at o home r y (next_of r) refl e t h.0 h.1 (λ is. leaves-at (Some y.body) (home_of_via d home y.via) r t h.1 is)
  leaves-at o home (shell r y) t h e =
      moved-in (λ n p. FrameFits d n p x) d o home (put r skip) y (past-fits d (Some y.body) (home_of_via d home y.via) r h.1) (leaves-at (Some y.body) (home_of_via d home y.via) r t.1 h.1 e)
  leaves-at o home (run g r) t h e = leaves-at o home r t.1 h e
  leaves-at o home (goal r k) t h e = let is = before_leaves (next_of r) k e in goal_at o home r k (put r skip) is (leaves-at o home r t h is)
