-- What is left stays typed after a local variable is set, a return, a kill, a reset or an exception; and a call that ends stood
-- where its statement stands.
use Rattle.std.proofs.Common.{◌≡◌, ◌==◌, ℕ, Bool, true, false, cond, List, [], ◌∷◌, slice_get, Option, Some, None, refl, sym, ap, ◌∙◌}
use Rattle.std.proofs.lemmas.Option.{same_Some}
use Rattle.sim_model.specs.LogicValues.declared.kinds.Value.{Value}
use Rattle.sim_model.specs.FlatDesign.Code.{body_at}
use Rattle.sim_model.specs.FlatDesign.Typed.{EachOf}
use Rattle.sim_model.specs.FlatDesign.declared.code.CodeBody.{CodeBody}
use Rattle.sim_model.specs.FlatDesign.declared.code.Handler.{Handler}
use Rattle.sim_model.specs.FlatDesign.declared.code.Local.{Local}
use Rattle.sim_model.specs.FlatDesign.declared.design.Design.{Design}
use Rattle.sim_model.specs.Residual.{Residual, Frame, skip, one, batch, seq, owing, guard, try_, frame, shell, run, goal, followed, changed_if, or_frame, innermost, taken_off, in_innermost, frame_or, goal_or, put, next_of, statement}
use Rattle.sim_model.specs.Unwinding.{unw, catches, handles, handler_block, handler_of, handled, raise}
use Rattle.sim_model.specs.Reading.{home_of_via}
use Rattle.sim_model.specs.Storing.{with_local}
use Rattle.sim_model.specs.Clean.{EachInBlock, EachInHandlers}
use Rattle.sim_model.specs.declared.plain.Goal.{Goal}
use Rattle.laws_runs.proofs.MarkLemmas.{before_statement, frame_statement}
use Rattle.laws_runs.specs.Standing.{code_of}
use Rattle.laws_runs.specs.Contents.{LocalFits}
use Rattle.laws_runs.proofs.TypedLists.{pair-set}
use Rattle.laws_runs.specs.Frames.{IsInside, FrameFits, LeftFits}
use Rattle.laws_runs.proofs.TypedLeft.{number_or, inner, inner-call, followed-fits}

-- ---- unwinding

pub unw-fits : (d : Design) (o : Option ℕ) (home : ℕ) (r : Residual) → LeftFits d o home r → LeftFits d o home (unw r)
unw-fits d o home skip h = tt
unw-fits d o home (one s) h = tt
unw-fits d o home (batch s qs) h = tt
unw-fits d o home (seq r ss) h = unw-fits d o home r h.0
unw-fits d o home (owing r g u) h = (unw-fits d o home r h.0, h.1)
unw-fits d o home (guard r g u) h = (unw-fits d o home r h.0, h.1)
unw-fits d o home (try_ r handlers) h = unw-fits d o home r h.0
unw-fits d o home (frame r x) h = (h.0, unw-fits d (Some x.body) (home_of_via d home x.via) r h.1)
unw-fits d o home (shell r x) h = (h.0, unw-fits d (Some x.body) (home_of_via d home x.via) r h.1)
unw-fits d o home (run g r) h = unw-fits d o home r h
unw-fits d o home (goal r k) h = unw-fits d o home r h

-- ---- exceptions

module _ (d : Design) (e : ℕ) (k : Goal) where
  handler_either : (b : Bool) (o : Option ℕ) (x : Handler) (m : Option Handler) → EachInBlock (IsInside d o) (code_of d) x.block → EachOf (IsInside d o) (handler_block (code_of d) m) → EachOf (IsInside d o) (handler_block (code_of d) (cond b (Some x) m))
  handler_either true o x m one_ two = one_
  handler_either false o x m one_ two = two

  handler_each : (o : Option ℕ) (handlers : List Handler) → EachInHandlers (IsInside d o) (code_of d) handlers → EachOf (IsInside d o) (handler_block (code_of d) (handler_of handlers e))
  handler_each o [] h = tt
  handler_each o (x ∷ xs) h = handler_either (x.exception == e) o x (handler_of xs e) h.0 (handler_each o xs h.1)

  try_raised : (b c : Bool) (o : Option ℕ) (home : ℕ) (r : Residual) (handlers : List Handler) → LeftFits d o home r → EachInHandlers (IsInside d o) (code_of d) handlers → LeftFits d o home (raise (code_of d) r e k)
      → LeftFits d o home (cond b (try_ (raise (code_of d) r e k) handlers) (cond c (handled (code_of d) r handlers e k) (try_ r handlers)))
  try_raised true c o home r handlers h each later = (later, each)
  try_raised false true o home r handlers h each later = followed-fits d o home (goal (unw r) k) (handler_block (code_of d) (handler_of handlers e)) (unw-fits d o home r h) (handler_each o handlers each)
  try_raised false false o home r handlers h each later = (h, each)

  pub raise-fits : (o : Option ℕ) (home : ℕ) (r : Residual) → LeftFits d o home r → LeftFits d o home (raise (code_of d) r e k)
  raise-fits o home skip h = tt
  raise-fits o home (one s) h = h
  raise-fits o home (batch s qs) h = h
  raise-fits o home (seq r ss) h = (raise-fits o home r h.0, h.1)
  raise-fits o home (owing r g u) h = (raise-fits o home r h.0, h.1)
  raise-fits o home (guard r g u) h = (raise-fits o home r h.0, h.1)
  raise-fits o home (try_ r handlers) h = try_raised (catches r e) (handles handlers e) o home r handlers h.0 h.1 (raise-fits o home r h.0)
  raise-fits o home (frame r x) h = (h.0, raise-fits (Some x.body) (home_of_via d home x.via) r h.1)
  raise-fits o home (shell r x) h = (h.0, raise-fits (Some x.body) (home_of_via d home x.via) r h.1)
  raise-fits o home (run g r) h = raise-fits o home r h
  raise-fits o home (goal r j) h = raise-fits o home r h

-- ---- a call that is owed to one instance less

pub off-fits : (d : Design) (o : Option ℕ) (home : ℕ) (r : Residual) → LeftFits d o home r → LeftFits d o home (taken_off r)
off-fits d o home skip h = tt
off-fits d o home (one s) h = h
off-fits d o home (batch s qs) h = h
off-fits d o home (seq r ss) h = (off-fits d o home r h.0, h.1)
off-fits d o home (owing r g u) h = (off-fits d o home r h.0, h.1)
off-fits d o home (guard r g u) h = (off-fits d o home r h.0, h.1)
off-fits d o home (try_ r handlers) h = (off-fits d o home r h.0, h.1)
off-fits d o home (frame r x) h = (h.0, off-fits d (Some x.body) (home_of_via d home x.via) r h.1)
off-fits d o home (shell r x) h = (h.0, off-fits d (Some x.body) (home_of_via d home x.via) r h.1)
off-fits d o home (run g r) h = off-fits d o home r h
off-fits d o home (goal r k) h = off-fits d o home r h

-- ---- a local variable of the call in place gets a value of its type

module _ (d : Design) (f : ℕ) (b : CodeBody) (found : body_at (code_of d) f ≡ Some b) (n : ℕ) (v : Value) (typed : (l : Local) → slice_get b.locals n ≡ Some l → LocalFits l v) where
  set_frame : (o : Option ℕ) (home : ℕ) (x : Frame) → x.body ≡ f → FrameFits d o home x → FrameFits d o home (with_local n v x)
  set_frame o home x same h = record {
    body = h.body;
    found = h.found;
    home_of = h.home_of;
    over = h.over;
    locals_fit =
        let is : b ≡ h.body = same_Some b h.body (sym found ∙ ap (body_at (code_of d)) (sym same) ∙ h.found) in
        pair-set LocalFits h.body.locals x.locals n v (λ l at. typed l (ap (λ (c : CodeBody). slice_get c.locals n) is ∙ at)) h.locals_fit;
    answer_fits = h.answer_fits;
    call_fits = h.call_fits;
  }

  changed_frame : (w : Option Frame) (o : Option ℕ) (home : ℕ) (r : Residual) (x : Frame) → number_or (Some x.body) w ≡ Some f → FrameFits d o home x → LeftFits d (Some x.body) (home_of_via d home x.via) r
      → LeftFits d o home (frame r (changed_if w (with_local n v) x))
  changed_frame None o home r x is h l = (set_frame o home x (same_Some x.body f is) h, l)
  changed_frame (Some y) o home r x is h l = (h, l)

  pub local-fits : (o : Option ℕ) (home : ℕ) (r : Residual) → LeftFits d o home r → inner o r ≡ Some f → LeftFits d o home (in_innermost (with_local n v) r)
  local-fits o home skip h is = tt
  local-fits o home (one s) h is = h
  local-fits o home (batch s qs) h is = h
  local-fits o home (seq r ss) h is = (local-fits o home r h.0 is, h.1)
  local-fits o home (owing r g u) h is = (local-fits o home r h.0 is, h.1)
  local-fits o home (guard r g u) h is = (local-fits o home r h.0 is, h.1)
  local-fits o home (try_ r handlers) h is = (local-fits o home r h.0 is, h.1)
  local-fits o home (frame r x) h is =
      let there = inner-call o x (innermost r) ∙ is in
      changed_frame (innermost r) o home (in_innermost (with_local n v) r) x there h.0 (local-fits (Some x.body) (home_of_via d home x.via) r h.1 there)
  local-fits o home (shell r x) h is =
      let there = inner-call o x (innermost r) ∙ is in
      changed_frame (innermost r) o home (in_innermost (with_local n v) r) x there h.0 (local-fits (Some x.body) (home_of_via d home x.via) r h.1 there)
  local-fits o home (run g r) h is = local-fits o home r h is
  local-fits o home (goal r k) h is = local-fits o home r h is

-- the call in place is of the same body then
number_set : (n : ℕ) (v : Value) (o : Option ℕ) (w : Option Frame) (x : Frame) (w2 : Option Frame) → number_or (Some x.body) w2 ≡ number_or (Some x.body) w → number_or o (or_frame w2 (changed_if w (with_local n v) x)) ≡ number_or o (or_frame w x)
number_set n v o None x None e = refl
number_set n v o None x (Some z) e = e
number_set n v o (Some y) x None e = e
number_set n v o (Some y) x (Some z) e = e

pub local-inner : (n : ℕ) (v : Value) (o : Option ℕ) (r : Residual) → inner o (in_innermost (with_local n v) r) ≡ inner o r
local-inner n v o skip = refl
local-inner n v o (one s) = refl
local-inner n v o (batch s qs) = refl
local-inner n v o (seq r ss) = local-inner n v o r
local-inner n v o (owing r g u) = local-inner n v o r
local-inner n v o (guard r g u) = local-inner n v o r
local-inner n v o (try_ r handlers) = local-inner n v o r
local-inner n v o (frame r x) = number_set n v o (innermost r) x (innermost (in_innermost (with_local n v) r)) (local-inner n v (Some x.body) r)
local-inner n v o (shell r x) = number_set n v o (innermost r) x (innermost (in_innermost (with_local n v) r)) (local-inner n v (Some x.body) r)
local-inner n v o (run g r) = local-inner n v o r
local-inner n v o (goal r k) = local-inner n v o r

-- and where a statement is past
inner_followed : (o : Option ℕ) (r : Residual) (ss : List ℕ) → inner o (followed r ss) ≡ inner o r
inner_followed o r [] = refl
inner_followed o r (s ∷ ss) = refl

frame_left : (o : Option ℕ) (r : Residual) (x : Frame) (inside : Residual) (s : ℕ) → next_of r ≡ statement s → inner o (frame_or r x skip inside) ≡ number_or o (or_frame (innermost inside) x)
frame_left o skip x inside s is = cc
frame_left o other x inside s is = refl

goal_left : (o : Option ℕ) (r : Residual) (k : Goal) (inside : Residual) (s : ℕ) → next_of r ≡ statement s → inner o (goal_or r k skip inside) ≡ inner o inside
goal_left o skip k inside s is = cc
goal_left o other k inside s is = refl

pub past-inner : (o : Option ℕ) (r : Residual) (s : ℕ) → next_of r ≡ statement s → inner o (put r skip) ≡ inner o r
past-inner o skip s is = refl
past-inner o (one t) s is = refl
past-inner o (batch t qs) s is = refl
past-inner o (seq r ss) s is = inner_followed o (put r skip) ss ∙ past-inner o r s is
past-inner o (owing r g u) s is = past-inner o r s is
past-inner o (guard r g u) s is = past-inner o r s is
past-inner o (try_ r handlers) s is = past-inner o r s is
past-inner o (frame r x) s is =
    let there = frame_statement (next_of r) x s is in
    frame_left o r x (put r skip) s there ∙ sym (inner-call o x (innermost (put r skip))) ∙ past-inner (Some x.body) r s there ∙ inner-call o x (innermost r)
past-inner o (shell r x) s is = sym (inner-call o x (innermost (put r skip))) ∙ past-inner (Some x.body) r s is ∙ inner-call o x (innermost r)
past-inner o (run g r) s is = past-inner o r s is
past-inner o (goal r k) s is = let there = before_statement (next_of r) k s is in goal_left o r k (put r skip) s there ∙ past-inner o r s there
