-- Each move of what is left of a body keeps it typed.
use Rattle.std.proofs.Common.{◌≡◌, ℕ, List, [], ◌∷◌, Option, Some, None, refl, sym, ◌∙◌, subst}
use Rattle.std.proofs.lemmas.Option.{none-some, same_Some}
use Rattle.sim_model.specs.FlatDesign.Code.{body_at, block_at}
use Rattle.sim_model.specs.FlatDesign.Typed.{EachOf}
use Rattle.sim_model.specs.FlatDesign.Sound.{IsHomeOf}
use Rattle.sim_model.specs.FlatDesign.declared.code.CodeBody.{CodeBody}
use Rattle.sim_model.specs.FlatDesign.declared.code.Handler.{Handler}
use Rattle.sim_model.specs.FlatDesign.declared.design.Design.{Design}
use Rattle.sim_model.specs.Residual.{Residual, Frame, skip, one, batch, seq, owing, guard, try_, frame, shell, run, goal, followed, statements, block, then_on, in_run, then_owed, in_guard, in_try, in_shell, settle, or_frame, innermost, or_via, within, frame_or, goal_or, put, next_of, statement}
use Rattle.sim_model.specs.Reading.{home_of_via}
use Rattle.sim_model.specs.Clean.{EachInBlock, EachInHandlers}
use Rattle.sim_model.specs.declared.plain.Goal.{Goal}
use Rattle.sim_model.specs.declared.plain.Via.{Via}
use Rattle.laws_runs.proofs.MarkLemmas.{before_statement, frame_statement}
use Rattle.laws_runs.specs.Standing.{code_of, IsOverHop, place_of}
use Rattle.laws_runs.proofs.Places.{place-inside}
use Rattle.laws_runs.specs.Contents.{Pairwise, LocalFits}
use Rattle.laws_runs.specs.Frames.{IsInside, FrameFits, LeftFits}

-- ---- the body that the statement in place stands in, by its number

abbrev pub number_or : Option ℕ → Option Frame → Option ℕ
number_or o None = o
number_or o (Some x) = Some x.body

abbrev pub inner : Option ℕ → Residual → Option ℕ
inner o r = number_or o (innermost r)

pub inner-call : (o : Option ℕ) (x : Frame) (w : Option Frame) → number_or (Some x.body) w ≡ number_or o (or_frame w x)
inner-call o x None = refl
inner-call o x (Some y) = refl

pub over-fits : (d : Design) (o : Option ℕ) (home : ℕ) (r : Residual) → LeftFits d o home r → IsOverHop d (within r)
over-fits d o home skip h = tt
over-fits d o home (one s) h = tt
over-fits d o home (batch s qs) h = tt
over-fits d o home (seq r ss) h = over-fits d o home r h.0
over-fits d o home (owing r g u) h = over-fits d o home r h.0
over-fits d o home (guard r g u) h = over-fits d o home r h.0
over-fits d o home (try_ r handlers) h = over-fits d o home r h.0
over-fits d o home (frame r x) h = or_over d (within r) x.via (over-fits d (Some x.body) (home_of_via d home x.via) r h.1) h.0.over
  where
    or_over : (d : Design) (w v : Option Via) → IsOverHop d w → IsOverHop d v → IsOverHop d (or_via w v)
    or_over d None v one_ two = two
    or_over d (Some w) v one_ two = one_
over-fits d o home (shell r x) h = or_over d (within r) x.via (over-fits d (Some x.body) (home_of_via d home x.via) r h.1) h.0.over
  where
    or_over : (d : Design) (w v : Option Via) → IsOverHop d w → IsOverHop d v → IsOverHop d (or_via w v)
    or_over d None v one_ two = two
    or_over d (Some w) v one_ two = one_
over-fits d o home (run g r) h = over-fits d o home r h
over-fits d o home (goal r k) h = over-fits d o home r h

-- inside a call, the body and the instance are those of what is inside it
pub moved-in : (P : Option ℕ → ℕ → Type 0) (d : Design) (o : Option ℕ) (home : ℕ) (r : Residual) (x : Frame) → LeftFits d (Some x.body) (home_of_via d home x.via) r
    → P (inner (Some x.body) r) (place_of d (home_of_via d home x.via) r) → P (number_or o (or_frame (innermost r) x)) (home_of_via d home (or_via (within r) x.via))
moved-in P d o home r x h is =
    let there = subst (λ f. P f (place_of d (home_of_via d home x.via) r)) (inner-call o x (innermost r)) is in
    subst (P (number_or o (or_frame (innermost r) x))) (place-inside d home (within r) x.via (over-fits d (Some x.body) (home_of_via d home x.via) r h)) there

pub moved-out : (P : Option ℕ → ℕ → Type 0) (d : Design) (o : Option ℕ) (home : ℕ) (r : Residual) (x : Frame) → LeftFits d (Some x.body) (home_of_via d home x.via) r
    → P (number_or o (or_frame (innermost r) x)) (home_of_via d home (or_via (within r) x.via)) → P (inner (Some x.body) r) (place_of d (home_of_via d home x.via) r)
moved-out P d o home r x h is =
    let there = subst (λ f. P f (home_of_via d home (or_via (within r) x.via))) (sym (inner-call o x (innermost r))) is in
    subst (P (inner (Some x.body) r)) (sym (place-inside d home (within r) x.via (over-fits d (Some x.body) (home_of_via d home x.via) r h))) there

-- ---- statements, and what follows

module _ (d : Design) (o : Option ℕ) (home : ℕ) where
  pub followed-fits : (r : Residual) (ss : List ℕ) → LeftFits d o home r → EachOf (IsInside d o) ss → LeftFits d o home (followed r ss)
  followed-fits r [] h e = h
  followed-fits r (s ∷ ss) h e = (h, e)

  pub statements-fit : (ss : List ℕ) → EachOf (IsInside d o) ss → LeftFits d o home (statements ss)
  statements-fit [] e = tt
  statements-fit (s ∷ ss) e = followed-fits (one s) ss e.0 e.1

  then_fits : (r : Residual) (ss : List ℕ) → LeftFits d o home r → EachOf (IsInside d o) ss → LeftFits d o home (then_on r ss)
  then_fits skip ss h e = statements-fit ss e
  then_fits other ss h e = followed-fits other ss h e

  run_fits : (g : ℕ) (r : Residual) → LeftFits d o home r → LeftFits d o home (in_run g r)
  run_fits g skip h = tt
  run_fits g other h = h

  owed_fits : (r : Residual) (g u : ℕ) → LeftFits d o home r → EachInBlock (IsInside d o) (code_of d) u → LeftFits d o home (then_owed (code_of d) r g u)
  owed_fits skip g u h e = run_fits g (block (code_of d) u) (statements-fit (block_at (code_of d) u) e)
  owed_fits other g u h e = (h, e)

  guard_fits : (r : Residual) (g u : ℕ) → LeftFits d o home r → EachInBlock (IsInside d o) (code_of d) u → LeftFits d o home (in_guard r g u)
  guard_fits skip g u h e = tt
  guard_fits other g u h e = (h, e)

  try_fits : (r : Residual) (handlers : List Handler) → LeftFits d o home r → EachInHandlers (IsInside d o) (code_of d) handlers → LeftFits d o home (in_try r handlers)
  try_fits skip handlers h e = tt
  try_fits other handlers h e = (h, e)

  shell_fits : (r : Residual) (x : Frame) → FrameFits d o home x → LeftFits d (Some x.body) (home_of_via d home x.via) r → LeftFits d o home (in_shell r x)
  shell_fits skip x f h = tt
  shell_fits other x f h = (f, h)

  frame_or_fits : (r : Residual) (x : Frame) (n inside : Residual) (s : ℕ) → next_of r ≡ statement s → LeftFits d o home (frame inside x) → LeftFits d o home (frame_or r x n inside)
  frame_or_fits skip x n inside s is h = cc
  frame_or_fits other x n inside s is h = h

  goal_or_fits : (r : Residual) (k : Goal) (n inside : Residual) (s : ℕ) → next_of r ≡ statement s → LeftFits d o home inside → LeftFits d o home (goal_or r k n inside)
  goal_or_fits skip k n inside s is h = cc
  goal_or_fits other k n inside s is h = h

  past_frame : (r : Residual) (x : Frame) (inside : Residual) → LeftFits d o home (frame inside x) → LeftFits d o home (frame_or r x skip inside)
  past_frame skip x inside h = tt
  past_frame other x inside h = h

  past_goal : (r : Residual) (k : Goal) (inside : Residual) → LeftFits d o home inside → LeftFits d o home (goal_or r k skip inside)
  past_goal skip k inside h = tt
  past_goal other k inside h = h

-- ---- settling

pub settle-fits : (d : Design) (o : Option ℕ) (home : ℕ) (r : Residual) → LeftFits d o home r → LeftFits d o home (settle (code_of d) r)
settle-fits d o home skip h = tt
settle-fits d o home (one s) h = h
settle-fits d o home (batch s []) h = tt
settle-fits d o home (batch s (q ∷ qs)) h = h
settle-fits d o home (seq r ss) h = then_fits d o home (settle (code_of d) r) ss (settle-fits d o home r h.0) h.1
settle-fits d o home (owing r g u) h = owed_fits d o home (settle (code_of d) r) g u (settle-fits d o home r h.0) h.1
settle-fits d o home (guard r g u) h = guard_fits d o home (settle (code_of d) r) g u (settle-fits d o home r h.0) h.1
settle-fits d o home (try_ r handlers) h = try_fits d o home (settle (code_of d) r) handlers (settle-fits d o home r h.0) h.1
settle-fits d o home (frame r x) h = (h.0, settle-fits d (Some x.body) (home_of_via d home x.via) r h.1)
settle-fits d o home (shell r x) h = shell_fits d o home (settle (code_of d) r) x h.0 (settle-fits d (Some x.body) (home_of_via d home x.via) r h.1)
settle-fits d o home (run g r) h = run_fits d o home g (settle (code_of d) r) (settle-fits d o home r h)
settle-fits d o home (goal r k) h = settle-fits d o home r h

-- ---- what is put in place of a statement

pub put-fits : (d : Design) (o : Option ℕ) (home : ℕ) (r n : Residual) (s : ℕ) → LeftFits d o home r → next_of r ≡ statement s → LeftFits d (inner o r) (place_of d home r) n → LeftFits d o home (put r n)
put-fits d o home skip n s h is new = tt
put-fits d o home (one t) n s h is new = new
put-fits d o home (batch t qs) n s h is new = new
put-fits d o home (seq r ss) n s h is new = followed-fits d o home (put r n) ss (put-fits d o home r n s h.0 is new) h.1
put-fits d o home (owing r g u) n s h is new = (put-fits d o home r n s h.0 is new, h.1)
put-fits d o home (guard r g u) n s h is new = (put-fits d o home r n s h.0 is new, h.1)
put-fits d o home (try_ r handlers) n s h is new = (put-fits d o home r n s h.0 is new, h.1)
put-fits d o home (frame r x) n s h is new =
    let there = frame_statement (next_of r) x s is in
    frame_or_fits d o home r x n (put r n) s there (h.0, put-fits d (Some x.body) (home_of_via d home x.via) r n s h.1 there (moved-out (λ f p. LeftFits d f p n) d o home r x h.1 new))
put-fits d o home (shell r x) n s h is new = (h.0, put-fits d (Some x.body) (home_of_via d home x.via) r n s h.1 is (moved-out (λ f p. LeftFits d f p n) d o home r x h.1 new))
put-fits d o home (run g r) n s h is new = put-fits d o home r n s h is new
put-fits d o home (goal r k) n s h is new =
    let there = before_statement (next_of r) k s is in
    goal_or_fits d o home r k n (put r n) s there (put-fits d o home r n s h there new)

pub past-fits : (d : Design) (o : Option ℕ) (home : ℕ) (r : Residual) → LeftFits d o home r → LeftFits d o home (put r skip)
past-fits d o home skip h = tt
past-fits d o home (one s) h = tt
past-fits d o home (batch s qs) h = tt
past-fits d o home (seq r ss) h = followed-fits d o home (put r skip) ss (past-fits d o home r h.0) h.1
past-fits d o home (owing r g u) h = (past-fits d o home r h.0, h.1)
past-fits d o home (guard r g u) h = (past-fits d o home r h.0, h.1)
past-fits d o home (try_ r handlers) h = (past-fits d o home r h.0, h.1)
past-fits d o home (frame r x) h = past_frame d o home r x (put r skip) (h.0, past-fits d (Some x.body) (home_of_via d home x.via) r h.1)
past-fits d o home (shell r x) h = (h.0, past-fits d (Some x.body) (home_of_via d home x.via) r h.1)
past-fits d o home (run g r) h = past-fits d o home r h
past-fits d o home (goal r k) h = past_goal d o home r k (put r skip) (past-fits d o home r h)

-- ---- the statement in place, and the call that it stands in

same_statement : (n m : ℕ) → statement n ≡ statement m → n ≡ m
same_statement n m e = cc

pub next-inside : (d : Design) (o : Option ℕ) (home : ℕ) (r : Residual) (s : ℕ) → LeftFits d o home r → next_of r ≡ statement s → IsInside d (inner o r) s
next-inside d o home skip s h is = cc
next-inside d o home (one t) s h is = subst (IsInside d o) (same_statement t s is) h
next-inside d o home (batch t []) s h is = absurd cc
next-inside d o home (batch t (q ∷ qs)) s h is = absurd cc
next-inside d o home (seq r ss) s h is = next-inside d o home r s h.0 is
next-inside d o home (owing r g u) s h is = next-inside d o home r s h.0 is
next-inside d o home (guard r g u) s h is = next-inside d o home r s h.0 is
next-inside d o home (try_ r handlers) s h is = next-inside d o home r s h.0 is
next-inside d o home (frame r x) s h is = subst (λ f. IsInside d f s) (inner-call o x (innermost r)) (next-inside d (Some x.body) (home_of_via d home x.via) r s h.1 (frame_statement (next_of r) x s is))
next-inside d o home (shell r x) s h is = subst (λ f. IsInside d f s) (inner-call o x (innermost r)) (next-inside d (Some x.body) (home_of_via d home x.via) r s h.1 is)
next-inside d o home (run g r) s h is = next-inside d o home r s h is
next-inside d o home (goal r k) s h is = next-inside d o home r s h (before_statement (next_of r) k s is)

-- a call that runs in this instance of a module
pub record Runs (d : Design) (place : ℕ) (x : Frame) : Type 0 where
  pub body : CodeBody
  pub found : body_at (code_of d) x.body ≡ Some body
  pub home_of : IsHomeOf d place body
  pub locals_fit : Pairwise LocalFits body.locals x.locals

frame_runs : (d : Design) (o : Option ℕ) (home : ℕ) (x : Frame) → FrameFits d o home x → Runs d (home_of_via d home x.via) x
frame_runs d o home x f = record { body = f.body; found = f.found; home_of = f.home_of; locals_fit = f.locals_fit }

no_frame : (w : Option Frame) (x : Frame) → or_frame w x ≡ None → ⊥
no_frame None x e = cc
no_frame (Some y) x e = cc

frameless : (r : Residual) → innermost r ≡ None → within r ≡ None
frameless skip e = refl
frameless (one s) e = refl
frameless (batch s qs) e = refl
frameless (seq r ss) e = frameless r e
frameless (owing r g u) e = frameless r e
frameless (guard r g u) e = frameless r e
frameless (try_ r handlers) e = frameless r e
frameless (frame r x) e = absurd (no_frame (innermost r) x e)
frameless (shell r x) e = absurd (no_frame (innermost r) x e)
frameless (run g r) e = frameless r e
frameless (goal r k) e = frameless r e

inner_runs : (d : Design) (o : Option ℕ) (home : ℕ) (r : Residual) (y x : Frame) → FrameFits d o home y → LeftFits d (Some y.body) (home_of_via d home y.via) r
    → ((z : Frame) → innermost r ≡ Some z → Runs d (place_of d (home_of_via d home y.via) r) z) → (w : Option Frame) → innermost r ≡ w → or_frame w y ≡ Some x → Runs d (home_of_via d home (or_via (within r) y.via)) x
inner_runs d o home r y x f h later None is e =
    subst (λ v. Runs d (home_of_via d home (or_via v y.via)) x) (sym (frameless r is)) (subst (Runs d (home_of_via d home y.via)) (same_Some y x e) (frame_runs d o home y f))
inner_runs d o home r y x f h later (Some z) is e =
    subst (λ p. Runs d p x) (place-inside d home (within r) y.via (over-fits d (Some y.body) (home_of_via d home y.via) r h)) (later x (is ∙ e))

pub innermost-runs : (d : Design) (o : Option ℕ) (home : ℕ) (r : Residual) (x : Frame) → LeftFits d o home r → innermost r ≡ Some x → Runs d (place_of d home r) x
innermost-runs d o home skip x h is = absurd (none-some x is)
innermost-runs d o home (one s) x h is = absurd (none-some x is)
innermost-runs d o home (batch s qs) x h is = absurd (none-some x is)
innermost-runs d o home (seq r ss) x h is = innermost-runs d o home r x h.0 is
innermost-runs d o home (owing r g u) x h is = innermost-runs d o home r x h.0 is
innermost-runs d o home (guard r g u) x h is = innermost-runs d o home r x h.0 is
innermost-runs d o home (try_ r handlers) x h is = innermost-runs d o home r x h.0 is
innermost-runs d o home (frame r y) x h is = inner_runs d o home r y x h.0 h.1 (λ z at. innermost-runs d (Some y.body) (home_of_via d home y.via) r z h.1 at) (innermost r) refl is
innermost-runs d o home (shell r y) x h is = inner_runs d o home r y x h.0 h.1 (λ z at. innermost-runs d (Some y.body) (home_of_via d home y.via) r z h.1 at) (innermost r) refl is
innermost-runs d o home (run g r) x h is = innermost-runs d o home r x h is
innermost-runs d o home (goal r k) x h is = innermost-runs d o home r x h is
