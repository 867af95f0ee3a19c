-- Where the statement in place runs, what is said of it, and what may be put there.
use Rattle.std.proofs.Common.{◌≡◌, ℕ, true, [], ◌∷◌, slice_get, option_map, unwrap_or, Option, Some, None, refl, sym, ap, ◌∙◌, subst, true≢false}
use Rattle.std.proofs.lemmas.Option.{none-some}
use Rattle.sim_model.specs.FlatDesign.Code.{block_at}
use Rattle.sim_model.specs.FlatDesign.declared.design.Design.{Design}
use Rattle.sim_model.specs.FlatDesign.declared.design.Hop.{Hop}
use Rattle.sim_model.specs.Residual.{Residual, Frame, Next, skip, one, batch, seq, owing, guard, try_, frame, shell, run, goal, frame_or, goal_or, put, or_via, within, in_frame, frame_end, before_goal, next_of, statement, owes, leaves, done, reaches, nothing, has_goal}
use Rattle.sim_model.specs.Reading.{far_home, home_of_via}
use Rattle.sim_model.specs.Clean.{EachInBlock, EachLeft, EachBelowGoal, IsOfUnwindBlock}
use Rattle.sim_model.specs.declared.plain.Goal.{Goal}
use Rattle.sim_model.specs.declared.plain.Via.{Via}
use Rattle.laws_runs.specs.Standing.{code_of, IsUnwindBlock, OfBody, OfUnwindBlock, IsOverHop, IsOrdinary, IsUnwinding, IsStanding, place_of}
use Rattle.laws_runs.proofs.Blocks.{each-weaker, handlers-weaker, unwind-block}
use Rattle.laws_runs.proofs.BodiesKept.{ordinary-standing, followed-ordinary, followed-standing}

-- ---- what comes next inside a call, and before a goal

same_statement : (n m : ℕ) → statement n ≡ statement m → n ≡ m
same_statement n m e = ap number e
  where
    number : Next → ℕ
    number (statement k) = k
    number (owes k q) = k
    number other = 0

no_end : (call : Option ℕ) (x : Frame) (s : ℕ) → frame_end call x ≡ statement s → ⊥
no_end None x s e = cc
no_end (Some t) x s e = cc

in-frame : (n : Next) (x : Frame) (s : ℕ) → in_frame n x ≡ statement s → n ≡ statement s
in-frame (statement t) x s is = is
in-frame (owes t q) x s is = is
in-frame (leaves y) x s is = is
in-frame done x s is = is
in-frame (reaches j) x s is = is
in-frame nothing x s is = absurd (no_end x.call x s is)

before-goal : (n : Next) (k : Goal) (s : ℕ) → before_goal n k ≡ statement s → n ≡ statement s
before-goal (statement t) k s is = is
before-goal (owes t q) k s is = is
before-goal (leaves x) k s is = is
before-goal done k s is = is
before-goal (reaches j) k s is = is
before-goal nothing k s is = cc

in_call : (r : Residual) (x : Frame) (n inside : Residual) (s : ℕ) → next_of r ≡ statement s → frame_or r x n inside ≡ frame inside x
in_call skip x n inside s is = cc
in_call other x n inside s is = refl

in_goal : (r : Residual) (k : Goal) (n inside : Residual) (s : ℕ) → next_of r ≡ statement s → goal_or r k n inside ≡ goal inside k
in_goal skip k n inside s is = cc
in_goal other k n inside s is = refl

-- ---- the instance in which it runs

hop_home : (d : Design) (one_ two : ℕ) (w : Via) (o : Option Hop) → slice_get d.hops w.hop ≡ o → IsOverHop d (Some w) → unwrap_or (option_map (far_home w.forward) o) one_ ≡ unwrap_or (option_map (far_home w.forward) o) two
hop_home d one_ two w None at over = absurd (none-some over.0 (sym at ∙ over.1))
hop_home d one_ two w (Some h) at over = refl

-- inside a call, it is that of the inner call where there is one
pub place-inside : (d : Design) (home : ℕ) (w v : Option Via) → IsOverHop d w → home_of_via d (home_of_via d home v) w ≡ home_of_via d home (or_via w v)
place-inside d home None v over = refl
place-inside d home (Some w) v over = hop_home d (home_of_via d home v) home w (slice_get d.hops w.hop) refl over

or_over : (d : Design) (w v : Option Via) → IsOverHop d w → IsOverHop d v → IsOverHop d (or_via w v)
or_over d None v one_ two = two
or_over d (Some w) v one_ two = one_

over_ordinary : (P : ℕ → ℕ → Type 0) (d : Design) (home : ℕ) (r : Residual) → IsOrdinary P d home r → IsOverHop d (within r)
over_ordinary P d home skip h = tt
over_ordinary P d home (one s) h = tt
over_ordinary P d home (batch s qs) h = tt
over_ordinary P d home (seq r ss) h = over_ordinary P d home r h.0
over_ordinary P d home (owing r g u) h = absurd h
over_ordinary P d home (guard r g u) h = over_ordinary P d home r h.0
over_ordinary P d home (try_ r handlers) h = over_ordinary P d home r h.0
over_ordinary P d home (frame r x) h = or_over d (within r) x.via (over_ordinary P d (home_of_via d home x.via) r h.1) h.0
over_ordinary P d home (shell r x) h = absurd h
over_ordinary P d home (run g r) h = absurd h
over_ordinary P d home (goal r k) h = absurd h

over_unwinding : (d : Design) (home : ℕ) (r : Residual) → IsUnwinding d home r → IsOverHop d (within r)
over_unwinding d home skip h = tt
over_unwinding d home (one s) h = absurd h
over_unwinding d home (batch s qs) h = absurd h
over_unwinding d home (seq r ss) h = absurd h
over_unwinding d home (owing r g u) h = over_unwinding d home r h.0
over_unwinding d home (guard r g u) h = absurd h
over_unwinding d home (try_ r handlers) h = absurd h
over_unwinding d home (frame r x) h = absurd h
over_unwinding d home (shell r x) h = or_over d (within r) x.via (over_unwinding d (home_of_via d home x.via) r h.1) h.0
over_unwinding d home (run g r) h = over_ordinary (OfUnwindBlock d) d home r h
over_unwinding d home (goal r k) h = absurd h

over_standing : (d : Design) (home : ℕ) (r : Residual) → IsStanding d home r → IsOverHop d (within r)
over_standing d home skip h = tt
over_standing d home (one s) h = tt
over_standing d home (batch s qs) h = tt
over_standing d home (seq r ss) h = over_standing d home r h.0
over_standing d home (owing r g u) h = absurd h
over_standing d home (guard r g u) h = over_standing d home r h.0
over_standing d home (try_ r handlers) h = over_standing d home r h.0
over_standing d home (frame r x) h = or_over d (within r) x.via (over_standing d (home_of_via d home x.via) r h.1) h.0
over_standing d home (shell r x) h = absurd h
over_standing d home (run g r) h = absurd h
over_standing d home (goal r k) h = over_unwinding d home r h

-- ---- what is said of the statement in place

pub next-ordinary : (P : ℕ → ℕ → Type 0) (d : Design) (home : ℕ) (r : Residual) (s : ℕ) → IsOrdinary P d home r → next_of r ≡ statement s → P (place_of d home r) s
next-ordinary P d home skip s h is = cc
next-ordinary P d home (one t) s h is = subst (P home) (same_statement t s is) h
next-ordinary P d home (batch t []) s h is = absurd cc
next-ordinary P d home (batch t (q ∷ qs)) s h is = absurd cc
next-ordinary P d home (seq r ss) s h is = next-ordinary P d home r s h.0 is
next-ordinary P d home (owing r g u) s h is = absurd h
next-ordinary P d home (guard r g u) s h is = next-ordinary P d home r s h.0 is
next-ordinary P d home (try_ r handlers) s h is = next-ordinary P d home r s h.0 is
next-ordinary P d home (frame r x) s h is =
    let inner = home_of_via d home x.via in
    subst (λ k. P k s) (place-inside d home (within r) x.via (over_ordinary P d inner r h.1)) (next-ordinary P d inner r s h.1 (in-frame (next_of r) x s is))
next-ordinary P d home (shell r x) s h is = absurd h
next-ordinary P d home (run g r) s h is = absurd h
next-ordinary P d home (goal r k) s h is = absurd h

next_unwinding : (d : Design) (home : ℕ) (r : Residual) (s : ℕ) → IsUnwinding d home r → next_of r ≡ statement s → OfUnwindBlock d (place_of d home r) s
next_unwinding d home skip s h is = cc
next_unwinding d home (one t) s h is = absurd h
next_unwinding d home (batch t qs) s h is = absurd h
next_unwinding d home (seq r ss) s h is = absurd h
next_unwinding d home (owing r g u) s h is = next_unwinding d home r s h.0 is
next_unwinding d home (guard r g u) s h is = absurd h
next_unwinding d home (try_ r handlers) s h is = absurd h
next_unwinding d home (frame r x) s h is = absurd h
next_unwinding d home (shell r x) s h is =
    let inner = home_of_via d home x.via in
    subst (λ k. OfUnwindBlock d k s) (place-inside d home (within r) x.via (over_unwinding d inner r h.1)) (next_unwinding d inner r s h.1 is)
next_unwinding d home (run g r) s h is = next-ordinary (OfUnwindBlock d) d home r s h is
next_unwinding d home (goal r k) s h is = absurd h

-- a statement of a body; and of an unwind block too, where there is a goal
pub record InPlace (d : Design) (home : ℕ) (r : Residual) (s : ℕ) : Type 0 where
  pub of_body : OfBody d (place_of d home r) s
  pub of_unwind : has_goal r ≡ true → OfUnwindBlock d (place_of d home r) s

pub next-standing : (d : Design) (home : ℕ) (r : Residual) (s : ℕ) → IsStanding d home r → next_of r ≡ statement s → InPlace d home r s
next-standing d home skip s h is = cc
next-standing d home (one t) s h is = record { of_body = subst (OfBody d home) (same_statement t s is) h; of_unwind = λ e. absurd (true≢false (sym e)) }
next-standing d home (batch t []) s h is = absurd cc
next-standing d home (batch t (q ∷ qs)) s h is = absurd cc
next-standing d home (seq r ss) s h is = let i = next-standing d home r s h.0 is in record { of_body = i.of_body; of_unwind = i.of_unwind }
next-standing d home (owing r g u) s h is = absurd h
next-standing d home (guard r g u) s h is = let i = next-standing d home r s h.0 is in record { of_body = i.of_body; of_unwind = i.of_unwind }
next-standing d home (try_ r handlers) s h is = let i = next-standing d home r s h.0 is in record { of_body = i.of_body; of_unwind = i.of_unwind }
next-standing d home (frame r x) s h is =
    let inner = home_of_via d home x.via in
    let i = next-standing d inner r s h.1 (in-frame (next_of r) x s is) in
    let same = place-inside d home (within r) x.via (over_standing d inner r h.1) in
    record { of_body = subst (λ k. OfBody d k s) same i.of_body; of_unwind = λ e. subst (λ k. OfUnwindBlock d k s) same (i.of_unwind e) }
next-standing d home (shell r x) s h is = absurd h
next-standing d home (run g r) s h is = absurd h
next-standing d home (goal r k) s h is =
    let u = next_unwinding d home r s h (before-goal (next_of r) k s is) in
    record { of_body = u.of_body; of_unwind = λ e. u }

-- ---- what may be put in its place

pub put-ordinary : (P : ℕ → ℕ → Type 0) (d : Design) (home : ℕ) (r n : Residual) (s : ℕ) → IsOrdinary P d home r → next_of r ≡ statement s → IsOrdinary P d (place_of d home r) n → IsOrdinary P d home (put r n)
put-ordinary P d home skip n s h is new = tt
put-ordinary P d home (one t) n s h is new = new
put-ordinary P d home (batch t qs) n s h is new = new
put-ordinary P d home (seq r ss) n s h is new = followed-ordinary P d home (put r n) ss (put-ordinary P d home r n s h.0 is new) h.1
put-ordinary P d home (owing r g u) n s h is new = absurd h
put-ordinary P d home (guard r g u) n s h is new = (put-ordinary P d home r n s h.0 is new, h.1)
put-ordinary P d home (try_ r handlers) n s h is new = (put-ordinary P d home r n s h.0 is new, h.1)
put-ordinary P d home (frame r x) n s h is new =
    let inner = home_of_via d home x.via in
    let there = in-frame (next_of r) x s is in
    subst (IsOrdinary P d home) (sym (in_call r x n (put r n) s there))
    (h.0, put-ordinary P d inner r n s h.1 there (subst (λ k. IsOrdinary P d k n) (sym (place-inside d home (within r) x.via (over_ordinary P d inner r h.1))) new))
put-ordinary P d home (shell r x) n s h is new = absurd h
put-ordinary P d home (run g r) n s h is new = absurd h
put-ordinary P d home (goal r k) n s h is new = absurd h

put_unwinding : (d : Design) (home : ℕ) (r n : Residual) (s : ℕ) → IsUnwinding d home r → next_of r ≡ statement s → IsOrdinary (OfUnwindBlock d) d (place_of d home r) n → IsUnwinding d home (put r n)
put_unwinding d home skip n s h is new = tt
put_unwinding d home (one t) n s h is new = absurd h
put_unwinding d home (batch t qs) n s h is new = absurd h
put_unwinding d home (seq r ss) n s h is new = absurd h
put_unwinding d home (owing r g u) n s h is new = (put_unwinding d home r n s h.0 is new, h.1)
put_unwinding d home (guard r g u) n s h is new = absurd h
put_unwinding d home (try_ r handlers) n s h is new = absurd h
put_unwinding d home (frame r x) n s h is new = absurd h
put_unwinding d home (shell r x) n s h is new =
    let inner = home_of_via d home x.via in
    (h.0, put_unwinding d inner r n s h.1 is (subst (λ k. IsOrdinary (OfUnwindBlock d) d k n) (sym (place-inside d home (within r) x.via (over_unwinding d inner r h.1))) new))
put_unwinding d home (run g r) n s h is new = put-ordinary (OfUnwindBlock d) d home r n s h is new
put_unwinding d home (goal r k) n s h is new = absurd h

pub put-standing : (d : Design) (home : ℕ) (r n : Residual) (s : ℕ) → IsStanding d home r → next_of r ≡ statement s → IsOrdinary (OfBody d) d (place_of d home r) n
    → (has_goal r ≡ true → IsOrdinary (OfUnwindBlock d) d (place_of d home r) n) → IsStanding d home (put r n)
put-standing d home skip n s h is new under = tt
put-standing d home (one t) n s h is new under = ordinary-standing d home n new
put-standing d home (batch t qs) n s h is new under = ordinary-standing d home n new
put-standing d home (seq r ss) n s h is new under = followed-standing d home (put r n) ss (put-standing d home r n s h.0 is new under) h.1
put-standing d home (owing r g u) n s h is new under = absurd h
put-standing d home (guard r g u) n s h is new under = (put-standing d home r n s h.0 is new under, h.1)
put-standing d home (try_ r handlers) n s h is new under = (put-standing d home r n s h.0 is new under, h.1)
put-standing d home (frame r x) n s h is new under =
    let inner = home_of_via d home x.via in
    let there = in-frame (next_of r) x s is in
    let same = sym (place-inside d home (within r) x.via (over_standing d inner r h.1)) in
    subst (IsStanding d home) (sym (in_call r x n (put r n) s there))
    (h.0, put-standing d inner r n s h.1 there (subst (λ k. IsOrdinary (OfBody d) d k n) same new) (λ e. subst (λ k. IsOrdinary (OfUnwindBlock d) d k n) same (under e)))
put-standing d home (shell r x) n s h is new under = absurd h
put-standing d home (run g r) n s h is new under = absurd h
put-standing d home (goal r k) n s h is new under =
    let there = before-goal (next_of r) k s is in
    subst (IsStanding d home) (sym (in_goal r k n (put r n) s there)) (put_unwinding d home r n s h there (under refl))

-- ---- nothing may always be put there

past_call : (P : ℕ → ℕ → Type 0) (d : Design) (home : ℕ) (r : Residual) (x : Frame) (inside : Residual) → IsOverHop d x.via → IsOrdinary P d (home_of_via d home x.via) inside → IsOrdinary P d home (frame_or r x skip inside)
past_call P d home skip x inside o h = tt
past_call P d home other x inside o h = (o, h)

pub past-ordinary : (P : ℕ → ℕ → Type 0) (d : Design) (home : ℕ) (r : Residual) → IsOrdinary P d home r → IsOrdinary P d home (put r skip)
past-ordinary P d home skip h = tt
past-ordinary P d home (one s) h = tt
past-ordinary P d home (batch s qs) h = tt
past-ordinary P d home (seq r ss) h = followed-ordinary P d home (put r skip) ss (past-ordinary P d home r h.0) h.1
past-ordinary P d home (owing r g u) h = absurd h
past-ordinary P d home (guard r g u) h = (past-ordinary P d home r h.0, h.1)
past-ordinary P d home (try_ r handlers) h = (past-ordinary P d home r h.0, h.1)
past-ordinary P d home (frame r x) h = past_call P d home r x (put r skip) h.0 (past-ordinary P d (home_of_via d home x.via) r h.1)
past-ordinary P d home (shell r x) h = absurd h
past-ordinary P d home (run g r) h = absurd h
past-ordinary P d home (goal r k) h = absurd h

past_unwinding : (d : Design) (home : ℕ) (r : Residual) → IsUnwinding d home r → IsUnwinding d home (put r skip)
past_unwinding d home skip h = tt
past_unwinding d home (one s) h = absurd h
past_unwinding d home (batch s qs) h = absurd h
past_unwinding d home (seq r ss) h = absurd h
past_unwinding d home (owing r g u) h = (past_unwinding d home r h.0, h.1)
past_unwinding d home (guard r g u) h = absurd h
past_unwinding d home (try_ r handlers) h = absurd h
past_unwinding d home (frame r x) h = absurd h
past_unwinding d home (shell r x) h = (h.0, past_unwinding d (home_of_via d home x.via) r h.1)
past_unwinding d home (run g r) h = past-ordinary (OfUnwindBlock d) d home r h
past_unwinding d home (goal r k) h = absurd h

past_frame : (d : Design) (home : ℕ) (r : Residual) (x : Frame) (inside : Residual) → IsOverHop d x.via → IsStanding d (home_of_via d home x.via) inside → IsStanding d home (frame_or r x skip inside)
past_frame d home skip x inside o h = tt
past_frame d home other x inside o h = (o, h)

past_goal : (d : Design) (home : ℕ) (r : Residual) (k : Goal) (inside : Residual) → IsUnwinding d home inside → IsStanding d home (goal_or r k skip inside)
past_goal d home skip k inside h = tt
past_goal d home other k inside h = h

pub past-standing : (d : Design) (home : ℕ) (r : Residual) → IsStanding d home r → IsStanding d home (put r skip)
past-standing d home skip h = tt
past-standing d home (one s) h = tt
past-standing d home (batch s qs) h = tt
past-standing d home (seq r ss) h = followed-standing d home (put r skip) ss (past-standing d home r h.0) h.1
past-standing d home (owing r g u) h = absurd h
past-standing d home (guard r g u) h = (past-standing d home r h.0, h.1)
past-standing d home (try_ r handlers) h = (past-standing d home r h.0, h.1)
past-standing d home (frame r x) h = past_frame d home r x (put r skip) h.0 (past-standing d (home_of_via d home x.via) r h.1)
past-standing d home (shell r x) h = absurd h
past-standing d home (run g r) h = absurd h
past-standing d home (goal r k) h = past_goal d home r k (put r skip) (past_unwinding d home r h)

-- ---- what this says of a clean configuration

of_unwind : (d : Design) (home n : ℕ) → OfUnwindBlock d home n → IsOfUnwindBlock (code_of d) n
of_unwind d home n h = record { function = h.is_block.function; body = h.is_block.body; block = h.is_block.block; unwind = h.unwind; found = h.is_block.found; stands = h.is_block.stands; reached = h.reached }

block_left : (d : Design) (home u : ℕ) → IsUnwindBlock d home u → EachInBlock (IsOfUnwindBlock (code_of d)) (code_of d) u
block_left d home u h = each-weaker (OfUnwindBlock d home) (IsOfUnwindBlock (code_of d)) (of_unwind d home) (block_at (code_of d) u) (unwind-block d home u h)

ordinary_left : (d : Design) (home : ℕ) (r : Residual) → IsOrdinary (OfUnwindBlock d) d home r → EachLeft (IsOfUnwindBlock (code_of d)) (code_of d) r
ordinary_left d home skip h = tt
ordinary_left d home (one s) h = of_unwind d home s h
ordinary_left d home (batch s qs) h = of_unwind d home s h
ordinary_left d home (seq r ss) h = (ordinary_left d home r h.0, each-weaker (OfUnwindBlock d home) (IsOfUnwindBlock (code_of d)) (of_unwind d home) ss h.1)
ordinary_left d home (owing r g u) h = absurd h
ordinary_left d home (guard r g u) h = (ordinary_left d home r h.0, block_left d home u h.1)
ordinary_left d home (try_ r handlers) h = (ordinary_left d home r h.0, handlers-weaker (OfUnwindBlock d home) (IsOfUnwindBlock (code_of d)) (of_unwind d home) (code_of d) handlers h.1)
ordinary_left d home (frame r x) h = ordinary_left d (home_of_via d home x.via) r h.1
ordinary_left d home (shell r x) h = absurd h
ordinary_left d home (run g r) h = absurd h
ordinary_left d home (goal r k) h = absurd h

unwinding_left : (d : Design) (home : ℕ) (r : Residual) → IsUnwinding d home r → EachLeft (IsOfUnwindBlock (code_of d)) (code_of d) r
unwinding_left d home skip h = tt
unwinding_left d home (one s) h = absurd h
unwinding_left d home (batch s qs) h = absurd h
unwinding_left d home (seq r ss) h = absurd h
unwinding_left d home (owing r g u) h = (unwinding_left d home r h.0, block_left d home u h.1)
unwinding_left d home (guard r g u) h = absurd h
unwinding_left d home (try_ r handlers) h = absurd h
unwinding_left d home (frame r x) h = absurd h
unwinding_left d home (shell r x) h = unwinding_left d (home_of_via d home x.via) r h.1
unwinding_left d home (run g r) h = ordinary_left d home r h
unwinding_left d home (goal r k) h = absurd h

pub standing-below : (d : Design) (home : ℕ) (r : Residual) → IsStanding d home r → EachBelowGoal (IsOfUnwindBlock (code_of d)) (code_of d) r
standing-below d home skip h = tt
standing-below d home (one s) h = tt
standing-below d home (batch s qs) h = tt
standing-below d home (seq r ss) h = standing-below d home r h.0
standing-below d home (owing r g u) h = absurd h
standing-below d home (guard r g u) h = standing-below d home r h.0
standing-below d home (try_ r handlers) h = standing-below d home r h.0
standing-below d home (frame r x) h = standing-below d (home_of_via d home x.via) r h.1
standing-below d home (shell r x) h = absurd h
standing-below d home (run g r) h = absurd h
standing-below d home (goal r k) h = unwinding_left d home r h
