-- The marks that settling and a return add close just the guards that go.
use Rattle.std.proofs.Common.{◌≡◌, ◌==◌, ◌||◌, ◌&&◌, not, ℕ, Bool, true, false, cond, List, [], ◌∷◌, ◌++◌, Option, Some, None, refl, sym, ap, ◌∙◌, eq-eqb, ne_eqb, true≢false}
use Rattle.std.specs.List.{list_any}
use Rattle.std.proofs.lemmas.List.Folds.{list_any-append}
use Rattle.sim_model.specs.LogicValues.declared.kinds.Value.{Value}
use Rattle.sim_model.specs.FlatDesign.Code.{Arena, block_at}
use Rattle.sim_model.specs.Residual.{Residual, Frame, Mark, Next, skip, one, batch, seq, owing, guard, try_, frame, shell, run, goal, leave, begin, finish, statements, block, then_on, in_run, then_owed, in_guard, in_try, in_shell, settle, finished_if, begun_if, left_if, fall, in_frame, before_goal, frame_end, next_of, statement, owes, leaves, done, reaches, nothing}
use Rattle.sim_model.specs.Unwinding.{has_exit, returned, guards_left, return_marks}
use Rattle.sim_model.specs.Waits.{holds}
use Rattle.sim_model.specs.Clean.{guards_of, closes}
use Rattle.laws_runs.specs.Shapes.{IsNormal, IsUnwound, IsShaped}
use Rattle.laws_runs.specs.Marks.{still_open, IsDistinct}

-- ---- truth values

or_left : (a b : Bool) → (a || b) ≡ false → a ≡ false
or_left true b h = absurd (true≢false h)
or_left false b h = refl

or_right : (a b : Bool) → (a || b) ≡ false → b ≡ false
or_right true b h = absurd (true≢false h)
or_right false b h = h

neither : (a b : Bool) → a ≡ false → b ≡ false → (a || b) ≡ false
neither a b one_ two = ap (λ x. x || b) one_ ∙ two

and_false : (a : Bool) → (a && false) ≡ false
and_false true = refl
and_false false = refl

-- ---- which guards marks close

-- these marks close no guard but g
abbrev ClosesOnly : ℕ → ℕ → List Mark → Type 0
ClosesOnly p g ms = (n : ℕ) → (n == g) ≡ false → list_any (closes p n) ms ≡ false

another : (p g n : ℕ) → (n == g) ≡ false → ((p == p) && (g == n)) ≡ false
another p g n apart = ap (λ b. (p == p) && b) (ne_eqb g n (λ same. true≢false (sym (eq-eqb n g (sym same)) ∙ apart))) ∙ and_false (p == p)

itself : (p g : ℕ) → (((p == p) && (g == g)) || false) ≡ true
itself p g = ap (λ b. (b && (g == g)) || false) (eq-eqb p p refl) ∙ ap (λ b. b || false) (eq-eqb g g refl)

left_only : (p g : ℕ) → ClosesOnly p g (leave p g ∷ [])
left_only p g n apart = ap (λ b. b || false) (another p g n apart)

finish_only : (p g : ℕ) → ClosesOnly p g (finish p g ∷ [])
finish_only p g n apart = ap (λ b. b || false) (another p g n apart)

left_if_only : (p g : ℕ) (r : Residual) → ClosesOnly p g (left_if p r g)
left_if_only p g skip n apart = left_only p g n apart
left_if_only p g other n apart = refl

finished_if_only : (p g : ℕ) (r : Residual) → ClosesOnly p g (finished_if p g r)
finished_if_only p g skip n apart = finish_only p g n apart
finished_if_only p g other n apart = refl

begun_if_only : (p g : ℕ) (a : Arena) (u : ℕ) (r : Residual) → ClosesOnly p g (begun_if p a r g u)
begun_if_only p g a u skip n apart = finished_if_only p g (block a u) n apart
begun_if_only p g a u other n apart = refl

-- marks behind others close what either closes
open_in : (p n : ℕ) (ms ns : List Mark) → list_any (closes p n) ms ≡ false → list_any (closes p n) ns ≡ false → list_any (closes p n) (ms ++ ns) ≡ false
open_in p n ms ns one_ two = list_any-append (closes p n) ms ns ∙ neither _ _ one_ two

-- the marks of settling close no guard that is not there
pub fall-closes : (p n : ℕ) (a : Arena) (r : Residual) → holds (guards_of r) n ≡ false → list_any (closes p n) (fall p a r) ≡ false
fall-closes p n a skip h = refl
fall-closes p n a (one s) h = refl
fall-closes p n a (batch s qs) h = refl
fall-closes p n a (seq r ss) h = fall-closes p n a r h
fall-closes p n a (owing r g u) h =
    open_in p n (fall p a r) (begun_if p a (settle a r) g u) (fall-closes p n a r (or_right (g == n) _ h)) (begun_if_only p g a u (settle a r) n (other_way g n (or_left (g == n) _ h)))
  where
    other_way : (g n : ℕ) → (g == n) ≡ false → (n == g) ≡ false
    other_way g n apart = ne_eqb n g (λ same. true≢false (sym (eq-eqb g n (sym same)) ∙ apart))
fall-closes p n a (guard r g u) h =
    open_in p n (fall p a r) (left_if p (settle a r) g) (fall-closes p n a r (or_right (g == n) _ h)) (left_if_only p g (settle a r) n (other_way g n (or_left (g == n) _ h)))
  where
    other_way : (g n : ℕ) → (g == n) ≡ false → (n == g) ≡ false
    other_way g n apart = ne_eqb n g (λ same. true≢false (sym (eq-eqb g n (sym same)) ∙ apart))
fall-closes p n a (try_ r handlers) h = fall-closes p n a r h
fall-closes p n a (frame r x) h = fall-closes p n a r h
fall-closes p n a (shell r x) h = fall-closes p n a r h
fall-closes p n a (run g r) h =
    open_in p n (fall p a r) (finished_if p g (settle a r)) (fall-closes p n a r (or_right (g == n) _ h)) (finished_if_only p g (settle a r) n (other_way g n (or_left (g == n) _ h)))
  where
    other_way : (g n : ℕ) → (g == n) ≡ false → (n == g) ≡ false
    other_way g n apart = ne_eqb n g (λ same. true≢false (sym (eq-eqb g n (sym same)) ∙ apart))
fall-closes p n a (goal r k) h = fall-closes p n a r h

-- ---- one guard more, from outside

-- marks that close g alone leave the others as they are
others_open : (p g : ℕ) (ms ns : List Mark) (gs : List ℕ) → ClosesOnly p g ns → holds gs g ≡ false → still_open p (ms ++ ns) gs ≡ still_open p ms gs
others_open p g ms ns [] only h = refl
others_open p g ms ns (n ∷ gs) only h =
    let same : list_any (closes p n) (ms ++ ns) ≡ list_any (closes p n) ms =
    list_any-append (closes p n) ms ns ∙ ap (λ b. list_any (closes p n) ms || b) (only n (or_left (n == g) _ h)) ∙ or_nothing (list_any (closes p n) ms) in
    ap (λ b. cond (not b) (n ∷ still_open p (ms ++ ns) gs) (still_open p (ms ++ ns) gs)) same
    ∙ ap (λ rest. cond (not (list_any (closes p n) ms)) (n ∷ rest) rest) (others_open p g ms ns gs only (or_right (n == g) _ h))
  where
    or_nothing : (b : Bool) → (b || false) ≡ b
    or_nothing true = refl
    or_nothing false = refl

outer_open : (p g : ℕ) (ms ns : List Mark) (gs out : List ℕ) (b : Bool) → list_any (closes p g) ms ≡ false → holds gs g ≡ false → ClosesOnly p g ns → list_any (closes p g) ns ≡ b → still_open p ms gs ≡ out
    → still_open p (ms ++ ns) (g ∷ gs) ≡ cond (not b) (g ∷ out) out
outer_open p g ms ns gs out b unclosed apart only is inner =
    ap (λ x. cond (not x) (g ∷ still_open p (ms ++ ns) gs) (still_open p (ms ++ ns) gs)) (list_any-append (closes p g) ms ns ∙ ap (λ x. x || list_any (closes p g) ns) unclosed ∙ is)
    ∙ ap (λ rest. cond (not b) (g ∷ rest) rest) (others_open p g ms ns gs only apart ∙ inner)

-- ---- settling

module _ (p : ℕ) (a : Arena) where
  guards-statements : (ss : List ℕ) → guards_of (statements ss) ≡ []
  guards-statements [] = refl
  guards-statements (s ∷ []) = refl
  guards-statements (s ∷ t ∷ ss) = refl

  then_guards : (r : Residual) (ss : List ℕ) → guards_of (then_on r ss) ≡ guards_of r
  then_guards skip ss = guards-statements ss
  then_guards (one s) [] = refl
  then_guards (batch s qs) [] = refl
  then_guards (one s) (t ∷ ss) = refl
  then_guards (batch s qs) (t ∷ ss) = refl
  then_guards (seq r us) [] = refl
  then_guards (seq r us) (t ∷ ss) = refl
  then_guards (owing r g u) [] = refl
  then_guards (owing r g u) (t ∷ ss) = refl
  then_guards (guard r g u) [] = refl
  then_guards (guard r g u) (t ∷ ss) = refl
  then_guards (try_ r handlers) [] = refl
  then_guards (try_ r handlers) (t ∷ ss) = refl
  then_guards (frame r x) [] = refl
  then_guards (frame r x) (t ∷ ss) = refl
  then_guards (shell r x) [] = refl
  then_guards (shell r x) (t ∷ ss) = refl
  then_guards (run g r) [] = refl
  then_guards (run g r) (t ∷ ss) = refl
  then_guards (goal r k) [] = refl
  then_guards (goal r k) (t ∷ ss) = refl

  in_try_guards : (r : Residual) (handlers : List _) → guards_of (in_try r handlers) ≡ guards_of r
  in_try_guards skip handlers = refl
  in_try_guards other handlers = refl

  in_shell_guards : (r : Residual) (x : Frame) → guards_of (in_shell r x) ≡ guards_of r
  in_shell_guards skip x = refl
  in_shell_guards other x = refl

  module _ (g : ℕ) (ms : List Mark) (gs : List ℕ) (unclosed : list_any (closes p g) ms ≡ false) (apart : holds gs g ≡ false) where
    guard_open : (r : Residual) (u : ℕ) → still_open p ms gs ≡ guards_of r → still_open p (ms ++ left_if p r g) (g ∷ gs) ≡ guards_of (in_guard r g u)
    guard_open skip u inner = outer_open p g ms (leave p g ∷ []) gs [] true unclosed apart (left_only p g) (itself p g) inner
    guard_open other u inner = outer_open p g ms [] gs (guards_of other) false unclosed apart (λ n e. refl) refl inner

    run_open : (r : Residual) → still_open p ms gs ≡ guards_of r → still_open p (ms ++ finished_if p g r) (g ∷ gs) ≡ guards_of (in_run g r)
    run_open skip inner = outer_open p g ms (finish p g ∷ []) gs [] true unclosed apart (finish_only p g) (itself p g) inner
    run_open other inner = outer_open p g ms [] gs (guards_of other) false unclosed apart (λ n e. refl) refl inner

    -- an unwind block that begins, and is finished where it is empty
    begun_open : (ss : List ℕ) → still_open p ms gs ≡ [] → still_open p (ms ++ begin p g ∷ finished_if p g (statements ss)) (g ∷ gs) ≡ guards_of (in_run g (statements ss))
    begun_open [] inner = outer_open p g ms (begin p g ∷ finish p g ∷ []) gs [] true unclosed apart (finish_only p g) (itself p g) inner
    begun_open (s ∷ []) inner = outer_open p g ms (begin p g ∷ []) gs [] false unclosed apart (λ n e. refl) refl inner
    begun_open (s ∷ t ∷ ss) inner = outer_open p g ms (begin p g ∷ []) gs [] false unclosed apart (λ n e. refl) refl inner

    owed_open : (r : Residual) (u : ℕ) → still_open p ms gs ≡ guards_of r → still_open p (ms ++ begun_if p a r g u) (g ∷ gs) ≡ guards_of (then_owed a r g u)
    owed_open skip u inner = begun_open (block_at a u) inner
    owed_open other u inner = outer_open p g ms [] gs (guards_of other) false unclosed apart (λ n e. refl) refl inner

  pub fall-open : (r : Residual) → IsDistinct (guards_of r) → still_open p (fall p a r) (guards_of r) ≡ guards_of (settle a r)
  fall-open skip d = refl
  fall-open (one s) d = refl
  fall-open (batch s []) d = refl
  fall-open (batch s (q ∷ qs)) d = refl
  fall-open (seq r ss) d = fall-open r d ∙ sym (then_guards (settle a r) ss)
  fall-open (owing r g u) d = owed_open g (fall p a r) (guards_of r) (fall-closes p g a r d.0) d.0 (settle a r) u (fall-open r d.1)
  fall-open (guard r g u) d = guard_open g (fall p a r) (guards_of r) (fall-closes p g a r d.0) d.0 (settle a r) u (fall-open r d.1)
  fall-open (try_ r handlers) d = fall-open r d ∙ sym (in_try_guards (settle a r) handlers)
  fall-open (frame r x) d = fall-open r d
  fall-open (shell r x) d = fall-open r d ∙ sym (in_shell_guards (settle a r) x)
  fall-open (run g r) d = run_open g (fall p a r) (guards_of r) (fall-closes p g a r d.0) d.0 (settle a r) (fall-open r d.1)
  fall-open (goal r k) d = fall-open r d

-- ---- a return

-- what has no exit and a statement in place is not being unwound
unwound_still : (r : Residual) (s : ℕ) → IsUnwound r → has_exit r ≡ false → next_of r ≡ statement s → ⊥
unwound_still skip s h none is = cc
unwound_still (one t) s h none is = h
unwound_still (batch t qs) s h none is = h
unwound_still (seq r ss) s h none is = h
unwound_still (owing r g u) s h none is = unwound_still r s h none is
unwound_still (guard r g u) s h none is = h
unwound_still (try_ r handlers) s h none is = h
unwound_still (frame r x) s h none is = h
unwound_still (shell r x) s h none is = unwound_still r s h none is
unwound_still (run g r) s h none is = true≢false none
unwound_still (goal r k) s h none is = h

pub before_statement : (n : Next) (k : _) (s : ℕ) → before_goal n k ≡ statement s → n ≡ statement s
before_statement (statement t) k s is = is
before_statement (owes t q) k s is = is
before_statement (leaves x) k s is = is
before_statement done k s is = is
before_statement (reaches j) k s is = is
before_statement nothing k s is = cc

pub frame_statement : (n : Next) (x : Frame) (s : ℕ) → in_frame n x ≡ statement s → n ≡ statement s
frame_statement (statement t) x s is = is
frame_statement (owes t q) x s is = is
frame_statement (leaves y) x s is = is
frame_statement done x s is = is
frame_statement (reaches j) x s is = is
frame_statement nothing x s is = absurd (ends x.call is)
  where
    ends : (call : Option ℕ) → frame_end call x ≡ statement s → ⊥
    ends None e = cc
    ends (Some t) e = cc

inner_normal : (r : Residual) (s : ℕ) → IsShaped r → has_exit r ≡ false → next_of r ≡ statement s → IsNormal r
inner_normal skip s h none is = tt
inner_normal (one t) s h none is = tt
inner_normal (batch t qs) s h none is = tt
inner_normal (seq r ss) s h none is = inner_normal r s h none is
inner_normal (owing r g u) s h none is = absurd h
inner_normal (guard r g u) s h none is = inner_normal r s h none is
inner_normal (try_ r handlers) s h none is = inner_normal r s h none is
inner_normal (frame r x) s h none is = absurd (true≢false none)
inner_normal (shell r x) s h none is = absurd h
inner_normal (run g r) s h none is = absurd h
inner_normal (goal r k) s h none is = absurd (unwound_still r s h none (before_statement (next_of r) k s is))

-- the marks of what falls away close no guard that is not there
left_closes : (p n : ℕ) (r : Residual) → holds (guards_of r) n ≡ false → list_any (closes p n) (guards_left p r) ≡ false
left_closes p n skip h = refl
left_closes p n (one s) h = refl
left_closes p n (batch s qs) h = refl
left_closes p n (seq r ss) h = left_closes p n r h
left_closes p n (owing r g u) h = left_closes p n r (or_right (g == n) _ h)
left_closes p n (guard r g u) h =
    open_in p n (guards_left p r) (leave p g ∷ []) (left_closes p n r (or_right (g == n) _ h)) (left_only p g n (other_way g n (or_left (g == n) _ h)))
  where
    other_way : (g n : ℕ) → (g == n) ≡ false → (n == g) ≡ false
    other_way g n apart = ne_eqb n g (λ same. true≢false (sym (eq-eqb g n (sym same)) ∙ apart))
left_closes p n (try_ r handlers) h = left_closes p n r h
left_closes p n (frame r x) h = left_closes p n r h
left_closes p n (shell r x) h = left_closes p n r h
left_closes p n (run g r) h = left_closes p n r (or_right (g == n) _ h)
left_closes p n (goal r k) h = left_closes p n r h

closes_if : (b : Bool) (p n : ℕ) (ms ns : List Mark) → list_any (closes p n) ms ≡ false → list_any (closes p n) ns ≡ false → list_any (closes p n) (cond b ms ns) ≡ false
closes_if true p n ms ns one_ two = one_
closes_if false p n ms ns one_ two = two

return_closes : (p n : ℕ) (r : Residual) → holds (guards_of r) n ≡ false → list_any (closes p n) (return_marks p r) ≡ false
return_closes p n skip h = refl
return_closes p n (one s) h = refl
return_closes p n (batch s qs) h = refl
return_closes p n (seq r ss) h = return_closes p n r h
return_closes p n (owing r g u) h = return_closes p n r (or_right (g == n) _ h)
return_closes p n (guard r g u) h = return_closes p n r (or_right (g == n) _ h)
return_closes p n (try_ r handlers) h = return_closes p n r h
return_closes p n (frame r x) h = closes_if (has_exit r) p n (return_marks p r) (guards_left p r) (return_closes p n r h) (left_closes p n r h)
return_closes p n (shell r x) h = return_closes p n r h
return_closes p n (run g r) h = closes_if (has_exit r) p n (return_marks p r) (guards_left p r) (return_closes p n r (or_right (g == n) _ h)) (left_closes p n r (or_right (g == n) _ h))
return_closes p n (goal r k) h = return_closes p n r h

head_open : (p g : ℕ) (ms : List Mark) (gs out : List ℕ) → list_any (closes p g) ms ≡ false → still_open p ms gs ≡ out → still_open p ms (g ∷ gs) ≡ g ∷ out
head_open p g ms gs out unclosed inner = ap (λ b. cond (not b) (g ∷ still_open p ms gs) (still_open p ms gs)) unclosed ∙ ap (λ rest. g ∷ rest) inner

-- of what is not being unwound all guards are left
all_left : (p : ℕ) (r : Residual) → IsNormal r → IsDistinct (guards_of r) → still_open p (guards_left p r) (guards_of r) ≡ []
all_left p skip h d = refl
all_left p (one s) h d = refl
all_left p (batch s qs) h d = refl
all_left p (seq r ss) h d = all_left p r h d
all_left p (owing r g u) h d = absurd h
all_left p (guard r g u) h d = outer_open p g (guards_left p r) (leave p g ∷ []) (guards_of r) [] true (left_closes p g r d.0) d.0 (left_only p g) (itself p g) (all_left p r h d.1)
all_left p (try_ r handlers) h d = all_left p r h d
all_left p (frame r x) h d = all_left p r h d
all_left p (shell r x) h d = absurd h
all_left p (run g r) h d = absurd h
all_left p (goal r k) h d = absurd h

module _ (p : ℕ) (v : Option Value) where
  frame_open : (b : Bool) (r : Residual) (x y : Frame) → still_open p (return_marks p r) (guards_of r) ≡ guards_of (returned v r) → (b ≡ false → still_open p (guards_left p r) (guards_of r) ≡ [])
      → still_open p (cond b (return_marks p r) (guards_left p r)) (guards_of r) ≡ guards_of (cond b (frame (returned v r) x) (frame skip y))
  frame_open true r x y inner all = inner
  frame_open false r x y inner all = all refl

  run_returned : (b : Bool) (g : ℕ) (r : Residual) → still_open p (return_marks p r) (guards_of r) ≡ guards_of (returned v r) → still_open p (guards_left p r) (guards_of r) ≡ []
      → list_any (closes p g) (return_marks p r) ≡ false → list_any (closes p g) (guards_left p r) ≡ false
      → still_open p (cond b (return_marks p r) (guards_left p r)) (g ∷ guards_of r) ≡ guards_of (cond b (run g (returned v r)) (run g skip))
  run_returned true g r inner all one_ two = head_open p g (return_marks p r) (guards_of r) (guards_of (returned v r)) one_ inner
  run_returned false g r inner all one_ two = head_open p g (guards_left p r) (guards_of r) [] two all

  nothing_marked : (gs : List ℕ) → still_open p [] gs ≡ gs
  nothing_marked [] = refl
  nothing_marked (g ∷ gs) = ap (λ rest. g ∷ rest) (nothing_marked gs)

  normal_returned : (r : Residual) → IsNormal r → IsDistinct (guards_of r) → still_open p (return_marks p r) (guards_of r) ≡ guards_of (returned v r)
  normal_returned skip h d = refl
  normal_returned (one s) h d = refl
  normal_returned (batch s qs) h d = refl
  normal_returned (seq r ss) h d = normal_returned r h d
  normal_returned (owing r g u) h d = absurd h
  normal_returned (guard r g u) h d = head_open p g (return_marks p r) (guards_of r) (guards_of (returned v r)) (return_closes p g r d.0) (normal_returned r h d.1)
  normal_returned (try_ r handlers) h d = normal_returned r h d
  normal_returned (frame r x) h d = frame_open (has_exit r) r x _ (normal_returned r h d) (λ none. all_left p r h d)
  normal_returned (shell r x) h d = absurd h
  normal_returned (run g r) h d = absurd h
  normal_returned (goal r k) h d = absurd h

  unwound_returned : (r : Residual) → IsUnwound r → IsDistinct (guards_of r) → still_open p (return_marks p r) (guards_of r) ≡ guards_of (returned v r)
  unwound_returned skip h d = refl
  unwound_returned (one s) h d = absurd h
  unwound_returned (batch s qs) h d = absurd h
  unwound_returned (seq r ss) h d = absurd h
  unwound_returned (owing r g u) h d = head_open p g (return_marks p r) (guards_of r) (guards_of (returned v r)) (return_closes p g r d.0) (unwound_returned r h d.1)
  unwound_returned (guard r g u) h d = absurd h
  unwound_returned (try_ r handlers) h d = absurd h
  unwound_returned (frame r x) h d = absurd h
  unwound_returned (shell r x) h d = unwound_returned r h d
  unwound_returned (run g r) h d = run_returned (has_exit r) g r (normal_returned r h d.1) (all_left p r h d.1) (return_closes p g r d.0) (left_closes p g r d.0)
  unwound_returned (goal r k) h d = absurd h

  pub return-open : (r : Residual) (s : ℕ) → IsShaped r → next_of r ≡ statement s → IsDistinct (guards_of r) → still_open p (return_marks p r) (guards_of r) ≡ guards_of (returned v r)
  return-open skip s h is d = refl
  return-open (one t) s h is d = refl
  return-open (batch t qs) s h is d = refl
  return-open (seq r ss) s h is d = return-open r s h is d
  return-open (owing r g u) s h is d = absurd h
  return-open (guard r g u) s h is d = head_open p g (return_marks p r) (guards_of r) (guards_of (returned v r)) (return_closes p g r d.0) (return-open r s h is d.1)
  return-open (try_ r handlers) s h is d = return-open r s h is d
  return-open (frame r x) s h is d =
      let inner = frame_statement (next_of r) x s is in
      frame_open (has_exit r) r x _ (return-open r s h inner d) (λ none. all_left p r (inner_normal r s h none inner) d)
  return-open (shell r x) s h is d = absurd h
  return-open (run g r) s h is d = absurd h
  return-open (goal r k) s h is d = unwound_returned r h d
