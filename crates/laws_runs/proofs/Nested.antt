-- What each move of a residual, with the marks that it adds, does to the guards that are open.
use Rattle.std.proofs.Common.{◌≡◌, ◌≢◌, ◌==◌, ℕ, Bool, true, false, cond, List, [], ◌∷◌, ◌++◌, Option, Some, None, refl, sym, ap, ◌∙◌, true≢false, eq-eqb, ne_eqb, append-nil, append_assoc}
use Rattle.sim_model.specs.LogicValues.declared.kinds.Value.{Value}
use Rattle.sim_model.specs.FlatDesign.Code.{Arena, block_at, body_at}
use Rattle.sim_model.specs.FlatDesign.declared.code.CodeBody.{CodeBody}
use Rattle.sim_model.specs.FlatDesign.declared.code.Handler.{Handler}
use Rattle.sim_model.specs.Residual.{Residual, Frame, Mark, skip, one, batch, seq, owing, guard, try_, frame, shell, run, goal, enter, leave, begin, finish, followed, statements, block, then_on, in_run, then_owed, in_guard, in_try, in_shell, settle, finished_if, begun_if, left_if, fall, frame_or, goal_or, put, taken_off, in_innermost, next_of, statement, entered, entered_in}
use Rattle.sim_model.specs.Unwinding.{unw, catches, handles, handler_block, handler_of, handled, raise, has_exit, returned, guards_left, return_marks}
use Rattle.sim_model.specs.Clean.{guards_of}
use Rattle.sim_model.specs.declared.plain.Goal.{Goal}
use Rattle.sim_model.specs.declared.plain.Via.{Via}
use Rattle.laws_runs.specs.Shapes.{IsNormal, IsUnwound, IsShaped}
use Rattle.laws_runs.proofs.MarkLemmas.{before_statement, frame_statement}
use Rattle.laws_runs.specs.Nesting.{Part, unbegun, running, after_leave, after_begin, after_finish, after_mark, on_some, after_marks, parts_of}
use Rattle.laws_runs.proofs.Roots.{IsBare, over_skip, over_frame, over_goal}

-- ---- marks one behind another

append_on : (p : ℕ) (ms ns : List Mark) → ((s : List Part) → after_marks p (ms ++ ns) s ≡ on_some (after_marks p ns) (after_marks p ms s)) → (o : Option (List Part))
    → on_some (after_marks p (ms ++ ns)) o ≡ on_some (after_marks p ns) (on_some (after_marks p ms) o)
append_on p ms ns later None = refl
append_on p ms ns later (Some t) = later t

pub marks-append : (p : ℕ) (ms ns : List Mark) (s : List Part) → after_marks p (ms ++ ns) s ≡ on_some (after_marks p ns) (after_marks p ms s)
marks-append p [] ns s = refl
marks-append p (m ∷ ms) ns s = append_on p ms ns (marks-append p ms ns) (after_mark p m s)

pub marks-then : (p : ℕ) (ms ns : List Mark) (s t : List Part) → after_marks p ms s ≡ Some t → after_marks p (ms ++ ns) s ≡ after_marks p ns t
marks-then p ms ns s t h = marks-append p ms ns s ∙ ap (on_some (after_marks p ns)) h

-- ---- marks of one instance, of which none enters

abbrev pub Own : ℕ → List Mark → Type 0
Own p [] = Unit {0}
Own p (enter q g ∷ ms) = ⊥
Own p (leave q g ∷ ms) = (q ≡ p) × Own p ms
Own p (begin q g ∷ ms) = (q ≡ p) × Own p ms
Own p (finish q g ∷ ms) = (q ≡ p) × Own p ms

own_append : (p : ℕ) (ms ns : List Mark) → Own p ms → Own p ns → Own p (ms ++ ns)
own_append p [] ns a b = b
own_append p (enter q g ∷ ms) ns a b = absurd a
own_append p (leave q g ∷ ms) ns a b = (a.0, own_append p ms ns a.1 b)
own_append p (begin q g ∷ ms) ns a b = (a.0, own_append p ms ns a.1 b)
own_append p (finish q g ∷ ms) ns a b = (a.0, own_append p ms ns a.1 b)

left_if_own : (p g : ℕ) (r : Residual) → Own p (left_if p r g)
left_if_own p g skip = (refl, tt)
left_if_own p g other = tt

finished_if_own : (p g : ℕ) (r : Residual) → Own p (finished_if p g r)
finished_if_own p g skip = (refl, tt)
finished_if_own p g other = tt

begun_if_own : (p g : ℕ) (a : Arena) (u : ℕ) (r : Residual) → Own p (begun_if p a r g u)
begun_if_own p g a u skip = (refl, finished_if_own p g (block a u))
begun_if_own p g a u other = tt

pub fall-own : (p : ℕ) (a : Arena) (r : Residual) → Own p (fall p a r)
fall-own p a skip = tt
fall-own p a (one s) = tt
fall-own p a (batch s qs) = tt
fall-own p a (seq r ss) = fall-own p a r
fall-own p a (owing r g u) = own_append p (fall p a r) (begun_if p a (settle a r) g u) (fall-own p a r) (begun_if_own p g a u (settle a r))
fall-own p a (guard r g u) = own_append p (fall p a r) (left_if p (settle a r) g) (fall-own p a r) (left_if_own p g (settle a r))
fall-own p a (try_ r handlers) = fall-own p a r
fall-own p a (frame r x) = fall-own p a r
fall-own p a (shell r x) = fall-own p a r
fall-own p a (run g r) = own_append p (fall p a r) (finished_if p g (settle a r)) (fall-own p a r) (finished_if_own p g (settle a r))
fall-own p a (goal r k) = fall-own p a r

left_own : (p : ℕ) (r : Residual) → Own p (guards_left p r)
left_own p skip = tt
left_own p (one s) = tt
left_own p (batch s qs) = tt
left_own p (seq r ss) = left_own p r
left_own p (owing r g u) = left_own p r
left_own p (guard r g u) = own_append p (guards_left p r) (leave p g ∷ []) (left_own p r) (refl, tt)
left_own p (try_ r handlers) = left_own p r
left_own p (frame r x) = left_own p r
left_own p (shell r x) = left_own p r
left_own p (run g r) = left_own p r
left_own p (goal r k) = left_own p r

own_if : (b : Bool) (p : ℕ) (ms ns : List Mark) → Own p ms → Own p ns → Own p (cond b ms ns)
own_if true p ms ns one_ two = one_
own_if false p ms ns one_ two = two

pub return-own : (p : ℕ) (r : Residual) → Own p (return_marks p r)
return-own p skip = tt
return-own p (one s) = tt
return-own p (batch s qs) = tt
return-own p (seq r ss) = return-own p r
return-own p (owing r g u) = return-own p r
return-own p (guard r g u) = return-own p r
return-own p (try_ r handlers) = return-own p r
return-own p (frame r x) = own_if (has_exit r) p (return_marks p r) (guards_left p r) (return-own p r) (left_own p r)
return-own p (shell r x) = return-own p r
return-own p (run g r) = own_if (has_exit r) p (return_marks p r) (guards_left p r) (return-own p r) (left_own p r)
return-own p (goal r k) = return-own p r

-- they change nothing of another instance
other_test : (p q r : ℕ) → r ≡ p → q ≢ p → (r == q) ≡ false
other_test p q r is apart = ne_eqb r q (λ same. apart (sym same ∙ is))

pub own-apart : (p q : ℕ) (ms : List Mark) (s : List Part) → q ≢ p → Own p ms → after_marks q ms s ≡ Some s
own-apart p q [] s apart own = refl
own-apart p q (enter r g ∷ ms) s apart own = absurd own
own-apart p q (leave r g ∷ ms) s apart own = ap (λ b. on_some (after_marks q ms) (cond b (after_leave g s) (Some s))) (other_test p q r own.0 apart) ∙ own-apart p q ms s apart own.1
own-apart p q (begin r g ∷ ms) s apart own = ap (λ b. on_some (after_marks q ms) (cond b (after_begin g s) (Some s))) (other_test p q r own.0 apart) ∙ own-apart p q ms s apart own.1
own-apart p q (finish r g ∷ ms) s apart own = ap (λ b. on_some (after_marks q ms) (cond b (after_finish g s) (Some s))) (other_test p q r own.0 apart) ∙ own-apart p q ms s apart own.1

-- ---- where a return ends nothing that is being unwound

-- what has no exit and a statement in place is not being unwound
unwound_still : (r : Residual) (s : ℕ) → IsUnwound r → has_exit r ≡ false → next_of r ≡ statement s → ⊥
unwound_still skip s h none is = cc
unwound_still (one t) s h none is = h
unwound_still (batch t qs) s h none is = h
unwound_still (seq r ss) s h none is = h
unwound_still (owing r g u) s h none is = unwound_still r s h none is
unwound_still (guard r g u) s h none is = h
unwound_still (try_ r handlers) s h none is = h
unwound_still (frame r x) s h none is = h
unwound_still (shell r x) s h none is = unwound_still r s h none is
unwound_still (run g r) s h none is = true≢false none
unwound_still (goal r k) s h none is = h

inner_normal : (r : Residual) (s : ℕ) → IsShaped r → has_exit r ≡ false → next_of r ≡ statement s → IsNormal r
inner_normal skip s h none is = tt
inner_normal (one t) s h none is = tt
inner_normal (batch t qs) s h none is = tt
inner_normal (seq r ss) s h none is = inner_normal r s h none is
inner_normal (owing r g u) s h none is = absurd h
inner_normal (guard r g u) s h none is = inner_normal r s h none is
inner_normal (try_ r handlers) s h none is = inner_normal r s h none is
inner_normal (frame r x) s h none is = absurd (true≢false none)
inner_normal (shell r x) s h none is = absurd h
inner_normal (run g r) s h none is = absurd h
inner_normal (goal r k) s h none is = absurd (unwound_still r s h none (before_statement (next_of r) k s is))

-- ---- single marks of the innermost guard

module _ (p : ℕ) where
  pub enters-one : (g : ℕ) (s : List Part) → after_mark p (enter p g) s ≡ Some (unbegun g ∷ s)
  enters-one g s = ap (λ b. cond b (Some (unbegun g ∷ s)) (Some s)) (eq-eqb p p refl)

  leaves_one : (g : ℕ) (s : List Part) → after_mark p (leave p g) (unbegun g ∷ s) ≡ Some s
  leaves_one g s = ap (λ b. cond b (cond (g == g) (Some s) None) (Some (unbegun g ∷ s))) (eq-eqb p p refl) ∙ ap (λ b. cond b (Some s) None) (eq-eqb g g refl)

  begins_one : (g : ℕ) (s : List Part) → after_mark p (begin p g) (unbegun g ∷ s) ≡ Some (running g ∷ s)
  begins_one g s = ap (λ b. cond b (cond (g == g) (Some (running g ∷ s)) None) (Some (unbegun g ∷ s))) (eq-eqb p p refl) ∙ ap (λ b. cond b (Some (running g ∷ s)) None) (eq-eqb g g refl)

  finishes_one : (g : ℕ) (s : List Part) → after_mark p (finish p g) (running g ∷ s) ≡ Some s
  finishes_one g s = ap (λ b. cond b (cond (g == g) (Some s) None) (Some (running g ∷ s))) (eq-eqb p p refl) ∙ ap (λ b. cond b (Some s) None) (eq-eqb g g refl)

  leaves_marks : (g : ℕ) (s : List Part) → after_marks p (leave p g ∷ []) (unbegun g ∷ s) ≡ Some s
  leaves_marks g s = ap (on_some (after_marks p [])) (leaves_one g s)

  begins_marks : (g : ℕ) (ms : List Mark) (s : List Part) → after_marks p (begin p g ∷ ms) (unbegun g ∷ s) ≡ after_marks p ms (running g ∷ s)
  begins_marks g ms s = ap (on_some (after_marks p ms)) (begins_one g s)

  finishes_marks : (g : ℕ) (s : List Part) → after_marks p (finish p g ∷ []) (running g ∷ s) ≡ Some s
  finishes_marks g s = ap (on_some (after_marks p [])) (finishes_one g s)

  -- ---- settling

  parts_statements : (ss : List ℕ) → parts_of (statements ss) ≡ []
  parts_statements [] = refl
  parts_statements (s ∷ []) = refl
  parts_statements (s ∷ t ∷ ss) = refl

  parts_followed : (r : Residual) (ss : List ℕ) → parts_of (followed r ss) ≡ parts_of r
  parts_followed r [] = refl
  parts_followed r (s ∷ ss) = refl

  parts_then : (r : Residual) (ss : List ℕ) → parts_of (then_on r ss) ≡ parts_of r
  parts_then skip ss = parts_statements ss
  parts_then (one s) ss = parts_followed (one s) ss
  parts_then (batch s qs) ss = parts_followed (batch s qs) ss
  parts_then (seq r us) ss = parts_followed (seq r us) ss
  parts_then (owing r g u) ss = parts_followed (owing r g u) ss
  parts_then (guard r g u) ss = parts_followed (guard r g u) ss
  parts_then (try_ r handlers) ss = parts_followed (try_ r handlers) ss
  parts_then (frame r x) ss = parts_followed (frame r x) ss
  parts_then (shell r x) ss = parts_followed (shell r x) ss
  parts_then (run g r) ss = parts_followed (run g r) ss
  parts_then (goal r k) ss = parts_followed (goal r k) ss

  parts_try : (r : Residual) (handlers : List Handler) → parts_of (in_try r handlers) ≡ parts_of r
  parts_try skip handlers = refl
  parts_try other handlers = refl

  parts_shell : (r : Residual) (x : Frame) → parts_of (in_shell r x) ≡ parts_of r
  parts_shell skip x = refl
  parts_shell other x = refl

  behind : (xs : List Part) (x : Part) (s : List Part) → (xs ++ x ∷ []) ++ s ≡ xs ++ x ∷ s
  behind xs x s = append_assoc xs (x ∷ []) s

  module _ (a : Arena) where
    guard_falls : (r : Residual) (g u : ℕ) (s : List Part) → after_marks p (left_if p r g) (parts_of r ++ unbegun g ∷ s) ≡ Some (parts_of (in_guard r g u) ++ s)
    guard_falls skip g u s = leaves_marks g s
    guard_falls other g u s = ap Some (sym (behind (parts_of other) (unbegun g) s))

    run_falls : (r : Residual) (g : ℕ) (s : List Part) → after_marks p (finished_if p g r) (parts_of r ++ running g ∷ s) ≡ Some (parts_of (in_run g r) ++ s)
    run_falls skip g s = finishes_marks g s
    run_falls other g s = ap Some (sym (behind (parts_of other) (running g) s))

    block_runs : (ss : List ℕ) (g : ℕ) (s : List Part) → after_marks p (finished_if p g (statements ss)) (running g ∷ s) ≡ Some (parts_of (in_run g (statements ss)) ++ s)
    block_runs [] g s = finishes_marks g s
    block_runs (x ∷ []) g s = refl
    block_runs (x ∷ y ∷ ss) g s = refl

    owed_falls : (r : Residual) (g u : ℕ) (s : List Part) → after_marks p (begun_if p a r g u) (parts_of r ++ unbegun g ∷ s) ≡ Some (parts_of (then_owed a r g u) ++ s)
    owed_falls skip g u s = begins_marks g (finished_if p g (block a u)) s ∙ block_runs (block_at a u) g s
    owed_falls other g u s = ap Some (sym (behind (parts_of other) (unbegun g) s))

    -- one guard more, from outside
    outer : (r : Residual) (x : Part) (ns : List Mark) (s out : List Part) → after_marks p (fall p a r) (parts_of r ++ x ∷ s) ≡ Some (parts_of (settle a r) ++ x ∷ s) → after_marks p ns (parts_of (settle a r) ++ x ∷ s) ≡ Some out
        → after_marks p (fall p a r ++ ns) ((parts_of r ++ x ∷ []) ++ s) ≡ Some out
    outer r x ns s out inner last = ap (after_marks p (fall p a r ++ ns)) (behind (parts_of r) x s) ∙ marks-then p (fall p a r) ns (parts_of r ++ x ∷ s) (parts_of (settle a r) ++ x ∷ s) inner ∙ last

    pub fall-nested : (r : Residual) (s : List Part) → after_marks p (fall p a r) (parts_of r ++ s) ≡ Some (parts_of (settle a r) ++ s)
    fall-nested skip s = refl
    fall-nested (one n) s = refl
    fall-nested (batch n []) s = refl
    fall-nested (batch n (q ∷ qs)) s = refl
    fall-nested (seq r ss) s = fall-nested r s ∙ ap (λ x. Some (x ++ s)) (sym (parts_then (settle a r) ss))
    fall-nested (owing r g u) s = outer r (unbegun g) (begun_if p a (settle a r) g u) s _ (fall-nested r (unbegun g ∷ s)) (owed_falls (settle a r) g u s)
    fall-nested (guard r g u) s = outer r (unbegun g) (left_if p (settle a r) g) s _ (fall-nested r (unbegun g ∷ s)) (guard_falls (settle a r) g u s)
    fall-nested (try_ r handlers) s = fall-nested r s ∙ ap (λ x. Some (x ++ s)) (sym (parts_try (settle a r) handlers))
    fall-nested (frame r x) s = fall-nested r s
    fall-nested (shell r x) s = fall-nested r s ∙ ap (λ y. Some (y ++ s)) (sym (parts_shell (settle a r) x))
    fall-nested (run g r) s = outer r (running g) (finished_if p g (settle a r)) s _ (fall-nested r (running g ∷ s)) (run_falls (settle a r) g s)
    fall-nested (goal r k) s = fall-nested r s

  -- ---- a return

  left_nested : (r : Residual) → IsNormal r → (s : List Part) → after_marks p (guards_left p r) (parts_of r ++ s) ≡ Some s
  left_nested skip h s = refl
  left_nested (one n) h s = refl
  left_nested (batch n qs) h s = refl
  left_nested (seq r ss) h s = left_nested r h s
  left_nested (owing r g u) h s = absurd h
  left_nested (guard r g u) h s = ap (after_marks p (guards_left p r ++ leave p g ∷ [])) (behind (parts_of r) (unbegun g) s) ∙ marks-then p (guards_left p r) (leave p g ∷ []) (parts_of r ++ unbegun g ∷ s) (unbegun g ∷ s) (left_nested r h (unbegun g ∷ s)) ∙ leaves_marks g s
  left_nested (try_ r handlers) h s = left_nested r h s
  left_nested (frame r x) h s = left_nested r h s
  left_nested (shell r x) h s = absurd h
  left_nested (run g r) h s = absurd h
  left_nested (goal r k) h s = absurd h

  module _ (v : Option Value) where
    -- one guard more around a return
    around : (r q : Residual) (x : Part) (ms : List Mark) (s : List Part) → after_marks p ms (parts_of r ++ x ∷ s) ≡ Some (parts_of q ++ x ∷ s) → after_marks p ms ((parts_of r ++ x ∷ []) ++ s) ≡ Some ((parts_of q ++ x ∷ []) ++ s)
    around r q x ms s inner = ap (after_marks p ms) (behind (parts_of r) x s) ∙ inner ∙ ap Some (sym (behind (parts_of q) x s))

    frame_returned : (b : Bool) (r : Residual) (x y : Frame) (s : List Part) → after_marks p (return_marks p r) (parts_of r ++ s) ≡ Some (parts_of (returned v r) ++ s) → (b ≡ false → after_marks p (guards_left p r) (parts_of r ++ s) ≡ Some s)
        → after_marks p (cond b (return_marks p r) (guards_left p r)) (parts_of r ++ s) ≡ Some (parts_of (cond b (frame (returned v r) x) (frame skip y)) ++ s)
    frame_returned true r x y s inner all = inner
    frame_returned false r x y s inner all = all refl

    run_returned : (b : Bool) (g : ℕ) (r : Residual) (s : List Part) → after_marks p (return_marks p r) (parts_of r ++ running g ∷ s) ≡ Some (parts_of (returned v r) ++ running g ∷ s) → after_marks p (guards_left p r) (parts_of r ++ running g ∷ s) ≡ Some (running g ∷ s)
        → after_marks p (cond b (return_marks p r) (guards_left p r)) ((parts_of r ++ running g ∷ []) ++ s) ≡ Some (parts_of (cond b (run g (returned v r)) (run g skip)) ++ s)
    run_returned true g r s inner all = around r (returned v r) (running g) (return_marks p r) s inner
    run_returned false g r s inner all = around r skip (running g) (guards_left p r) s all

    normal_returned : (r : Residual) → IsNormal r → (s : List Part) → after_marks p (return_marks p r) (parts_of r ++ s) ≡ Some (parts_of (returned v r) ++ s)
    normal_returned skip h s = refl
    normal_returned (one n) h s = refl
    normal_returned (batch n qs) h s = refl
    normal_returned (seq r ss) h s = normal_returned r h s
    normal_returned (owing r g u) h s = absurd h
    normal_returned (guard r g u) h s = around r (returned v r) (unbegun g) (return_marks p r) s (normal_returned r h (unbegun g ∷ s))
    normal_returned (try_ r handlers) h s = normal_returned r h s
    normal_returned (frame r x) h s = frame_returned (has_exit r) r x _ s (normal_returned r h s) (λ none. left_nested r h s)
    normal_returned (shell r x) h s = absurd h
    normal_returned (run g r) h s = absurd h
    normal_returned (goal r k) h s = absurd h

    unwound_returned : (r : Residual) → IsUnwound r → (s : List Part) → after_marks p (return_marks p r) (parts_of r ++ s) ≡ Some (parts_of (returned v r) ++ s)
    unwound_returned skip h s = refl
    unwound_returned (one n) h s = absurd h
    unwound_returned (batch n qs) h s = absurd h
    unwound_returned (seq r ss) h s = absurd h
    unwound_returned (owing r g u) h s = around r (returned v r) (unbegun g) (return_marks p r) s (unwound_returned r h (unbegun g ∷ s))
    unwound_returned (guard r g u) h s = absurd h
    unwound_returned (try_ r handlers) h s = absurd h
    unwound_returned (frame r x) h s = absurd h
    unwound_returned (shell r x) h s = unwound_returned r h s
    unwound_returned (run g r) h s = run_returned (has_exit r) g r s (normal_returned r h (running g ∷ s)) (left_nested r h (running g ∷ s))
    unwound_returned (goal r k) h s = absurd h

    pub return-nested : (r : Residual) (n : ℕ) → IsShaped r → next_of r ≡ statement n → (s : List Part) → after_marks p (return_marks p r) (parts_of r ++ s) ≡ Some (parts_of (returned v r) ++ s)
    return-nested skip n h is s = refl
    return-nested (one m) n h is s = refl
    return-nested (batch m qs) n h is s = refl
    return-nested (seq r ss) n h is s = return-nested r n h is s
    return-nested (owing r g u) n h is s = absurd h
    return-nested (guard r g u) n h is s = around r (returned v r) (unbegun g) (return_marks p r) s (return-nested r n h is (unbegun g ∷ s))
    return-nested (try_ r handlers) n h is s = return-nested r n h is s
    return-nested (frame r x) n h is s =
        let inner = frame_statement (next_of r) x n is in
        frame_returned (has_exit r) r x _ s (return-nested r n h inner s) (λ none. left_nested r (inner_normal r n h none inner) s)
    return-nested (shell r x) n h is s = absurd h
    return-nested (run g r) n h is s = absurd h
    return-nested (goal r k) n h is s = unwound_returned r h s

-- ---- moves without marks, and the entering of a guard

followed_parts : (r : Residual) (ss : List ℕ) → parts_of (followed r ss) ≡ parts_of r
followed_parts r [] = refl
followed_parts r (s ∷ ss) = refl

past_frame : (r : Residual) (x : Frame) (inside : Residual) → parts_of inside ≡ parts_of r → parts_of (frame_or r x skip inside) ≡ parts_of r
past_frame skip x inside h = refl
past_frame other x inside h = h

past_goal : (r : Residual) (k : Goal) (inside : Residual) → parts_of inside ≡ parts_of r → parts_of (goal_or r k skip inside) ≡ parts_of r
past_goal skip k inside h = refl
past_goal other k inside h = h

pub past-parts : (r : Residual) → parts_of (put r skip) ≡ parts_of r
past-parts skip = refl
past-parts (one s) = refl
past-parts (batch s qs) = refl
past-parts (seq r ss) = followed_parts (put r skip) ss ∙ past-parts r
past-parts (owing r g u) = ap (λ xs. xs ++ unbegun g ∷ []) (past-parts r)
past-parts (guard r g u) = ap (λ xs. xs ++ unbegun g ∷ []) (past-parts r)
past-parts (try_ r handlers) = past-parts r
past-parts (frame r x) = past_frame r x (put r skip) (past-parts r)
past-parts (shell r x) = past-parts r
past-parts (run g r) = ap (λ xs. xs ++ running g ∷ []) (past-parts r)
past-parts (goal r k) = past_goal r k (put r skip) (past-parts r)

frame_kept : (r : Residual) (x : Frame) (n inside : Residual) (s : ℕ) → next_of r ≡ statement s → parts_of (frame_or r x n inside) ≡ parts_of inside
frame_kept skip x n inside s is = cc
frame_kept other x n inside s is = refl

goal_kept : (r : Residual) (k : Goal) (n inside : Residual) (s : ℕ) → next_of r ≡ statement s → parts_of (goal_or r k n inside) ≡ parts_of inside
goal_kept skip k n inside s is = cc
goal_kept other k n inside s is = refl

inside_more : (new xs : List Part) (x : Part) (out : List Part) → out ≡ new ++ xs → out ++ x ∷ [] ≡ new ++ (xs ++ x ∷ [])
inside_more new xs x out h = ap (λ ys. ys ++ x ∷ []) h ∙ append_assoc new xs (x ∷ [])

pub put-parts : (r n : Residual) (s : ℕ) → next_of r ≡ statement s → parts_of (put r n) ≡ parts_of n ++ parts_of r
put-parts skip n s is = cc
put-parts (one t) n s is = sym (append-nil (parts_of n))
put-parts (batch t qs) n s is = sym (append-nil (parts_of n))
put-parts (seq r ss) n s is = followed_parts (put r n) ss ∙ put-parts r n s is
put-parts (owing r g u) n s is = inside_more (parts_of n) (parts_of r) (unbegun g) (parts_of (put r n)) (put-parts r n s is)
put-parts (guard r g u) n s is = inside_more (parts_of n) (parts_of r) (unbegun g) (parts_of (put r n)) (put-parts r n s is)
put-parts (try_ r handlers) n s is = put-parts r n s is
put-parts (frame r x) n s is = let there = frame_statement (next_of r) x s is in frame_kept r x n (put r n) s there ∙ put-parts r n s there
put-parts (shell r x) n s is = put-parts r n s is
put-parts (run g r) n s is = inside_more (parts_of n) (parts_of r) (running g) (parts_of (put r n)) (put-parts r n s is)
put-parts (goal r k) n s is = let there = before_statement (next_of r) k s is in goal_kept r k n (put r n) s there ∙ put-parts r n s there

pub no_guards-parts : (r : Residual) → guards_of r ≡ [] → parts_of r ≡ []
no_guards-parts skip h = refl
no_guards-parts (one s) h = refl
no_guards-parts (batch s qs) h = refl
no_guards-parts (seq r ss) h = no_guards-parts r h
no_guards-parts (owing r g u) h = cc
no_guards-parts (guard r g u) h = cc
no_guards-parts (try_ r handlers) h = no_guards-parts r h
no_guards-parts (frame r x) h = no_guards-parts r h
no_guards-parts (shell r x) h = no_guards-parts r h
no_guards-parts (run g r) h = cc
no_guards-parts (goal r k) h = no_guards-parts r h

pub local-parts : (f : Frame → Frame) (r : Residual) → parts_of (in_innermost f r) ≡ parts_of r
local-parts f skip = refl
local-parts f (one s) = refl
local-parts f (batch s qs) = refl
local-parts f (seq r ss) = local-parts f r
local-parts f (owing r g u) = ap (λ xs. xs ++ unbegun g ∷ []) (local-parts f r)
local-parts f (guard r g u) = ap (λ xs. xs ++ unbegun g ∷ []) (local-parts f r)
local-parts f (try_ r handlers) = local-parts f r
local-parts f (frame r x) = local-parts f r
local-parts f (shell r x) = local-parts f r
local-parts f (run g r) = ap (λ xs. xs ++ running g ∷ []) (local-parts f r)
local-parts f (goal r k) = local-parts f r

-- a call that is owed to one instance less
pub off-parts : (r : Residual) → parts_of (taken_off r) ≡ parts_of r
off-parts skip = refl
off-parts (one s) = refl
off-parts (batch s qs) = refl
off-parts (seq r ss) = off-parts r
off-parts (owing r g u) = ap (λ xs. xs ++ unbegun g ∷ []) (off-parts r)
off-parts (guard r g u) = ap (λ xs. xs ++ unbegun g ∷ []) (off-parts r)
off-parts (try_ r handlers) = off-parts r
off-parts (frame r x) = off-parts r
off-parts (shell r x) = off-parts r
off-parts (run g r) = ap (λ xs. xs ++ running g ∷ []) (off-parts r)
off-parts (goal r k) = off-parts r

pub unw-parts : (r : Residual) → parts_of (unw r) ≡ parts_of r
unw-parts skip = refl
unw-parts (one s) = refl
unw-parts (batch s qs) = refl
unw-parts (seq r ss) = unw-parts r
unw-parts (owing r g u) = ap (λ xs. xs ++ unbegun g ∷ []) (unw-parts r)
unw-parts (guard r g u) = ap (λ xs. xs ++ unbegun g ∷ []) (unw-parts r)
unw-parts (try_ r handlers) = unw-parts r
unw-parts (frame r x) = unw-parts r
unw-parts (shell r x) = unw-parts r
unw-parts (run g r) = ap (λ xs. xs ++ running g ∷ []) (unw-parts r)
unw-parts (goal r k) = unw-parts r

module _ (a : Arena) (e : ℕ) (k : Goal) where
  try_parts : (b c : Bool) (r : Residual) (handlers : List Handler) → parts_of (raise a r e k) ≡ parts_of r → parts_of (cond b (try_ (raise a r e k) handlers) (cond c (handled a r handlers e k) (try_ r handlers))) ≡ parts_of r
  try_parts true c r handlers h = h
  try_parts false true r handlers h = followed_parts (goal (unw r) k) (handler_block a (handler_of handlers e)) ∙ unw-parts r
  try_parts false false r handlers h = refl

  pub raise-parts : (r : Residual) → parts_of (raise a r e k) ≡ parts_of r
  raise-parts skip = refl
  raise-parts (one s) = refl
  raise-parts (batch s qs) = refl
  raise-parts (seq r ss) = raise-parts r
  raise-parts (owing r g u) = ap (λ xs. xs ++ unbegun g ∷ []) (raise-parts r)
  raise-parts (guard r g u) = ap (λ xs. xs ++ unbegun g ∷ []) (raise-parts r)
  raise-parts (try_ r handlers) = try_parts (catches r e) (handles handlers e) r handlers (raise-parts r)
  raise-parts (frame r x) = raise-parts r
  raise-parts (shell r x) = raise-parts r
  raise-parts (run g r) = ap (λ xs. xs ++ running g ∷ []) (raise-parts r)
  raise-parts (goal r j) = raise-parts r

-- ---- bodies that begin, and those of which nothing is left

pub block-parts : (a : Arena) (b : ℕ) → parts_of (block a b) ≡ []
block-parts a b = by (block_at a b)
  where
    by : (ss : List ℕ) → parts_of (statements ss) ≡ []
    by [] = refl
    by (s ∷ []) = refl
    by (s ∷ t ∷ ss) = refl

pub entered-parts : (a : Arena) (f : ℕ) (args : List Value) (call : Option ℕ) (via : Option Via) → parts_of (entered a f args call via) ≡ []
entered-parts a f args call via = by (body_at a f)
  where
    by : (o : Option CodeBody) → parts_of (entered_in a f args call via o) ≡ []
    by None = refl
    by (Some b) = block-parts a b.block

pub bare-parts : (r : Residual) → IsBare r → parts_of r ≡ []
bare-parts r is = by is
  where
    by : {q : Residual} → IsBare q → parts_of q ≡ []
    by over_skip = refl
    by (over_frame x) = refl
    by (over_goal k) = refl
