-- What saved frames tell of what is left, by the frames and blocks of a kind among them.
use Rattle.std.proofs.Common.{◌≡◌, ℕ, ◌+◌, ◌<◌, zero, suc, Bool, true, false, List, [], ◌∷◌, ◌++◌, Option, Some, None, length, take, drop, get_or, refl, sym, ap, ◌∙◌, subst, arith}
use Rattle.std.proofs.lemmas.List.{append-nil}
use Rattle.std.specs.Prelude.{◌||◌, not, is_some}
use Rattle.sim_model.specs.LogicValues.declared.kinds.Value.{Value}
use Rattle.sim_model.specs.FlatDesign.Code.{Arena}
use Rattle.sim_model.specs.Residual.{Residual, Frame, followed, innermost, in_innermost, changed_if, or_frame, within, or_via, in_nb, has_goal, open_frames, counted_call, skip}
use Rattle.sim_model.specs.Unwinding.{catches, has_exit, returned, left_by_unw, left_via}
use Rattle.kernel_bodies.specs.declared.layers.Saved.{Saved}
use Rattle.kernel_bodies.specs.declared.layers.Open.{Open}
use Rattle.kernel_bodies.specs.declared.layers.Open.TheVariants as layer
use Rattle.kernel_bodies.specs.Layers.{call_of, around, inside, wrapped, whole, cut, inside_frames, rest_at}
use Rattle.kernel_bodies.specs.Sought.{NoneIs, LastIs, IsLast, among, is_run, is_goal, is_handling, has_handler, unwinds, is_exit, open_nonblocking, is_open_nonblocking, last_call, last_via, many_calls}
use Rattle.kernel_bodies.specs.Unwound.{left_by_frame, left_at, left_all}
use Rattle.kernel_bodies.proofs.Passing.{through_block, through_call, if_false}

-- the innermost of a kind

last_from : {A : Type 0} (p : A → Bool) (ls : List A) (i : ℕ) (d : A) → i < length ls → p (get_or ls i d) ≡ true → NoneIs p (drop (suc i) ls) → LastIs p ls i
last_from p [] i d h e n = absurd (omega (arith, h))
last_from p (l ∷ ls) zero d h e n = (e, n)
last_from p (l ∷ ls) (suc i) d h e n = last_from p ls i d (omega (arith, h)) e n

pub last_at : {A : Type 0} (p : A → Bool) (ls : List A) (place i : ℕ) (l : A) → suc i ≡ place → i < length ls → l ≡ get_or ls i l → p l ≡ true → NoneIs p (drop place ls) → LastIs p ls i
last_at p ls place i l e h is true_at none = last_from p ls i l h (ap p (sym is) ∙ true_at) (subst (λ (n : ℕ). NoneIs p (drop n ls)) (sym e) none)

pub last_there : {A : Type 0} (p : A → Bool) (ls : List A) (place i : ℕ) (d : A) → suc i ≡ place → i < length ls → NoneIs p (drop place ls) → p (get_or ls i d) ≡ true → LastIs p ls i
last_there p ls place i d e h none true_at = last_from p ls i d h true_at (subst (λ (n : ℕ). NoneIs p (drop n ls)) (sym e) none)

pub last_true : {A : Type 0} (p : A → Bool) (ls : List A) (i : ℕ) (d : A) → LastIs p ls i → p (get_or ls i d) ≡ true
last_true p [] i d h = absurd h
last_true p (l ∷ ls) zero d h = h.0
last_true p (l ∷ ls) (suc i) d h = last_true p ls i d h

or_false : (b : Bool) → (b || false) ≡ b
or_false true = refl
or_false false = refl

or_true : (b : Bool) → (b || true) ≡ true
or_true true = refl
or_true false = refl

or_assoc : (x y z : Bool) → ((x || y) || z) ≡ (x || (y || z))
or_assoc true y z = refl
or_assoc false y z = refl

or_none : (x y : Bool) → (x || y) ≡ false → (x ≡ false) × (y ≡ false)
or_none true y e = cc
or_none false y e = (refl, e)

pub among_none : {A : Type 0} (p : A → Bool) (ls : List A) → NoneIs p ls → among p ls ≡ false
among_none p [] h = refl
among_none p (l ∷ ls) h = ap (λ b. b || p l) (among_none p ls h.1) ∙ h.0

pub among_last : {A : Type 0} (p : A → Bool) (ls : List A) (i : ℕ) → LastIs p ls i → among p ls ≡ true
among_last p [] i h = absurd h
among_last p (l ∷ ls) zero h = ap (λ b. among p ls || b) h.0 ∙ or_true (among p ls)
among_last p (l ∷ ls) (suc i) h = ap (λ b. b || p l) (among_last p ls i h)

pub among_is : {A : Type 0} (p : A → Bool) (ls : List A) (o : Option ℕ) → IsLast p ls o → is_some o ≡ among p ls
among_is p ls None h = sym (among_none p ls h)
among_is p ls (Some i) h = sym (among_last p ls i h)

pub none_is : {A : Type 0} (p : A → Bool) (ls : List A) → among p ls ≡ false → NoneIs p ls
none_is p [] h = tt
none_is p (l ∷ ls) h = let w = or_none (among p ls) (p l) h in (w.1, none_is p ls w.0)

-- blocks

followed_same : {A : Type 0} (f : Residual → A) → ((r : Residual) (s : ℕ) (ss : List ℕ) → f (followed r (s ∷ ss)) ≡ f r) → (r : Residual) (ss : List ℕ) → f (followed r ss) ≡ f r
followed_same f h r [] = refl
followed_same f h r (s ∷ ss) = h r s ss

pub innermost_inside : (a : Arena) (ls : List Open) (r : Residual) → innermost (inside a ls r) ≡ innermost r
innermost_inside a [] r = refl
innermost_inside a (l ∷ ls) r = one_block a l (inside a ls r) ∙ innermost_inside a ls r
  where
    one_block : (a : Arena) (l : Open) (r : Residual) → innermost (around a l r) ≡ innermost r
    one_block a (layer.Rest c) r = followed_same innermost (λ r s ss. refl) r (rest_at a c)
    one_block a (layer.Again s) r = refl
    one_block a (layer.Owed u) r = refl
    one_block a (layer.Guard u) r = refl
    one_block a (layer.Try s) r = refl
    one_block a layer.Run r = refl
    one_block a (layer.Goal k) r = refl

within_inside : (a : Arena) (ls : List Open) (r : Residual) → within (inside a ls r) ≡ within r
within_inside a [] r = refl
within_inside a (l ∷ ls) r = one_block a l (inside a ls r) ∙ within_inside a ls r
  where
    one_block : (a : Arena) (l : Open) (r : Residual) → within (around a l r) ≡ within r
    one_block a (layer.Rest c) r = followed_same within (λ r s ss. refl) r (rest_at a c)
    one_block a (layer.Again s) r = refl
    one_block a (layer.Owed u) r = refl
    one_block a (layer.Guard u) r = refl
    one_block a (layer.Try s) r = refl
    one_block a layer.Run r = refl
    one_block a (layer.Goal k) r = refl

calls_inside : (a : Arena) (ls : List Open) (r : Residual) → open_frames (inside a ls r) ≡ open_frames r
calls_inside a [] r = refl
calls_inside a (l ∷ ls) r = one_block a l (inside a ls r) ∙ calls_inside a ls r
  where
    one_block : (a : Arena) (l : Open) (r : Residual) → open_frames (around a l r) ≡ open_frames r
    one_block a (layer.Rest c) r = followed_same open_frames (λ r s ss. refl) r (rest_at a c)
    one_block a (layer.Again s) r = refl
    one_block a (layer.Owed u) r = refl
    one_block a (layer.Guard u) r = refl
    one_block a (layer.Try s) r = refl
    one_block a layer.Run r = refl
    one_block a (layer.Goal k) r = refl

nb_inside : (a : Arena) (ls : List Open) (r : Residual) → in_nb (inside a ls r) ≡ in_nb r
nb_inside a [] r = refl
nb_inside a (l ∷ ls) r = one_block a l (inside a ls r) ∙ nb_inside a ls r
  where
    one_block : (a : Arena) (l : Open) (r : Residual) → in_nb (around a l r) ≡ in_nb r
    one_block a (layer.Rest c) r = followed_same in_nb (λ r s ss. refl) r (rest_at a c)
    one_block a (layer.Again s) r = refl
    one_block a (layer.Owed u) r = refl
    one_block a (layer.Guard u) r = refl
    one_block a (layer.Try s) r = refl
    one_block a layer.Run r = refl
    one_block a (layer.Goal k) r = refl

pub left_inside : (a : Arena) (ls : List Open) (r : Residual) → left_by_unw (inside a ls r) ≡ left_by_unw r
left_inside a [] r = refl
left_inside a (l ∷ ls) r = one_block a l (inside a ls r) ∙ left_inside a ls r
  where
    one_block : (a : Arena) (l : Open) (r : Residual) → left_by_unw (around a l r) ≡ left_by_unw r
    one_block a (layer.Rest c) r = followed_same left_by_unw (λ r s ss. refl) r (rest_at a c)
    one_block a (layer.Again s) r = refl
    one_block a (layer.Owed u) r = refl
    one_block a (layer.Guard u) r = refl
    one_block a (layer.Try s) r = refl
    one_block a layer.Run r = refl
    one_block a (layer.Goal k) r = refl

set_inside : (a : Arena) (f : Frame → Frame) (ls : List Open) (r : Residual) → in_innermost f (inside a ls r) ≡ inside a ls (in_innermost f r)
set_inside a f [] r = refl
set_inside a f (l ∷ ls) r = one_block a f l (inside a ls r) ∙ ap (around a l) (set_inside a f ls r)
  where
    set_followed : (f : Frame → Frame) (r : Residual) (ss : List ℕ) → in_innermost f (followed r ss) ≡ followed (in_innermost f r) ss
    set_followed f r [] = refl
    set_followed f r (s ∷ ss) = refl

    one_block : (a : Arena) (f : Frame → Frame) (l : Open) (r : Residual) → in_innermost f (around a l r) ≡ around a l (in_innermost f r)
    one_block a f (layer.Rest c) r = set_followed f r (rest_at a c)
    one_block a f (layer.Again s) r = refl
    one_block a f (layer.Owed u) r = refl
    one_block a f (layer.Guard u) r = refl
    one_block a f (layer.Try s) r = refl
    one_block a f layer.Run r = refl
    one_block a f (layer.Goal k) r = refl

goal_inside : (a : Arena) (ls : List Open) (r : Residual) → has_goal (inside a ls r) ≡ (has_goal r || among is_goal ls)
goal_inside a [] r = sym (or_false (has_goal r))
goal_inside a (l ∷ ls) r = one_block a l (inside a ls r) ∙ ap (λ b. b || is_goal l) (goal_inside a ls r) ∙ or_assoc (has_goal r) (among is_goal ls) (is_goal l)
  where
    one_block : (a : Arena) (l : Open) (r : Residual) → has_goal (around a l r) ≡ (has_goal r || is_goal l)
    one_block a (layer.Rest c) r = followed_same has_goal (λ r s ss. refl) r (rest_at a c) ∙ sym (or_false (has_goal r))
    one_block a (layer.Again s) r = sym (or_false (has_goal r))
    one_block a (layer.Owed u) r = sym (or_false (has_goal r))
    one_block a (layer.Guard u) r = sym (or_false (has_goal r))
    one_block a (layer.Try s) r = sym (or_false (has_goal r))
    one_block a layer.Run r = sym (or_false (has_goal r))
    one_block a (layer.Goal k) r = sym (or_true (has_goal r))

pub exit_inside : (a : Arena) (ls : List Open) (r : Residual) → has_exit (inside a ls r) ≡ (has_exit r || among is_run ls)
exit_inside a [] r = sym (or_false (has_exit r))
exit_inside a (l ∷ ls) r = one_block a l (inside a ls r) ∙ ap (λ b. b || is_run l) (exit_inside a ls r) ∙ or_assoc (has_exit r) (among is_run ls) (is_run l)
  where
    one_block : (a : Arena) (l : Open) (r : Residual) → has_exit (around a l r) ≡ (has_exit r || is_run l)
    one_block a (layer.Rest c) r = followed_same has_exit (λ r s ss. refl) r (rest_at a c) ∙ sym (or_false (has_exit r))
    one_block a (layer.Again s) r = sym (or_false (has_exit r))
    one_block a (layer.Owed u) r = sym (or_false (has_exit r))
    one_block a (layer.Guard u) r = sym (or_false (has_exit r))
    one_block a (layer.Try s) r = sym (or_false (has_exit r))
    one_block a layer.Run r = sym (or_true (has_exit r))
    one_block a (layer.Goal k) r = sym (or_false (has_exit r))

pub catches_inside : (a : Arena) (e : ℕ) (ls : List Open) (r : Residual) → catches (inside a ls r) e ≡ (catches r e || among (is_handling a e) ls)
catches_inside a e [] r = sym (or_false (catches r e))
catches_inside a e (l ∷ ls) r =
    one_block a e l (inside a ls r) ∙ ap (λ b. b || is_handling a e l) (catches_inside a e ls r) ∙ or_assoc (catches r e) (among (is_handling a e) ls) (is_handling a e l)
  where
    one_block : (a : Arena) (e : ℕ) (l : Open) (r : Residual) → catches (around a l r) e ≡ (catches r e || is_handling a e l)
    one_block a e (layer.Rest c) r = followed_same (λ q. catches q e) (λ r s ss. refl) r (rest_at a c) ∙ sym (or_false (catches r e))
    one_block a e (layer.Again s) r = sym (or_false (catches r e))
    one_block a e (layer.Owed u) r = sym (or_false (catches r e))
    one_block a e (layer.Guard u) r = sym (or_false (catches r e))
    one_block a e (layer.Try s) r = refl
    one_block a e layer.Run r = sym (or_false (catches r e))
    one_block a e (layer.Goal k) r = sym (or_false (catches r e))

-- calls

innermost_wrapped : (b : Bool) (x : Frame) (r : Residual) → innermost (wrapped b x r) ≡ or_frame (innermost r) x
innermost_wrapped false x r = refl
innermost_wrapped true x r = refl

within_wrapped : (b : Bool) (x : Frame) (r : Residual) → within (wrapped b x r) ≡ or_via (within r) x.via
within_wrapped false x r = refl
within_wrapped true x r = refl

calls_wrapped : (b : Bool) (x : Frame) (r : Residual) → open_frames (wrapped b x r) ≡ open_frames r + counted_call x.call
calls_wrapped false x r = refl
calls_wrapped true x r = refl

nb_wrapped : (b : Bool) (x : Frame) (r : Residual) → in_nb (wrapped b x r) ≡ (in_nb r || open_nonblocking b x.via)
nb_wrapped false x r = refl
nb_wrapped true x r = sym (or_false (in_nb r))

left_wrapped : (b : Bool) (x : Frame) (r : Residual) → left_by_unw (wrapped b x r) ≡ left_by_unw r ++ left_via (left_by_frame b x.via)
left_wrapped false x r = refl
left_wrapped true x r = sym (append-nil (left_by_unw r))

goal_wrapped : (b : Bool) (x : Frame) (r : Residual) → has_goal (wrapped b x r) ≡ has_goal r
goal_wrapped false x r = refl
goal_wrapped true x r = refl

pub catches_wrapped : (b : Bool) (x : Frame) (r : Residual) (e : ℕ) → catches (wrapped b x r) e ≡ catches r e
catches_wrapped false x r e = refl
catches_wrapped true x r e = refl

exit_wrapped : (b : Bool) (x : Frame) (r : Residual) → has_exit (wrapped b x r) ≡ (has_exit r || not b)
exit_wrapped false x r = sym (or_true (has_exit r))
exit_wrapped true x r = sym (or_false (has_exit r))

set_wrapped : (f : Frame → Frame) (b : Bool) (x : Frame) (r : Residual) → in_innermost f (wrapped b x r) ≡ wrapped b (changed_if (innermost r) f x) (in_innermost f r)
set_wrapped f false x r = refl
set_wrapped f true x r = refl

-- frames

pub innermost_cut : (a : Arena) (x : Saved) (m : ℕ) (r : Residual) → innermost (cut a x m r) ≡ or_frame (innermost r) (call_of x.frame)
innermost_cut a x m r = innermost_wrapped x.shell (call_of x.frame) (inside a (take m x.blocks.items) r) ∙ ap (λ o. or_frame o (call_of x.frame)) (innermost_inside a (take m x.blocks.items) r)

pub innermost_whole : (a : Arena) (x : Saved) (r : Residual) → innermost (whole a x r) ≡ or_frame (innermost r) (call_of x.frame)
innermost_whole a x r = innermost_wrapped x.shell (call_of x.frame) (inside a x.blocks.items r) ∙ ap (λ o. or_frame o (call_of x.frame)) (innermost_inside a x.blocks.items r)

pub innermost_frames : (a : Arena) (xs : List Saved) (r : Residual) → innermost r ≡ None → innermost (inside_frames a xs r) ≡ last_call xs
innermost_frames a [] r e = e
innermost_frames a (x ∷ xs) r e = innermost_whole a x (inside_frames a xs r) ∙ ap (λ o. or_frame o (call_of x.frame)) (innermost_frames a xs r e)

pub within_cut : (a : Arena) (x : Saved) (m : ℕ) (r : Residual) → within (cut a x m r) ≡ or_via (within r) x.frame.via
within_cut a x m r = within_wrapped x.shell (call_of x.frame) (inside a (take m x.blocks.items) r) ∙ ap (λ o. or_via o x.frame.via) (within_inside a (take m x.blocks.items) r)

pub within_whole : (a : Arena) (x : Saved) (r : Residual) → within (whole a x r) ≡ or_via (within r) x.frame.via
within_whole a x r = within_wrapped x.shell (call_of x.frame) (inside a x.blocks.items r) ∙ ap (λ o. or_via o x.frame.via) (within_inside a x.blocks.items r)

pub within_frames : (a : Arena) (xs : List Saved) (r : Residual) → within r ≡ None → within (inside_frames a xs r) ≡ last_via xs
within_frames a [] r e = e
within_frames a (x ∷ xs) r e = within_whole a x (inside_frames a xs r) ∙ ap (λ o. or_via o x.frame.via) (within_frames a xs r e)

pub calls_cut : (a : Arena) (x : Saved) (m : ℕ) (r : Residual) → open_frames (cut a x m r) ≡ open_frames r + counted_call x.frame.call
calls_cut a x m r = calls_wrapped x.shell (call_of x.frame) (inside a (take m x.blocks.items) r) ∙ ap (λ n. n + counted_call x.frame.call) (calls_inside a (take m x.blocks.items) r)

pub calls_whole : (a : Arena) (x : Saved) (r : Residual) → open_frames (whole a x r) ≡ open_frames r + counted_call x.frame.call
calls_whole a x r = calls_wrapped x.shell (call_of x.frame) (inside a x.blocks.items r) ∙ ap (λ n. n + counted_call x.frame.call) (calls_inside a x.blocks.items r)

pub calls_frames : (a : Arena) (xs : List Saved) (r : Residual) → open_frames r ≡ 0 → open_frames (inside_frames a xs r) ≡ many_calls xs
calls_frames a [] r e = e
calls_frames a (x ∷ xs) r e = calls_whole a x (inside_frames a xs r) ∙ ap (λ n. n + counted_call x.frame.call) (calls_frames a xs r e)

pub nb_frames : (a : Arena) (xs : List Saved) (r : Residual) → in_nb r ≡ false → in_nb (inside_frames a xs r) ≡ among is_open_nonblocking xs
nb_frames a [] r e = e
nb_frames a (x ∷ xs) r e =
    nb_wrapped x.shell (call_of x.frame) (inside a x.blocks.items (inside_frames a xs r))
    ∙ ap (λ b. b || open_nonblocking x.shell x.frame.via) (nb_inside a x.blocks.items (inside_frames a xs r) ∙ nb_frames a xs r e)

pub goal_frames : (a : Arena) (xs : List Saved) (r : Residual) → has_goal r ≡ false → has_goal (inside_frames a xs r) ≡ among unwinds xs
goal_frames a [] r e = e
goal_frames a (x ∷ xs) r e =
    goal_wrapped x.shell (call_of x.frame) (inside a x.blocks.items (inside_frames a xs r))
    ∙ goal_inside a x.blocks.items (inside_frames a xs r)
    ∙ ap (λ b. b || among is_goal x.blocks.items) (goal_frames a xs r e)

pub catches_whole : (a : Arena) (e : ℕ) (x : Saved) (r : Residual) → catches (whole a x r) e ≡ (catches r e || has_handler a e x)
catches_whole a e x r = catches_wrapped x.shell (call_of x.frame) (inside a x.blocks.items r) e ∙ catches_inside a e x.blocks.items r

pub catches_frames : (a : Arena) (e : ℕ) (xs : List Saved) (r : Residual) → catches r e ≡ false → catches (inside_frames a xs r) e ≡ among (has_handler a e) xs
catches_frames a e [] r h = h
catches_frames a e (x ∷ xs) r h = catches_whole a e x (inside_frames a xs r) ∙ ap (λ b. b || has_handler a e x) (catches_frames a e xs r h)

exit_whole : (a : Arena) (x : Saved) (r : Residual) → has_exit (whole a x r) ≡ (has_exit r || is_exit x)
exit_whole a x r =
    exit_wrapped x.shell (call_of x.frame) (inside a x.blocks.items r)
    ∙ ap (λ b. b || not x.shell) (exit_inside a x.blocks.items r)
    ∙ or_assoc (has_exit r) (among is_run x.blocks.items) (not x.shell)

pub exit_frames : (a : Arena) (xs : List Saved) (r : Residual) → has_exit r ≡ false → has_exit (inside_frames a xs r) ≡ among is_exit xs
exit_frames a [] r e = e
exit_frames a (x ∷ xs) r e = exit_whole a x (inside_frames a xs r) ∙ ap (λ b. b || is_exit x) (exit_frames a xs r e)

pub left_frames : (a : Arena) (xs : List Saved) (r : Residual) → left_by_unw r ≡ [] → left_by_unw (inside_frames a xs r) ≡ left_all xs
left_frames a [] r e = e
left_frames a (x ∷ xs) r e =
    left_wrapped x.shell (call_of x.frame) (inside a x.blocks.items (inside_frames a xs r))
    ∙ ap (λ vs. vs ++ left_via (left_at x)) (left_inside a x.blocks.items (inside_frames a xs r) ∙ left_frames a xs r e)

-- a local variable of the innermost call

pub set_here : (a : Arena) (f : Frame → Frame) (x : Saved) (r : Residual) → innermost r ≡ None → in_innermost f r ≡ r → in_innermost f (whole a x r) ≡ wrapped x.shell (f (call_of x.frame)) (inside a x.blocks.items r)
set_here a f x r e same =
    set_wrapped f x.shell (call_of x.frame) (inside a x.blocks.items r)
    ∙ ap (λ o. wrapped x.shell (changed_if o f (call_of x.frame)) (in_innermost f (inside a x.blocks.items r))) (innermost_inside a x.blocks.items r ∙ e)
    ∙ ap (wrapped x.shell (f (call_of x.frame))) (set_inside a f x.blocks.items r ∙ ap (inside a x.blocks.items) same)

changed_some : (o : Option Frame) (f : Frame → Frame) (x : Frame) → is_some o ≡ true → changed_if o f x ≡ x
changed_some None f x h = cc
changed_some (Some y) f x h = refl

pub set_outside : (a : Arena) (f : Frame → Frame) (x : Saved) (r : Residual) → is_some (innermost r) ≡ true → in_innermost f (whole a x r) ≡ whole a x (in_innermost f r)
set_outside a f x r h =
    let some : is_some (innermost (inside a x.blocks.items r)) ≡ true = ap is_some (innermost_inside a x.blocks.items r) ∙ h in
    set_wrapped f x.shell (call_of x.frame) (inside a x.blocks.items r)
    ∙ ap (λ y. wrapped x.shell y (in_innermost f (inside a x.blocks.items r))) (changed_some (innermost (inside a x.blocks.items r)) f (call_of x.frame) some)
    ∙ ap (wrapped x.shell (call_of x.frame)) (set_inside a f x.blocks.items r)

-- a return, in one frame

pub exit_then : (x : Saved) (b : Bool) → b ≡ true → b ≡ among is_run x.blocks.items → b ≡ is_exit x
exit_then x b e is = e ∙ sym (ap (λ c. c || not x.shell) (sym is ∙ e))

pub exit_else : (x : Saved) (b : Bool) → b ≡ false → b ≡ among is_run x.blocks.items → not x.shell ≡ is_exit x
exit_else x b e is = sym (ap (λ c. c || not x.shell) (sym is ∙ e))

pub shell_off : (x : Saved) → is_exit x ≡ true → NoneIs is_run x.blocks.items → x.shell ≡ false
shell_off x h n = by_shell x.shell (sym (ap (λ b. b || not x.shell) (among_none is_run x.blocks.items n)) ∙ h)
  where
    by_shell : (b : Bool) → not b ≡ true → b ≡ false
    by_shell true e = cc
    by_shell false e = refl

ended_here : (a : Arena) (v : Option Value) (l : Open) (r : Residual) → is_run l ≡ true → has_exit r ≡ false → returned v (around a l r) ≡ around a l skip
ended_here a v (layer.Rest c) r h e = cc
ended_here a v (layer.Again s) r h e = cc
ended_here a v (layer.Owed u) r h e = cc
ended_here a v (layer.Guard u) r h e = cc
ended_here a v (layer.Try s) r h e = cc
ended_here a v layer.Run r h e = if_false (has_exit r) _ _ e
ended_here a v (layer.Goal k) r h e = cc

ended_inside : (a : Arena) (v : Option Value) (ls : List Open) (i : ℕ) (r : Residual) → LastIs is_run ls i → has_exit r ≡ false → returned v (inside a ls r) ≡ inside a (take (suc i) ls) skip
ended_inside a v [] i r h e = absurd h
ended_inside a v (l ∷ ls) zero r h e = ended_here a v l (inside a ls r) h.0 (exit_inside a ls r ∙ ap (λ b. b || among is_run ls) e ∙ among_none is_run ls h.1)
ended_inside a v (l ∷ ls) (suc i) r h e =
    (through_block a l).returns v (inside a ls r) (exit_inside a ls r ∙ ap (λ b. b || among is_run ls) e ∙ among_last is_run ls i h) ∙ ap (around a l) (ended_inside a v ls i r h e)

pub ended_run : (a : Arena) (v : Option Value) (b : Bool) (x : Frame) (ls : List Open) (i : ℕ) (r : Residual) → LastIs is_run ls i → has_exit r ≡ false → returned v (wrapped b x (inside a ls r)) ≡ wrapped b x (inside a (take (suc i) ls) skip)
ended_run a v b x ls i r h e =
    (through_call a b x).returns v (inside a ls r) (exit_inside a ls r ∙ ap (λ c. c || among is_run ls) e ∙ among_last is_run ls i h) ∙ ap (wrapped b x) (ended_inside a v ls i r h e)

pub ended_call : (a : Arena) (v : Option Value) (b : Bool) (x : Frame) (ls : List Open) (r : Residual) → b ≡ false → NoneIs is_run ls → has_exit r ≡ false → returned v (wrapped b x (inside a ls r)) ≡ wrapped b (record x { answer = v }) skip
ended_call a v true x ls r off n e = cc
ended_call a v false x ls r off n e = if_false (has_exit (inside a ls r)) _ _ (exit_inside a ls r ∙ ap (λ c. c || among is_run ls) e ∙ among_none is_run ls n)
