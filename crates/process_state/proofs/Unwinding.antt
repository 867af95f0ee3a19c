-- Saved frames that are unwound, and an exception that is raised inside them.
use Rattle.std.proofs.Common.{◌≡◌, ℕ, ◌<◌, ◌≤◌, zero, suc, Bool, true, false, List, [], ◌∷◌, Option, Some, None, length, drop, get_or, set, refl, sym, ap, ◌∙◌, subst, arith}
use Rattle.std.specs.Vec.{vec_capacity}
use Rattle.std.specs.Prelude.{◌||◌}
use Rattle.kernel_bodies.specs.FlatDesign.Code.{Arena}
use Rattle.kernel_bodies.specs.SimModel.Residual.{Residual, Frame, shell, followed, has_goal}
use Rattle.kernel_bodies.specs.SimModel.declared.plain.Goal.{Goal}
use Rattle.kernel_bodies.specs.SimModel.Unwinding.{unw, catches, handles, raise, left_by_unw, left_by_raise}
use Rattle.kernel_bodies.specs.Depths.{handlers_of}
use Rattle.kernel_bodies.specs.declared.layers.Saved.{Saved}
use Rattle.kernel_bodies.specs.declared.layers.Open.{Open}
use Rattle.kernel_bodies.specs.declared.layers.Open.TheVariants as layer
use Rattle.kernel_bodies.specs.declared.layers.Frame.{Frame as Kept}
use Rattle.kernel_bodies.specs.Layers.{call_of, around, inside, wrapped, whole, inside_frames, under, rest_at}
use Rattle.kernel_bodies.specs.Sought.{NoneIs, LastIs, among, is_handling, has_handler, unwinds}
use Rattle.kernel_bodies.specs.Unwound.{unwound_all, IsUnwound, AreUnwound, left_all}
use Rattle.kernel_bodies.specs.Room.{FitsIn, EachFitsIn, room_of_own, own_locals, own_blocks, SameCall, SameRoom}
use Rattle.process_state.specs.Bodies.{IsOwnFirst}
use Rattle.kernel_bodies.proofs.Passing.{through_block, through_frame, if_true, if_false}
use Rattle.kernel_bodies.proofs.Seeking.{among_none, among_last, none_is, catches_inside, catches_frames, goal_frames, left_frames, left_inside}
use Rattle.kernel_bodies.proofs.Unwinds.{unw_inside, fits_unwound}
use Rattle.kernel_bodies.proofs.Rooms.{fits_at_cap}

-- the goal of all

pub unw_under : (g : Option Goal) (r : Residual) → unw (under g r) ≡ unw r
unw_under None r = refl
unw_under (Some k) r = refl

pub catches_under : (g : Option Goal) (r : Residual) (e : ℕ) → catches (under g r) e ≡ catches r e
catches_under None r e = refl
catches_under (Some k) r e = refl

pub left_under : (g : Option Goal) (r : Residual) → left_by_unw (under g r) ≡ left_by_unw r
left_under None r = refl
left_under (Some k) r = refl

pub left_raise_under : (g : Option Goal) (r : Residual) (e : ℕ) → left_by_raise (under g r) e ≡ left_by_raise r e
left_raise_under None r e = refl
left_raise_under (Some k) r e = refl

pub no_goal : (a : Arena) (g : Option Goal) (xs : List Saved) (r : Residual) → has_goal r ≡ false → has_goal (under g (inside_frames a xs r)) ≡ false → NoneIs unwinds xs
no_goal a None xs r n e = none_is unwinds xs (sym (goal_frames a xs r n) ∙ e)
no_goal a (Some k) xs r n e = cc

-- all is unwound

unw_wrapped : (b : Bool) (x : Frame) (r : Residual) → unw (wrapped b x r) ≡ shell (unw r) x
unw_wrapped false x r = refl
unw_wrapped true x r = refl

unw_whole : (a : Arena) (x y : Saved) (r q : Residual) → IsUnwound x y → unw r ≡ q → unw (whole a x r) ≡ whole a y q
unw_whole a x y r q u e =
    unw_wrapped x.shell (call_of x.frame) (inside a x.blocks.items r)
    ∙ ap (λ p. shell p (call_of x.frame)) (unw_inside a x.blocks.items r ∙ ap (inside a (unwound_all x.blocks.items)) e ∙ ap (λ ls. inside a ls q) (sym u.blocks))
    ∙ ap (λ (f : Kept). wrapped true (call_of f) (inside a y.blocks.items q)) (sym u.frame)
    ∙ ap (λ b. wrapped b (call_of y.frame) (inside a y.blocks.items q)) (sym u.shell)

pub unw_frames : (a : Arena) (xs ys : List Saved) (r : Residual) → AreUnwound zero xs ys → unw (inside_frames a xs r) ≡ inside_frames a ys (unw r)
unw_frames a [] [] r u = refl
unw_frames a [] (y ∷ ys) r u = absurd u
unw_frames a (x ∷ xs) [] r u = absurd u
unw_frames a (x ∷ xs) (y ∷ ys) r u = unw_whole a x y (inside_frames a xs r) (inside_frames a ys (unw r)) u.0 (unw_frames a xs ys r u.1)

-- an exception

raise_wrapped : (a : Arena) (b : Bool) (x : Frame) (r : Residual) (e : ℕ) (k : Goal) → raise a (wrapped b x r) e k ≡ wrapped b x (raise a r e k)
raise_wrapped a false x r e k = refl
raise_wrapped a true x r e k = refl

abbrev pub RaisesIn : Arena → ℕ → Goal → Saved → Saved → Type 0
RaisesIn a e k x y = (r : Residual) → catches r e ≡ false → raise a (inside a x.blocks.items r) e k ≡ inside a y.blocks.items (unw r)

raise_whole : (a : Arena) (e : ℕ) (k : Goal) (x y : Saved) (r q : Residual) → SameCall x y → RaisesIn a e k x y → catches r e ≡ false → unw r ≡ q → raise a (whole a x r) e k ≡ whole a y q
raise_whole a e k x y r q s h n u =
    raise_wrapped a x.shell (call_of x.frame) (inside a x.blocks.items r) e k
    ∙ ap (wrapped x.shell (call_of x.frame)) (h r n ∙ ap (inside a y.blocks.items) u)
    ∙ ap (λ (f : Kept). wrapped x.shell (call_of f) (inside a y.blocks.items q)) (sym s.frame)
    ∙ ap (λ b. wrapped b (call_of y.frame) (inside a y.blocks.items q)) (sym s.shell)

pub raise_frames : (a : Arena) (e : ℕ) (k : Goal) (xs ys : List Saved) (i : ℕ) (d y : Saved) (r : Residual) → AreUnwound (suc i) xs ys → LastIs (has_handler a e) xs i → d ≡ get_or ys i d → SameCall d y → RaisesIn a e k d y → catches r e ≡ false
    → raise a (inside_frames a xs r) e k ≡ inside_frames a (set ys i y) (unw r)
raise_frames a e k [] ys i d y r u h is s raises n = absurd h
raise_frames a e k (x ∷ xs) [] i d y r u h is s raises n = absurd u
raise_frames a e k (x ∷ xs) (z ∷ ys) zero d y r u h is s raises n =
    let same : d ≡ x = is ∙ u.0 in
    let P : Saved → Type 0 = λ w. SameCall w y in
    let Q : Saved → Type 0 = λ w. RaisesIn a e k w y in
    raise_whole a e k x y (inside_frames a xs r) (inside_frames a ys (unw r)) (subst P same s) (subst Q same raises) (catches_frames a e xs r n ∙ among_none (has_handler a e) xs h.1) (unw_frames a xs ys r u.1)
raise_frames a e k (x ∷ xs) (z ∷ ys) (suc i) d y r u h is s raises n =
    (through_frame a x).raises (inside_frames a xs r) e k (catches_frames a e xs r n ∙ among_last (has_handler a e) xs i h)
    ∙ ap (whole a x) (raise_frames a e k xs ys i d y r u.1 h is s raises n)
    ∙ ap (λ w. whole a w (inside_frames a (set ys i y) (unw r))) (sym u.0)

pub unwound_at : (xs ys : List Saved) (i : ℕ) (d : Saved) → AreUnwound (suc i) xs ys → get_or ys i d ≡ get_or xs i d
unwound_at [] [] i d u = refl
unwound_at [] (y ∷ ys) i d u = absurd u
unwound_at (x ∷ xs) [] i d u = absurd u
unwound_at (x ∷ xs) (y ∷ ys) zero d u = u.0
unwound_at (x ∷ xs) (y ∷ ys) (suc i) d u = unwound_at xs ys i d u.1

pub unwound_length : (n : ℕ) (xs ys : List Saved) → AreUnwound n xs ys → length ys ≡ length xs
unwound_length n [] [] u = refl
unwound_length n [] (y ∷ ys) u = absurd u
unwound_length n (x ∷ xs) [] u = absurd u
unwound_length zero (x ∷ xs) (y ∷ ys) u = ap suc (unwound_length zero xs ys u.1)
unwound_length (suc n) (x ∷ xs) (y ∷ ys) u = ap suc (unwound_length n xs ys u.1)

pub none_there : (p : Saved → Bool) (xs : List Saved) (i : ℕ) (d : Saved) → i < length xs → NoneIs p xs → p (get_or xs i d) ≡ false
none_there p [] i d h n = absurd (omega (arith, h))
none_there p (x ∷ xs) zero d h n = n.0
none_there p (x ∷ xs) (suc i) d h n = none_there p xs i d (omega (arith, h)) n.1

-- the transport calls that it leaves

left_raise_wrapped : (b : Bool) (x : Frame) (r : Residual) (e : ℕ) → left_by_raise (wrapped b x r) e ≡ left_by_raise r e
left_raise_wrapped false x r e = refl
left_raise_wrapped true x r e = refl

left_raise_here : (a : Arena) (l : Open) (r : Residual) (e : ℕ) → is_handling a e l ≡ true → catches r e ≡ false → left_by_raise (around a l r) e ≡ left_by_unw r
left_raise_here a (layer.Rest c) r e h n = cc
left_raise_here a (layer.Again s) r e h n = cc
left_raise_here a (layer.Owed u) r e h n = cc
left_raise_here a (layer.Guard u) r e h n = cc
left_raise_here a (layer.Try s) r e h n = if_false (catches r e) _ _ n ∙ if_true (handles (handlers_of a s) e) _ _ h
left_raise_here a layer.Run r e h n = cc
left_raise_here a (layer.Goal g) r e h n = cc

left_raise_block : (a : Arena) (l : Open) (ls : List Open) (r : Residual) (e : ℕ) (b : Bool) → among (is_handling a e) ls ≡ b → (among (is_handling a e) ls || is_handling a e l) ≡ true → catches r e ≡ false
    → (b ≡ true → left_by_raise (inside a ls r) e ≡ left_by_unw r) → left_by_raise (around a l (inside a ls r)) e ≡ left_by_unw r
left_raise_block a l ls r e true is h n inner =
    (through_block a l).raise_leaves (inside a ls r) e (catches_inside a e ls r ∙ ap (λ x. x || among (is_handling a e) ls) n ∙ is) ∙ inner refl
left_raise_block a l ls r e false is h n inner =
    left_raise_here a l (inside a ls r) e (ap (λ b. b || is_handling a e l) (sym is) ∙ h) (catches_inside a e ls r ∙ ap (λ x. x || among (is_handling a e) ls) n ∙ is) ∙ left_inside a ls r

left_raise_inside : (a : Arena) (ls : List Open) (r : Residual) (e : ℕ) → among (is_handling a e) ls ≡ true → catches r e ≡ false → left_by_raise (inside a ls r) e ≡ left_by_unw r
left_raise_inside a [] r e h n = cc
left_raise_inside a (l ∷ ls) r e h n = left_raise_block a l ls r e (among (is_handling a e) ls) refl h n (λ is. left_raise_inside a ls r e is n)

pub left_raise_frames : (a : Arena) (e : ℕ) (xs : List Saved) (i : ℕ) (r : Residual) → LastIs (has_handler a e) xs i → catches r e ≡ false → left_by_unw r ≡ [] → left_by_raise (inside_frames a xs r) e ≡ left_all (drop (suc i) xs)
left_raise_frames a e [] i r h n m = absurd h
left_raise_frames a e (x ∷ xs) zero r h n m =
    left_raise_wrapped x.shell (call_of x.frame) (inside a x.blocks.items (inside_frames a xs r)) e
    ∙ left_raise_inside a x.blocks.items (inside_frames a xs r) e h.0 (catches_frames a e xs r n ∙ among_none (has_handler a e) xs h.1)
    ∙ left_frames a xs r m
left_raise_frames a e (x ∷ xs) (suc i) r h n m =
    (through_frame a x).raise_leaves (inside_frames a xs r) e (catches_frames a e xs r n ∙ among_last (has_handler a e) xs i h) ∙ left_raise_frames a e xs i r h n m

nothing_left : (a : Arena) (l : Open) (r : Residual) (e : ℕ) → is_handling a e l ≡ false → catches r e ≡ false → left_by_raise r e ≡ [] → left_by_raise (around a l r) e ≡ []
nothing_left a (layer.Rest c) r e h n m = followed_left r (rest_at a c) ∙ m
  where
    followed_left : (r : Residual) (ss : List ℕ) → left_by_raise (followed r ss) e ≡ left_by_raise r e
    followed_left r [] = refl
    followed_left r (s ∷ ss) = refl
nothing_left a (layer.Again s) r e h n m = m
nothing_left a (layer.Owed u) r e h n m = m
nothing_left a (layer.Guard u) r e h n m = m
nothing_left a (layer.Try s) r e h n m = if_false (catches r e) _ _ n ∙ if_false (handles (handlers_of a s) e) _ _ h
nothing_left a layer.Run r e h n m = m
nothing_left a (layer.Goal g) r e h n m = m

nothing_inside : (a : Arena) (ls : List Open) (r : Residual) (e : ℕ) → NoneIs (is_handling a e) ls → catches r e ≡ false → left_by_raise r e ≡ [] → left_by_raise (inside a ls r) e ≡ []
nothing_inside a [] r e h n m = m
nothing_inside a (l ∷ ls) r e h n m =
    nothing_left a l (inside a ls r) e h.0 (catches_inside a e ls r ∙ ap (λ b. b || among (is_handling a e) ls) n ∙ among_none (is_handling a e) ls h.1) (nothing_inside a ls r e h.1 n m)

pub left_raise_none : (a : Arena) (e : ℕ) (xs : List Saved) (r : Residual) → NoneIs (has_handler a e) xs → catches r e ≡ false → left_by_raise r e ≡ [] → left_by_raise (inside_frames a xs r) e ≡ []
left_raise_none a e [] r h n m = m
left_raise_none a e (x ∷ xs) r h n m =
    left_raise_wrapped x.shell (call_of x.frame) (inside a x.blocks.items (inside_frames a xs r)) e
    ∙ nothing_inside a x.blocks.items (inside_frames a xs r) e (none_is (is_handling a e) x.blocks.items h.0) (catches_frames a e xs r n ∙ among_none (has_handler a e) xs h.1) (left_raise_none a e xs r h.1 n m)

-- room

unwound_fits : (a : Arena) (ds : List ℕ) (x y : Saved) → IsUnwound x y → FitsIn a ds x None → FitsIn a ds y None
unwound_fits a ds x y u h =
    fits_at_cap a ds (vec_capacity x.blocks) (vec_capacity y.blocks) (unwound_all x.blocks.items) y.blocks.items None None (omega (arith, u.room)) u.blocks refl (fits_unwound a ds (vec_capacity x.blocks) x.blocks.items h)

pub unwound_each : (a : Arena) (ds : List ℕ) (n : ℕ) (xs ys : List Saved) → AreUnwound n xs ys → EachFitsIn a ds xs → EachFitsIn a ds ys
unwound_each a ds n [] [] u h = tt
unwound_each a ds n [] (y ∷ ys) u h = absurd u
unwound_each a ds n (x ∷ xs) [] u h = absurd u
unwound_each a ds zero (x ∷ xs) (y ∷ ys) u h = (unwound_fits a ds x y u.0 h.0, unwound_each a ds zero xs ys u.1 h.1)
unwound_each a ds (suc n) (x ∷ xs) (y ∷ ys) u h = let P : Saved → Type 0 = λ z. FitsIn a ds z None in (subst P (sym u.0) h.0, unwound_each a ds n xs ys u.1 h.1)

pub unwound_own : (n : ℕ) (xs ys : List Saved) → AreUnwound n xs ys → IsOwnFirst xs → IsOwnFirst ys
unwound_own n [] [] u h = tt
unwound_own n [] (y ∷ ys) u h = absurd u
unwound_own n (x ∷ xs) [] u h = absurd u
unwound_own zero (x ∷ xs) (y ∷ ys) u h = ap (λ (f : Kept). f.call) u.0.frame ∙ h
unwound_own (suc n) (x ∷ xs) (y ∷ ys) u h = ap (λ (z : Saved). z.frame.call) u.0 ∙ h

pub set_own : (xs : List Saved) (i : ℕ) (d y : Saved) → SameRoom (get_or xs i d) y → IsOwnFirst xs → IsOwnFirst (set xs i y)
set_own [] i d y s h = h
set_own (x ∷ xs) zero d y s h = s.call ∙ h
set_own (x ∷ xs) (suc i) d y s h = h

pub unwound_locals : (m n : ℕ) (xs ys : List Saved) → AreUnwound n xs ys → own_locals m ys ≡ own_locals m xs
unwound_locals m n [] [] u = refl
unwound_locals m n [] (y ∷ ys) u = absurd u
unwound_locals m n (x ∷ xs) [] u = absurd u
unwound_locals m zero (x ∷ xs) (y ∷ ys) u = ap (λ (f : Kept). room_of_own f.call (vec_capacity f.locals) (own_locals m ys)) u.0.frame ∙ ap (room_of_own x.frame.call (vec_capacity x.frame.locals)) (unwound_locals m zero xs ys u.1)
unwound_locals m (suc n) (x ∷ xs) (y ∷ ys) u =
    ap (λ (z : Saved). room_of_own z.frame.call (vec_capacity z.frame.locals) (own_locals m ys)) u.0 ∙ ap (room_of_own x.frame.call (vec_capacity x.frame.locals)) (unwound_locals m n xs ys u.1)

pub unwound_blocks : (m n : ℕ) (xs ys : List Saved) → AreUnwound n xs ys → own_blocks m ys ≡ own_blocks m xs
unwound_blocks m n [] [] u = refl
unwound_blocks m n [] (y ∷ ys) u = absurd u
unwound_blocks m n (x ∷ xs) [] u = absurd u
unwound_blocks m zero (x ∷ xs) (y ∷ ys) u =
    ap (λ (f : Kept). room_of_own f.call (vec_capacity y.blocks) (own_blocks m ys)) u.0.frame
    ∙ ap (λ c. room_of_own x.frame.call c (own_blocks m ys)) u.0.room
    ∙ ap (room_of_own x.frame.call (vec_capacity x.blocks)) (unwound_blocks m zero xs ys u.1)
unwound_blocks m (suc n) (x ∷ xs) (y ∷ ys) u =
    ap (λ (z : Saved). room_of_own z.frame.call (vec_capacity z.blocks) (own_blocks m ys)) u.0 ∙ ap (room_of_own x.frame.call (vec_capacity x.blocks)) (unwound_blocks m n xs ys u.1)

-- one frame in place of another

pub each_set : (a : Arena) (ds : List ℕ) (xs : List Saved) (i : ℕ) (y : Saved) → EachFitsIn a ds xs → FitsIn a ds y None → EachFitsIn a ds (set xs i y)
each_set a ds [] i y h k = h
each_set a ds (x ∷ xs) zero y h k = (k, h.1)
each_set a ds (x ∷ xs) (suc i) y h k = (h.0, each_set a ds xs i y h.1 k)

pub set_locals : (m : ℕ) (xs : List Saved) (i : ℕ) (d y : Saved) → SameRoom (get_or xs i d) y → own_locals m (set xs i y) ≡ own_locals m xs
set_locals m [] i d y s = refl
set_locals m (x ∷ xs) zero d y s = ap (λ o. room_of_own o (vec_capacity y.frame.locals) (own_locals m xs)) s.call ∙ ap (λ n. room_of_own x.frame.call n (own_locals m xs)) s.locals
set_locals m (x ∷ xs) (suc i) d y s = ap (room_of_own x.frame.call (vec_capacity x.frame.locals)) (set_locals m xs i d y s)

pub set_blocks : (m : ℕ) (xs : List Saved) (i : ℕ) (d y : Saved) → SameRoom (get_or xs i d) y → own_blocks m xs ≤ own_blocks m (set xs i y)
set_blocks m [] i d y s = omega arith
set_blocks m (x ∷ xs) zero d y s =
    let e : room_of_own y.frame.call (vec_capacity y.blocks) (own_blocks m xs) ≡ room_of_own x.frame.call (vec_capacity y.blocks) (own_blocks m xs) = ap (λ o. room_of_own o (vec_capacity y.blocks) (own_blocks m xs)) s.call in
    omega (arith, e, larger x.frame.call (vec_capacity x.blocks) (vec_capacity y.blocks) (own_blocks m xs) s.room)
  where
    larger : (o : Option ℕ) (k j m : ℕ) → k ≤ j → room_of_own o k m ≤ room_of_own o j m
    larger None k j m h = h
    larger (Some s) k j m h = omega arith
set_blocks m (x ∷ xs) (suc i) d y s = rises x.frame.call (vec_capacity x.blocks) _ _ (set_blocks m xs i d y s)
  where
    rises : (o : Option ℕ) (k m n : ℕ) → m ≤ n → room_of_own o k m ≤ room_of_own o k n
    rises None k m n h = omega arith
    rises (Some s) k m n h = h
