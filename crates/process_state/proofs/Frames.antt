-- The innermost of saved frames, changed: what is left then, and the room that it has.
use Rattle.std.proofs.Common.{◌≡◌, ℕ, ◌<◌, ◌≤◌, zero, suc, List, [], ◌∷◌, ◌++◌, Option, Some, None, length, take, get_or, set, inr, refl, sym, ap, ◌∙◌, subst, arith, length-append}
use Rattle.std.proofs.Math.Seq.{take-length}
use Rattle.std.specs.Vec.{vec_capacity}
use Rattle.kernel_bodies.specs.FlatDesign.Code.{Arena}
use Rattle.kernel_bodies.specs.SimModel.Residual.{Residual, skip, one, put}
use Rattle.kernel_bodies.specs.SimModel.declared.plain.Goal.{Goal}
use Rattle.kernel_bodies.specs.declared.layers.Frame.{Frame as Kept}
use Rattle.kernel_bodies.specs.declared.layers.Saved.{Saved}
use Rattle.kernel_bodies.specs.declared.layers.Open.{Open}
use Rattle.kernel_bodies.specs.declared.layers.Comes.{Comes}
use Rattle.kernel_bodies.specs.declared.layers.Comes.TheVariants as comes
use Rattle.kernel_bodies.specs.Layers.{call_of, inside, wrapped, whole, cut, inside_frames, under, held, standing, landed, layers_of, statement_of, frame_ends, EndsFrame}
use Rattle.kernel_bodies.specs.Room.{FitsIn, EachFitsIn, FitsLast, FitsFrames, room_of_own, own_locals, own_blocks, SameCall, SameRoom}
use Rattle.kernel_bodies.proofs.Settling.{IsLeft, inside_append, frames_append}
use Rattle.kernel_bodies.proofs.Passing.{through_frames, through_goal, through_both}
use Rattle.kernel_bodies.proofs.Lands.{held_none, held_some}
use Rattle.kernel_bodies.proofs.Rooms.{fits_none}
use Rattle.process_state.specs.Bodies.{EndsIn, IsOwnFirst}

pub le_to : (n x y : ℕ) → x ≡ y → n ≤ y → n ≤ x
le_to n x y e h = let P : ℕ → Type 0 = λ m. n ≤ m in subst P (sym e) h

-- one frame of a list apart

pub same_there : (xs : List Saved) (i : ℕ) (x y : Saved) → i < length xs → x ≡ get_or xs i x → y ≡ get_or xs i y → x ≡ y
same_there xs i x y h e f = e ∙ defaults xs i x y h ∙ sym f
  where
    defaults : (xs : List Saved) (i : ℕ) (x y : Saved) → i < length xs → get_or xs i x ≡ get_or xs i y
    defaults [] i x y h = absurd (omega (arith, h))
    defaults (z ∷ xs) zero x y h = refl
    defaults (z ∷ xs) (suc i) x y h = defaults xs i x y (omega (arith, h))

pub front_at : (xs : List Saved) (i : ℕ) (d : Saved) → get_or (take (suc i) xs) i d ≡ get_or xs i d
front_at [] zero d = refl
front_at [] (suc i) d = refl
front_at (x ∷ xs) zero d = refl
front_at (x ∷ xs) (suc i) d = front_at xs i d

pub front_set : (xs : List Saved) (i : ℕ) (y : Saved) → i < length xs → set (take (suc i) xs) i y ≡ take i xs ++ y ∷ []
front_set [] i y h = absurd (omega (arith, h))
front_set (x ∷ xs) zero y h = refl
front_set (x ∷ xs) (suc i) y h = ap (λ zs. x ∷ zs) (front_set xs i y (omega (arith, h)))

pub front_is : (xs : List Saved) (i : ℕ) (x : Saved) → i < length xs → x ≡ get_or xs i x → take (suc i) xs ≡ take i xs ++ x ∷ []
front_is xs i x h is = split xs i x h ∙ ap (λ z. take i xs ++ z ∷ []) (sym is)
  where
    split : (xs : List Saved) (i : ℕ) (d : Saved) → i < length xs → take (suc i) xs ≡ take i xs ++ get_or xs i d ∷ []
    split [] i d h = absurd (omega (arith, h))
    split (z ∷ xs) zero d h = refl
    split (z ∷ xs) (suc i) d h = ap (λ zs. z ∷ zs) (split xs i d (omega (arith, h)))

pub last_set : (xs : List Saved) (i : ℕ) (y : Saved) → suc i ≡ length xs → set xs i y ≡ take i xs ++ y ∷ []
last_set xs i y e = ap (λ zs. set zs i y) (sym (ap (λ n. take n xs) e ∙ take-length xs)) ∙ front_set xs i y (omega (arith, e))

pub last_is : (xs : List Saved) (i : ℕ) (x : Saved) → suc i ≡ length xs → x ≡ get_or xs i x → xs ≡ take i xs ++ x ∷ []
last_is xs i x e is = sym (ap (λ n. take n xs) e ∙ take-length xs) ∙ front_is xs i x (omega (arith, e)) is

-- what is left inside

pub frames_last : (a : Arena) (xs front : List Saved) (x : Saved) (r : Residual) → xs ≡ front ++ x ∷ [] → inside_frames a xs r ≡ inside_frames a front (whole a x r)
frames_last a xs front x r e = ap (λ zs. inside_frames a zs r) e ∙ frames_append a front (x ∷ []) r

pub held_last : (xs front : List Saved) (x : Saved) (s : Option ℕ) → xs ≡ front ++ x ∷ [] → held xs s ≡ s
held_last xs [] x s e = ap (λ zs. held zs s) e
held_last xs (y ∷ front) x s e = ap (λ zs. held zs s) e

pub whole_same : (a : Arena) (x y : Saved) (r q : Residual) → SameCall x y → inside a y.blocks.items r ≡ inside a x.blocks.items q → whole a y r ≡ whole a x q
whole_same a x y r q s e = ap (λ b. wrapped b (call_of y.frame) (inside a y.blocks.items r)) s.shell ∙ ap (λ (f : Kept). wrapped x.shell (call_of f) (inside a y.blocks.items r)) s.frame ∙ ap (wrapped x.shell (call_of x.frame)) e

pub whole_cut : (a : Arena) (x y : Saved) (m : ℕ) (c : Comes) → SameCall x y → y.blocks.items ≡ take m x.blocks.items ++ layers_of c → whole a y (standing (statement_of c)) ≡ cut a x m (landed a c)
whole_cut a x y m c s e =
    ap (λ b. wrapped b (call_of y.frame) (inside a y.blocks.items (standing (statement_of c)))) s.shell
    ∙ ap (λ (f : Kept). wrapped x.shell (call_of f) (inside a y.blocks.items (standing (statement_of c)))) s.frame
    ∙ ap (wrapped x.shell (call_of x.frame)) (ap (λ ls. inside a ls (standing (statement_of c))) e ∙ inside_append a (take m x.blocks.items) (layers_of c) (standing (statement_of c)))

pub put_in : (a : Arena) (g : Option Goal) (xs : List Saved) (r n : Residual) → IsLeft r → put (under g (inside_frames a xs r)) n ≡ under g (inside_frames a xs (put r n))
put_in a g xs r n h = (through_both a (under g) (inside_frames a xs) (through_goal a g) (through_frames a xs)).puts r n h

-- the end that shows

pub no_more : (ls : List Open) → ls ++ [] ≡ ls
no_more [] = refl
no_more (l ∷ ls) = ap (λ ms. l ∷ ms) (no_more ls)

pub ends_in : (g : Option Goal) (xs front : List Saved) (x y : Saved) (m : ℕ) (c : Comes) → xs ≡ front ++ y ∷ [] → SameCall x y → y.blocks.items ≡ take m x.blocks.items ++ layers_of c → EndsFrame x (take m x.blocks.items) c → EndsIn g xs c
ends_in g xs front x y m comes.Nothing e s b h = absurd h
ends_in g xs front x y m comes.Leave e s b h = (front, y, e, (s.shell ∙ h.0, b ∙ no_more (take m x.blocks.items) ∙ h.1, ap (λ (f : Kept). frame_ends f.call) s.frame ∙ h.2))
ends_in g xs front x y m comes.Done e s b h = tt
ends_in g xs front x y m (comes.Goal k) e s b h = inr (front, y, e, (h.0, b ∙ no_more (take m x.blocks.items) ∙ h.1))
ends_in g xs front x y m (comes.Statement t) e s b h = (front, y, e, tt)
ends_in g xs front x y m (comes.InBlock t c) e s b h = (front, y, e, tt)
ends_in g xs front x y m (comes.InUnwind t c) e s b h = (front, y, e, tt)

-- room

pub each_take : (a : Arena) (ds : List ℕ) (n : ℕ) (xs : List Saved) → EachFitsIn a ds xs → EachFitsIn a ds (take n xs)
each_take a ds zero xs h = tt
each_take a ds (suc n) [] h = tt
each_take a ds (suc n) (x ∷ xs) h = (h.0, each_take a ds n xs h.1)

pub each_front : (a : Arena) (ds : List ℕ) (xs ys : List Saved) → EachFitsIn a ds (xs ++ ys) → EachFitsIn a ds xs
each_front a ds [] ys h = tt
each_front a ds (x ∷ xs) ys h = (h.0, each_front a ds xs ys h.1)

each_join : (a : Arena) (ds : List ℕ) (xs : List Saved) (y : Saved) → EachFitsIn a ds xs → FitsIn a ds y None → EachFitsIn a ds (xs ++ y ∷ [])
each_join a ds [] y h k = (k, tt)
each_join a ds (x ∷ xs) y h k = (h.0, each_join a ds xs y h.1 k)

last_join : (a : Arena) (ds : List ℕ) (xs : List Saved) (y : Saved) (s : Option ℕ) → FitsIn a ds y s → FitsLast a ds (xs ++ y ∷ []) s
last_join a ds [] y s k = k
last_join a ds (x ∷ []) y s k = k
last_join a ds (x ∷ z ∷ xs) y s k = last_join a ds (z ∷ xs) y s k

pub fits_join : (a : Arena) (ds : List ℕ) (xs front : List Saved) (y : Saved) (s : Option ℕ) → xs ≡ front ++ y ∷ [] → EachFitsIn a ds front → FitsIn a ds y s → FitsFrames a ds xs s
fits_join a ds xs front y s e h k =
    let P : List Saved → Type 0 = λ zs. FitsFrames a ds zs s in
    subst P (sym e) (record { each = each_join a ds front y h (fits_none a ds (vec_capacity y.blocks) y.blocks.items s k); last = last_join a ds front y s k })

pub last_none : (a : Arena) (ds : List ℕ) (xs : List Saved) → EachFitsIn a ds xs → FitsLast a ds xs None
last_none a ds [] h = tt
last_none a ds (x ∷ []) h = h.0
last_none a ds (x ∷ y ∷ ys) h = last_none a ds (y ∷ ys) h.1

pub fits_nothing : (a : Arena) (ds : List ℕ) (xs : List Saved) → EachFitsIn a ds xs → FitsFrames a ds xs None
fits_nothing a ds xs h = record { each = h; last = last_none a ds xs h }

last_own : (m : ℕ) (front : List Saved) (x y : Saved) → SameRoom x y → own_locals m (front ++ y ∷ []) ≡ own_locals m (front ++ x ∷ [])
last_own m [] x y s = ap (λ o. room_of_own o (vec_capacity y.frame.locals) m) s.call ∙ ap (λ n. room_of_own x.frame.call n m) s.locals
last_own m (z ∷ front) x y s = ap (room_of_own z.frame.call (vec_capacity z.frame.locals)) (last_own m front x y s)

own_rises : (o : Option ℕ) (k m n : ℕ) → m ≤ n → room_of_own o k m ≤ room_of_own o k n
own_rises None k m n h = omega arith
own_rises (Some s) k m n h = h

own_larger : (o : Option ℕ) (k j m : ℕ) → k ≤ j → room_of_own o k m ≤ room_of_own o j m
own_larger None k j m h = h
own_larger (Some s) k j m h = omega arith

last_blocks : (m : ℕ) (front : List Saved) (x y : Saved) → SameRoom x y → own_blocks m (front ++ x ∷ []) ≤ own_blocks m (front ++ y ∷ [])
last_blocks m [] x y s =
    let e : room_of_own y.frame.call (vec_capacity y.blocks) m ≡ room_of_own x.frame.call (vec_capacity y.blocks) m = ap (λ o. room_of_own o (vec_capacity y.blocks) m) s.call in
    le_to _ _ _ e (own_larger x.frame.call (vec_capacity x.blocks) (vec_capacity y.blocks) m s.room)
last_blocks m (z ∷ front) x y s = own_rises z.frame.call (vec_capacity z.blocks) _ _ (last_blocks m front x y s)

pub same_room : (x y : Saved) → SameCall x y → SameRoom x y
same_room x y s = record { call = ap (λ (f : Kept). f.call) s.frame; locals = ap (λ (f : Kept). vec_capacity f.locals) s.frame; room = s.room }

pub own_changed : (m : ℕ) (xs zs front : List Saved) (x y : Saved) → xs ≡ front ++ x ∷ [] → zs ≡ front ++ y ∷ [] → SameRoom x y → own_locals m zs ≡ own_locals m xs
own_changed m xs zs front x y e f s = ap (own_locals m) f ∙ last_own m front x y s ∙ sym (ap (own_locals m) e)

pub blocks_changed : (m : ℕ) (xs zs front : List Saved) (x y : Saved) → xs ≡ front ++ x ∷ [] → zs ≡ front ++ y ∷ [] → SameRoom x y → own_blocks m xs ≤ own_blocks m zs
blocks_changed m xs zs front x y e f s = omega (arith, ap (own_blocks m) e, ap (own_blocks m) f, last_blocks m front x y s)

-- the body's own call, the outermost

pub own_take : (n : ℕ) (xs : List Saved) → IsOwnFirst xs → IsOwnFirst (take n xs)
own_take zero xs h = tt
own_take (suc n) [] h = tt
own_take (suc n) (x ∷ xs) h = h

own_front : (xs ys : List Saved) → IsOwnFirst (xs ++ ys) → IsOwnFirst xs
own_front [] ys h = tt
own_front (x ∷ xs) ys h = h

pub own_outside : (xs front : List Saved) (x : Saved) → xs ≡ front ++ x ∷ [] → IsOwnFirst xs → IsOwnFirst front
own_outside xs front x e h = let P : List Saved → Type 0 = IsOwnFirst in own_front front (x ∷ []) (subst P e h)

pub own_more : (xs front : List Saved) (x : Saved) → xs ≡ front ++ x ∷ [] → 0 < length front → IsOwnFirst front → IsOwnFirst xs
own_more xs front x e some h = let P : List Saved → Type 0 = IsOwnFirst in subst P (sym e) (joined front some h)
  where
    joined : (front : List Saved) → 0 < length front → IsOwnFirst front → IsOwnFirst (front ++ x ∷ [])
    joined [] some h = absurd (omega (arith, some))
    joined (z ∷ front) some h = h

own_last : (front : List Saved) (x y : Saved) → y.frame.call ≡ x.frame.call → IsOwnFirst (front ++ x ∷ []) → IsOwnFirst (front ++ y ∷ [])
own_last [] x y e h = e ∙ h
own_last (z ∷ front) x y e h = h

pub own_first : (xs zs front : List Saved) (x y : Saved) → xs ≡ front ++ x ∷ [] → zs ≡ front ++ y ∷ [] → SameRoom x y → IsOwnFirst xs → IsOwnFirst zs
own_first xs zs front x y e f s h = let P : List Saved → Type 0 = IsOwnFirst in subst P (sym f) (own_last front x y s.call (subst P e h))

own_room : (o : Option ℕ) (n j k : ℕ) → o ≡ None → room_of_own o n j ≡ room_of_own o n k
own_room o n j k e = ap (λ p. room_of_own p n j) e ∙ sym (ap (λ p. room_of_own p n k) e)

pub own_kept : (m n k : ℕ) (xs : List Saved) → 0 < length xs → IsOwnFirst xs → (own_locals m (take (suc k) xs) ≡ own_locals n xs) × (own_blocks m (take (suc k) xs) ≡ own_blocks n xs)
own_kept m n k [] some h = absurd (omega (arith, some))
own_kept m n k (x ∷ xs) some h =
    (own_room x.frame.call (vec_capacity x.frame.locals) (own_locals m (take k xs)) (own_locals n xs) h, own_room x.frame.call (vec_capacity x.blocks) (own_blocks m (take k xs)) (own_blocks n xs) h)

pub own_any : (m n : ℕ) (xs : List Saved) → 0 < length xs → IsOwnFirst xs → (own_locals m xs ≡ own_locals n xs) × (own_blocks m xs ≡ own_blocks n xs)
own_any m n [] some h = absurd (omega (arith, some))
own_any m n (x ∷ xs) some h =
    (own_room x.frame.call (vec_capacity x.frame.locals) (own_locals m xs) (own_locals n xs) h, own_room x.frame.call (vec_capacity x.blocks) (own_blocks m xs) (own_blocks n xs) h)

pub own_at : (m : ℕ) (xs : List Saved) (d : Saved) → 0 < length xs → d ≡ get_or xs 0 d → IsOwnFirst xs → (own_locals m xs ≡ vec_capacity d.frame.locals) × (own_blocks m xs ≡ vec_capacity d.blocks)
own_at m [] d some is h = absurd (omega (arith, some))
own_at m (x ∷ xs) d some is h =
    (ap (λ o. room_of_own o (vec_capacity x.frame.locals) (own_locals m xs)) h ∙ ap (λ (z : Saved). vec_capacity z.frame.locals) (sym is), ap (λ o. room_of_own o (vec_capacity x.blocks) (own_blocks m xs)) h ∙ ap (λ (z : Saved). vec_capacity z.blocks) (sym is))

pub own_alone : (m : ℕ) (xs : List Saved) (x : Saved) → xs ≡ x ∷ [] → x.frame.call ≡ None → (own_locals m xs ≡ vec_capacity x.frame.locals) × (own_blocks m xs ≡ vec_capacity x.blocks)
own_alone m xs x e h =
    (ap (own_locals m) e ∙ ap (λ o. room_of_own o (vec_capacity x.frame.locals) m) h, ap (own_blocks m) e ∙ ap (λ o. room_of_own o (vec_capacity x.blocks) m) h)

pub none_left : (xs : List Saved) → length xs ≡ 0 → xs ≡ []
none_left [] e = refl
none_left (x ∷ xs) e = absurd (omega (arith, e))

-- where some room is kept, a frame has it
pub some_kept : (xs : List Saved) → 0 < own_blocks 0 xs → 0 < length xs
some_kept [] h = absurd (omega (arith, h))
some_kept (x ∷ xs) h = omega arith

-- a frame that is no body's own

own_call : (m : ℕ) (front : List Saved) (x : Saved) (s : ℕ) → x.frame.call ≡ Some s → own_locals m (front ++ x ∷ []) ≡ own_locals m front
own_call m [] x s e = ap (λ o. room_of_own o (vec_capacity x.frame.locals) m) e
own_call m (z ∷ front) x s e = ap (room_of_own z.frame.call (vec_capacity z.frame.locals)) (own_call m front x s e)

blocks_call : (m : ℕ) (front : List Saved) (x : Saved) (s : ℕ) → x.frame.call ≡ Some s → own_blocks m (front ++ x ∷ []) ≡ own_blocks m front
blocks_call m [] x s e = ap (λ o. room_of_own o (vec_capacity x.blocks) m) e
blocks_call m (z ∷ front) x s e = ap (room_of_own z.frame.call (vec_capacity z.blocks)) (blocks_call m front x s e)

pub own_of_call : (m : ℕ) (xs front : List Saved) (x : Saved) (s : ℕ) → xs ≡ front ++ x ∷ [] → x.frame.call ≡ Some s → (own_locals m xs ≡ own_locals m front) × (own_blocks m xs ≡ own_blocks m front)
own_of_call m xs front x s e c = (ap (own_locals m) e ∙ own_call m front x s c, ap (own_blocks m) e ∙ blocks_call m front x s c)

-- a statement inside, and what stands in its place

pub inside_some : (xs front : List Saved) (x : Saved) → xs ≡ front ++ x ∷ [] → 0 < length xs
inside_some xs front x e = omega (arith, ap length e, length-append front (x ∷ []))

pub ends_inside : (g : Option Goal) (xs : List Saved) (c : Comes) (s : ℕ) → statement_of c ≡ Some s → EndsIn g xs c → 0 < length xs
ends_inside g xs comes.Nothing s e h = cc
ends_inside g xs comes.Leave s e h = cc
ends_inside g xs comes.Done s e h = cc
ends_inside g xs (comes.Goal k) s e h = cc
ends_inside g xs (comes.Statement t) s e h = inside_some xs h.0 h.1 h.2
ends_inside g xs (comes.InBlock t c) s e h = inside_some xs h.0 h.1 h.2
ends_inside g xs (comes.InUnwind t c) s e h = inside_some xs h.0 h.1 h.2

pub put_statement : (a : Arena) (g : Option Goal) (xs : List Saved) (o : Option ℕ) (s : ℕ) (r n : Residual) → under g (inside_frames a xs (standing (held xs o))) ≡ r → o ≡ Some s → 0 < length xs → put r n ≡ under g (inside_frames a xs n)
put_statement a g xs o s r n e is h =
    ap (λ x. put x n) (sym e) ∙ ap (λ p. put (under g (inside_frames a xs (standing p))) n) (held_some xs o h ∙ is) ∙ put_in a g xs (one s) n tt

pub left_nothing : (a : Arena) (g : Option Goal) (xs : List Saved) → under g (inside_frames a xs (standing (held xs None))) ≡ under g (inside_frames a xs skip)
left_nothing a g xs = ap (λ o. under g (inside_frames a xs (standing o))) (held_none xs)

pub changed_left : (a : Arena) (xs zs : List Saved) (i : ℕ) (x y : Saved) (r q : Residual) → suc i ≡ length xs → x ≡ get_or xs i x → zs ≡ set xs i y → whole a y r ≡ whole a x q → inside_frames a zs r ≡ inside_frames a xs q
changed_left a xs zs i x y r q e is f w =
    frames_last a zs (take i xs) y r (f ∙ last_set xs i y e) ∙ ap (inside_frames a (take i xs)) w ∙ sym (frames_last a xs (take i xs) x q (last_is xs i x e is))
