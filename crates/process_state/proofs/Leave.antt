-- A call that ends, and a goal that is reached.
use Rattle.std.proofs.Common.{◌≡◌, ℕ, ◌-◌, ◌<◌, suc, List, [], ◌∷◌, ◌++◌, Option, Some, None, length, take, get_or, set, refl, sym, ap, ◌∙◌, subst, arith, length-append, inl, inr}
use Rattle.kernel_bodies.specs.FlatDesign.Code.{Arena}
use Rattle.kernel_bodies.specs.SimModel.Residual as residual
use Rattle.kernel_bodies.specs.SimModel.Residual.{Residual, Frame, skip, frame, put, next_of, frame_end}
use Rattle.kernel_bodies.specs.SimModel.declared.plain.Goal.{Goal}
use Rattle.kernel_bodies.specs.declared.layers.Saved.{Saved}
use Rattle.kernel_bodies.specs.declared.layers.Open.{Open}
use Rattle.kernel_bodies.specs.declared.layers.Open.TheVariants as layer
use Rattle.kernel_bodies.specs.declared.layers.Frame.{Frame as Kept}
use Rattle.kernel_bodies.specs.declared.layers.Comes.TheVariants as comes
use Rattle.kernel_bodies.specs.Layers.{call_of, inside, wrapped, inside_frames, under, held, standing, frame_ends, IsComing, EndsFrame, EndsWithGoal}
use Rattle.kernel_bodies.specs.Room.{EachFitsIn, own_locals, own_blocks, SameCall}
use Rattle.kernel_bodies.proofs.Passing.{Passes, through_frames, through_goal, through_both, through_blocks, through_call}
use Rattle.kernel_bodies.proofs.Settling.{inside_append}
use Rattle.process_state.specs.Bodies.{EndsIn}
use Rattle.process_state.proofs.Frames.{frames_last, inside_some, left_nothing, each_front, own_of_call, put_in, last_is, last_set}

last_or : Saved → List Saved → Saved
last_or d [] = d
last_or d (z ∷ zs) = last_or z zs

last_or_is : (d : Saved) (xs : List Saved) (x : Saved) → last_or d (xs ++ x ∷ []) ≡ x
unfolding last_or
last_or_is d [] x = refl
last_or_is d (z ∷ zs) x = last_or_is z zs x

pub last_same : (xs ys : List Saved) (x y : Saved) → xs ++ x ∷ [] ≡ ys ++ y ∷ [] → x ≡ y
last_same xs ys x y e = sym (last_or_is x xs x) ∙ ap (last_or x) e ∙ last_or_is x ys y

-- a call

abbrev pub Ended : Saved → Type 0
Ended x = EndsFrame x x.blocks.items comes.Leave

pub leave_some : (g : Option Goal) (xs : List Saved) → EndsIn g xs comes.Leave → 0 < length xs
leave_some g xs h = inside_some xs h.0 h.1 h.2

leave_is : (g : Option Goal) (xs ys : List Saved) (x : Saved) → xs ≡ ys ++ x ∷ [] → EndsIn g xs comes.Leave → Ended x
leave_is g xs ys x e h = let P : Saved → Type 0 = Ended in subst P (last_same h.0 ys h.1 x (sym h.2 ∙ e)) h.3

frame_leaves : (o : Option ℕ) (x : Frame) → frame_ends o ≡ comes.Leave → frame_end o x ≡ residual.leaves x
frame_leaves None x e = cc
frame_leaves (Some s) x e = refl

call_some : (o : Option ℕ) → frame_ends o ≡ comes.Leave → (s : ℕ) × (o ≡ Some s)
call_some None e = cc
call_some (Some s) e = (s, refl)

module _ (a : Arena) (g : Option Goal) (xs ys : List Saved) (o : Option ℕ) (x : Saved) (r : Residual) (e : under g (inside_frames a xs (standing (held xs o))) ≡ r) (none : o ≡ None) (last : xs ≡ ys ++ x ∷ []) (ends : EndsIn g xs comes.Leave) where
  leave_from : r ≡ under g (inside_frames a ys (frame skip (call_of x.frame)))
  leave_from =
      let w = leave_is g xs ys x last ends in
      sym e
      ∙ ap (λ p. under g (inside_frames a xs (standing (held xs p)))) none
      ∙ left_nothing a g xs
      ∙ ap (under g) (frames_last a xs ys x skip last ∙ ap (inside_frames a ys) (ap (λ b. wrapped b (call_of x.frame) (inside a x.blocks.items skip)) w.0 ∙ ap (λ ls. frame (inside a ls skip) (call_of x.frame)) w.1))

  pub leave_next : next_of r ≡ residual.leaves (call_of x.frame)
  leave_next =
      let w = leave_is g xs ys x last ends in
      let f = frame_leaves x.frame.call (call_of x.frame) w.2 in
      let P : residual.Next → Type 0 = IsComing in
      ap next_of leave_from ∙ (through_both a (under g) (inside_frames a ys) (through_goal a g) (through_frames a ys)).comes (frame skip (call_of x.frame)) (subst P (sym f) tt) ∙ f

  pub leave_left : under g (inside_frames a ys (standing (held ys o))) ≡ put r skip
  leave_left =
      ap (λ p. under g (inside_frames a ys (standing (held ys p)))) none ∙ left_nothing a g ys ∙ sym (ap (λ y. put y skip) leave_from ∙ put_in a g ys (frame skip (call_of x.frame)) skip tt)

pub leave_own : (g : Option Goal) (xs ys : List Saved) (x : Saved) (m n : ℕ) → xs ≡ ys ++ x ∷ [] → EndsIn g xs comes.Leave → (own_locals m xs ≡ own_locals m ys) × (own_blocks n xs ≡ own_blocks n ys)
leave_own g xs ys x m n last ends =
    let w = leave_is g xs ys x last ends in
    let s = call_some x.frame.call w.2 in
    ((own_of_call m xs ys x s.0 last s.1).0, (own_of_call n xs ys x s.0 last s.1).1)

pub leave_each : (a : Arena) (ds : List ℕ) (xs ys : List Saved) (x : Saved) → xs ≡ ys ++ x ∷ [] → EachFitsIn a ds xs → EachFitsIn a ds ys
leave_each a ds xs ys x last h = let P : List Saved → Type 0 = EachFitsIn a ds in each_front a ds ys (x ∷ []) (subst P last h)

-- a goal

front_of : (os : List Open) (l : Open) → take (length (os ++ l ∷ []) - 1) (os ++ l ∷ []) ≡ os
front_of os l = ap (λ n. take n (os ++ l ∷ [])) (omega (arith, length-append os (l ∷ []))) ∙ front_is os l
  where
    front_is : (os : List Open) (l : Open) → take (length os) (os ++ l ∷ []) ≡ os
    front_is [] l = refl
    front_is (o ∷ os) l = ap (λ ms. o ∷ ms) (front_is os l)

-- outside all frames
pub goal_alone : (a : Arena) (g : Option Goal) (xs : List Saved) (o : Option ℕ) (k : Goal) (r : Residual) → under g (inside_frames a xs (standing (held xs o))) ≡ r → length xs ≡ 0 → EndsIn g xs (comes.Goal k) → inside_frames a xs (standing (held xs o)) ≡ put r skip
goal_alone a g xs o k r e h (inl w) =
    ap (λ zs. inside_frames a zs (standing (held zs o))) w.0 ∙ sym (ap (λ q. put q skip) (sym e ∙ ap (λ zs. under g (inside_frames a zs (standing (held zs o)))) w.0 ∙ ap (λ p. under p skip) w.1))
goal_alone a g xs o k r e h (inr w) = absurd (omega (arith, h, inside_some xs w.0 w.1 w.2))

-- inside a frame
module _ (a : Arena) (g : Option Goal) (xs zs : List Saved) (o : Option ℕ) (k : Goal) (r : Residual) (i : ℕ) (d y : Saved) (e : under g (inside_frames a xs (standing (held xs o))) ≡ r) (none : o ≡ None) (last : suc i ≡ length xs) (at : d ≡ get_or xs i d)
    (new : zs ≡ set xs i y) (same : SameCall d y) (popped : y.blocks.items ≡ take (length d.blocks.items - 1) d.blocks.items) where
  goal_blocks : EndsIn g xs (comes.Goal k) → EndsWithGoal d.blocks.items k
  goal_blocks (inl w) = absurd (omega (arith, last, ap length w.0))
  goal_blocks (inr w) = let P : Saved → Type 0 = λ z. EndsWithGoal z.blocks.items k in subst P (last_same w.0 (take i xs) w.1 d (sym w.2 ∙ last_is xs i d last at)) w.3

  pub goal_left : EndsIn g xs (comes.Goal k) → under g (inside_frames a zs (standing (held zs o))) ≡ put r skip
  goal_left ends =
      let w = goal_blocks ends in
      let C : Residual → Residual = λ q. under g (inside_frames a (take i xs) (wrapped d.shell (call_of d.frame) (inside a w.0 q))) in
      let through : Passes a C =
      through_both a (under g) (λ q. inside_frames a (take i xs) (wrapped d.shell (call_of d.frame) (inside a w.0 q))) (through_goal a g)
      (through_both a (inside_frames a (take i xs)) (λ q. wrapped d.shell (call_of d.frame) (inside a w.0 q)) (through_frames a (take i xs))
      (through_both a (wrapped d.shell (call_of d.frame)) (inside a w.0) (through_call a d.shell (call_of d.frame)) (through_blocks a w.0))) in
      let kept : y.blocks.items ≡ w.0 = popped ∙ ap (λ ls. take (length ls - 1) ls) w.1 ∙ front_of w.0 (layer.Goal k) in
      let old : r ≡ C (residual.goal skip k) =
      sym e
      ∙ ap (λ p. under g (inside_frames a xs (standing (held xs p)))) none
      ∙ left_nothing a g xs
      ∙ ap (under g)
      (frames_last a xs (take i xs) d skip (last_is xs i d last at)
      ∙ ap (λ q. inside_frames a (take i xs) (wrapped d.shell (call_of d.frame) q)) (ap (λ ls. inside a ls skip) w.1 ∙ inside_append a w.0 (layer.Goal k ∷ []) skip)) in
      let now : under g (inside_frames a zs (standing (held zs o))) ≡ C skip =
      ap (λ p. under g (inside_frames a zs (standing (held zs p)))) none
      ∙ left_nothing a g zs
      ∙ ap (under g)
      (frames_last a zs (take i xs) y skip (new ∙ last_set xs i y last)
      ∙ ap (inside_frames a (take i xs))
      (ap (λ b. wrapped b (call_of y.frame) (inside a y.blocks.items skip)) same.shell
      ∙ ap (λ (f : Kept). wrapped d.shell (call_of f) (inside a y.blocks.items skip)) same.frame
      ∙ ap (λ ls. wrapped d.shell (call_of d.frame) (inside a ls skip)) kept)) in
      now ∙ sym (ap (λ q. put q skip) old ∙ through.puts (residual.goal skip k) skip tt)
