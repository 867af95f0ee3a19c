-- A body that has settled: the frames that stand, with what has begun in the innermost of them.
use Rattle.std.proofs.Common.{◌≡◌, ℕ, ◌+◌, ◌<◌, ◌≤◌, suc, List, [], ◌∷◌, ◌++◌, Option, Some, None, length, take, get_or, set, refl, sym, ap, ◌∙◌, subst, arith, length-append, inl}
use Rattle.std.specs.Vec.{vec_capacity}
use Rattle.kernel_bodies.specs.FlatDesign.Code.{Arena}
use Rattle.kernel_bodies.specs.SimModel.Residual.{Residual, skip, settle, next_of}
use Rattle.kernel_bodies.specs.SimModel.declared.plain.Goal.{Goal}
use Rattle.kernel_bodies.specs.declared.layers.Saved.{Saved}
use Rattle.kernel_bodies.specs.declared.layers.Landing.{Landing}
use Rattle.kernel_bodies.specs.declared.layers.Comes.{Comes}
use Rattle.kernel_bodies.specs.declared.layers.Comes.TheVariants as comes
use Rattle.kernel_bodies.specs.Landings.{Lands}
use Rattle.kernel_bodies.specs.Layers.{cut, inside_frames, under, held, standing, landed, layers_of, statement_of, shown, shown_by, under_goal, Settled, EndsFrame}
use Rattle.kernel_bodies.specs.Room.{Fits, FitsFrames, SameCall, own_locals, own_blocks}
use Rattle.kernel_bodies.proofs.Passing.{through_goal, settled_through}
use Rattle.kernel_bodies.proofs.Rooms.{fits_at_cap, fits_length}
use Rattle.process_state.specs.Bodies.{EndsIn, IsOwnFirst, IsStatement}
use Rattle.process_state.proofs.Frames.{same_there, front_at, front_set, front_is, frames_last, held_last, whole_cut, ends_in, each_take, fits_join, same_room, own_take, own_first, own_kept, own_changed, blocks_changed}
use Rattle.process_state.proofs.Stepping.{under_nothing}

pub one_more : (i : ℕ) → i + 1 ≡ suc i
one_more i = omega arith

-- under the goal of all
pub under_settled : (a : Arena) (g : Option Goal) (xs ys : List Saved) (r q : Residual) (c : Comes) → Settled a (inside_frames a xs r) q (shown_by c) → Settled a (under g (inside_frames a xs r)) (under g q) (shown_by c)
under_settled a g xs ys r q c s = settled_through a (under g) (inside_frames a xs r) q (shown_by c) (through_goal a g) s

module _ (a : Arena) (ds : List ℕ) (g : Option Goal) (xs : List Saved) (s : Option ℕ) (r : Residual) (l : Landing) (lands : Lands a ds xs s r l) where
  -- in what shows nothing is changed
  pub land_shows : shown (next_of (settle a (under g (inside_frames a xs r)))) ≡ shown_by l.comes
  land_shows = let w = under_settled a g xs xs r (inside_frames a (take l.outside xs) (cut a lands.inner l.blocks (landed a l.comes))) l.comes lands.settled in ap (λ q. shown (next_of q)) w.settles ∙ w.shows

  module _ (ys : List Saved) (d : Saved) (kept : ys ≡ take (l.outside + 1) xs) (at : d ≡ get_or ys l.outside d) where
    pub inner_is : d ≡ lands.inner
    inner_is =
        same_there xs l.outside d lands.inner lands.within
        (at ∙ ap (λ zs. get_or zs l.outside d) (kept ∙ ap (λ n. take n xs) (one_more l.outside)) ∙ front_at xs l.outside d) lands.there

    pub land_room : FitsFrames a ds xs s → Fits a ds (vec_capacity d.blocks) 1 0 (take l.blocks d.blocks.items ++ layers_of l.comes) (statement_of l.comes)
    land_room f =
        let P : Saved → Type 0 = λ z. Fits a ds (vec_capacity z.blocks) 1 0 (take l.blocks z.blocks.items ++ layers_of l.comes) (statement_of l.comes) in
        subst P (sym inner_is) (lands.room f)

    pub land_few : FitsFrames a ds xs s → length (take l.blocks d.blocks.items) + length (layers_of l.comes) ≤ vec_capacity d.blocks
    land_few f =
        omega (arith, fits_length a ds (vec_capacity d.blocks) (take l.blocks d.blocks.items ++ layers_of l.comes) (statement_of l.comes) (land_room f), length-append (take l.blocks d.blocks.items) (layers_of l.comes))

    module _ (zs : List Saved) (y : Saved) (is : zs ≡ set ys l.outside y) (same : SameCall d y) (filled : y.blocks.items ≡ take l.blocks d.blocks.items ++ layers_of l.comes) where
      pub land_frames : zs ≡ take l.outside xs ++ y ∷ []
      land_frames = is ∙ ap (λ ws. set ws l.outside y) (kept ∙ ap (λ n. take n xs) (one_more l.outside)) ∙ front_set xs l.outside y lands.within

      land_front : ys ≡ take l.outside xs ++ d ∷ []
      land_front = kept ∙ ap (λ n. take n xs) (one_more l.outside) ∙ front_is xs l.outside lands.inner lands.within lands.there ∙ ap (λ z. take l.outside xs ++ z ∷ []) (sym inner_is)

      pub land_left : under g (inside_frames a zs (standing (held zs (statement_of l.comes)))) ≡ settle a (under g (inside_frames a xs r))
      land_left =
          let w = under_settled a g xs xs r (inside_frames a (take l.outside xs) (cut a lands.inner l.blocks (landed a l.comes))) l.comes lands.settled in
          ap (λ o. under g (inside_frames a zs (standing o))) (held_last zs (take l.outside xs) y (statement_of l.comes) land_frames)
          ∙ ap (under g)
          (frames_last a zs (take l.outside xs) y (standing (statement_of l.comes)) land_frames
          ∙ ap (inside_frames a (take l.outside xs)) (whole_cut a d y l.blocks l.comes same filled ∙ ap (λ z. cut a z l.blocks (landed a l.comes)) inner_is))
          ∙ sym w.settles

      pub land_ends : EndsIn g zs l.comes
      land_ends =
          let P : Saved → Type 0 = λ z. EndsFrame z (take l.blocks z.blocks.items) l.comes in
          ends_in g zs (take l.outside xs) d y l.blocks l.comes land_frames same filled (subst P (sym inner_is) lands.ends)

      pub land_fits : FitsFrames a ds xs s → FitsFrames a ds zs (statement_of l.comes)
      land_fits f =
          fits_join a ds zs (take l.outside xs) y (statement_of l.comes) land_frames (each_take a ds l.outside xs f.each)
          (fits_at_cap a ds (vec_capacity d.blocks) (vec_capacity y.blocks) (take l.blocks d.blocks.items ++ layers_of l.comes) y.blocks.items (statement_of l.comes) (statement_of l.comes) same.room filled refl (land_room f))

      pub land_own : IsOwnFirst xs → IsOwnFirst zs
      land_own h = let P : List Saved → Type 0 = IsOwnFirst in own_first ys zs (take l.outside xs) d y land_front land_frames (same_room d y same) (subst P (sym kept) (own_take (l.outside + 1) xs h))

      pub land_locals : (m : ℕ) → own_locals m zs ≡ own_locals m ys
      land_locals m = own_changed m ys zs (take l.outside xs) d y land_front land_frames (same_room d y same)

      pub land_blocks : (m : ℕ) → own_blocks m ys ≤ own_blocks m zs
      land_blocks m = blocks_changed m ys zs (take l.outside xs) d y land_front land_frames (same_room d y same)

-- the outermost frame stands
pub land_kept : (m : ℕ) (xs ys : List Saved) (i : ℕ) → i < length xs → ys ≡ take (i + 1) xs → IsOwnFirst xs → (own_locals m ys ≡ own_locals m xs) × (own_blocks m ys ≡ own_blocks m xs)
land_kept m xs ys i h kept own =
    let w = own_kept m m i xs (omega (arith, h)) own in
    let e : ys ≡ take (suc i) xs = kept ∙ ap (λ n. take n xs) (one_more i) in
    (ap (own_locals m) e ∙ w.0, ap (own_blocks m) e ∙ w.1)

-- where all frames fall away

pub falls_settled : (a : Arena) (g : Option Goal) (xs : List Saved) (r : Residual) → settle a (inside_frames a xs r) ≡ skip → settle a (under g (inside_frames a xs r)) ≡ under g skip
falls_settled a g xs r e = (through_goal a g).same (inside_frames a xs r) skip e ∙ (under_nothing a g).0

pub falls_shows : (a : Arena) (g : Option Goal) (xs : List Saved) (r : Residual) → settle a (inside_frames a xs r) ≡ skip → shown (next_of (settle a (under g (inside_frames a xs r)))) ≡ shown_by (under_goal g comes.Nothing)
falls_shows a g xs r e = ap (λ q. shown (next_of q)) (falls_settled a g xs r e) ∙ (under_nothing a g).1

pub falls_ends : (g : Option Goal) (xs : List Saved) → xs ≡ [] → EndsIn g xs (under_goal g comes.Nothing)
falls_ends None xs e = tt
falls_ends (Some k) xs e = inl (e, refl)

pub falls_never : (g : Option Goal) → IsStatement (shown (next_of (under g skip))) → ⊥
falls_never None h = h
falls_never (Some k) h = h
