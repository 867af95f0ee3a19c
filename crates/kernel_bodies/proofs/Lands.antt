-- Where saved frames land.
use Rattle.std.proofs.Common.{◌≡◌, ℕ, ◌<◌, ◌≤◌, zero, suc, Bool, true, false, List, [], ◌∷◌, ◌++◌, Option, Some, None, length, take, get_or, refl, sym, ap, ◌∙◌, subst, arith}
use Rattle.std.specs.Vec.{vec_capacity}
use Rattle.std.specs.Prelude.{IfSome}
use Rattle.std.proofs.Math.Seq.{take-length}
use Rattle.sim_model.specs.FlatDesign.Code.{Arena}
use Rattle.sim_model.specs.Residual as residual
use Rattle.sim_model.specs.Residual.{Residual, Frame, skip, one, run, goal, frame, followed, statements, then_on, in_run, in_shell, settle, next_of, frame_end}
use Rattle.kernel_bodies.specs.declared.layers.Saved.{Saved}
use Rattle.kernel_bodies.specs.declared.layers.Landing.{Landing}
use Rattle.kernel_bodies.specs.declared.layers.Stand.{Stand}
use Rattle.kernel_bodies.specs.declared.layers.Open.{Open}
use Rattle.kernel_bodies.specs.declared.layers.Open.TheVariants as layer
use Rattle.kernel_bodies.specs.declared.layers.Next.{Next}
use Rattle.kernel_bodies.specs.declared.layers.Comes.{Comes}
use Rattle.kernel_bodies.specs.declared.layers.Comes.TheVariants as comes
use Rattle.kernel_bodies.specs.Layers.{call_of, around, inside, wrapped, whole, cut, inside_frames, held, standing, rest_at, shown, shown_by, landed, layers_of, statement_of, frame_ends, end_shown, IsBegun, IsComing, Settled, EndsBlocks, EndsFrame}
use Rattle.kernel_bodies.specs.Landings.{Lands, LandsIn}
use Rattle.kernel_bodies.specs.Room.{Fits, FitsIn, FitsFrames, FitsLayer, kept_along}
use Rattle.std.proofs.lemmas.List.{get_or_default}
use Rattle.kernel_bodies.proofs.Rooms.{fits_less}
use Rattle.kernel_bodies.proofs.Settling.{settle_followed, inside_take, frames_take}
use Rattle.kernel_bodies.proofs.Passing.{through_blocks, through_call, through_frames, settled_through}

pub rebased : (a : Arena) (r p q : Residual) (n : Next) → settle a r ≡ settle a p → Settled a p q n → Settled a r q n
rebased a r p q n e s = record { settles = e ∙ s.settles; shows = s.shows; coming = s.coming }

first_next : (s : ℕ) (ss : List ℕ) → next_of (followed (one s) ss) ≡ residual.statement s
first_next s [] = refl
first_next s (x ∷ ss) = refl

coming_at : (n m : residual.Next) → n ≡ m → IsComing m → IsComing n
coming_at n m e h = let P : residual.Next → Type 0 = IsComing in subst P (sym e) h

run_of_first : (s : ℕ) (ss : List ℕ) → in_run 0 (followed (one s) ss) ≡ run 0 (followed (one s) ss)
run_of_first s [] = refl
run_of_first s (x ∷ ss) = refl

pub statement_settled : (a : Arena) (c : Comes) → IsBegun c → Settled a (landed a c) (landed a c) (shown_by c)
statement_settled a comes.Nothing h = absurd h
statement_settled a comes.Leave h = absurd h
statement_settled a comes.Done h = absurd h
statement_settled a (comes.Goal k) h = absurd h
statement_settled a (comes.Statement s) h = record { settles = refl; shows = refl; coming = tt }
statement_settled a (comes.InBlock s c) h = record {
  settles = settle_followed a (one s) (rest_at a c);
  shows = ap shown (first_next s (rest_at a c));
  coming = coming_at _ (residual.statement s) (first_next s (rest_at a c)) tt;
}
statement_settled a (comes.InUnwind s c) h = record {
  settles = ap (in_run 0) (settle_followed a (one s) (rest_at a c)) ∙ run_of_first s (rest_at a c);
  shows = ap shown (first_next s (rest_at a c));
  coming = coming_at _ (residual.statement s) (first_next s (rest_at a c)) tt;
}

-- a block that stands with nothing inside it

end_settled : (a : Arena) (l : Open) (c : Comes) → end_shown l ≡ Some c → Settled a (around a l skip) (around a l (landed a c)) (shown_by c)
end_settled a (layer.Rest x) c e = cc
end_settled a (layer.Again s) c e = cc
end_settled a (layer.Owed u) c e = cc
end_settled a (layer.Guard u) c e = cc
end_settled a (layer.Try s) c e = cc
end_settled a layer.Run c e = cc
end_settled a (layer.Goal k) c e =
    let same : comes.Goal k ≡ c = cc in
    let P : Comes → Type 0 = λ d. Settled a (goal skip k) (goal (landed a d) k) (shown_by d) in
    subst P same (record { settles = refl; shows = refl; coming = tt })

pub end_ends : (front : List Open) (l : Open) (c : Comes) → end_shown l ≡ Some c → EndsBlocks (front ++ l ∷ []) c
end_ends front (layer.Rest x) c e = cc
end_ends front (layer.Again s) c e = cc
end_ends front (layer.Owed u) c e = cc
end_ends front (layer.Guard u) c e = cc
end_ends front (layer.Try s) c e = cc
end_ends front layer.Run c e = cc
end_ends front (layer.Goal k) c e =
    let same : comes.Goal k ≡ c = cc in
    let P : Comes → Type 0 = λ d. EndsBlocks (front ++ layer.Goal k ∷ []) d in
    subst P same (front, refl)

pub end_layers : (l : Open) (c : Comes) → end_shown l ≡ Some c → (layers_of c ≡ []) × (statement_of c ≡ None)
end_layers (layer.Rest x) c e = cc
end_layers (layer.Again s) c e = cc
end_layers (layer.Owed u) c e = cc
end_layers (layer.Guard u) c e = cc
end_layers (layer.Try s) c e = cc
end_layers layer.Run c e = cc
end_layers (layer.Goal k) c e =
    let same : comes.Goal k ≡ c = cc in
    let P : Comes → Type 0 = λ d. (layers_of d ≡ []) × (statement_of d ≡ None) in
    subst P same (refl, refl)

pub end_room : (a : Arena) (depths : List ℕ) (most : ℕ) (ls : List Open) (l : Open) (c : Comes) → end_shown l ≡ Some c → Fits a depths most 1 0 ls None → Fits a depths most 1 0 (ls ++ layers_of c) (statement_of c)
end_room a depths most ls l c e h =
    let w = end_layers l c e in
    let P : List Open → Type 0 = λ ms. Fits a depths most 1 0 ms (statement_of c) in
    let Q : Option ℕ → Type 0 = λ o. Fits a depths most 1 0 ls o in
    subst P (sym (ap (λ ms. ls ++ ms) w.0 ∙ append-none ls)) (subst Q (sym w.1) h)
  where
    append-none : (ls : List Open) → ls ++ [] ≡ ls
    append-none [] = refl
    append-none (l ∷ ls) = ap (λ ms. l ∷ ms) (append-none ls)

pub begun_ends : (ls : List Open) (c : Comes) → IsBegun c → EndsBlocks ls c
begun_ends ls comes.Nothing h = absurd h
begun_ends ls comes.Leave h = absurd h
begun_ends ls comes.Done h = absurd h
begun_ends ls (comes.Goal k) h = absurd h
begun_ends ls (comes.Statement s) h = tt
begun_ends ls (comes.InBlock s c) h = tt
begun_ends ls (comes.InUnwind s c) h = tt

-- the innermost of the blocks that are looked at apart
pub take_last : {A : Type 0} (ls : List A) (stand n : ℕ) (l : A) → suc n ≡ stand → n < length ls → l ≡ get_or ls n l → take stand ls ≡ take n ls ++ l ∷ []
take_last ls stand n l e h is = ap (λ k. take k ls) (sym e) ∙ take_more_at ls n l h ∙ ap (λ m. take n ls ++ m ∷ []) (sym is)
  where
    take_more_at : {A : Type 0} (ls : List A) (n : ℕ) (d : A) → n < length ls → take (suc n) ls ≡ take n ls ++ get_or ls n d ∷ []
    take_more_at [] n d h = absurd (omega (arith, h))
    take_more_at (l ∷ ls) zero d h = refl
    take_more_at (l ∷ ls) (suc n) d h = ap (λ ms. l ∷ ms) (take_more_at ls n d (omega (arith, h)))

unfold_last : (a : Arena) (ls : List Open) (stand n : ℕ) (l : Open) (r : Residual) → suc n ≡ stand → n < length ls → l ≡ get_or ls n l → inside a (take stand ls) r ≡ inside a (take n ls) (around a l r)
unfold_last a ls stand n l r e h is =
    ap (λ k. inside a (take k ls) r) (sym e) ∙ inside_take a ls n l r h ∙ ap (λ m. inside a (take n ls) (around a m r)) (sym is)

module _ (a : Arena) (ls : List Open) (stand n : ℕ) (l : Open) (c : Comes) (e : suc n ≡ stand) (h : n < length ls) (is : l ≡ get_or ls n l)
    (inv : settle a (inside a ls skip) ≡ settle a (inside a (take stand ls) skip)) where
  blocks_from : settle a (inside a ls skip) ≡ settle a (inside a (take n ls) (around a l skip))
  blocks_from = inv ∙ ap (settle a) (unfold_last a ls stand n l skip e h is)

  pub blocks_end : end_shown l ≡ Some c → Settled a (inside a ls skip) (inside a (take stand ls) (landed a c)) (shown_by c)
  blocks_end shows =
      let s = settled_through a (inside a (take n ls)) (around a l skip) (around a l (landed a c)) (shown_by c) (through_blocks a (take n ls)) (end_settled a l c shows) in
      let P : Residual → Type 0 = λ q. Settled a (inside a ls skip) q (shown_by c) in
      subst P (sym (unfold_last a ls stand n l (landed a c) e h is)) (rebased a (inside a ls skip) (inside a (take n ls) (around a l skip)) (inside a (take n ls) (around a l (landed a c))) (shown_by c) blocks_from s)

  pub blocks_first : settle a (around a l skip) ≡ landed a c → IsBegun c → Settled a (inside a ls skip) (inside a (take n ls) (landed a c)) (shown_by c)
  blocks_first settles begun =
      let s = statement_settled a c begun in
      let t : Settled a (around a l skip) (landed a c) (shown_by c) = record { settles = settles; shows = s.shows; coming = s.coming } in
      rebased a (inside a ls skip) (inside a (take n ls) (around a l skip)) (inside a (take n ls) (landed a c)) (shown_by c) blocks_from
      (settled_through a (inside a (take n ls)) (around a l skip) (landed a c) (shown_by c) (through_blocks a (take n ls)) t)

  pub blocks_none : settle a (around a l skip) ≡ skip → settle a (inside a ls skip) ≡ settle a (inside a (take n ls) skip)
  blocks_none settles = blocks_from ∙ (through_blocks a (take n ls)).same (around a l skip) skip settles

-- the same, as the code reads a block
module _ (a : Arena) (ls : List Open) (stand n : ℕ) (d : Open) (c : Comes) (e : suc n ≡ stand) (h : n < length ls) (inv : settle a (inside a ls skip) ≡ settle a (inside a (take stand ls) skip)) where
  pub there_is : get_or ls n d ≡ get_or ls n (get_or ls n d)
  there_is = get_or_default ls n d (get_or ls n d) h

  pub take_there : take stand ls ≡ take n ls ++ get_or ls n d ∷ []
  take_there = take_last ls stand n (get_or ls n d) e h there_is

  pub end_there : end_shown (get_or ls n d) ≡ Some c → Settled a (inside a ls skip) (inside a (take stand ls) (landed a c)) (shown_by c)
  end_there shows = blocks_end a ls stand n (get_or ls n d) c e h there_is inv shows

  pub ends_there : end_shown (get_or ls n d) ≡ Some c → EndsBlocks (take stand ls) c
  ends_there shows = let P : List Open → Type 0 = λ ms. EndsBlocks ms c in subst P (sym take_there) (end_ends (take n ls) (get_or ls n d) c shows)

  pub first_there : settle a (around a (get_or ls n d) skip) ≡ landed a c → IsBegun c → Settled a (inside a ls skip) (inside a (take n ls) (landed a c)) (shown_by c)
  first_there settles begun = blocks_first a ls stand n (get_or ls n d) c e h there_is inv settles begun

  pub none_there : settle a (around a (get_or ls n d) skip) ≡ skip → settle a (inside a ls skip) ≡ settle a (inside a (take n ls) skip)
  none_there settles = blocks_none a ls stand n (get_or ls n d) c e h there_is inv settles

  pub less_there : (depths : List ℕ) (most : ℕ) → Fits a depths most 1 0 (take stand ls) None → Fits a depths most 1 0 (take n ls) None × FitsLayer a depths most (kept_along 1 (take n ls)) (length (take n ls)) (get_or ls n d)
  less_there depths most f =
      let Q : List Open → Type 0 = λ ms. Fits a depths most 1 0 ms None in
      fits_less a depths most (take n ls) (get_or ls n d) None (subst Q take_there f)

-- a frame

pub blocks_in_frame : (x : Saved) (ls : List Open) (c : Comes) → EndsBlocks ls c → EndsFrame x ls c
blocks_in_frame x ls comes.Nothing h = absurd h
blocks_in_frame x ls comes.Leave h = absurd h
blocks_in_frame x ls comes.Done h = absurd h
blocks_in_frame x ls (comes.Goal k) h = h
blocks_in_frame x ls (comes.Statement s) h = tt
blocks_in_frame x ls (comes.InBlock s c) h = tt
blocks_in_frame x ls (comes.InUnwind s c) h = tt

pub frame_falls : (a : Arena) (b : Bool) (x : Frame) (r : Residual) → b ≡ true → settle a r ≡ skip → settle a (wrapped b x r) ≡ skip
frame_falls a true x r e h = ap (λ q. in_shell q x) h
frame_falls a false x r e h = cc

frame_lands : (a : Arena) (call : Option ℕ) → landed a (frame_ends call) ≡ skip
frame_lands a None = refl
frame_lands a (Some s) = refl

frame_shows : (x : Frame) (call : Option ℕ) → (shown (frame_end call x) ≡ shown_by (frame_ends call)) × IsComing (frame_end call x)
frame_shows x None = (refl, tt)
frame_shows x (Some s) = (refl, tt)

ends_alone : (x : Saved) (ls : List Open) (o : Option ℕ) → x.shell ≡ false → ls ≡ [] → o ≡ x.frame.call → EndsFrame x ls (frame_ends o)
ends_alone x ls None e n same = tt
ends_alone x ls (Some s) e n same = (e, n, ap frame_ends (sym same))

frame_layers : (o : Option ℕ) → (layers_of (frame_ends o) ≡ []) × (statement_of (frame_ends o) ≡ None)
frame_layers None = (refl, refl)
frame_layers (Some s) = (refl, refl)

pub frame_stands : (a : Arena) (depths : List ℕ) (x : Saved) → x.shell ≡ false → settle a (inside a x.blocks.items skip) ≡ skip → ((most : ℕ) → Fits a depths most 1 0 x.blocks.items None → Fits a depths most 1 0 [] None)
    → LandsIn a depths x None (record { blocks = 0; comes = frame_ends x.frame.call })
frame_stands a depths x e falls room = record {
  few = omega arith;
  settled = settled_frame x.shell e;
  ends = ends_alone x [] x.frame.call e refl refl;
  room = λ h.
      let w = frame_layers x.frame.call in
      let P : List Open → Type 0 = λ ls. Fits a depths (vec_capacity x.blocks) 1 0 ls (statement_of (frame_ends x.frame.call)) in
      let Q : Option ℕ → Type 0 = λ o. Fits a depths (vec_capacity x.blocks) 1 0 [] o in
      subst P (sym w.0) (subst Q (sym w.1) (room (vec_capacity x.blocks) h));
}
  where
    settled_frame : (b : Bool) → b ≡ false → Settled a (wrapped b (call_of x.frame) (inside a x.blocks.items skip)) (wrapped b (call_of x.frame) (landed a (frame_ends x.frame.call))) (shown_by (frame_ends x.frame.call))
    settled_frame true e = cc
    settled_frame false e =
        let w = frame_shows (call_of x.frame) x.frame.call in
        let P : Residual → Type 0 = λ q. Settled a (frame (inside a x.blocks.items skip) (call_of x.frame)) (frame q (call_of x.frame)) (shown_by (frame_ends x.frame.call)) in
        subst P (sym (frame_lands a x.frame.call)) (record { settles = ap (λ q. frame q (call_of x.frame)) falls; shows = w.0; coming = w.1 })

pub frame_goes_on : (a : Arena) (depths : List ℕ) (x : Saved) (t : Stand) → Settled a (inside a x.blocks.items skip) (inside a (take t.blocks x.blocks.items) (landed a t.comes)) (shown_by t.comes)
    → t.blocks ≤ length x.blocks.items
    → EndsBlocks (take t.blocks x.blocks.items) t.comes
    → ((most : ℕ) → Fits a depths most 1 0 x.blocks.items None → Fits a depths most 1 0 (take t.blocks x.blocks.items ++ layers_of t.comes) (statement_of t.comes)) → LandsIn a depths x None t
frame_goes_on a depths x t s few ends room = record {
  few = few;
  settled =
      settled_through a (wrapped x.shell (call_of x.frame)) (inside a x.blocks.items skip) (inside a (take t.blocks x.blocks.items) (landed a t.comes)) (shown_by t.comes)
      (through_call a x.shell (call_of x.frame)) s;
  ends = blocks_in_frame x (take t.blocks x.blocks.items) t.comes ends;
  room = λ h. room (vec_capacity x.blocks) h;
}

pub statement_stands : (a : Arena) (depths : List ℕ) (x : Saved) (s m : ℕ) → m ≡ length x.blocks.items → LandsIn a depths x (Some s) (record { blocks = m; comes = comes.Statement s })
statement_stands a depths x s m e =
    let all : take m x.blocks.items ≡ x.blocks.items = ap (λ n. take n x.blocks.items) e ∙ take-length x.blocks.items in
    let one_is : Settled a (one s) (one s) (shown_by (comes.Statement s)) = record { settles = refl; shows = refl; coming = tt } in
    let P : List Open → Type 0 = λ ls. Settled a (whole a x (one s)) (wrapped x.shell (call_of x.frame) (inside a ls (one s))) (shown_by (comes.Statement s)) in
    let Q : List Open → Type 0 = λ ls. Fits a depths (vec_capacity x.blocks) 1 0 ls (Some s) in record {
      few = omega (arith, e);
      settled =
          subst P (sym all)
          (settled_through a (wrapped x.shell (call_of x.frame)) (inside a x.blocks.items (one s)) (inside a x.blocks.items (one s)) (shown_by (comes.Statement s)) (through_call a x.shell (call_of x.frame))
          (settled_through a (inside a x.blocks.items) (one s) (one s) (shown_by (comes.Statement s)) (through_blocks a x.blocks.items) one_is));
      ends = tt;
      room = λ h. subst Q (sym (append-none (take m x.blocks.items) ∙ all)) h;
    }
  where
    append-none : (ls : List Open) → ls ++ [] ≡ ls
    append-none [] = refl
    append-none (l ∷ ls) = ap (λ ms. l ∷ ms) (append-none ls)

-- frames

pub unfold_frame : (a : Arena) (xs : List Saved) (stand n : ℕ) (x : Saved) (r : Residual) → suc n ≡ stand → n < length xs → x ≡ get_or xs n x → inside_frames a (take stand xs) r ≡ inside_frames a (take n xs) (whole a x r)
unfold_frame a xs stand n x r e h is =
    ap (λ k. inside_frames a (take k xs) r) (sym e) ∙ frames_take a xs n x r h ∙ ap (λ y. inside_frames a (take n xs) (whole a y r)) (sym is)

pub lands_from : (a : Arena) (depths : List ℕ) (xs : List Saved) (s o : Option ℕ) (r : Residual) (n : ℕ) (x : Saved) (t : Stand) → n < length xs → x ≡ get_or xs n x
    → settle a (inside_frames a xs r) ≡ settle a (inside_frames a (take n xs) (whole a x (standing o))) → LandsIn a depths x o t → (FitsFrames a depths xs s → FitsIn a depths x o)
    → Lands a depths xs s r (record { outside = n; blocks = t.blocks; comes = t.comes })
lands_from a depths xs s o r n x t h is e in_frame fits = record {
  inner = x;
  within = h;
  there = is;
  few = in_frame.few;
  settled =
      rebased a (inside_frames a xs r) (inside_frames a (take n xs) (whole a x (standing o))) (inside_frames a (take n xs) (cut a x t.blocks (landed a t.comes))) (shown_by t.comes) e
      (settled_through a (inside_frames a (take n xs)) (whole a x (standing o)) (cut a x t.blocks (landed a t.comes)) (shown_by t.comes) (through_frames a (take n xs)) in_frame.settled);
  ends = in_frame.ends;
  room = λ f. in_frame.room (fits f);
}

pub held_none : (xs : List Saved) → held xs None ≡ None
held_none [] = refl
held_none (x ∷ xs) = refl

pub held_some : (xs : List Saved) (s : Option ℕ) → 0 < length xs → held xs s ≡ s
held_some [] s h = absurd (omega (arith, h))
held_some (x ∷ xs) s h = refl

pub statement_lands : (o : Option Landing) (xs : List Saved) (a : Arena) (depths : List ℕ) (st : Option ℕ) (s : ℕ) → st ≡ Some s → IfSome o (λ l. (a : Arena) (depths : List ℕ) → Lands a depths xs (Some s) (one s) l)
    → IfSome o (Lands a depths xs st (standing (held xs st)))
statement_lands None xs a depths st s e h = h
statement_lands (Some l) xs a depths st s e h =
    let P : Option ℕ → Type 0 = λ o. Lands a depths xs o (standing (held xs o)) l in
    let Q : Option ℕ → Type 0 = λ o. Lands a depths xs (Some s) (standing o) l in
    let w = h a depths in
    subst P (sym e) (subst Q (sym (held_some xs (Some s) (omega (arith, w.within)))) w)

pub nothing_lands : (a : Arena) (depths : List ℕ) (xs : List Saved) (st : Option ℕ) (l : Landing) → st ≡ None → Lands a depths xs None skip l → Lands a depths xs st (standing (held xs st)) l
nothing_lands a depths xs st l e h =
    let P : Option ℕ → Type 0 = λ o. Lands a depths xs o (standing (held xs o)) l in
    let Q : Option ℕ → Type 0 = λ o. Lands a depths xs None (standing o) l in
    subst P (sym e) (subst Q (sym (held_none xs)) h)
