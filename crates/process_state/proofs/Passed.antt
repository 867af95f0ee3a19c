-- A statement inside a call stands, and then it is past.
use Rattle.std.proofs.Common.{◌≡◌, ◌<◌, ℕ, zero, suc, Bool, true, false, List, [], ◌∷◌, ◌++◌, Option, Some, None, length, take, get_or, set, refl, sym, ap, subst, ◌∙◌, arith}
use Rattle.std.specs.Prelude.{is_some, IfSome, IfNone}
use Rattle.std.specs.Vec.{vec_capacity}
use Rattle.kernel_bodies.specs.FlatDesign.Code.{Arena, arena_of}
use Rattle.kernel_bodies.specs.SimModel.Residual as residual
use Rattle.kernel_bodies.specs.SimModel.Residual.{Residual, Frame, skip, one, frame, put, settle, next_of, frame_end}
use Rattle.kernel_bodies.specs.SimModel.declared.plain.Goal.{Goal}
use Rattle.kernel_bodies.specs.declared.program.Program.{Program}
use Rattle.kernel_bodies.specs.declared.layers.Saved.{Saved}
use Rattle.kernel_bodies.specs.declared.layers.Frame.{Frame as Kept}
use Rattle.kernel_bodies.specs.declared.layers.Next.{Next}
use Rattle.kernel_bodies.specs.declared.layers.Open.{Open}
use Rattle.kernel_bodies.specs.Layers.{call_of, around, inside, wrapped, whole, inside_frames, under, held, standing, shown, IsComing, Settled}
use Rattle.kernel_bodies.specs.Room.{Fits, FitsIn, FitsLayer, FitsFrames, EachFitsIn, SameCall, kept_along}
use Rattle.kernel_bodies.proofs.Passing.{Passes, through_frames, through_goal, through_both, through_call, through_blocks, settled_through}
use Rattle.kernel_bodies.proofs.Lands.{held_some}
use Rattle.kernel_bodies.proofs.Rooms.{fits_less, fits_more, fits_none}
use Rattle.kernel_bodies.proofs.Settling.{inside_append}
use Rattle.process_state.specs.Bodies.{IsStatement, ComesIn}
use Rattle.process_state.proofs.Frames.{put_statement, put_in, left_nothing, frames_last, last_is, last_set, changed_left, inside_some, fits_join, each_take}

pub through_all : (a : Arena) (g : Option Goal) (xs : List Saved) → Passes a (λ r. under g (inside_frames a xs r))
through_all a g xs = through_both a (under g) (inside_frames a xs) (through_goal a g) (through_frames a xs)

pub stands_settled : (a : Arena) (g : Option Goal) (xs : List Saved) (s : ℕ) → settle a (under g (inside_frames a xs (one s))) ≡ under g (inside_frames a xs (one s))
stands_settled a g xs s = (through_all a g xs).settles (one s) (one s) refl tt

nothing_stands : (a : Arena) (g : Option Goal) → IsStatement (shown (next_of (settle a (under g skip)))) → ⊥
nothing_stands a None h = h
nothing_stands a (Some k) h = h

pub some_is : (o : Option ℕ) (b : Bool) → b ≡ is_some o → b ≡ true → (s : ℕ) × (o ≡ Some s)
some_is None b e h = cc
some_is (Some s) b e h = (s, refl)

pub past_left : (a : Arena) (g : Option Goal) (xs : List Saved) (o : Option ℕ) (s : ℕ) → o ≡ Some s → IsStatement (shown (next_of (settle a (under g (inside_frames a xs (standing (held xs o)))))))
    → under g (inside_frames a xs (standing (held xs None))) ≡ put (settle a (under g (inside_frames a xs (standing (held xs o))))) skip
past_left a g [] o s e h = absurd (nothing_stands a g h)
past_left a g (x ∷ xs) o s e h =
    let zs = x ∷ xs in
    let settled : under g (inside_frames a zs (standing (held zs o))) ≡ settle a (under g (inside_frames a zs (standing (held zs o)))) =
    ap (λ p. under g (inside_frames a zs (standing p))) e ∙ sym (stands_settled a g zs s) ∙ ap (λ p. settle a (under g (inside_frames a zs (standing p)))) (sym e) in
    left_nothing a g zs ∙ sym (put_statement a g zs o s (settle a (under g (inside_frames a zs (standing (held zs o))))) skip settled e (omega arith))

pub some_frames : (a : Arena) (g : Option Goal) (xs : List Saved) (o : Option ℕ) → IsStatement (shown (next_of (settle a (under g (inside_frames a xs (standing (held xs o))))))) → 0 < length xs
some_frames a g [] o h = absurd (nothing_stands a g h)
some_frames a g (x ∷ xs) o h = omega arith

-- what comes in the innermost block of a call

blocks_last : (ls : List Open) (i : ℕ) (l : Open) → suc i ≡ length ls → l ≡ get_or ls i l → ls ≡ take i ls ++ l ∷ []
blocks_last [] i l e is = absurd (omega (arith, e))
blocks_last (m ∷ []) zero l e is = ap (λ k. k ∷ []) (sym is)
blocks_last (m ∷ n ∷ ls) zero l e is = absurd (omega (arith, e))
blocks_last (m ∷ ls) (suc i) l e is = ap (λ ks. m ∷ ks) (blocks_last ls i l (omega (arith, e)) is)

pub blocks_set : (ls : List Open) (i : ℕ) (l : Open) → suc i ≡ length ls → set ls i l ≡ take i ls ++ l ∷ []
blocks_set [] i l e = absurd (omega (arith, e))
blocks_set (m ∷ []) zero l e = refl
blocks_set (m ∷ n ∷ ls) zero l e = absurd (omega (arith, e))
blocks_set (m ∷ ls) (suc i) l e = ap (λ ks. m ∷ ks) (blocks_set ls i l (omega (arith, e)))

module _ (a : Arena) (ls : List Open) (i : ℕ) (l : Open) (ms : List Open) (s : ℕ) (last : suc i ≡ length ls) (at : l ≡ get_or ls i l) where
  pub blocks_taken : settle a (around a l skip) ≡ inside a ms (one s) → settle a (inside a ls skip) ≡ inside a (take i ls ++ ms) (one s)
  blocks_taken e =
      ap (λ ks. settle a (inside a ks skip)) (blocks_last ls i l last at)
      ∙ ap (settle a) (inside_append a (take i ls) (l ∷ []) skip)
      ∙ (through_blocks a (take i ls)).settles (around a l skip) (inside a ms (one s)) e ((through_blocks a ms).left (one s) tt)
      ∙ sym (inside_append a (take i ls) ms (one s))

  pub comes_here : settle a (around a l skip) ≡ inside a ms (one s) → ComesIn a ls s
  comes_here e = record { blocks = take i ls ++ ms; settles = blocks_taken e }

  pub blocks_fit : (depths : List ℕ) (most : ℕ) → ((n t j : ℕ) → FitsLayer a depths n t j l → Fits a depths n t j ms (Some s)) → Fits a depths most 1 0 ls None → Fits a depths most 1 0 (take i ls ++ ms) (Some s)
  blocks_fit depths most room h =
      let P : List Open → Type 0 = λ ks. Fits a depths most 1 0 ks None in
      let f = fits_less a depths most (take i ls) l None (subst P (blocks_last ls i l last at) h) in
      fits_more a depths most (take i ls) ms (Some s) f.0.0 (room most (kept_along 1 (take i ls)) (length (take i ls)) f.1)

module _ (a : Arena) (g : Option Goal) (xs zs : List Saved) (o : Option ℕ) (i : ℕ) (d y : Saved) (none : o ≡ None) (last : suc i ≡ length xs) (at : d ≡ get_or xs i d) (new : zs ≡ set xs i y) (same : SameCall d y) where
  new_is : zs ≡ take i xs ++ y ∷ []
  new_is = new ∙ last_set xs i y last

  taken_settles : (s : ℕ) → settle a (inside a d.blocks.items skip) ≡ inside a y.blocks.items (one s) → settle a (under g (inside_frames a xs (standing (held xs o)))) ≡ under g (inside_frames a zs (one s))
  taken_settles s passed =
      let C : Residual → Residual = λ r. under g (inside_frames a (take i xs) (wrapped d.shell (call_of d.frame) r)) in
      let through : Passes a C =
      through_both a (under g) (λ r. inside_frames a (take i xs) (wrapped d.shell (call_of d.frame) r)) (through_goal a g)
      (through_both a (inside_frames a (take i xs)) (wrapped d.shell (call_of d.frame)) (through_frames a (take i xs)) (through_call a d.shell (call_of d.frame))) in
      let q : Residual = inside a y.blocks.items (one s) in
      let now : under g (inside_frames a zs (one s)) ≡ C q =
      ap (under g)
      (frames_last a zs (take i xs) y (one s) new_is
      ∙ ap (inside_frames a (take i xs)) (ap (λ b. wrapped b (call_of y.frame) q) same.shell ∙ ap (λ (f : Kept). wrapped d.shell (call_of f) q) same.frame)) in
      ap (λ p. settle a (under g (inside_frames a xs (standing (held xs p))))) none
      ∙ ap (settle a) (left_nothing a g xs ∙ ap (under g) (frames_last a xs (take i xs) d skip (last_is xs i d last at)))
      ∙ through.settles (inside a d.blocks.items skip) q passed ((through_blocks a y.blocks.items).left (one s) tt)
      ∙ sym now

  pub taken_settles_if : (q : Option ℕ) → IfSome q (λ s. settle a (inside a d.blocks.items skip) ≡ inside a y.blocks.items (one s)) → IfSome q (λ s. settle a (under g (inside_frames a xs (standing (held xs o)))) ≡ under g (inside_frames a zs (one s)))
  taken_settles_if None h = tt
  taken_settles_if (Some s) h = taken_settles s h

  pub taken_fits_if : (ds : List ℕ) (q : Option ℕ) → EachFitsIn a ds xs → FitsIn a ds d None → IfSome q (λ s. FitsIn a ds d None → FitsIn a ds y (Some s)) → IfSome q (λ s. FitsFrames a ds zs (Some s))
  taken_fits_if ds None each h room = tt
  taken_fits_if ds (Some s) each h room = fits_join a ds zs (take i xs) y (Some s) new_is (each_take a ds i xs each) (room h)

  pub taken_none : (ds : List ℕ) (q : Option ℕ) → FitsIn a ds d None → IfSome q (λ s. FitsIn a ds d None → FitsIn a ds y (Some s)) → IfNone q (y ≡ d) → FitsIn a ds y None
  taken_none ds None h room stays = let P : Saved → Type 0 = λ z. FitsIn a ds z None in subst P (sym stays) h
  taken_none ds (Some s) h room stays = fits_none a ds (vec_capacity y.blocks) y.blocks.items (Some s) (room h)

  pub taken_there : (q : Option ℕ) → IfSome q (λ _. 0 < length zs)
  taken_there None = tt
  taken_there (Some s) = inside_some zs (take i xs) y new_is

  pub taken_stays : (q : Option ℕ) → IfNone q (y ≡ d) → IfNone q (under g (inside_frames a zs (standing (held zs o))) ≡ under g (inside_frames a xs (standing (held xs o))))
  taken_stays None e =
      ap (λ p. under g (inside_frames a zs (standing (held zs p)))) none
      ∙ left_nothing a g zs
      ∙ ap (under g) (changed_left a xs zs i d y skip skip last at new (ap (λ z. whole a z skip) e))
      ∙ sym (ap (λ p. under g (inside_frames a xs (standing (held xs p)))) none ∙ left_nothing a g xs)
  taken_stays (Some s) e = tt

-- a statement that is in place inside these frames: it comes next, is past, and another residual stands in its place

module _ (a : Arena) (g : Option Goal) (zs : List Saved) (s : ℕ) (r : Residual) (settles : r ≡ under g (inside_frames a zs (one s))) where
  pub next_taken : next_of r ≡ residual.statement s
  next_taken = ap next_of settles ∙ (through_all a g zs).comes (one s) tt

  pub put_taken : (e : Residual) → under g (inside_frames a zs e) ≡ put r e
  put_taken e = sym (ap (λ q. put q e) settles ∙ put_in a g zs (one s) e tt)

  pub passed_taken : (o : Option ℕ) → o ≡ None → under g (inside_frames a zs (standing (held zs o))) ≡ put r skip
  passed_taken o none = ap (λ p. under g (inside_frames a zs (standing (held zs p)))) none ∙ left_nothing a g zs ∙ put_taken skip

pub none_is : (o : Option ℕ) (b : Bool) → b ≡ is_some o → b ≡ false → o ≡ None
none_is None b e h = refl
none_is (Some s) b e h = cc

-- the statement that comes where nothing falls away before it

statement_settles : (a : Arena) (g : Option Goal) (xs : List Saved) (o : Option ℕ) (s : ℕ) → o ≡ Some s → 0 < length xs → settle a (under g (inside_frames a xs (standing (held xs o)))) ≡ under g (inside_frames a xs (one s))
statement_settles a g xs o s is some = ap (λ p. settle a (under g (inside_frames a xs (standing p)))) (held_some xs o some ∙ is) ∙ stands_settled a g xs s

pub statement_shows : (a : Arena) (g : Option Goal) (xs : List Saved) (o : Option ℕ) (s : ℕ) → o ≡ Some s → 0 < length xs → next_of (settle a (under g (inside_frames a xs (standing (held xs o))))) ≡ residual.statement s
statement_shows a g xs o s is some = ap next_of (statement_settles a g xs o s is some) ∙ (through_all a g xs).comes (one s) tt

pub stands : (a : Arena) (g : Option Goal) (xs : List Saved) (o : Option ℕ) (s : ℕ) → o ≡ Some s → 0 < length xs
    → under g (inside_frames a xs (standing (held xs o))) ≡ settle a (under g (inside_frames a xs (standing (held xs o))))
stands a g xs o s is some = ap (λ p. under g (inside_frames a xs (standing p))) (held_some xs o some ∙ is) ∙ sym (statement_settles a g xs o s is some)

module _ (a : Arena) (g : Option Goal) (xs : List Saved) (o : Option ℕ) (i : ℕ) (d : Saved) (none : o ≡ None) (last : suc i ≡ length xs) (at : d ≡ get_or xs i d) where
  first_settles : (s : ℕ) (w : ComesIn a d.blocks.items s)
      → settle a (under g (inside_frames a xs (standing (held xs o)))) ≡ under g (inside_frames a (take i xs) (wrapped d.shell (call_of d.frame) (inside a w.blocks (one s))))
  first_settles s w =
      let C : Residual → Residual = λ r. under g (inside_frames a (take i xs) (wrapped d.shell (call_of d.frame) r)) in
      let through : Passes a C =
      through_both a (under g) (λ r. inside_frames a (take i xs) (wrapped d.shell (call_of d.frame) r)) (through_goal a g)
      (through_both a (inside_frames a (take i xs)) (wrapped d.shell (call_of d.frame)) (through_frames a (take i xs)) (through_call a d.shell (call_of d.frame))) in
      ap (λ p. settle a (under g (inside_frames a xs (standing (held xs p))))) none
      ∙ ap (settle a) (left_nothing a g xs ∙ ap (under g) (frames_last a xs (take i xs) d skip (last_is xs i d last at)))
      ∙ through.settles (inside a d.blocks.items skip) (inside a w.blocks (one s)) w.settles ((through_blocks a w.blocks).left (one s) tt)

  first_shows : (s : ℕ) → ComesIn a d.blocks.items s → next_of (settle a (under g (inside_frames a xs (standing (held xs o))))) ≡ residual.statement s
  first_shows s w =
      let C : Residual → Residual = λ r. under g (inside_frames a (take i xs) (wrapped d.shell (call_of d.frame) r)) in
      let through : Passes a C =
      through_both a (under g) (λ r. inside_frames a (take i xs) (wrapped d.shell (call_of d.frame) r)) (through_goal a g)
      (through_both a (inside_frames a (take i xs)) (wrapped d.shell (call_of d.frame)) (through_frames a (take i xs)) (through_call a d.shell (call_of d.frame))) in
      let q : Residual = inside a w.blocks (one s) in
      let inner : next_of q ≡ residual.statement s = (through_blocks a w.blocks).comes (one s) tt in
      ap next_of (first_settles s w)
      ∙ through.comes q (subst IsComing (sym inner) tt)
      ∙ inner

  pub first_shows_if : (q : Option ℕ) → IfSome q (ComesIn a d.blocks.items) → IfSome q (λ s. next_of (settle a (under g (inside_frames a xs (standing (held xs o))))) ≡ residual.statement s)
  first_shows_if None h = tt
  first_shows_if (Some s) h = first_shows s h

-- the end of a call in which nothing is open

frame_coming : (o : Option ℕ) (f : Frame) → IsComing (frame_end o f)
frame_coming None f = tt
frame_coming (Some s) f = tt

pub end_settled : (a : Arena) (x : Saved) (o : Option ℕ) → x.shell ≡ false → length x.blocks.items ≡ 0 → x.frame.call ≡ o → Settled a (whole a x skip) (whole a x skip) (shown (frame_end o (call_of x.frame)))
end_settled a x o alive few is =
    let e : whole a x skip ≡ frame skip (call_of x.frame) = ap (λ b. wrapped b (call_of x.frame) (inside a x.blocks.items skip)) alive ∙ ap (λ ls. frame (inside a ls skip) (call_of x.frame)) (no_blocks x.blocks.items few) in
    let P : residual.Next → Type 0 = IsComing in record {
      settles = ap (settle a) e ∙ sym e;
      shows = ap (λ q. shown (next_of q)) e ∙ ap (λ p. shown (frame_end p (call_of x.frame))) is;
      coming = subst P (sym (ap next_of e)) (frame_coming x.frame.call (call_of x.frame));
    }
  where
    no_blocks : (ls : List Open) → length ls ≡ 0 → ls ≡ []
    no_blocks [] h = refl
    no_blocks (l ∷ ls) h = absurd (omega (arith, h))

ended_shows : (a : Arena) (g : Option Goal) (xs : List Saved) (o : Option ℕ) (i : ℕ) (d : Saved) → o ≡ None → suc i ≡ length xs → d ≡ get_or xs i d → (n : Next) → Settled a (whole a d skip) (whole a d skip) n
    → n ≡ shown (next_of (settle a (under g (inside_frames a xs (standing (held xs o))))))
ended_shows a g xs o i d none last at n w =
    let C : Residual → Residual = λ r. under g (inside_frames a (take i xs) r) in
    let v = settled_through a C (whole a d skip) (whole a d skip) n (through_all a g (take i xs)) w in
    let old : settle a (under g (inside_frames a xs (standing (held xs o)))) ≡ C (whole a d skip) =
    ap (λ p. settle a (under g (inside_frames a xs (standing (held xs p))))) none
    ∙ ap (settle a) (left_nothing a g xs ∙ ap (under g) (frames_last a xs (take i xs) d skip (last_is xs i d last at)))
    ∙ v.settles in
    sym (ap (λ q. shown (next_of q)) old ∙ v.shows)

pub ended_shows_if : (g : Option Goal) (xs : List Saved) (o : Option ℕ) (i : ℕ) (d : Saved) → o ≡ None → suc i ≡ length xs → d ≡ get_or xs i d → (q : Option Next) → IfSome q (λ n. (a : Arena) → Settled a (whole a d skip) (whole a d skip) n)
    → IfSome q (λ n. (p : Program) → n ≡ shown (next_of (settle (arena_of p.code) (under g (inside_frames (arena_of p.code) xs (standing (held xs o)))))))
ended_shows_if g xs o i d none last at None h = tt
ended_shows_if g xs o i d none last at (Some n) h = λ p. ended_shows (arena_of p.code) g xs o i d none last at n (h (arena_of p.code))
