-- What a body shows of what is left.
use Rattle.std.proofs.Common.{◌≡◌, ℕ, ◌+◌, suc, length, get_or, Bool, true, false, List, [], ◌∷◌, Option, Some, None, take, refl, sym, ap, ◌∙◌}
use Rattle.std.specs.Prelude.{◌||◌, is_some}
use Rattle.kernel_bodies.specs.FlatDesign.Code.{Arena, block_at}
use Rattle.kernel_bodies.specs.FlatDesign.declared.code.Handler.{Handler}
use Rattle.kernel_bodies.specs.SimModel.Residual as residual
use Rattle.kernel_bodies.specs.SimModel.Residual.{Residual, Frame, skip, frame, block, followed, statements, then_on, then_owed, in_run, in_guard, in_try, innermost, or_frame, within, or_via, in_nb, has_goal, open_frames, counted_call, settle}
use Rattle.kernel_bodies.specs.SimModel.declared.plain.Via.{Via}
use Rattle.kernel_bodies.specs.SimModel.declared.plain.Goal.{Goal}
use Rattle.kernel_bodies.specs.SimModel.Unwinding.{catches}
use Rattle.kernel_bodies.specs.Depths.{handlers_of}
use Rattle.kernel_bodies.specs.declared.layers.Saved.{Saved}
use Rattle.kernel_bodies.specs.declared.layers.Open.{Open}
use Rattle.kernel_bodies.specs.declared.layers.Open.TheVariants as layer
use Rattle.kernel_bodies.specs.declared.layers.Landing.{Landing}
use Rattle.kernel_bodies.specs.Landings.{Lands}
use Rattle.kernel_bodies.specs.Layers.{call_of, inside, wrapped, whole, cut, inside_frames, under, held, standing, landed, rest_at}
use Rattle.kernel_bodies.specs.Sought.{among, has_handler, is_handling, unwinds, is_open_nonblocking, last_call, last_via, many_calls}
use Rattle.kernel_bodies.proofs.Seeking.{innermost_cut, innermost_whole, innermost_frames, within_cut, within_whole, within_frames, calls_cut, calls_whole, calls_frames, nb_frames, goal_frames, catches_inside, catches_wrapped, catches_whole}
use Rattle.kernel_bodies.proofs.Settling.{settle_around, settled_around}
use Rattle.process_state.proofs.Frames.{frames_last, front_is, last_is}
use Rattle.process_state.proofs.Passed.{through_all}
use Rattle.process_state.proofs.Settled.{under_settled}
use Rattle.process_state.proofs.Stepping.{innermost_landed, within_landed, calls_landed, catches_landed, innermost_standing, within_standing, nb_standing, goal_standing}

-- outside all frames

innermost_under : (g : Option Goal) (r : Residual) → innermost (under g r) ≡ innermost r
innermost_under None r = refl
innermost_under (Some k) r = refl

within_under : (g : Option Goal) (r : Residual) → within (under g r) ≡ within r
within_under None r = refl
within_under (Some k) r = refl

calls_under : (g : Option Goal) (r : Residual) → open_frames (under g r) ≡ open_frames r
calls_under None r = refl
calls_under (Some k) r = refl

nb_under : (g : Option Goal) (r : Residual) → in_nb (under g r) ≡ in_nb r
nb_under None r = refl
nb_under (Some k) r = refl

catches_under : (g : Option Goal) (r : Residual) (e : ℕ) → catches (under g r) e ≡ catches r e
catches_under None r e = refl
catches_under (Some k) r e = refl

-- of what is left as it stands

pub innermost_left : (a : Arena) (g : Option Goal) (xs : List Saved) (o : Option ℕ) → innermost (under g (inside_frames a xs (standing o))) ≡ last_call xs
innermost_left a g xs o = innermost_under g (inside_frames a xs (standing o)) ∙ innermost_frames a xs (standing o) (innermost_standing o)

pub within_left : (a : Arena) (g : Option Goal) (xs : List Saved) (o : Option ℕ) → within (under g (inside_frames a xs (standing o))) ≡ last_via xs
within_left a g xs o = within_under g (inside_frames a xs (standing o)) ∙ within_frames a xs (standing o) (within_standing o)

pub nb_left : (a : Arena) (g : Option Goal) (xs : List Saved) (o : Option ℕ) → in_nb (under g (inside_frames a xs (standing o))) ≡ among is_open_nonblocking xs
nb_left a g xs o = nb_under g (inside_frames a xs (standing o)) ∙ nb_frames a xs (standing o) (nb_standing o)

pub goal_else : (a : Arena) (g : Option Goal) (xs : List Saved) (o : Option ℕ) → is_some g ≡ false → has_goal (under g (inside_frames a xs (standing o))) ≡ among unwinds xs
goal_else a None xs o e = goal_frames a xs (standing o) (goal_standing o)
goal_else a (Some k) xs o e = cc

-- of frames, by what is inside them

same_innermost : (a : Arena) (xs : List Saved) (p q : Residual) → innermost p ≡ innermost q → innermost (inside_frames a xs p) ≡ innermost (inside_frames a xs q)
same_innermost a [] p q e = e
same_innermost a (x ∷ xs) p q e =
    innermost_whole a x (inside_frames a xs p) ∙ ap (λ o. or_frame o (call_of x.frame)) (same_innermost a xs p q e) ∙ sym (innermost_whole a x (inside_frames a xs q))

same_within : (a : Arena) (xs : List Saved) (p q : Residual) → within p ≡ within q → within (inside_frames a xs p) ≡ within (inside_frames a xs q)
same_within a [] p q e = e
same_within a (x ∷ xs) p q e = within_whole a x (inside_frames a xs p) ∙ ap (λ o. or_via o x.frame.via) (same_within a xs p q e) ∙ sym (within_whole a x (inside_frames a xs q))

same_calls : (a : Arena) (xs : List Saved) (p q : Residual) → open_frames p ≡ open_frames q → open_frames (inside_frames a xs p) ≡ open_frames (inside_frames a xs q)
same_calls a [] p q e = e
same_calls a (x ∷ xs) p q e = calls_whole a x (inside_frames a xs p) ∙ ap (λ n. n + counted_call x.frame.call) (same_calls a xs p q e) ∙ sym (calls_whole a x (inside_frames a xs q))

or_assoc : (x y z : Bool) → ((x || y) || z) ≡ (x || (y || z))
or_assoc true y z = refl
or_assoc false y z = refl

or_false : (b : Bool) → (b || false) ≡ b
or_false true = refl
or_false false = refl

catches_all : (a : Arena) (e : ℕ) (xs : List Saved) (r : Residual) → catches (inside_frames a xs r) e ≡ (catches r e || among (has_handler a e) xs)
catches_all a e [] r = sym (or_false (catches r e))
catches_all a e (x ∷ xs) r =
    catches_whole a e x (inside_frames a xs r) ∙ ap (λ b. b || has_handler a e x) (catches_all a e xs r) ∙ or_assoc (catches r e) (among (has_handler a e) xs) (has_handler a e x)

-- once finished parts have fallen away

module _ (a : Arena) (ds : List ℕ) (g : Option Goal) (xs : List Saved) (s : Option ℕ) (r : Residual) (l : Landing) (lands : Lands a ds xs s r l) where
  settles_to : settle a (under g (inside_frames a xs r)) ≡ under g (inside_frames a (take l.outside xs) (cut a lands.inner l.blocks (landed a l.comes)))
  settles_to = (under_settled a g xs xs r (inside_frames a (take l.outside xs) (cut a lands.inner l.blocks (landed a l.comes))) l.comes lands.settled).settles

  all_stand : inside_frames a (take (suc l.outside) xs) (landed a l.comes) ≡ inside_frames a (take l.outside xs) (whole a lands.inner (landed a l.comes))
  all_stand = frames_last a (take (suc l.outside) xs) (take l.outside xs) lands.inner (landed a l.comes) (front_is xs l.outside lands.inner lands.within lands.there)

  pub calls_stand : last_call (take (suc l.outside) xs) ≡ innermost (settle a (under g (inside_frames a xs r)))
  calls_stand =
      sym
      (ap innermost settles_to
      ∙ innermost_under g (inside_frames a (take l.outside xs) (cut a lands.inner l.blocks (landed a l.comes)))
      ∙ same_innermost a (take l.outside xs) (cut a lands.inner l.blocks (landed a l.comes)) (whole a lands.inner (landed a l.comes)) (innermost_cut a lands.inner l.blocks (landed a l.comes) ∙ sym (innermost_whole a lands.inner (landed a l.comes)))
      ∙ ap innermost (sym all_stand)
      ∙ innermost_frames a (take (suc l.outside) xs) (landed a l.comes) (innermost_landed a l.comes))

  pub transports_stand : last_via (take (suc l.outside) xs) ≡ within (settle a (under g (inside_frames a xs r)))
  transports_stand =
      sym
      (ap within settles_to
      ∙ within_under g (inside_frames a (take l.outside xs) (cut a lands.inner l.blocks (landed a l.comes)))
      ∙ same_within a (take l.outside xs) (cut a lands.inner l.blocks (landed a l.comes)) (whole a lands.inner (landed a l.comes)) (within_cut a lands.inner l.blocks (landed a l.comes) ∙ sym (within_whole a lands.inner (landed a l.comes)))
      ∙ ap within (sym all_stand)
      ∙ within_frames a (take (suc l.outside) xs) (landed a l.comes) (within_landed a l.comes))

  pub many_stand : many_calls (take (suc l.outside) xs) ≡ open_frames (settle a (under g (inside_frames a xs r)))
  many_stand =
      sym
      (ap open_frames settles_to
      ∙ calls_under g (inside_frames a (take l.outside xs) (cut a lands.inner l.blocks (landed a l.comes)))
      ∙ same_calls a (take l.outside xs) (cut a lands.inner l.blocks (landed a l.comes)) (whole a lands.inner (landed a l.comes)) (calls_cut a lands.inner l.blocks (landed a l.comes) ∙ sym (calls_whole a lands.inner (landed a l.comes)))
      ∙ ap open_frames (sym all_stand)
      ∙ calls_frames a (take (suc l.outside) xs) (landed a l.comes) (calls_landed a l.comes))

  pub caught_stand : (e : ℕ) → catches (settle a (under g (inside_frames a xs r))) e ≡ (among (is_handling a e) (take l.blocks lands.inner.blocks.items) || among (has_handler a e) (take l.outside xs))
  caught_stand e =
      ap (λ q. catches q e) settles_to
      ∙ catches_under g (inside_frames a (take l.outside xs) (cut a lands.inner l.blocks (landed a l.comes))) e
      ∙ catches_all a e (take l.outside xs) (cut a lands.inner l.blocks (landed a l.comes))
      ∙ ap (λ b. b || among (has_handler a e) (take l.outside xs))
      (catches_wrapped lands.inner.shell (call_of lands.inner.frame) (inside a (take l.blocks lands.inner.blocks.items) (landed a l.comes)) e
      ∙ catches_inside a e (take l.blocks lands.inner.blocks.items) (landed a l.comes)
      ∙ ap (λ b. b || among (is_handling a e) (take l.blocks lands.inner.blocks.items)) (catches_landed a l.comes e))

-- what blocks and statements do not change, settling them does not either

record Blind (A : Type 0) (f : Residual → A) : Type 0 where
  on_one : (s : ℕ) → f (residual.one s) ≡ f skip
  on_seq : (r : Residual) (s : ℕ) (ss : List ℕ) → f (residual.seq r (s ∷ ss)) ≡ f r
  on_owing : (r : Residual) (u : ℕ) → f (residual.owing r 0 u) ≡ f r
  on_guard : (r : Residual) (u : ℕ) → f (residual.guard r 0 u) ≡ f r
  on_try : (r : Residual) (hs : List Handler) → f (residual.try_ r hs) ≡ f r
  on_run : (r : Residual) → f (residual.run 0 r) ≡ f r
  on_goal : (r : Residual) (k : Goal) → f (residual.goal r k) ≡ f r

module _ (A : Type 0) (f : Residual → A) (blind : Blind A f) where
  after : (r : Residual) (ss : List ℕ) → f (followed r ss) ≡ f r
  after r [] = refl
  after r (s ∷ ss) = blind.on_seq r s ss

  of_statements : (ss : List ℕ) → f (statements ss) ≡ f skip
  of_statements [] = refl
  of_statements (s ∷ ss) = after (residual.one s) ss ∙ blind.on_one s

  after_it : (q : Residual) (ss : List ℕ) → f q ≡ f skip → f (then_on q ss) ≡ f skip
  after_it skip ss h = of_statements ss
  after_it q ss h = after q ss ∙ h

  in_a_run : (q : Residual) → f q ≡ f skip → f (in_run 0 q) ≡ f skip
  in_a_run skip h = refl
  in_a_run q h = blind.on_run q ∙ h

  before_owed : (a : Arena) (q : Residual) (u : ℕ) → f q ≡ f skip → f (then_owed a q 0 u) ≡ f skip
  before_owed a skip u h = in_a_run (block a u) (of_statements (block_at a u))
  before_owed a q u h = blind.on_owing q u ∙ h

  in_a_guard : (q : Residual) (u : ℕ) → f q ≡ f skip → f (in_guard q 0 u) ≡ f skip
  in_a_guard skip u h = refl
  in_a_guard q u h = blind.on_guard q u ∙ h

  in_a_try : (q : Residual) (hs : List Handler) → f q ≡ f skip → f (in_try q hs) ≡ f skip
  in_a_try skip hs h = refl
  in_a_try q hs h = blind.on_try q hs ∙ h

  in_a_block : (a : Arena) (l : Open) (q : Residual) → f q ≡ f skip → f (settled_around a l q) ≡ f skip
  in_a_block a (layer.Rest c) q h = after_it q (rest_at a c) h
  in_a_block a (layer.Again s) q h = after_it q (s ∷ []) h
  in_a_block a (layer.Owed u) q h = before_owed a q u h
  in_a_block a (layer.Guard u) q h = in_a_guard q u h
  in_a_block a (layer.Try s) q h = in_a_try q (handlers_of a s) h
  in_a_block a layer.Run q h = in_a_run q h
  in_a_block a (layer.Goal k) q h = blind.on_goal q k ∙ h

  in_standing : (a : Arena) (o : Option ℕ) → f (settle a (standing o)) ≡ f skip
  in_standing a None = refl
  in_standing a (Some s) = blind.on_one s

  in_blocks : (a : Arena) (ls : List Open) (o : Option ℕ) → f (settle a (inside a ls (standing o))) ≡ f skip
  in_blocks a [] o = in_standing a o
  in_blocks a (l ∷ ls) o = ap f (settle_around a l (inside a ls (standing o))) ∙ in_a_block a l (settle a (inside a ls (standing o))) (in_blocks a ls o)

-- all frames stand, where the innermost is not being unwound

module _ (a : Arena) (g : Option Goal) (xs : List Saved) (o : Option ℕ) (i : ℕ) (d : Saved) (alive : d.shell ≡ false) (last : suc i ≡ length xs) (at : d ≡ get_or xs i d) where
  abbrev settled_call : Residual
  settled_call = frame (settle a (inside a d.blocks.items (standing (held xs o)))) (call_of d.frame)

  open_settles : settle a (under g (inside_frames a xs (standing (held xs o)))) ≡ under g (inside_frames a (take i xs) settled_call)
  open_settles =
      ap (λ r. settle a (under g r)) (frames_last a xs (take i xs) d (standing (held xs o)) (last_is xs i d last at))
      ∙ (through_all a g (take i xs)).settles (whole a d (standing (held xs o))) settled_call (ap (λ b. settle a (wrapped b (call_of d.frame) (inside a d.blocks.items (standing (held xs o))))) alive) tt

  pub calls_open : last_call xs ≡ innermost (settle a (under g (inside_frames a xs (standing (held xs o)))))
  calls_open =
      let blind : Blind (Option Frame) innermost = record { on_one = λ s. refl; on_seq = λ r s ss. refl; on_owing = λ r u. refl; on_guard = λ r u. refl; on_try = λ r hs. refl; on_run = λ r. refl; on_goal = λ r k. refl } in
      let same : innermost settled_call ≡ innermost (whole a d skip) = ap (λ p. or_frame p (call_of d.frame)) (in_blocks (Option Frame) innermost blind a d.blocks.items (held xs o)) ∙ sym (innermost_whole a d skip) in
      sym
      (ap innermost open_settles
      ∙ innermost_under g (inside_frames a (take i xs) settled_call)
      ∙ same_innermost a (take i xs) settled_call (whole a d skip) same
      ∙ ap innermost (sym (frames_last a xs (take i xs) d skip (last_is xs i d last at)))
      ∙ innermost_frames a xs skip refl)

  pub transports_open : last_via xs ≡ within (settle a (under g (inside_frames a xs (standing (held xs o)))))
  transports_open =
      let blind : Blind (Option Via) within = record { on_one = λ s. refl; on_seq = λ r s ss. refl; on_owing = λ r u. refl; on_guard = λ r u. refl; on_try = λ r hs. refl; on_run = λ r. refl; on_goal = λ r k. refl } in
      let same : within settled_call ≡ within (whole a d skip) = ap (λ p. or_via p d.frame.via) (in_blocks (Option Via) within blind a d.blocks.items (held xs o)) ∙ sym (within_whole a d skip) in
      sym
      (ap within open_settles
      ∙ within_under g (inside_frames a (take i xs) settled_call)
      ∙ same_within a (take i xs) settled_call (whole a d skip) same
      ∙ ap within (sym (frames_last a xs (take i xs) d skip (last_is xs i d last at)))
      ∙ within_frames a xs skip refl)

  pub many_open : many_calls xs ≡ open_frames (settle a (under g (inside_frames a xs (standing (held xs o)))))
  many_open =
      let blind : Blind ℕ open_frames = record { on_one = λ s. refl; on_seq = λ r s ss. refl; on_owing = λ r u. refl; on_guard = λ r u. refl; on_try = λ r hs. refl; on_run = λ r. refl; on_goal = λ r k. refl } in
      let same : open_frames settled_call ≡ open_frames (whole a d skip) = ap (λ n. n + counted_call d.frame.call) (in_blocks ℕ open_frames blind a d.blocks.items (held xs o)) ∙ sym (calls_whole a d skip) in
      sym
      (ap open_frames open_settles
      ∙ calls_under g (inside_frames a (take i xs) settled_call)
      ∙ same_calls a (take i xs) settled_call (whole a d skip) same
      ∙ ap open_frames (sym (frames_last a xs (take i xs) d skip (last_is xs i d last at)))
      ∙ calls_frames a xs skip refl)

pub or_first : (x y z : Bool) → x ≡ true → x ≡ y → x ≡ (y || z)
or_first x y z e is = e ∙ ap (λ b. b || z) (sym e ∙ is)

pub or_second : (x y z : Bool) → x ≡ false → x ≡ y → (y || z) ≡ z
or_second x y z e is = ap (λ b. b || z) (sym is ∙ e)
