-- A return, and a local variable that is set, inside saved frames.
use Rattle.std.proofs.Common.{◌≡◌, ℕ, zero, suc, Bool, true, false, List, [], ◌∷◌, ◌++◌, Option, Some, None, take, get_or, refl, ap, ◌∙◌, subst}
use Rattle.std.specs.Prelude.{◌||◌, not, is_some}
use Rattle.kernel_bodies.specs.LogicValues.declared.kinds.Value.{Value}
use Rattle.kernel_bodies.specs.FlatDesign.Code.{Arena}
use Rattle.kernel_bodies.specs.SimModel.Residual.{Residual, Frame, skip, shell, followed, innermost, in_innermost, or_frame}
use Rattle.kernel_bodies.specs.SimModel.declared.plain.Goal.{Goal}
use Rattle.kernel_bodies.specs.SimModel.Unwinding.{has_exit, returned}
use Rattle.kernel_bodies.specs.declared.layers.Saved.{Saved}
use Rattle.kernel_bodies.specs.declared.layers.Open.{Open}
use Rattle.kernel_bodies.specs.declared.layers.Open.TheVariants as layer
use Rattle.kernel_bodies.specs.Layers.{call_of, around, inside, wrapped, whole, inside_frames, under, rest_at}
use Rattle.kernel_bodies.specs.Sought.{NoneIs, LastIs, among, is_run, is_exit}
use Rattle.kernel_bodies.proofs.Passing.{through_frame}
use Rattle.kernel_bodies.proofs.Seeking.{among_none, among_last, none_is, exit_frames, set_here, set_outside, innermost_whole}

pub returned_under : (v : Option Value) (g : Option Goal) (r : Residual) → returned v (under g r) ≡ under g (returned v r)
returned_under v None r = refl
returned_under v (Some k) r = refl

abbrev pub EndsAs : Option Value → Saved → Saved → Type 0
EndsAs v x y = (a : Arena) (r : Residual) → has_exit r ≡ false → returned v (whole a x r) ≡ whole a y skip

pub returned_frames : (a : Arena) (v : Option Value) (xs : List Saved) (i : ℕ) (d y : Saved) (r : Residual) → LastIs is_exit xs i → d ≡ get_or xs i d → EndsAs v d y → has_exit r ≡ false → returned v (inside_frames a xs r) ≡ inside_frames a (take i xs ++ y ∷ []) skip
returned_frames a v [] i d y r h is ends n = absurd h
returned_frames a v (x ∷ xs) zero d y r h is ends n =
    let P : Saved → Type 0 = λ z. EndsAs v z y in
    subst P is ends a (inside_frames a xs r) (exit_frames a xs r n ∙ among_none is_exit xs h.1)
returned_frames a v (x ∷ xs) (suc i) d y r h is ends n =
    (through_frame a x).returns v (inside_frames a xs r) (exit_frames a xs r n ∙ among_last is_exit xs i h) ∙ ap (whole a x) (returned_frames a v xs i d y r h is ends n)

returned_followed : (v : Option Value) (r : Residual) (ss : List ℕ) → returned v (followed r ss) ≡ followed (returned v r) ss
returned_followed v r [] = refl
returned_followed v r (s ∷ ss) = refl

no_run : (a : Arena) (v : Option Value) (l : Open) (r : Residual) → is_run l ≡ false → returned v (around a l r) ≡ around a l (returned v r)
no_run a v (layer.Rest c) r h = returned_followed v r (rest_at a c)
no_run a v (layer.Again s) r h = refl
no_run a v (layer.Owed u) r h = refl
no_run a v (layer.Guard u) r h = refl
no_run a v (layer.Try s) r h = refl
no_run a v layer.Run r h = cc
no_run a v (layer.Goal k) r h = refl

no_runs : (a : Arena) (v : Option Value) (ls : List Open) (r : Residual) → NoneIs is_run ls → returned v (inside a ls r) ≡ inside a ls (returned v r)
no_runs a v [] r h = refl
no_runs a v (l ∷ ls) r h = no_run a v l (inside a ls r) h.0 ∙ ap (around a l) (no_runs a v ls r h.1)

no_exit : (a : Arena) (v : Option Value) (b : Bool) (x : Frame) (ls : List Open) (r : Residual) → (among is_run ls || not b) ≡ false → returned v (wrapped b x (inside a ls r)) ≡ wrapped b x (inside a ls (returned v r))
no_exit a v true x ls r h = ap (λ q. shell q x) (no_runs a v ls r (none_is is_run ls (or_first (among is_run ls) h)))
  where
    or_first : (b : Bool) → (b || false) ≡ false → b ≡ false
    or_first true e = cc
    or_first false e = refl
no_exit a v false x ls r h = absurd (or_second (among is_run ls) h)
  where
    or_second : (b : Bool) → (b || true) ≡ false → ⊥
    or_second true e = cc
    or_second false e = cc

pub returned_none : (a : Arena) (v : Option Value) (xs : List Saved) (r : Residual) → returned v r ≡ r → NoneIs is_exit xs → returned v (inside_frames a xs r) ≡ inside_frames a xs r
returned_none a v [] r e h = e
returned_none a v (x ∷ xs) r e h = no_exit a v x.shell (call_of x.frame) x.blocks.items (inside_frames a xs r) h.0 ∙ ap (whole a x) (returned_none a v xs r e h.1)

-- a local variable

pub set_under : (f : Frame → Frame) (g : Option Goal) (r : Residual) → in_innermost f (under g r) ≡ under g (in_innermost f r)
set_under f None r = refl
set_under f (Some k) r = refl

or_some : (o : Option Frame) (x : Frame) → is_some (or_frame o x) ≡ true
or_some None x = refl
or_some (Some y) x = refl

pub set_frames : (a : Arena) (f : Frame → Frame) (front : List Saved) (x y : Saved) (r : Residual) → innermost r ≡ None → in_innermost f r ≡ r → wrapped x.shell (f (call_of x.frame)) (inside a x.blocks.items r) ≡ whole a y r
    → in_innermost f (inside_frames a (front ++ x ∷ []) r) ≡ inside_frames a (front ++ y ∷ []) r
set_frames a f [] x y r e same w = set_here a f x r e same ∙ w
set_frames a f (z ∷ front) x y r e same w =
    set_outside a f z (inside_frames a (front ++ x ∷ []) r) (some_inside front) ∙ ap (whole a z) (set_frames a f front x y r e same w)
  where
    some_inside : (front : List Saved) → is_some (innermost (inside_frames a (front ++ x ∷ []) r)) ≡ true
    some_inside [] = ap is_some (innermost_whole a x r) ∙ or_some (innermost r) (call_of x.frame)
    some_inside (z ∷ front) = ap is_some (innermost_whole a z (inside_frames a (front ++ x ∷ []) r)) ∙ or_some (innermost (inside_frames a (front ++ x ∷ []) r)) (call_of z.frame)
