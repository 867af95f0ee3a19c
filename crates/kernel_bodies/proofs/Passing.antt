-- What open blocks, frames and the goal of all leave of what is inside them: each definition on residuals goes through them.
use Rattle.std.proofs.Common.{◌≡◌, ℕ, Bool, true, false, List, [], ◌∷◌, Option, Some, None, refl, sym, ap, ◌∙◌, subst}
use Rattle.std.specs.Prelude.{◌||◌, if◌then◌else◌}
use Rattle.sim_model.specs.LogicValues.declared.kinds.Value.{Value}
use Rattle.sim_model.specs.FlatDesign.Code.{Arena}
use Rattle.sim_model.specs.Residual.{Residual, Frame, Next, skip, frame, goal, followed, settle, next_of, in_shell, put, frame_or, goal_or}
use Rattle.sim_model.specs.Unwinding.{catches, handles, raise, left_by_raise, has_exit, returned}
use Rattle.sim_model.specs.declared.plain.Goal.{Goal}
use Rattle.kernel_bodies.specs.Depths.{handlers_of}
use Rattle.kernel_bodies.specs.Strip.{strip}
use Rattle.kernel_bodies.specs.declared.layers.Saved.{Saved}
use Rattle.kernel_bodies.specs.declared.layers.Open.{Open}
use Rattle.kernel_bodies.specs.declared.layers.Open.TheVariants as layer
use Rattle.kernel_bodies.specs.declared.layers.Next.{Next as Shown}
use Rattle.kernel_bodies.specs.Layers.{call_of, around, inside, wrapped, whole, inside_frames, under, rest_at, shown, IsComing, Settled}
use Rattle.kernel_bodies.proofs.Settling.{IsLeft, settled_around, settle_around, settled_around_left, around_left, in_shell_left, next_around, in_frame_same}

pub record Passes (a : Arena) (C : Residual → Residual) : Type 0 where
  pub left : (r : Residual) → IsLeft r → IsLeft (C r)
  pub settles : (r q : Residual) → settle a r ≡ q → IsLeft q → settle a (C r) ≡ C q
  pub same : (r q : Residual) → settle a r ≡ settle a q → settle a (C r) ≡ settle a (C q)
  pub comes : (r : Residual) → IsComing (next_of r) → next_of (C r) ≡ next_of r
  pub puts : (r n : Residual) → IsLeft r → put (C r) n ≡ C (put r n)
  pub caught : (r : Residual) (e : ℕ) → catches r e ≡ true → catches (C r) e ≡ true
  pub raises : (r : Residual) (e : ℕ) (k : Goal) → catches r e ≡ true → raise a (C r) e k ≡ C (raise a r e k)
  pub raise_leaves : (r : Residual) (e : ℕ) → catches r e ≡ true → left_by_raise (C r) e ≡ left_by_raise r e
  pub exits : (r : Residual) → has_exit r ≡ true → has_exit (C r) ≡ true
  pub returns : (v : Option Value) (r : Residual) → has_exit r ≡ true → returned v (C r) ≡ C (returned v r)
  pub strips : (r : Residual) → strip (C r) ≡ C (strip r)

pub through_nothing : (a : Arena) → Passes a (λ r. r)
through_nothing a = record {
  left = λ r h. h;
  settles = λ r q e h. e;
  same = λ r q e. e;
  comes = λ r h. refl;
  puts = λ r n h. refl;
  caught = λ r e h. h;
  raises = λ r e k h. refl;
  raise_leaves = λ r e h. refl;
  exits = λ r h. h;
  returns = λ v r h. refl;
  strips = λ r. refl;
}

pub through_both : (a : Arena) (C D : Residual → Residual) → Passes a C → Passes a D → Passes a (λ r. C (D r))
through_both a C D p q =
    let next : (r : Residual) → IsComing (next_of r) → IsComing (next_of (D r)) =
    λ r h. let P : Next → Type 0 = IsComing in subst P (sym (q.comes r h)) h in record {
      left = λ r h. p.left (D r) (q.left r h);
      settles = λ r n e h. p.settles (D r) (D n) (q.settles r n e h) (q.left n h);
      same = λ r n e. p.same (D r) (D n) (q.same r n e);
      comes = λ r h. p.comes (D r) (next r h) ∙ q.comes r h;
      puts = λ r n h. p.puts (D r) n (q.left r h) ∙ ap C (q.puts r n h);
      caught = λ r e h. p.caught (D r) e (q.caught r e h);
      raises = λ r e k h. p.raises (D r) e k (q.caught r e h) ∙ ap C (q.raises r e k h);
      raise_leaves = λ r e h. p.raise_leaves (D r) e (q.caught r e h) ∙ q.raise_leaves r e h;
      exits = λ r h. p.exits (D r) (q.exits r h);
      returns = λ v r h. p.returns v (D r) (q.exits r h) ∙ ap C (q.returns v r h);
      strips = λ r. p.strips (D r) ∙ ap C (q.strips r);
    }

-- a block

put_followed : (r : Residual) (ss : List ℕ) (n : Residual) → put (followed r ss) n ≡ followed (put r n) ss
put_followed r [] n = refl
put_followed r (s ∷ ss) n = refl

put_around : (a : Arena) (l : Open) (r n : Residual) → IsLeft r → put (around a l r) n ≡ around a l (put r n)
put_around a (layer.Rest c) r n h = put_followed r (rest_at a c) n
put_around a (layer.Again s) r n h = refl
put_around a (layer.Owed u) r n h = refl
put_around a (layer.Guard u) r n h = refl
put_around a (layer.Try s) r n h = refl
put_around a layer.Run r n h = refl
put_around a (layer.Goal k) r n h = goal_or_left r k n (put r n) h
  where
    goal_or_left : (r : Residual) (k : Goal) (n q : Residual) → IsLeft r → goal_or r k n q ≡ goal q k
    goal_or_left skip k n q h = absurd h
    goal_or_left r k n q h = refl

pub if_true : {A : Type 0} (b : Bool) (x y : A) → b ≡ true → (if b then x else y) ≡ x
if_true true x y e = refl
if_true false x y e = cc

pub if_false : {A : Type 0} (b : Bool) (x y : A) → b ≡ false → (if b then x else y) ≡ y
if_false true x y e = cc
if_false false x y e = refl

or_left : (x y : Bool) → x ≡ true → (x || y) ≡ true
or_left true y e = refl
or_left false y e = cc

caught_followed : (r : Residual) (ss : List ℕ) (e : ℕ) → catches (followed r ss) e ≡ catches r e
caught_followed r [] e = refl
caught_followed r (s ∷ ss) e = refl

caught_around : (a : Arena) (l : Open) (r : Residual) (e : ℕ) → catches r e ≡ true → catches (around a l r) e ≡ true
caught_around a (layer.Rest c) r e h = caught_followed r (rest_at a c) e ∙ h
caught_around a (layer.Again s) r e h = h
caught_around a (layer.Owed u) r e h = h
caught_around a (layer.Guard u) r e h = h
caught_around a (layer.Try s) r e h = or_left (catches r e) (handles (handlers_of a s) e) h
caught_around a layer.Run r e h = h
caught_around a (layer.Goal k) r e h = h

raise_followed : (a : Arena) (r : Residual) (ss : List ℕ) (e : ℕ) (k : Goal) → raise a (followed r ss) e k ≡ followed (raise a r e k) ss
raise_followed a r [] e k = refl
raise_followed a r (s ∷ ss) e k = refl

raise_around : (a : Arena) (l : Open) (r : Residual) (e : ℕ) (k : Goal) → catches r e ≡ true → raise a (around a l r) e k ≡ around a l (raise a r e k)
raise_around a (layer.Rest c) r e k h = raise_followed a r (rest_at a c) e k
raise_around a (layer.Again s) r e k h = refl
raise_around a (layer.Owed u) r e k h = refl
raise_around a (layer.Guard u) r e k h = refl
raise_around a (layer.Try s) r e k h = if_true (catches r e) _ _ h
raise_around a layer.Run r e k h = refl
raise_around a (layer.Goal g) r e k h = refl

leaves_followed : (r : Residual) (ss : List ℕ) (e : ℕ) → left_by_raise (followed r ss) e ≡ left_by_raise r e
leaves_followed r [] e = refl
leaves_followed r (s ∷ ss) e = refl

leaves_around : (a : Arena) (l : Open) (r : Residual) (e : ℕ) → catches r e ≡ true → left_by_raise (around a l r) e ≡ left_by_raise r e
leaves_around a (layer.Rest c) r e h = leaves_followed r (rest_at a c) e
leaves_around a (layer.Again s) r e h = refl
leaves_around a (layer.Owed u) r e h = refl
leaves_around a (layer.Guard u) r e h = refl
leaves_around a (layer.Try s) r e h = if_true (catches r e) _ _ h
leaves_around a layer.Run r e h = refl
leaves_around a (layer.Goal g) r e h = refl

exits_followed : (r : Residual) (ss : List ℕ) → has_exit (followed r ss) ≡ has_exit r
exits_followed r [] = refl
exits_followed r (s ∷ ss) = refl

exits_around : (a : Arena) (l : Open) (r : Residual) → has_exit r ≡ true → has_exit (around a l r) ≡ true
exits_around a (layer.Rest c) r h = exits_followed r (rest_at a c) ∙ h
exits_around a (layer.Again s) r h = h
exits_around a (layer.Owed u) r h = h
exits_around a (layer.Guard u) r h = h
exits_around a (layer.Try s) r h = h
exits_around a layer.Run r h = refl
exits_around a (layer.Goal k) r h = h

returned_followed : (v : Option Value) (r : Residual) (ss : List ℕ) → returned v (followed r ss) ≡ followed (returned v r) ss
returned_followed v r [] = refl
returned_followed v r (s ∷ ss) = refl

returned_around : (a : Arena) (v : Option Value) (l : Open) (r : Residual) → has_exit r ≡ true → returned v (around a l r) ≡ around a l (returned v r)
returned_around a v (layer.Rest c) r h = returned_followed v r (rest_at a c)
returned_around a v (layer.Again s) r h = refl
returned_around a v (layer.Owed u) r h = refl
returned_around a v (layer.Guard u) r h = refl
returned_around a v (layer.Try s) r h = refl
returned_around a v layer.Run r h = if_true (has_exit r) _ _ h
returned_around a v (layer.Goal k) r h = refl

strip_followed : (r : Residual) (ss : List ℕ) → strip (followed r ss) ≡ followed (strip r) ss
strip_followed r [] = refl
strip_followed r (s ∷ ss) = refl

strip_around : (a : Arena) (l : Open) (r : Residual) → strip (around a l r) ≡ around a l (strip r)
strip_around a (layer.Rest c) r = strip_followed r (rest_at a c)
strip_around a (layer.Again s) r = refl
strip_around a (layer.Owed u) r = refl
strip_around a (layer.Guard u) r = refl
strip_around a (layer.Try s) r = refl
strip_around a layer.Run r = refl
strip_around a (layer.Goal k) r = refl

pub through_block : (a : Arena) (l : Open) → Passes a (around a l)
through_block a l = record {
  left = λ r h. around_left a l r h;
  settles = λ r q e h. settle_around a l r ∙ ap (settled_around a l) e ∙ settled_around_left a l q h;
  same = λ r q e. settle_around a l r ∙ ap (settled_around a l) e ∙ sym (settle_around a l q);
  comes = λ r h. next_around a l r h;
  puts = λ r n h. put_around a l r n h;
  caught = λ r e h. caught_around a l r e h;
  raises = λ r e k h. raise_around a l r e k h;
  raise_leaves = λ r e h. leaves_around a l r e h;
  exits = λ r h. exits_around a l r h;
  returns = λ v r h. returned_around a v l r h;
  strips = λ r. strip_around a l r;
}

pub through_blocks : (a : Arena) (ls : List Open) → Passes a (inside a ls)
through_blocks a [] = through_nothing a
through_blocks a (l ∷ ls) = through_both a (around a l) (inside a ls) (through_block a l) (through_blocks a ls)

-- a call

frame_or_left : (r : Residual) (x : Frame) (n q : Residual) → IsLeft r → frame_or r x n q ≡ frame q x
frame_or_left skip x n q h = absurd h
frame_or_left r x n q h = refl

pub through_call : (a : Arena) (b : Bool) (x : Frame) → Passes a (wrapped b x)
through_call a false x = record {
  left = λ r h. tt;
  settles = λ r q e h. ap (λ n. frame n x) e;
  same = λ r q e. ap (λ n. frame n x) e;
  comes = λ r h. in_frame_same (next_of r) x h;
  puts = λ r n h. frame_or_left r x n (put r n) h;
  caught = λ r e h. h;
  raises = λ r e k h. refl;
  raise_leaves = λ r e h. refl;
  exits = λ r h. refl;
  returns = λ v r h. if_true (has_exit r) _ _ h;
  strips = λ r. refl;
}
through_call a true x = record {
  left = λ r h. tt;
  settles = λ r q e h. ap (λ n. in_shell n x) e ∙ in_shell_left q x h;
  same = λ r q e. ap (λ n. in_shell n x) e;
  comes = λ r h. refl;
  puts = λ r n h. refl;
  caught = λ r e h. h;
  raises = λ r e k h. refl;
  raise_leaves = λ r e h. refl;
  exits = λ r h. h;
  returns = λ v r h. refl;
  strips = λ r. refl;
}

pub through_frame : (a : Arena) (x : Saved) → Passes a (whole a x)
through_frame a x = through_both a (wrapped x.shell (call_of x.frame)) (inside a x.blocks.items) (through_call a x.shell (call_of x.frame)) (through_blocks a x.blocks.items)

pub through_frames : (a : Arena) (xs : List Saved) → Passes a (inside_frames a xs)
through_frames a [] = through_nothing a
through_frames a (x ∷ xs) = through_both a (whole a x) (inside_frames a xs) (through_frame a x) (through_frames a xs)

pub through_goal : (a : Arena) (g : Option Goal) → Passes a (under g)
through_goal a None = through_nothing a
through_goal a (Some k) = through_block a (layer.Goal k)

-- what is settled inside

pub coming_left : (r : Residual) → IsComing (next_of r) → IsLeft r
coming_left skip h = absurd h
coming_left r h = tt

pub settled_through : (a : Arena) (C : Residual → Residual) (r q : Residual) (n : Shown) → Passes a C → Settled a r q n → Settled a (C r) (C q) n
settled_through a C r q n p s =
    let e = p.comes q s.coming in
    let P : Next → Type 0 = IsComing in record {
      settles = p.settles r q s.settles (coming_left q s.coming);
      shows = ap shown e ∙ s.shows;
      coming = subst P (sym e) s.coming;
    }
