-- Finished parts inside layers.
use Rattle.std.proofs.Common.{◌≡◌, ℕ, ◌<◌, zero, suc, List, [], ◌∷◌, ◌++◌, length, take, get_or, refl, sym, ap, arith}
use Rattle.sim_model.specs.FlatDesign.Code.{Arena}
use Rattle.sim_model.specs.Residual as residual
use Rattle.sim_model.specs.Residual.{Residual, Frame, Next, skip, one, seq, owing, guard, try_, frame, shell, run, goal, followed, statements, then_on, then_owed, in_run, in_guard, in_try, in_shell, settle, next_of, in_frame, before_goal, frame_end}
use Rattle.kernel_bodies.specs.Depths.{handlers_of}
use Rattle.kernel_bodies.specs.declared.layers.Saved.{Saved}
use Rattle.kernel_bodies.specs.declared.layers.Open.{Open}
use Rattle.kernel_bodies.specs.declared.layers.Open.TheVariants as layer
use Rattle.kernel_bodies.specs.Layers.{around, inside, inside_frames, whole, rest_at, IsComing}

-- something is left
abbrev pub IsLeft : Residual → Type 0
IsLeft skip = ⊥
IsLeft r = Unit {0}

followed_left : (r : Residual) (ss : List ℕ) → IsLeft r → IsLeft (followed r ss)
followed_left r [] h = h
followed_left r (s ∷ ss) h = tt

pub around_left : (a : Arena) (l : Open) (r : Residual) → IsLeft r → IsLeft (around a l r)
around_left a (layer.Rest c) r h = followed_left r (rest_at a c) h
around_left a (layer.Again s) r h = tt
around_left a (layer.Owed u) r h = tt
around_left a (layer.Guard u) r h = tt
around_left a (layer.Try s) r h = tt
around_left a layer.Run r h = tt
around_left a (layer.Goal k) r h = tt

-- what is left stays where it is

then_on_left : (q : Residual) (ss : List ℕ) → IsLeft q → then_on q ss ≡ followed q ss
then_on_left skip ss h = absurd h
then_on_left q ss h = refl

then_owed_left : (a : Arena) (q : Residual) (u : ℕ) → IsLeft q → then_owed a q 0 u ≡ owing q 0 u
then_owed_left a skip u h = absurd h
then_owed_left a q u h = refl

in_guard_left : (q : Residual) (u : ℕ) → IsLeft q → in_guard q 0 u ≡ guard q 0 u
in_guard_left skip u h = absurd h
in_guard_left q u h = refl

in_try_left : (q : Residual) (hs : _) → IsLeft q → in_try q hs ≡ try_ q hs
in_try_left skip hs h = absurd h
in_try_left q hs h = refl

pub in_shell_left : (q : Residual) (x : Frame) → IsLeft q → in_shell q x ≡ shell q x
in_shell_left skip x h = absurd h
in_shell_left q x h = refl

pub in_run_left : (q : Residual) → IsLeft q → in_run 0 q ≡ run 0 q
in_run_left skip h = absurd h
in_run_left q h = refl

then_on_none : (q : Residual) → then_on q [] ≡ q
then_on_none skip = refl
then_on_none q = refl

pub settle_followed : (a : Arena) (r : Residual) (ss : List ℕ) → settle a (followed r ss) ≡ then_on (settle a r) ss
settle_followed a r [] = sym (then_on_none (settle a r))
settle_followed a r (s ∷ ss) = refl

-- what a layer comes to, by what is left inside it
abbrev pub settled_around : Arena → Open → Residual → Residual
settled_around a (layer.Rest c) q = then_on q (rest_at a c)
settled_around a (layer.Again s) q = then_on q (s ∷ [])
settled_around a (layer.Owed u) q = then_owed a q 0 u
settled_around a (layer.Guard u) q = in_guard q 0 u
settled_around a (layer.Try s) q = in_try q (handlers_of a s)
settled_around a layer.Run q = in_run 0 q
settled_around a (layer.Goal k) q = goal q k

pub settle_around : (a : Arena) (l : Open) (r : Residual) → settle a (around a l r) ≡ settled_around a l (settle a r)
settle_around a (layer.Rest c) r = settle_followed a r (rest_at a c)
settle_around a (layer.Again s) r = refl
settle_around a (layer.Owed u) r = refl
settle_around a (layer.Guard u) r = refl
settle_around a (layer.Try s) r = refl
settle_around a layer.Run r = refl
settle_around a (layer.Goal k) r = refl

pub settled_around_left : (a : Arena) (l : Open) (q : Residual) → IsLeft q → settled_around a l q ≡ around a l q
settled_around_left a (layer.Rest c) q h = then_on_left q (rest_at a c) h
settled_around_left a (layer.Again s) q h = then_on_left q (s ∷ []) h
settled_around_left a (layer.Owed u) q h = then_owed_left a q u h
settled_around_left a (layer.Guard u) q h = in_guard_left q u h
settled_around_left a (layer.Try s) q h = in_try_left q (handlers_of a s) h
settled_around_left a layer.Run q h = in_run_left q h
settled_around_left a (layer.Goal k) q h = refl

-- blocks and frames one after another

pub inside_append : (a : Arena) (ls ms : List Open) (r : Residual) → inside a (ls ++ ms) r ≡ inside a ls (inside a ms r)
inside_append a [] ms r = refl
inside_append a (l ∷ ls) ms r = ap (around a l) (inside_append a ls ms r)

pub inside_take : (a : Arena) (ls : List Open) (n : ℕ) (d : Open) (r : Residual) → n < length ls → inside a (take (suc n) ls) r ≡ inside a (take n ls) (around a (get_or ls n d) r)
inside_take a [] n d r h = absurd (omega (arith, h))
inside_take a (l ∷ ls) zero d r h = refl
inside_take a (l ∷ ls) (suc n) d r h = ap (around a l) (inside_take a ls n d r (omega (arith, h)))

pub frames_append : (a : Arena) (xs ys : List Saved) (r : Residual) → inside_frames a (xs ++ ys) r ≡ inside_frames a xs (inside_frames a ys r)
frames_append a [] ys r = refl
frames_append a (x ∷ xs) ys r = ap (whole a x) (frames_append a xs ys r)

pub frames_take : (a : Arena) (xs : List Saved) (n : ℕ) (d : Saved) (r : Residual) → n < length xs → inside_frames a (take (suc n) xs) r ≡ inside_frames a (take n xs) (whole a (get_or xs n d) r)
frames_take a [] n d r h = absurd (omega (arith, h))
frames_take a (x ∷ xs) zero d r h = refl
frames_take a (x ∷ xs) (suc n) d r h = ap (whole a x) (frames_take a xs n d r (omega (arith, h)))

-- what comes next

pub in_frame_same : (n : Next) (x : Frame) → IsComing n → in_frame n x ≡ n
in_frame_same residual.nothing x h = absurd h
in_frame_same n x h = refl

pub before_goal_same : (n : Next) (k : _) → IsComing n → before_goal n k ≡ n
before_goal_same residual.nothing k h = absurd h
before_goal_same n k h = refl

next_followed : (r : Residual) (ss : List ℕ) → next_of (followed r ss) ≡ next_of r
next_followed r [] = refl
next_followed r (s ∷ ss) = refl

pub next_around : (a : Arena) (l : Open) (r : Residual) → IsComing (next_of r) → next_of (around a l r) ≡ next_of r
next_around a (layer.Rest c) r h = next_followed r (rest_at a c)
next_around a (layer.Again s) r h = refl
next_around a (layer.Owed u) r h = refl
next_around a (layer.Guard u) r h = refl
next_around a (layer.Try s) r h = refl
next_around a layer.Run r h = refl
next_around a (layer.Goal k) r h = before_goal_same (next_of r) k h
