-- What a body stands for, and what is true of each body.
use Rattle.std.specs.Prelude.{◌≡◌, ℕ, ◌+◌, ◌≤◌, ◌++◌, ◌∷◌, ◌⊎◌, [], List, length, true, false, Option, Some, None}
use Rattle.std.specs.Vec.{vec_capacity}
use Rattle.kernel_bodies.specs.LogicValues.declared.kinds.Value.{Value}
use Rattle.kernel_bodies.specs.SimModel.declared.plain.Goal.{Goal}
use Rattle.kernel_bodies.specs.SimModel.declared.plain.Via.{Via}
use Rattle.kernel_bodies.specs.FlatDesign.Code.{Arena, arena_of, body_at}
use Rattle.kernel_bodies.specs.SimModel.Residual as residual
use Rattle.kernel_bodies.specs.SimModel.Residual.{Residual, Frame, followed, settle, next_of}
use Rattle.kernel_bodies.specs.Depths.{handlers_of}
use Rattle.kernel_bodies.specs.declared.program.Program.{Program}
use Rattle.kernel_bodies.specs.declared.around.Around.{Around}
use Rattle.kernel_bodies.specs.declared.around.Around.TheVariants as around
use Rattle.kernel_bodies.specs.declared.around.Cursor.{Cursor}
use Rattle.process_state.specs.declared.body.Body.{Body}
use Rattle.kernel_bodies.specs.declared.layers.Frame.{Frame as Kept}
use Rattle.kernel_bodies.specs.declared.layers.Saved.{Saved}
use Rattle.kernel_bodies.specs.declared.layers.Open.{Open}
use Rattle.kernel_bodies.specs.declared.layers.Open.TheVariants as layer
use Rattle.kernel_bodies.specs.declared.layers.Comes.{Comes}
use Rattle.kernel_bodies.specs.declared.layers.Comes.TheVariants as comes
use Rattle.kernel_bodies.specs.declared.layers.Next.{Next}
use Rattle.kernel_bodies.specs.declared.layers.Next.TheVariants as next
use Rattle.kernel_bodies.specs.Layers.{call_of, rest_at, inside, whole, inside_frames, held, under, standing, shown, EndsFrame, EndsWithGoal}
use Rattle.kernel_bodies.specs.Room.{FitsIn, FitsFrames, own_locals, own_blocks, locals_with, body_depth, begun_in}

-- A residual that saved frames and the place inside them stand for, read from the innermost frame outwards: r is what is left
-- inside the frames fs, and inside the blocks os of the innermost of these, or inside the goal of all where none is left.
-- There is one constructor for each form of a residual, but for a call that is owed to several, which no body stands for; each lets
-- the innermost block, or frame, go and puts r inside it.

-- the goal of all stands outside all frames
abbrev pub aim : Option Goal → List Open
aim None = []
aim (Some k) = layer.Goal k ∷ []

-- what stands open in the innermost frame, or outside all of them
abbrev pub blocks_in : Option Goal → List Saved → List Open
blocks_in g [] = aim g
blocks_in g (x ∷ []) = x.blocks.items
blocks_in g (x ∷ y ∷ ys) = blocks_in g (y ∷ ys)

pub data IsLeft (a : Arena) (g : Option Goal) (xs : List Saved) (at : Option ℕ) : List Saved → List Open → Residual → Type 0 where
  skip : at ≡ None → IsLeft a g xs at xs (blocks_in g xs) residual.skip
  statement : (s : ℕ) → at ≡ Some s → IsLeft a g xs at xs (blocks_in g xs) (residual.one s)
  rest : (fs : List Saved) (os : List Open) (r : Residual) (c : Cursor) → IsLeft a g xs at fs (os ++ layer.Rest c ∷ []) r → IsLeft a g xs at fs os (followed r (rest_at a c))
  again : (fs : List Saved) (os : List Open) (r : Residual) (s : ℕ) → IsLeft a g xs at fs (os ++ layer.Again s ∷ []) r → IsLeft a g xs at fs os (residual.seq r (s ∷ []))
  owed : (fs : List Saved) (os : List Open) (r : Residual) (u : ℕ) → IsLeft a g xs at fs (os ++ layer.Owed u ∷ []) r → IsLeft a g xs at fs os (residual.owing r 0 u)
  guard : (fs : List Saved) (os : List Open) (r : Residual) (u : ℕ) → IsLeft a g xs at fs (os ++ layer.Guard u ∷ []) r → IsLeft a g xs at fs os (residual.guard r 0 u)
  try_ : (fs : List Saved) (os : List Open) (r : Residual) (s : ℕ) → IsLeft a g xs at fs (os ++ layer.Try s ∷ []) r → IsLeft a g xs at fs os (residual.try_ r (handlers_of a s))
  run : (fs : List Saved) (os : List Open) (r : Residual) → IsLeft a g xs at fs (os ++ layer.Run ∷ []) r → IsLeft a g xs at fs os (residual.run 0 r)
  goal : (fs : List Saved) (os : List Open) (r : Residual) (k : Goal) → IsLeft a g xs at fs (os ++ layer.Goal k ∷ []) r → IsLeft a g xs at fs os (residual.goal r k)
  frame : (fs : List Saved) (x : Saved) (r : Residual) → x.shell ≡ false → IsLeft a g xs at (fs ++ x ∷ []) [] r → IsLeft a g xs at fs (blocks_in g fs) (residual.frame r (call_of x.frame))
  shell : (fs : List Saved) (x : Saved) (r : Residual) → x.shell ≡ true → IsLeft a g xs at (fs ++ x ∷ []) [] r → IsLeft a g xs at fs (blocks_in g fs) (residual.shell r (call_of x.frame))

-- a body stands for r: all its frames and blocks are read; a statement comes inside some frame
abbrev pub StandsForLeft : Arena → Body → Residual → Type 0
StandsForLeft a b r = IsLeft a b.goal b.frames.items (held b.frames.items b.statement) [] [] r

-- the one residual that a body stands for, over the code that it is used with; and what it settles to
abbrev pub left_of : Arena → Body → Residual
left_of a b = under b.goal (inside_frames a b.frames.items (standing (held b.frames.items b.statement)))

abbrev pub left_in : Program → Body → Residual
left_in p b = left_of (arena_of p.code) b

abbrev pub settled_in : Program → Body → Residual
settled_in p b = settle (arena_of p.code) (left_in p b)

-- what comes next, once finished parts have fallen away
abbrev pub next_in : Program → Body → Next
next_in p b = shown (next_of (settled_in p b))

-- the outermost of these frames is the body's own call
abbrev pub IsOwnFirst : List Saved → Type 0
IsOwnFirst [] = Unit {0}
IsOwnFirst (x ∷ xs) = x.frame.call ≡ None

-- A body has room for all that may come inside its frames, for its own call when it begins again, and for its first blocks
-- then: in the vectors of that call, which is the outermost open frame, or else rests.
pub record IsSound (p : Program) (b : Body) : Type 0 where
  pub room : FitsFrames (arena_of p.code) p.depths.items b.frames.items b.statement
  pub own : IsOwnFirst b.frames.items
  pub rests : IsOwnFirst b.resting.items
  pub locals : locals_with (arena_of p.code) b.code b.arguments.items ≤ own_locals (own_locals 0 b.resting.items) b.frames.items
  pub blocks : body_depth p.depths.items (body_at (arena_of p.code) b.code) + 3 ≤ own_blocks (own_blocks 0 b.resting.items) b.frames.items

-- a body keeps the number of its code and its first arguments
pub record Keeps (old new : Body) : Type 0 where
  pub code : new.code ≡ old.code
  pub arguments : new.arguments.items ≡ old.arguments.items

-- what comes next is a statement; a goal
abbrev pub IsStatement : Next → Type 0
IsStatement (next.Statement s) = Unit {0}
IsStatement (next.Batch s q) = ⊥
IsStatement next.Leave = ⊥
IsStatement next.Done = ⊥
IsStatement (next.Goal k) = ⊥
IsStatement next.Nothing = ⊥

abbrev pub IsGoal : Next → Type 0
IsGoal (next.Statement s) = ⊥
IsGoal (next.Batch s q) = ⊥
IsGoal next.Leave = ⊥
IsGoal next.Done = ⊥
IsGoal (next.Goal k) = Unit {0}
IsGoal next.Nothing = ⊥

-- what a statement puts around its block: a loop follows its block again
abbrev pub enclosed : Arena → ℕ → Around → Residual → Residual
enclosed a s around.Nothing r = r
enclosed a s around.Loop r = followed r (s ∷ [])
enclosed a s (around.Guard u) r = residual.guard r 0 u
enclosed a s around.Try r = residual.try_ r (handlers_of a s)

-- what a call tells, where there is one
abbrev pub via_of : Option Frame → Option Via
via_of None = None
via_of (Some x) = x.via

abbrev pub answer_of : Option Frame → Option Value
answer_of None = None
answer_of (Some x) = x.answer

abbrev pub body_of : Option Frame → Option ℕ
body_of None = None
body_of (Some x) = Some x.body

-- room for a call of the code f: for its frame, and for what may stand open in it
abbrev pub HasRoomFor : Program → Body → ℕ → Type 0
HasRoomFor p b f = (length b.frames.items + 1 ≤ vec_capacity b.frames) × (body_depth p.depths.items (body_at (arena_of p.code) f) + 3 ≤ vec_capacity b.room)

-- the innermost of these frames is such a one
abbrev pub EndsWith : List Saved → (Saved → Type 0) → Type 0
EndsWith xs P = (front : List Saved) × (x : Saved) × (xs ≡ front ++ x ∷ []) × P x

-- the end of a call shows where the innermost frame has nothing left; that of an unwinding where a goal is innermost; a statement
-- comes inside a frame
abbrev pub EndsIn : Option Goal → List Saved → Comes → Type 0
EndsIn g xs comes.Nothing = Unit {0}
EndsIn g xs comes.Leave = EndsWith xs (λ x. EndsFrame x x.blocks.items comes.Leave)
EndsIn g xs comes.Done = Unit {0}
EndsIn g xs (comes.Goal k) = ((xs ≡ []) × (g ≡ Some k)) ⊎ EndsWith xs (λ x. EndsWithGoal x.blocks.items k)
EndsIn g xs (comes.Statement s) = EndsWith xs (λ x. Unit {0})
EndsIn g xs (comes.InBlock s c) = EndsWith xs (λ x. Unit {0})
EndsIn g xs (comes.InUnwind s c) = EndsWith xs (λ x. Unit {0})

-- new is the frames old with a call begun in them, in a vector for so many open blocks; the statement comes first
pub record Begins (p : Program) (old : List Saved) (frame : Kept) (most : ℕ) (s : Option ℕ) (new : List Saved) : Type 0 where
  pub inner : Saved
  pub frames : new ≡ old ++ inner ∷ []
  pub call : inner.frame ≡ frame
  pub room : most ≤ vec_capacity inner.blocks
  pub left : whole (arena_of p.code) inner (standing s) ≡ residual.frame (begun_in (arena_of p.code) (body_at (arena_of p.code) frame.body)) (call_of frame)
  pub fits : FitsIn (arena_of p.code) p.depths.items inner s

-- the end of a call, or of the body
abbrev pub IsEnd : Next → Type 0
IsEnd (next.Statement s) = ⊥
IsEnd (next.Batch s q) = ⊥
IsEnd next.Leave = Unit {0}
IsEnd next.Done = Unit {0}
IsEnd (next.Goal k) = ⊥
IsEnd next.Nothing = ⊥

-- inside these blocks, with nothing left inside the innermost, s comes first
pub record ComesIn (a : Arena) (ls : List Open) (s : ℕ) : Type 0 where
  pub blocks : List Open
  pub settles : settle a (inside a ls residual.skip) ≡ inside a blocks (residual.one s)
