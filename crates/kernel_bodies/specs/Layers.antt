-- The residual that saved frames stand for, the outermost first. Guards have no numbers here: each is 0.
use Rattle.std.specs.Prelude.{◌≡◌, ℕ, List, [], ◌∷◌, ◌++◌, Bool, true, false, Option, Some, None, drop, take, slice_get, is_some}
use Rattle.sim_model.specs.FlatDesign.Code.{Arena, block_at}
use Rattle.sim_model.specs.Residual as residual
use Rattle.sim_model.specs.Residual.{Residual, Frame, skip, one, seq, owing, guard, try_, frame, shell, run, goal, followed, settle, next_of}
use Rattle.sim_model.specs.declared.plain.Goal.{Goal}
use Rattle.kernel_bodies.specs.Depths.{handlers_of}
use Rattle.kernel_bodies.specs.declared.around.Cursor.{Cursor}
use Rattle.kernel_bodies.specs.declared.around.Around.{Around}
use Rattle.kernel_bodies.specs.declared.around.Around.TheVariants as enclosing
use Rattle.kernel_bodies.specs.declared.layers.Frame.{Frame as Kept}
use Rattle.kernel_bodies.specs.declared.layers.Saved.{Saved}
use Rattle.kernel_bodies.specs.declared.layers.Open.{Open}
use Rattle.kernel_bodies.specs.declared.layers.Open.TheVariants as layer
use Rattle.kernel_bodies.specs.declared.layers.Next.{Next}
use Rattle.kernel_bodies.specs.declared.layers.Next.TheVariants as next
use Rattle.kernel_bodies.specs.declared.layers.Comes.{Comes}
use Rattle.kernel_bodies.specs.declared.layers.Comes.TheVariants as comes

-- a call, as the definitions of a run speak of it
abbrev pub call_of : Kept → Frame
call_of x = record { body = x.body; locals = x.locals.items; answer = x.answer; call = x.call; via = x.via }

-- the statements of a block from a place on
abbrev pub rest_at : Arena → Cursor → List ℕ
rest_at a c = drop c.place (block_at a c.block)

-- an open block of a call, with what is left inside it
abbrev pub around : Arena → Open → Residual → Residual
around a (layer.Rest c) r = followed r (rest_at a c)
around a (layer.Again s) r = seq r (s ∷ [])
around a (layer.Owed u) r = owing r 0 u
around a (layer.Guard u) r = guard r 0 u
around a (layer.Try s) r = try_ r (handlers_of a s)
around a layer.Run r = run 0 r
around a (layer.Goal k) r = goal r k

-- whether a statement comes in an open block with nothing left inside it: where one is there in the rest of a block, and where a loop
-- begins again
abbrev pub has_statement : Arena → Open → Bool
has_statement a (layer.Rest c) = is_some (slice_get (block_at a c.block) c.place)
has_statement a (layer.Again s) = true
has_statement a (layer.Owed u) = false
has_statement a (layer.Guard u) = false
has_statement a (layer.Try s) = false
has_statement a layer.Run = false
has_statement a (layer.Goal k) = false

-- open blocks, with what is left inside the innermost
abbrev pub inside : Arena → List Open → Residual → Residual
inside a [] r = r
inside a (l ∷ ls) r = around a l (inside a ls r)

-- a call with what is left in it; it is being unwound, or not
abbrev pub wrapped : Bool → Frame → Residual → Residual
wrapped false x r = frame r x
wrapped true x r = shell r x

-- a saved frame, with what is left inside its open blocks
abbrev pub whole : Arena → Saved → Residual → Residual
whole a x r = wrapped x.shell (call_of x.frame) (inside a x.blocks.items r)

-- saved frames, with what is left inside the innermost
abbrev pub inside_frames : Arena → List Saved → Residual → Residual
inside_frames a [] r = r
inside_frames a (x ∷ xs) r = whole a x (inside_frames a xs r)

-- all that is left, before the goal of an unwinding of all of it
abbrev pub under : Option Goal → Residual → Residual
under None r = r
under (Some k) r = goal r k

-- a statement comes inside some frame
abbrev pub held : List Saved → Option ℕ → Option ℕ
held [] s = None
held (x ∷ xs) s = s

-- a statement, or nothing
abbrev pub standing : Option ℕ → Residual
standing None = skip
standing (Some s) = one s

-- the rest of a block from a place on, where a statement is there
abbrev pub rest_if : Option Cursor → List Open
rest_if None = []
rest_if (Some c) = layer.Rest c ∷ []

-- what comes next
abbrev pub shown : residual.Next → Next
shown (residual.statement s) = next.Statement s
shown (residual.owes s q) = next.Batch s q
shown (residual.leaves x) = next.Leave
shown residual.done = next.Done
shown (residual.reaches k) = next.Goal k
shown residual.nothing = next.Nothing

-- what is left inside the blocks that stand, and what it shows
abbrev pub layers_of : Comes → List Open
layers_of comes.Nothing = []
layers_of comes.Leave = []
layers_of comes.Done = []
layers_of (comes.Goal k) = []
layers_of (comes.Statement s) = []
layers_of (comes.InBlock s c) = layer.Rest c ∷ []
layers_of (comes.InUnwind s c) = layer.Run ∷ layer.Rest c ∷ []

abbrev pub statement_of : Comes → Option ℕ
statement_of comes.Nothing = None
statement_of comes.Leave = None
statement_of comes.Done = None
statement_of (comes.Goal k) = None
statement_of (comes.Statement s) = Some s
statement_of (comes.InBlock s c) = Some s
statement_of (comes.InUnwind s c) = Some s

abbrev pub landed : Arena → Comes → Residual
landed a c = inside a (layers_of c) (standing (statement_of c))

abbrev pub shown_by : Comes → Next
shown_by comes.Nothing = next.Nothing
shown_by comes.Leave = next.Leave
shown_by comes.Done = next.Done
shown_by (comes.Goal k) = next.Goal k
shown_by (comes.Statement s) = next.Statement s
shown_by (comes.InBlock s c) = next.Statement s
shown_by (comes.InUnwind s c) = next.Statement s

-- the first statement of a block, and then the rest of it
abbrev pub first_then : Arena → Option (ℕ × Cursor) → Residual
first_then a None = skip
first_then a (Some p) = followed (one p.0) (rest_at a p.1)

-- what a block comes to with nothing left inside it: it stands, or it falls away and something may begin in its place
abbrev pub begins : Arena → Option Comes → Residual
begins a None = skip
begins a (Some c) = landed a c

abbrev pub frame_ends : Option ℕ → Comes
frame_ends None = comes.Done
frame_ends (Some s) = comes.Leave

-- a block that stands with nothing left inside it
abbrev pub end_shown : Open → Option Comes
end_shown (layer.Rest c) = None
end_shown (layer.Again s) = None
end_shown (layer.Owed u) = None
end_shown (layer.Guard u) = None
end_shown (layer.Try s) = None
end_shown layer.Run = None
end_shown (layer.Goal k) = Some (comes.Goal k)

-- the goal of all shows where nothing else does
abbrev pub under_goal : Option Goal → Comes → Comes
under_goal None c = c
under_goal (Some k) comes.Nothing = comes.Goal k
under_goal (Some k) comes.Leave = comes.Leave
under_goal (Some k) comes.Done = comes.Done
under_goal (Some k) (comes.Goal j) = comes.Goal j
under_goal (Some k) (comes.Statement s) = comes.Statement s
under_goal (Some k) (comes.InBlock s c) = comes.InBlock s c
under_goal (Some k) (comes.InUnwind s c) = comes.InUnwind s c

-- something comes next
abbrev pub IsComing : residual.Next → Type 0
IsComing residual.nothing = ⊥
IsComing n = Unit {0}

-- r settles to q, in which this comes next
pub record Settled (a : Arena) (r q : Residual) (n : Next) : Type 0 where
  pub settles : settle a r ≡ q
  pub shows : shown (next_of q) ≡ n
  pub coming : IsComing (next_of q)

-- the outermost blocks of a saved frame alone
abbrev pub cut : Arena → Saved → ℕ → Residual → Residual
cut a x m r = wrapped x.shell (call_of x.frame) (inside a (take m x.blocks.items) r)

-- a goal is the innermost of these blocks
abbrev pub EndsWithGoal : List Open → Goal → Type 0
EndsWithGoal ls k = (os : List Open) × (ls ≡ os ++ layer.Goal k ∷ [])

abbrev pub EndsBlocks : List Open → Comes → Type 0
EndsBlocks ls comes.Nothing = ⊥
EndsBlocks ls comes.Leave = ⊥
EndsBlocks ls comes.Done = ⊥
EndsBlocks ls (comes.Goal k) = EndsWithGoal ls k
EndsBlocks ls (comes.Statement s) = Unit {0}
EndsBlocks ls (comes.InBlock s c) = Unit {0}
EndsBlocks ls (comes.InUnwind s c) = Unit {0}

-- the end of a call, and of an unwinding, comes where the innermost frame has no open block, and where its innermost block is the goal
abbrev pub EndsFrame : Saved → List Open → Comes → Type 0
EndsFrame x ls comes.Nothing = ⊥
EndsFrame x ls comes.Leave = (x.shell ≡ false) × (ls ≡ []) × (frame_ends x.frame.call ≡ comes.Leave)
EndsFrame x ls comes.Done = Unit {0}
EndsFrame x ls (comes.Goal k) = EndsWithGoal ls k
EndsFrame x ls (comes.Statement s) = Unit {0}
EndsFrame x ls (comes.InBlock s c) = Unit {0}
EndsFrame x ls (comes.InUnwind s c) = Unit {0}

-- the block that a statement opens around its inner one
abbrev pub layers_around : Around → ℕ → List Open
layers_around enclosing.Nothing s = []
layers_around enclosing.Loop s = layer.Again s ∷ []
layers_around (enclosing.Guard u) s = layer.Guard u ∷ []
layers_around enclosing.Try s = layer.Try s ∷ []

-- a statement begins
abbrev pub IsBegun : Comes → Type 0
IsBegun comes.Nothing = ⊥
IsBegun comes.Leave = ⊥
IsBegun comes.Done = ⊥
IsBegun (comes.Goal k) = ⊥
IsBegun (comes.Statement s) = Unit {0}
IsBegun (comes.InBlock s c) = Unit {0}
IsBegun (comes.InUnwind s c) = Unit {0}
