-- Where saved frames go on once finished parts have fallen away.
use Rattle.std.specs.Prelude.{◌≡◌, ℕ, ◌<◌, ◌≤◌, ◌++◌, List, Option, take, length, slice_index_or}
use Rattle.std.specs.Vec.{vec_capacity}
use Rattle.sim_model.specs.FlatDesign.Code.{Arena}
use Rattle.sim_model.specs.Residual.{Residual}
use Rattle.kernel_bodies.specs.declared.layers.Saved.{Saved}
use Rattle.kernel_bodies.specs.declared.layers.Landing.{Landing}
use Rattle.kernel_bodies.specs.declared.layers.Stand.{Stand}
use Rattle.kernel_bodies.specs.Layers.{inside_frames, whole, standing, cut, landed, layers_of, statement_of, shown_by, Settled, EndsFrame}
use Rattle.kernel_bodies.specs.Room.{Fits, FitsIn, FitsFrames}

-- a frame with this statement or nothing inside it settles to its outermost blocks, and in them what has begun; there is room
-- for it
pub record LandsIn (a : Arena) (depths : List ℕ) (x : Saved) (s : Option ℕ) (t : Stand) : Type 0 where
  pub few : t.blocks ≤ length x.blocks.items
  pub settled : Settled a (whole a x (standing s)) (cut a x t.blocks (landed a t.comes)) (shown_by t.comes)
  pub ends : EndsFrame x (take t.blocks x.blocks.items) t.comes
  pub room : FitsIn a depths x s → Fits a depths (vec_capacity x.blocks) 1 0 (take t.blocks x.blocks.items ++ layers_of t.comes) (statement_of t.comes)

-- What r is inside the frames xs settles to: the frames outside one of them, the outermost blocks of that one, and in them
-- what has begun. There is room for it.
pub record Lands (a : Arena) (depths : List ℕ) (xs : List Saved) (s : Option ℕ) (r : Residual) (l : Landing) : Type 0 where
  pub inner : Saved
  pub within : l.outside < length xs
  pub there : inner ≡ slice_index_or xs l.outside inner
  pub few : l.blocks ≤ length inner.blocks.items
  pub settled : Settled a (inside_frames a xs r) (inside_frames a (take l.outside xs) (cut a inner l.blocks (landed a l.comes))) (shown_by l.comes)
  pub ends : EndsFrame inner (take l.blocks inner.blocks.items) l.comes
  pub room : FitsFrames a depths xs s → Fits a depths (vec_capacity inner.blocks) 1 0 (take l.blocks inner.blocks.items ++ layers_of l.comes) (statement_of l.comes)
