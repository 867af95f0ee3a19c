-- What a statement opens around its block.
use Rattle.std.proofs.Common.{◌≡◌, ℕ, ◌+◌, ◌≤◌, List, ◌++◌, Option, Some, None, length, refl, ◌∙◌, arith, length-append}
use Rattle.std.specs.Prelude.{Contains}
use Rattle.sim_model.specs.FlatDesign.Code as code
use Rattle.sim_model.specs.FlatDesign.Code.{Arena, Statement, statement_at}
use Rattle.sim_model.specs.FlatDesign.Reach.{inner_blocks}
use Rattle.kernel_bodies.specs.Depths.{blocks_of, blocks_in, depth_of}
use Rattle.kernel_bodies.specs.Around.{around_at, around_if, around_of}
use Rattle.kernel_bodies.specs.declared.around.Around.{Around}
use Rattle.kernel_bodies.specs.declared.around.Around.TheVariants as enclosing
use Rattle.kernel_bodies.specs.declared.layers.Open.{Open}
use Rattle.kernel_bodies.specs.declared.layers.Comes.{Comes}
use Rattle.kernel_bodies.specs.Layers.{layers_of, layers_around, statement_of}
use Rattle.kernel_bodies.specs.Room.{FitsStatement, FitsAll, Fits, kept_along}
use Rattle.kernel_bodies.proofs.Rooms.{kept_append, leaf_at, fits_more}

pub around_few : (w : Around) (s : ℕ) → length (layers_around w s) ≤ 1
around_few enclosing.Nothing s = omega arith
around_few enclosing.Loop s = omega arith
around_few (enclosing.Guard u) s = omega arith
around_few enclosing.Try s = omega arith

guard_inner : (x : Statement) (u : ℕ) → around_of x ≡ enclosing.Guard u → Contains (inner_blocks x) u
guard_inner (code.guard b v) u e = (1, omega arith, same)
  where
    same : v ≡ u
    same = cc
guard_inner (code.if_ e b None) u q = cc
guard_inner (code.if_ e b (Some other)) u q = cc
guard_inner x u e = cc

guard_block : (o : Option Statement) (u : ℕ) → around_if o ≡ enclosing.Guard u → Contains (blocks_in o) u
guard_block None u e = cc
guard_block (Some x) u e = guard_inner x u e

module _ (a : Arena) (depths : List ℕ) (most : ℕ) where
  encloses : (t i s j : ℕ) (w : Around) → around_at a s ≡ w → FitsStatement a depths most (i + t) (Some s) → Contains (blocks_of a s) j
      → FitsAll a depths most t i (layers_around w s) × (kept_along t (layers_around w s) ≡ t) × (i + length (layers_around w s) + t + depth_of depths j + 1 ≤ most)
  encloses t i s j enclosing.Nothing e h q = (tt, refl, omega (arith, h.1 j q))
  encloses t i s j enclosing.Loop e h q = (((omega (arith, h.1 j q), h.1), tt), refl, omega (arith, h.1 j q))
  encloses t i s j (enclosing.Guard u) e h q = ((omega (arith, h.1 u (guard_block (statement_at a s) u e)), tt), refl, omega (arith, h.1 j q))
  encloses t i s j enclosing.Try e h q = (((omega (arith, h.1 j q), h.1), tt), refl, omega (arith, h.1 j q))

  module _ (ls : List Open) (s j : ℕ) (w : Around) (e : around_at a s ≡ w) (h : Fits a depths most 1 0 ls (Some s)) (q : Contains (blocks_of a s) j) where
    leaf_fits : FitsStatement a depths most (length ls + kept_along 1 ls) (Some s)
    leaf_fits = leaf_at a depths most (0 + length ls + kept_along 1 ls) (length ls + kept_along 1 ls) (Some s) (omega arith) h.1

    pub enclosing_room : length ls + 2 ≤ most
    enclosing_room = omega (arith, leaf_fits.1 j q)

    pub enclosing_fits : (c : Comes) → ((t i : ℕ) → i + t + depth_of depths j + 1 ≤ most → Fits a depths most t i (layers_of c) (statement_of c)) → Fits a depths most 1 0 (ls ++ layers_around w s ++ layers_of c) (statement_of c)
    enclosing_fits c room =
        let t = kept_along 1 ls in
        let i = length ls in
        let la = layers_around w s in
        let x = encloses t i s j w e leaf_fits q in
        let outer = fits_more a depths most ls la None h.0 (x.0, omega (arith, x.1, x.2)) in
        let p = room (kept_along 1 (ls ++ la)) (length (ls ++ la)) (omega (arith, length-append ls la, x.2, x.1, kept_is)) in
        fits_more a depths most (ls ++ la) (layers_of c) (statement_of c) outer.0 p
      where
        kept_is : kept_along 1 (ls ++ layers_around w s) ≡ kept_along 1 ls
        kept_is = kept_append 1 ls (layers_around w s) ∙ (encloses (kept_along 1 ls) (length ls) s j w e leaf_fits q).1
