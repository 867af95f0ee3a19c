use Rattle.std.proofs.Common.{subst, ◌≡◌, ◌<◌, ◌≤◌, ◌+◌, ◌*◌, ℕ, List, [], ◌∷◌, ◌++◌, length, get_or, sym, ap, ◌∙◌, arith}
use Rattle.std.specs.Prelude.{Contains, slice_get, unwrap_or}
use Rattle.std.proofs.lemmas.Option.{slice_get-get_or}
use Rattle.std.proofs.lemmas.List.{length_push}
use Rattle.sim_model.specs.FlatDesign.Code.{arena_of, block_at}
use Rattle.kernel_bodies.specs.Depths.{EachFits, IsDeepBelow, blocks_of, depth_of}
use Rattle.kernel_bodies.proofs.Contained.{contains_at, place_of, each_below, fits_at, small_push, deep_push, deep_all}
use Rattle.kernel_bodies.proofs.program.depths_of.Goals as goal

block_is : (xss yss : List (List ℕ)) (i : ℕ) (d xs : List ℕ) → yss ≡ xss → i < length yss → xs ≡ get_or yss i d → unwrap_or (slice_get xss i) [] ≡ xs
block_is xss yss i d xs same h e = ap (λ zs. unwrap_or (slice_get zs i) []) (sym same) ∙ ap (λ o. unwrap_or o []) (slice_get-get_or yss i d h) ∙ sym e

pub block_depth-depth-requires-clause-inner : goal.block_depth-depth-requires-clause-inner
block_depth-depth-requires-clause-inner c = λ k lt.
    let a = arena_of c.args.code.now in
    let i = c.loop-statements.statements-index in
    let xs = c.as_slice.result.now in
    let is : block_at a i ≡ xs = block_is c.args.code.now.blocks c.as_slice-statements-items.result.now i _ xs c.as_slice-statements-items.ensures (omega arith) (c.as_slice.ensures ∙ c.statements-item.is) in
    let P : List ℕ → Type 0 = λ ys. Contains ys (get_or xs k 0) in
    each_below (length c.as_slice-in-loop-statements.result.now) (blocks_of a (get_or xs k 0)) (λ j q.
    let lower = c.requires i (get_or xs k 0) j (subst P (sym is) (contains_at xs k lt)) q in
    omega (arith, lower, c.loop-statements.invariant.many, ap length c.as_slice-in-loop-statements.ensures.value))

pub loop-statements-preserved : goal.loop-statements-preserved
loop-statements-preserved c =
    let a = arena_of c.args.code.now in
    let i = c.loop-statements.statements-index in
    let ds = c.loop-statements.depths.items in
    let d = c.block_depth-depth.result in
    let xs = c.as_slice.result.now in
    let is : block_at a i ≡ xs = block_is c.args.code.now.blocks c.as_slice-statements-items.result.now i _ xs c.as_slice-statements-items.ensures (omega arith) (c.as_slice.ensures ∙ c.statements-item.is) in
    let many : length ds ≡ i = c.loop-statements.invariant.many in
    let items : c.push.new.self.items ≡ ds ++ d ∷ [] = c.in_ok-push.ensures.items in
    let same : c.as_slice-in-loop-statements.result.now ≡ ds = c.as_slice-in-loop-statements.ensures.value in
    let few : d ≤ 2 * length ds = omega (arith, c.block_depth-depth.ensures.small, ap length same) in
    let inner : (s j : ℕ) → Contains (block_at a (length ds)) s → Contains (blocks_of a s) j → depth_of ds j + 2 ≤ d =
    λ s j q in_statement.
    let P : ℕ → Type 0 = λ n. Contains (block_at a n) s in
    let Q : List ℕ → Type 0 = λ ys. Contains ys s in
    let R : List ℕ → Type 0 = λ es. EachFits es d (blocks_of a s) in
    let p = place_of xs s (subst Q is (subst P many q)) in
    let S : ℕ → Type 0 = λ t. EachFits c.as_slice-in-loop-statements.result.now d (blocks_of a t) in
    fits_at ds d (blocks_of a s) j (subst R same (subst S p.2 (c.block_depth-depth.ensures.deep p.0 p.1))) in_statement in
    let T : List ℕ → Type 0 = λ es. (j : ℕ) → depth_of es j ≤ 2 * j in
    let U : List ℕ → Type 0 = λ es. IsDeepBelow a es (i + 1) in
    let V : ℕ → Type 0 = λ n. IsDeepBelow a ds n in
    let W : ℕ → Type 0 = λ n. IsDeepBelow a (ds ++ d ∷ []) (n + 1) in record {
      many = ap length items ∙ length_push ds d ∙ ap (λ n. n + 1) many;
      small = subst T (sym items) (small_push ds d c.loop-statements.invariant.small few);
      deep = subst U (sym items) (subst W many (deep_push a c.requires ds d (subst V (sym many) c.loop-statements.invariant.deep) inner));
    }

pub returns-clause-deep : goal.returns-clause-deep
returns-clause-deep c =
    let a = arena_of c.args.code.now in
    let ds = c.loop-statements.depths.items in
    deep_all a c.requires ds (λ b s j h. c.loop-statements.invariant.deep b s j (omega (arith, h, ap length c.as_slice-statements-items.ensures)))
