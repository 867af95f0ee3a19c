use Rattle.std.proofs.Common.{◌≡◌, ℕ, List, ◌<◌, ◌+◌, length, get_or, map, arith, below_more}
use Rattle.std.proofs.lemmas.List.{length-map, get_or-map}
use Rattle.sim_model.specs.FlatDesign.declared.code.Handler.{Handler}
use Rattle.kernel_bodies.specs.Depths.{depth_of}
use Rattle.kernel_bodies.proofs.Contained.{below_at, fits_from, mapped_at}
use Rattle.kernel_bodies.proofs.statements.deepest_handler.Goals as goal

same_at : {A : Type 0} (f : A → ℕ) (xs : List A) (k : ℕ) (d : A) (n : ℕ) → k < length xs → get_or (map f xs) k 0 < n → f (get_or xs k d) < n
same_at f xs k d n h lt = omega (arith, lt, get_or-map f xs k d 0 h)

pub room_of-requires-clause-there : goal.room_of-requires-clause-there
room_of-requires-clause-there c =
    let block = λ (h : Handler). h.block in
    let hs = c.args.handlers.now in
    let i = c.loop-handler.handler-index in
    let here : i < length hs = omega arith in
    same_at block hs i _ (length c.args.depths.now) here (below_at (length c.args.depths.now) (map block hs) c.requires.inner i (omega (arith, here, length-map hs block)))

pub loop-handler-preserved : goal.loop-handler-preserved
loop-handler-preserved c =
    let block = λ (h : Handler). h.block in
    let hs = c.args.handlers.now in
    let ds = c.args.depths.now in
    let i = c.loop-handler.handler-index in
    let here : i < length hs = omega arith in
    let value : c.room_of.result ≡ depth_of ds (get_or (map block hs) i 0) + 2 = mapped_at block hs i c.room_of.result _ (λ b. depth_of ds b + 2) here c.room_of.ensures.value in record {
      small = c.larger-deepest.ensures.least _ (omega (arith, c.loop-handler.invariant.small)) c.room_of.ensures.small;
      deep = below_more _ _ (λ k lt. omega (arith, c.loop-handler.invariant.deep k lt, c.larger-deepest.ensures.first)) (omega (arith, value, c.larger-deepest.ensures.second));
    }

pub returns-clause-deep : goal.returns-clause-deep
returns-clause-deep c =
    let block = λ (h : Handler). h.block in
    let hs = c.args.handlers.now in
    fits_from c.args.depths.now c.loop-handler.deepest (map block hs) (λ k lt. c.loop-handler.invariant.deep k (omega (arith, lt, length-map hs block)))
