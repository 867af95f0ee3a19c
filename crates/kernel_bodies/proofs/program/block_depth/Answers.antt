use Rattle.std.proofs.Common.{arith, below_more, get_or}
use Rattle.sim_model.specs.FlatDesign.Code.{arena_of}
use Rattle.kernel_bodies.specs.Depths.{blocks_of}
use Rattle.kernel_bodies.proofs.Contained.{fits_more}
use Rattle.kernel_bodies.proofs.program.block_depth.Goals as goal

pub statement_depth-requires-clause-inner : goal.statement_depth-requires-clause-inner
statement_depth-requires-clause-inner c = c.requires.inner c.loop-number.number-index (omega arith)

pub loop-number-preserved : goal.loop-number-preserved
loop-number-preserved c =
    let a = arena_of c.args.code.now in
    let ds = c.args.depths.now in
    let xs = c.args.statements.now in record {
      small = c.larger-depth.ensures.least _ c.loop-number.invariant.small c.statement_depth.ensures.small;
      deep = below_more _ _
          (λ k lt. fits_more ds c.loop-number.depth c.larger-depth.result (blocks_of a (get_or xs k 0)) c.larger-depth.ensures.first (c.loop-number.invariant.deep k lt))
          (fits_more ds c.statement_depth.result c.larger-depth.result (blocks_of a (get_or xs c.loop-number.number-index 0)) c.larger-depth.ensures.second c.statement_depth.ensures.deep);
    }

pub returns-clause-deep : goal.returns-clause-deep
returns-clause-deep c = λ k lt. c.loop-number.invariant.deep k (omega (arith, lt))
