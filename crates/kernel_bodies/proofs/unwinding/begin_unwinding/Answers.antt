use Rattle.std.proofs.Common.{◌<◌, length, drop, ap, ◌∙◌, arith}
use Rattle.std.specs.Prelude.{is_ok}
use Rattle.std.specs.Vec.{vec_capacity, vec_len}
use Rattle.std.specs.List.{insert}
use Rattle.kernel_bodies.specs.declared.layers.Open.TheVariants as layer
use Rattle.kernel_bodies.specs.Unwound.{unwound_all}
use Rattle.kernel_bodies.proofs.Passing.{if_true}
use Rattle.kernel_bodies.proofs.Unwinds.{unwound_few, insert_there}
use Rattle.kernel_bodies.proofs.unwinding.begin_unwinding.Goals as goal

pub returns-clause-items : goal.returns-clause-items
returns-clause-items c =
    let ls = c.args.blocks.now.items in
    let n = c.args.from in
    let us = unwound_all (drop n ls) in
    let room : vec_len c.unwind_blocks.new.blocks < vec_capacity c.unwind_blocks.new.blocks =
    omega (arith, c.unwind_blocks.ensures.capacity, ap length c.unwind_blocks.ensures.items, unwound_few ls n, c.unwind_blocks.new.blocks.ok.0, c.args.blocks.now.ok.0) in
    c.insert.ensures.items
    ∙ if_true (is_ok c.insert.result) _ _ (c.insert.ensures.succeeds room)
    ∙ ap (λ ms. insert ms n (layer.Goal c.args.end)) c.unwind_blocks.ensures.items
    ∙ insert_there ls us n (layer.Goal c.args.end) (omega (arith, c.requires.few, c.args.blocks.now.ok.0))

pub returns-clause-capacity : goal.returns-clause-capacity
returns-clause-capacity c =
    let ls = c.args.blocks.now.items in
    let room : vec_len c.unwind_blocks.new.blocks < vec_capacity c.unwind_blocks.new.blocks =
    omega (arith, c.unwind_blocks.ensures.capacity, ap length c.unwind_blocks.ensures.items, unwound_few ls c.args.from, c.unwind_blocks.new.blocks.ok.0, c.args.blocks.now.ok.0) in
    (c.insert.ensures.in_place room).1.0 ∙ c.unwind_blocks.ensures.capacity
