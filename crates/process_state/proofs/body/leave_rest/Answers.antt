use Rattle.std.proofs.Common.{◌≡◌, ◌-◌, ◌++◌, length, take, sym, ap, ◌∙◌, arith}
use Rattle.kernel_bodies.specs.declared.layers.Open.TheVariants as layer
use Rattle.kernel_bodies.specs.Layers.{rest_if}
use Rattle.process_state.proofs.Frames.{no_more}
use Rattle.process_state.proofs.Passed.{blocks_set}
use Rattle.process_state.proofs.body.leave_rest.Goals as goal

pub returns-in-Some-clause-blocks : goal.returns-in-Some-clause-blocks
returns-in-Some-clause-blocks c = blocks_set c.args.saved.now.blocks.items c.args.place (layer.Rest c.in-Some.cursor) (omega (arith, c.requires)) ∙ ap (λ o. take c.args.place c.args.saved.now.blocks.items ++ rest_if o) (sym c.in-Some.is)

pub returns-in-None-clause-blocks : goal.returns-in-None-clause-blocks
returns-in-None-clause-blocks c =
    let ls = c.args.saved.now.blocks.items in
    let e : length ls - 1 ≡ c.args.place = omega (arith, c.requires) in
    c.drop_block.ensures.blocks ∙ ap (λ n. take n ls) e ∙ sym (no_more (take c.args.place ls)) ∙ ap (λ o. take c.args.place ls ++ rest_if o) (sym c.in-None.is)
