use Rattle.std.proofs.Common.{sym, ◌∙◌}
use Rattle.kernel_bodies.proofs.frames.block_begins.Goals as goal

pub returns-in-Some-clause-value : goal.returns-in-Some-clause-value
returns-in-Some-clause-value c = c.in_block.ensures.value ∙ sym c.in-Some.ensures.value

pub returns-in-Some-clause-room : goal.returns-in-Some-clause-room
returns-in-Some-clause-room c = λ most t i h. c.in_block.ensures.room (record { block = c.args.block; place = 0 }) most t i c.in-Some.ensures.of_block.0 c.in-Some.ensures.of_block.1 h
