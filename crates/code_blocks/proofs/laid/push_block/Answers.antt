use Rattle.std.proofs.Common.{◌≡◌, length, refl, ap, arith}
use Rattle.code_blocks.specs.declared.laid.Laid.{Laid}
use Rattle.code_blocks.proofs.Growth.{block_grows, block_nested, block_stands}
use Rattle.code_blocks.proofs.laid.push_block.Goals as goal

pub returns-clause-grows : goal.returns-clause-grows
returns-clause-grows c =
    let new : Laid = record { blocks = c.push.new.self; statements = c.args.laid.now.statements } in
    block_grows c.args.laid.now new c.args.ids refl c.in_ok-push.ensures.ok

pub returns-clause-nested : goal.returns-clause-nested
returns-clause-nested c =
    let new : Laid = record { blocks = c.push.new.self; statements = c.args.laid.now.statements } in
    block_nested c.args.laid.now new c.args.ids refl c.in_ok-push.ensures.ok c.requires.next c.requires.nested

pub returns-clause-at : goal.returns-clause-at
returns-clause-at c =
    let old : Laid = c.args.laid.now in
    let new : Laid = record { blocks = c.push.new.self; statements = old.statements } in
    let last : c.in-Ok.number ≡ length old.blocks = omega (arith, ap length c.as_slice.ensures, c.in-Ok.ensures) in
    block_stands old new c.args.ids refl c.in_ok-push.ensures.ok c.in-Ok.number last
