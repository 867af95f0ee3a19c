use Rattle.std.proofs.Common.{◌≡◌, length, refl, ap, arith}
use Rattle.code_blocks.specs.declared.laid.Laid.{Laid}
use Rattle.code_blocks.proofs.Growth.{statement_grows, statement_nested, statement_stands}
use Rattle.code_blocks.proofs.laid.push_statement.Goals as goal

pub returns-clause-grows : goal.returns-clause-grows
returns-clause-grows c =
    let new : Laid = record { blocks = c.args.laid.now.blocks; statements = c.push.new.self } in
    statement_grows c.args.laid.now new c.args.statement refl c.in_ok-push.ensures.ok

pub returns-clause-nested : goal.returns-clause-nested
returns-clause-nested c =
    let new : Laid = record { blocks = c.args.laid.now.blocks; statements = c.push.new.self } in
    statement_nested c.args.laid.now new c.args.statement refl c.in_ok-push.ensures.ok c.requires.nested

pub returns-clause-at : goal.returns-clause-at
returns-clause-at c =
    let old : Laid = c.args.laid.now in
    let new : Laid = record { blocks = old.blocks; statements = c.push.new.self } in
    let last : c.in-Ok.number ≡ length old.statements = omega (arith, ap length c.as_slice.ensures, c.in-Ok.ensures) in
    statement_stands old new c.args.statement refl c.in_ok-push.ensures.ok c.in-Ok.number last
