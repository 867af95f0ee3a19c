use Rattle.flat_design.specs.Code.{statement_of}
use Rattle.code_blocks.proofs.Growth.{blocks_grow, inner_up, next_grown, next_more}
use Rattle.code_blocks.proofs.laid.add.Goals as goal

pub returns-clause-next : goal.returns-clause-next
returns-clause-next c =
    let old = c.args.laid.now in
    let new = c.push_statement.new.laid in
    let ids = c.args.ids.now in
    let made = c.in_ok-number.ensures in
    let f = statement_of c.args.statement in
    next_more new ids c.push.new.self c.in_ok-number.number f c.in_ok-push.ensures.ok
    (next_grown old new ids made.grows c.requires.next) made.at
    (inner_up _ _ f (blocks_grow old new made.grows) c.requires.inner)
