use Rattle.session.proofs.Outputs.{lets_go}
use Rattle.session.proofs.buffers.let_go.Goals as goal

pub returns-clause-goes : goal.returns-clause-goes
returns-clause-goes g c =
    lets_go g.S.Shelf.files g.S.Shelf.stands c.args.vcd c.args.list c.args.shelf.now c.let_go_into.new.shelf c.let_go_into-2.new.shelf _ _ c.let_go_into.ensures.kept.ids.stands _ c.let_go_to.ensures.goes c.let_go_into.ensures.goes c.let_go_into-2.ensures.goes
