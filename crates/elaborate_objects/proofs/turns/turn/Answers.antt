use Rattle.std.proofs.Common.{map, ap, sym, ◌∙◌}
use Rattle.elaborate_objects.specs.Rows.{row_of}
use Rattle.elaborate_objects.specs.Walks.{whole_of}
use Rattle.elaborate_objects.proofs.Lasting.{left_behind}
use Rattle.elaborate_objects.proofs.turns.turn.Goals as goal

pub returns-in-None-row_at-clause-whole : goal.returns-in-None-row_at-clause-whole
returns-in-None-row_at-clause-whole c =
    let t = map (map row_of) c.args.rows.now in
    let os = c.args.walk.now.objects in
    left_behind t os c.pop.new.self.items c.in-Some.frame (sym c.in-None-row_at.ensures) ∙ ap (whole_of t os) (sym c.in-Some.ensures.items)
