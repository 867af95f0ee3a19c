use Rattle.std.proofs.Common.{◌<◌, map, drop, ap, sym, subst, ◌∙◌}
use Rattle.elaborate_design.specs.Links.{link_of}
use Rattle.elaborate_design.specs.Left.{whole_of}
use Rattle.elaborate_design.specs.Work.{work_of}
use Rattle.elaborate_design.proofs.Lasting.{left_behind, less_behind}
use Rattle.elaborate_design.proofs.turns.turn.Goals as goal

pub returns-in-None-link_at-clause-whole : goal.returns-in-None-link_at-clause-whole
returns-in-None-link_at-clause-whole c =
    let t = map (map link_of) c.args.links.now in
    let os = drop 1 c.args.children.now in
    let bs = c.args.walk.now.binds in
    left_behind t os bs c.pop.new.self.items c.in-Some.frame (sym c.in-None-link_at.ensures) ∙ ap (whole_of t os bs) (sym c.in-Some.ensures.items)

pub returns-in-None-link_at-clause-fewer : goal.returns-in-None-link_at-clause-fewer
returns-in-None-link_at-clause-fewer c =
    let t = map (map link_of) c.args.links.now in
    subst (λ gs. work_of t c.pop.new.self.items < work_of t gs) (sym c.in-Some.ensures.items) (less_behind t c.pop.new.self.items c.in-Some.frame (sym c.in-None-link_at.ensures))
