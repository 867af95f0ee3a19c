use Rattle.std.proofs.Common.{◌≡◌, map, drop}
use Rattle.elaborate_design.specs.Links.{link_of}
use Rattle.elaborate_design.specs.Left.{whole_of}
use Rattle.elaborate_design.specs.Work.{work_of}
use Rattle.elaborate_design.proofs.turns.walk_all.Given as goal

abbrev pub invariant-loop-walk : goal.invariant-loop-walk
invariant-loop-walk l =
    whole_of (map (map link_of) l.links) (drop 1 l.children) l.walk.binds l.walk.frames.items
    ≡ whole_of (map (map link_of) l.links) (drop 1 l.children) l.initial.walk.binds l.initial.walk.frames.items

abbrev pub decreases-loop-walk : goal.decreases-loop-walk
decreases-loop-walk l = work_of (map (map link_of) l.links) l.walk.frames.items
