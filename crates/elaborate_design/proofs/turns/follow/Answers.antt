use Rattle.std.proofs.Common.{[], ◌∷◌, ◌++◌, ◌+◌, drop, ap, ◌∙◌}
use Rattle.elaborate_design.specs.Links.{link_of}
use Rattle.elaborate_design.specs.Left.{binds_by, links_within, left_of}
use Rattle.elaborate_design.specs.Work.{work_by, work_within, work_of}
use Rattle.elaborate_design.specs.declared.frames.Frame.{Frame}
use Rattle.elaborate_design.proofs.Lasting.{followed, less}
use Rattle.elaborate_design.proofs.turns.follow.Goals as goal

pub returns-clause-whole : goal.returns-clause-whole
returns-clause-whole c = λ t at.
    let os = drop 1 c.args.children.now in
    let bs = c.args.walk.now.binds in
    let fs = c.args.walk.now.frames.items in
    let f = c.args.frame in
    let l = link_of c.args.link.now in
    let put = c.in_ok-push.ensures.items ∙ ap (λ (x : Frame). fs ++ x ∷ []) c.in_ok-later.ensures in
    followed t fs f l at os bs _ (c.in_ok-act.ensures.left t ∙ ap (λ gs. bs ++ (binds_by (links_within f.depth t os) os f.instance l ++ left_of t os gs)) put)

pub returns-clause-fewer : goal.returns-clause-fewer
returns-clause-fewer c = λ t at.
    let fs = c.args.walk.now.frames.items in
    let f = c.args.frame in
    let l = link_of c.args.link.now in
    let put = c.in_ok-push.ensures.items ∙ ap (λ (x : Frame). fs ++ x ∷ []) c.in_ok-later.ensures in
    less t fs f l at _ (c.in_ok-act.ensures.work t ∙ ap (λ gs. work_by (work_within f.depth t) l + work_of t gs) put)
