use Rattle.std.proofs.Common.{◌+◌, List, take, subst, ap, ◌∙◌}
use Rattle.kernel_bodies.specs.FlatDesign.Code.{arena_of}
use Rattle.kernel_bodies.specs.declared.layers.Saved.{Saved}
use Rattle.kernel_bodies.specs.Landings.{Lands}
use Rattle.kernel_bodies.specs.Layers.{held, standing}
use Rattle.kernel_bodies.specs.Sought.{last_call, last_via, many_calls}
use Rattle.process_state.proofs.Settled.{one_more}
use Rattle.process_state.proofs.Showing.{calls_stand, transports_stand, many_stand}
use Rattle.process_state.proofs.body.Body.standing_landed.Goals as goal

pub returns-in-Some-clause-calls : goal.returns-in-Some-clause-calls
returns-in-Some-clause-calls c =
    let a = arena_of c.args.program.now.code in
    let ds = c.args.program.now.depths.items in
    let b = c.args.self.now in
    let l = c.in-Some.landing in
    let P : List Saved → Type 0 = λ zs. Lands a ds zs b.statement (standing (held zs b.statement)) l in
    ap last_call (c.split_at.ensures.front ∙ ap (take (l.outside + 1)) c.as_slice-frames.ensures.value ∙ ap (λ n. take n b.frames.items) (one_more l.outside))
    ∙ calls_stand a ds b.goal b.frames.items b.statement (standing (held b.frames.items b.statement)) l (subst P c.as_slice-frames.ensures.value c.in-Some.ensures.lands)

pub returns-in-Some-clause-transports : goal.returns-in-Some-clause-transports
returns-in-Some-clause-transports c =
    let a = arena_of c.args.program.now.code in
    let ds = c.args.program.now.depths.items in
    let b = c.args.self.now in
    let l = c.in-Some.landing in
    let P : List Saved → Type 0 = λ zs. Lands a ds zs b.statement (standing (held zs b.statement)) l in
    ap last_via (c.split_at.ensures.front ∙ ap (take (l.outside + 1)) c.as_slice-frames.ensures.value ∙ ap (λ n. take n b.frames.items) (one_more l.outside))
    ∙ transports_stand a ds b.goal b.frames.items b.statement (standing (held b.frames.items b.statement)) l (subst P c.as_slice-frames.ensures.value c.in-Some.ensures.lands)

pub returns-in-Some-clause-many : goal.returns-in-Some-clause-many
returns-in-Some-clause-many c =
    let a = arena_of c.args.program.now.code in
    let ds = c.args.program.now.depths.items in
    let b = c.args.self.now in
    let l = c.in-Some.landing in
    let P : List Saved → Type 0 = λ zs. Lands a ds zs b.statement (standing (held zs b.statement)) l in
    ap many_calls (c.split_at.ensures.front ∙ ap (take (l.outside + 1)) c.as_slice-frames.ensures.value ∙ ap (λ n. take n b.frames.items) (one_more l.outside))
    ∙ many_stand a ds b.goal b.frames.items b.statement (standing (held b.frames.items b.statement)) l (subst P c.as_slice-frames.ensures.value c.in-Some.ensures.lands)
