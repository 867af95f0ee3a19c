use Rattle.std.proofs.Common.{◌≡◌, length, take, sym, ap, ◌∙◌, arith}
use Rattle.kernel_bodies.specs.FlatDesign.Code.{arena_of}
use Rattle.kernel_bodies.specs.declared.layers.Saved.{Saved}
use Rattle.kernel_bodies.specs.SimModel.Residual.{settle}
use Rattle.kernel_bodies.specs.SimModel.Unwinding.{catches}
use Rattle.kernel_bodies.specs.Layers.{held, standing, inside_frames, under}
use Rattle.kernel_bodies.specs.Sought.{among, is_handling, has_handler}
use Rattle.kernel_bodies.proofs.Seeking.{among_is}
use Rattle.process_state.proofs.Frames.{same_there}
use Rattle.process_state.proofs.Showing.{caught_stand, or_first, or_second}
use Rattle.process_state.proofs.body.Body.catches.Goals as goal

pub split_at-requires : goal.split_at-requires
split_at-requires c =
    let lands = c.in-Some.ensures.lands in
    let x = c.index-frames-landing.result in
    let same : x ≡ lands.inner = same_there c.as_slice-frames.result.now c.in-Some.landing.outside x lands.inner lands.within c.index-frames-landing.is lands.there in
    omega (arith, lands.few, ap length (c.deref.ensures.value ∙ ap (λ (z : Saved). z.blocks.items) (sym c.index-frames-landing.is ∙ same)))

pub returns-then-is_some : goal.returns-then-is_some
returns-then-is_some c =
    let a = arena_of c.args.program.now.code in
    let ds = c.args.program.now.depths.items in
    let b = c.args.self.now in
    let xs = b.frames.items in
    let l = c.in-Some.landing in
    let e = c.args.name in
    let x = c.index-frames-landing.result in
    let p = is_handling a e in
    let q = has_handler a e in
    let lands = c.in-Some.ensures.lands in
    let frames = c.as_slice-frames.ensures.value in
    let same : x ≡ lands.inner = same_there c.as_slice-frames.result.now l.outside x lands.inner lands.within c.index-frames-landing.is lands.there in
    let ys = take l.blocks lands.inner.blocks.items in
    let zs = take l.outside c.as_slice-frames.result.now in
    let first : c.is_some.result ≡ among p ys =
    c.is_some.ensures ∙ among_is p _ c.last_try.result c.last_try.ensures.last ∙ ap (among p) (c.split_at.ensures.front ∙ ap (take l.blocks) (c.deref.ensures.value ∙ ap (λ (z : Saved). z.blocks.items) (sym c.index-frames-landing.is ∙ same))) in
    let whole = caught_stand a ds b.goal c.as_slice-frames.result.now b.statement (standing (held c.as_slice-frames.result.now b.statement)) l lands e in
    let back = ap (λ ws. catches (settle a (under b.goal (inside_frames a ws (standing (held ws b.statement))))) e) frames in
    or_first c.is_some.result (among p ys) (among q zs) c.if-is_some.true first ∙ sym whole ∙ back

pub returns-else-is_some : goal.returns-else-is_some
returns-else-is_some c =
    let a = arena_of c.args.program.now.code in
    let ds = c.args.program.now.depths.items in
    let b = c.args.self.now in
    let xs = b.frames.items in
    let l = c.in-Some.landing in
    let e = c.args.name in
    let x = c.index-frames-landing.result in
    let p = is_handling a e in
    let q = has_handler a e in
    let lands = c.in-Some.ensures.lands in
    let frames = c.as_slice-frames.ensures.value in
    let same : x ≡ lands.inner = same_there c.as_slice-frames.result.now l.outside x lands.inner lands.within c.index-frames-landing.is lands.there in
    let ys = take l.blocks lands.inner.blocks.items in
    let zs = take l.outside c.as_slice-frames.result.now in
    let first : c.is_some.result ≡ among p ys =
    c.is_some.ensures ∙ among_is p _ c.last_try.result c.last_try.ensures.last ∙ ap (among p) (c.split_at.ensures.front ∙ ap (take l.blocks) (c.deref.ensures.value ∙ ap (λ (z : Saved). z.blocks.items) (sym c.index-frames-landing.is ∙ same))) in
    let whole = caught_stand a ds b.goal c.as_slice-frames.result.now b.statement (standing (held c.as_slice-frames.result.now b.statement)) l lands e in
    let back = ap (λ ws. catches (settle a (under b.goal (inside_frames a ws (standing (held ws b.statement))))) e) frames in
    let second : c.is_some-else-is_some.result ≡ among q zs =
    c.is_some-else-is_some.ensures ∙ among_is q _ c.last_handler.result c.last_handler.ensures.last ∙ ap (among q) c.split_at-in-Some.ensures.front in
    second ∙ sym (or_second c.is_some.result (among p ys) (among q zs) c.if-is_some.false first) ∙ sym whole ∙ back
