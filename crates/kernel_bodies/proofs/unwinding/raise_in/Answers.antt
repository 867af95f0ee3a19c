use Rattle.std.proofs.Common.{◌≡◌, ◌+◌, ◌<◌, ◌≤◌, suc, true, false, List, ◌∷◌, ◌++◌, None, Some, length, take, drop, get_or, set, refl, subst, sym, ap, ◌∙◌, arith}
use Rattle.std.specs.Vec.{vec_capacity}
use Rattle.sim_model.specs.FlatDesign.Code.{arena_of}
use Rattle.sim_model.specs.Unwinding.{unw}
use Rattle.kernel_bodies.specs.declared.layers.Open.{Open}
use Rattle.kernel_bodies.specs.declared.layers.Open.TheVariants as layer
use Rattle.kernel_bodies.specs.Layers.{inside}
use Rattle.kernel_bodies.specs.Sought.{is_handling, is_goal, NoneIs, LastIs}
use Rattle.kernel_bodies.specs.Unwound.{unwound_all, handler_in}
use Rattle.kernel_bodies.proofs.Rooms.{fits_at_cap, fits_length}
use Rattle.kernel_bodies.proofs.Seeking.{among_none, none_is, last_true}
use Rattle.kernel_bodies.proofs.Unwinds.{kept_none, raise_inside, raised_blocks, raised_is, raise_fits}
use Rattle.kernel_bodies.proofs.unwinding.raise_in.Goals as goal

pub handler_in-block-requires : goal.handler_in-block-requires
handler_in-block-requires c =
    let p = is_handling (arena_of c.args.program.now.code) c.args.name in
    let ls = c.args.saved.now.blocks.items in
    let i = c.in-Some.place in
    let d = c.index.result.now in
    let P : List Open → Type 0 = λ ks. LastIs p ks i in
    ap p c.index.ensures ∙ last_true p ls i d (subst P c.as_slice.ensures.value c.in-Some.ensures.last)

pub begin_unwinding-requires-clause-room : goal.begin_unwinding-requires-clause-room
begin_unwinding-requires-clause-room c =
    let x = c.args.saved.now in
    let ls = x.blocks.items in
    omega (arith, fits_length (arena_of c.args.program.now.code) c.args.program.now.depths.items (vec_capacity x.blocks) ls None c.requires.room, kept_none 1 ls (none_is is_goal ls c.requires.free), x.blocks.ok.0)

pub unreachable-requires : goal.unreachable-requires
unreachable-requires c =
    let p = is_handling (arena_of c.args.program.now.code) c.args.name in
    let ls = c.args.saved.now.blocks.items in
    let P : List Open → Type 0 = λ ks. NoneIs p ks in
    differ (sym c.requires.handler ∙ among_none p ls (subst P c.as_slice.ensures.value c.in-None.ensures.last))
  where
    differ : true ≡ false → ⊥
    differ e = cc

pub returns-clause-left : goal.returns-clause-left
returns-clause-left c = λ r n.
    let a = arena_of c.args.program.now.code in
    let ls = c.args.saved.now.blocks.items in
    let i = c.in-Some.place in
    let d = c.index.result.now in
    let b = c.handler_in-block.result in
    let m = layer.Rest (record { block = b; place = 0 }) in
    let P : List Open → Type 0 = λ ks. LastIs (is_handling a c.args.name) ks i in
    let next : i + 1 ≡ suc i = omega arith in
    let within : i < length ls = omega (arith, c.in-Some.ensures.within, ap length c.as_slice.ensures.value) in
    let found : handler_in a c.args.name (get_or ls i d) ≡ Some b = ap (handler_in a c.args.name) (sym c.index.ensures) ∙ c.handler_in-block.ensures in
    let items : set c.begin_unwinding.new.blocks.items i m ≡ raised_blocks ls i b c.args.end =
    ap (λ ks. set ks i m) (c.begin_unwinding.ensures.items ∙ ap (λ k. take k ls ++ layer.Goal c.args.end ∷ unwound_all (drop k ls)) next) ∙ raised_is ls (unwound_all (drop (suc i) ls)) i m (layer.Goal c.args.end) within in
    raise_inside a ls r c.args.name b c.args.end i d (subst P c.as_slice.ensures.value c.in-Some.ensures.last) found n ∙ ap (λ ks. inside a ks (unw r)) (sym items)

pub returns-clause-room : goal.returns-clause-room
returns-clause-room c =
    let a = arena_of c.args.program.now.code in
    let ds = c.args.program.now.depths.items in
    let x = c.args.saved.now in
    let ls = x.blocks.items in
    let cap = vec_capacity x.blocks in
    let i = c.in-Some.place in
    let d = c.index.result.now in
    let b = c.handler_in-block.result in
    let m = layer.Rest (record { block = b; place = 0 }) in
    let next : i + 1 ≡ suc i = omega arith in
    let within : i < length ls = omega (arith, c.in-Some.ensures.within, ap length c.as_slice.ensures.value) in
    let found : handler_in a c.args.name (get_or ls i d) ≡ Some b = ap (handler_in a c.args.name) (sym c.index.ensures) ∙ c.handler_in-block.ensures in
    let items : set c.begin_unwinding.new.blocks.items i m ≡ raised_blocks ls i b c.args.end =
    ap (λ ks. set ks i m) (c.begin_unwinding.ensures.items ∙ ap (λ k. take k ls ++ layer.Goal c.args.end ∷ unwound_all (drop k ls)) next) ∙ raised_is ls (unwound_all (drop (suc i) ls)) i m (layer.Goal c.args.end) within in
    let wide : cap ≤ vec_capacity c.begin_unwinding.new.blocks = omega (arith, c.begin_unwinding.ensures.capacity) in
    fits_at_cap a ds cap (vec_capacity c.begin_unwinding.new.blocks) (raised_blocks ls i b c.args.end) (set c.begin_unwinding.new.blocks.items i m) None None wide items refl (raise_fits a ds cap ls i d c.args.name b c.args.end within found (none_is is_goal ls c.requires.free) c.requires.room)
