use Rattle.std.proofs.Common.{◌+◌, List, drop, subst, sym, ap, ◌∙◌}
use Rattle.std.specs.Prelude.{slice_get}
use Rattle.kernel_bodies.specs.FlatDesign.Code.{arena_of}
use Rattle.kernel_bodies.specs.declared.layers.Saved.{Saved}
use Rattle.kernel_bodies.specs.Layers.{inside_frames, held, standing}
use Rattle.kernel_bodies.specs.Sought.{has_handler, LastIs, NoneIs}
use Rattle.kernel_bodies.specs.Unwound.{left_all}
use Rattle.process_state.proofs.Settled.{one_more}
use Rattle.process_state.proofs.Stepping.{catches_standing, left_standing, left_raise_standing}
use Rattle.process_state.proofs.Unwinding.{left_raise_under, left_raise_frames, left_raise_none}
use Rattle.process_state.proofs.body.Body.left_by_raise.Goals as goal

pub returns-in-Some-clause-value : goal.returns-in-Some-clause-value
returns-in-Some-clause-value c =
    let a = arena_of c.args.program.now.code in
    let b = c.args.self.now in
    let xs = b.frames.items in
    let i = c.in-Some.place in
    let e = c.args.name in
    let o = held xs b.statement in
    let P : List Saved → Type 0 = λ zs. LastIs (has_handler a e) zs i in
    c.left_by.ensures.value
    ∙ ap (λ zs. slice_get (left_all zs) c.args.number) (c.split_at.ensures.back ∙ ap (drop (i + 1)) c.as_slice-in-Some.ensures.value ∙ ap (λ n. drop n xs) (one_more i))
    ∙ ap (λ vs. slice_get vs c.args.number)
    (sym (left_raise_under b.goal (inside_frames a xs (standing o)) e ∙ left_raise_frames a e xs i (standing o) (subst P c.as_slice.ensures.value c.in-Some.ensures.last) (catches_standing o e) (left_standing o)))

pub returns-in-None-clause-value : goal.returns-in-None-clause-value
returns-in-None-clause-value c =
    let a = arena_of c.args.program.now.code in
    let b = c.args.self.now in
    let xs = b.frames.items in
    let e = c.args.name in
    let o = held xs b.statement in
    let P : List Saved → Type 0 = λ zs. NoneIs (has_handler a e) zs in
    sym
    (ap (λ vs. slice_get vs c.args.number)
    (left_raise_under b.goal (inside_frames a xs (standing o)) e ∙ left_raise_none a e xs (standing o) (subst P c.as_slice.ensures.value c.in-None.ensures.last) (catches_standing o e) (left_raise_standing o e)))
