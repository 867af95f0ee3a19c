use Rattle.std.proofs.Common.{[], ◌∷◌, sym, ap, ◌∙◌}
use Rattle.std.specs.Option.{option_copied_mut}
use Rattle.kernel_view.specs.KernelBodies.declared.around.Around.TheVariants as around
use Rattle.kernel_view.proofs.KernelBodies.Strips.{strip-block, strip-followed}
use Rattle.kernel_view.specs.ProcessBodies.Bodies as bodies
use Rattle.kernel_view.specs.SimModel.Residual.{settle, put, block, followed}
use Rattle.kernel_view.specs.SimModel.Configuration.{arena}
use Rattle.kernel_view.proofs.KernelState.Frames.{one_body_sound, old_body_sound, steps_to}
use Rattle.exec_data.proofs.Entering.{shows_next, is_statement, is_inner, left_is, same_block, around_is}
use Rattle.exec_data.proofs.blocks.repeat.Goals as goal

pub begin_block-requires-clause-sound : goal.begin_block-requires-clause-sound
begin_block-requires-clause-sound c = old_body_sound c.args.k.now c.args.p c.in-Some.x.now (sym c.get_mut.ensures.value ∙ ap option_copied_mut c.in-Some.is) c.requires.sound

pub begin_block-requires-clause-statement : goal.begin_block-requires-clause-statement
begin_block-requires-clause-statement c = is_statement c.args.k.now c.args.p c.in-Some.x.now (sym c.get_mut.ensures.value ∙ ap option_copied_mut c.in-Some.is) c.args.s c.args.b c.requires.next

pub begin_block-requires-clause-inner : goal.begin_block-requires-clause-inner
begin_block-requires-clause-inner c = is_inner c.args.k.now c.args.p c.in-Some.x.now (sym c.get_mut.ensures.value ∙ ap option_copied_mut c.in-Some.is) c.args.s c.args.b c.requires.next c.requires.inner

pub returns-in-Some-clause-steps : goal.returns-in-Some-clause-steps
returns-in-Some-clause-steps c d i h there =
    let at = sym c.get_mut.ensures.value ∙ ap option_copied_mut c.in-Some.is in
    steps_to c.args.k.now c.args.p c.in-Some.x.now c.begin_block.new.self at c.begin_block.ensures.kept d i h there (put (settle (arena d) i.residual) (followed (block (arena d) c.args.b) (c.args.s ∷ [])))
    (left_is c.args.k.now c.args.p c.in-Some.x.now at c.args.s c.args.b c.requires.next d i h there (followed (block (arena d) c.args.b) (c.args.s ∷ [])) (strip-followed (block (arena d) c.args.b) (c.args.s ∷ []) ∙ ap (λ r. followed r (c.args.s ∷ [])) (strip-block (arena d) c.args.b))
    ∙ ap (λ e. put (bodies.settled_in c.args.k.now.program.now c.in-Some.x.now.body.body.body) (followed e (c.args.s ∷ []))) (same_block c.args.k.now c.args.p c.in-Some.x.now at c.args.s c.args.b c.requires.next d i h there)
    ∙ sym (around_is c.args.k.now c.args.s c.args.b around.Loop c.requires.again (bodies.settled_in c.args.k.now.program.now c.in-Some.x.now.body.body.body))
    ∙ sym (c.begin_block.ensures.left c.args.s (shows_next c.args.k.now c.args.p c.in-Some.x.now at c.args.s c.args.b c.requires.next)))

pub returns-in-Some-clause-sound : goal.returns-in-Some-clause-sound
returns-in-Some-clause-sound c = one_body_sound c.args.k.now c.args.p c.in-Some.x.now c.begin_block.new.self (sym c.get_mut.ensures.value ∙ ap option_copied_mut c.in-Some.is) c.begin_block.ensures.kept c.requires.sound c.begin_block.ensures.sound
