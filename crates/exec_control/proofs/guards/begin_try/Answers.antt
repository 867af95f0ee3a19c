use Rattle.std.proofs.Common.{sym, ap, ◌∙◌}
use Rattle.std.specs.Option.{option_copied_mut}
use Rattle.flat_design.specs.Code.{arena_of}
use Rattle.exec_data.specs.KernelBodies.Depths.{handlers_of}
use Rattle.exec_data.specs.KernelBodies.declared.around.Around.TheVariants as around
use Rattle.exec_data.specs.KernelBodies.Strip.{strip}
use Rattle.exec_data.proofs.KernelBodies.Strips.{strip-block, strip-put}
use Rattle.exec_data.specs.ProcessBodies.Bodies as bodies
use Rattle.exec_data.specs.SimModel.Residual.{settle, put, block, try_}
use Rattle.exec_data.specs.SimModel.Configuration.{arena}
use Rattle.exec_data.proofs.KernelState.Frames.{one_body_sound, old_body_sound, steps_to, settled_before}
use Rattle.exec_data.proofs.Entering.{shows_next, is_statement, is_inner, same_block, around_is}
use Rattle.exec_control.proofs.guards.begin_try.Goals as goal

pub begin_block-requires-clause-sound : goal.begin_block-requires-clause-sound
begin_block-requires-clause-sound c = old_body_sound c.args.k.now c.args.p c.in-Some.x.now (sym c.get_mut.ensures.value ∙ ap option_copied_mut c.in-Some.is) c.requires.sound

pub begin_block-requires-clause-statement : goal.begin_block-requires-clause-statement
begin_block-requires-clause-statement c = is_statement c.args.k.now c.args.p c.in-Some.x.now (sym c.get_mut.ensures.value ∙ ap option_copied_mut c.in-Some.is) c.args.s c.args.b c.requires.next

pub begin_block-requires-clause-inner : goal.begin_block-requires-clause-inner
begin_block-requires-clause-inner c = is_inner c.args.k.now c.args.p c.in-Some.x.now (sym c.get_mut.ensures.value ∙ ap option_copied_mut c.in-Some.is) c.args.s c.args.b c.requires.next c.requires.inner

pub returns-in-Some-clause-does : goal.returns-in-Some-clause-does
returns-in-Some-clause-does c d i h there =
    let at = sym c.get_mut.ensures.value ∙ ap option_copied_mut c.in-Some.is in
    let n = put (settle (arena d) i.residual) (try_ (block (arena d) c.args.b) (handlers_of (arena_of c.args.k.now.program.now.code) c.args.s)) in
    steps_to c.args.k.now c.args.p c.in-Some.x.now c.begin_block.new.self at c.begin_block.ensures.kept d i h there n
    (strip-put (settle (arena d) i.residual) (try_ (block (arena d) c.args.b) (handlers_of (arena_of c.args.k.now.program.now.code) c.args.s))
    ∙ ap (λ r. put (strip (settle (arena d) i.residual)) (try_ r (handlers_of (arena_of c.args.k.now.program.now.code) c.args.s))) (strip-block (arena d) c.args.b)
    ∙ ap (λ r. put r (try_ (block (arena d) c.args.b) (handlers_of (arena_of c.args.k.now.program.now.code) c.args.s))) (settled_before c.args.k.now c.args.p c.in-Some.x.now at d i h there)
    ∙ ap (λ r. put (bodies.settled_in c.args.k.now.program.now c.in-Some.x.now.body.body.body) (try_ r (handlers_of (arena_of c.args.k.now.program.now.code) c.args.s))) (same_block c.args.k.now c.args.p c.in-Some.x.now at c.args.s c.args.b c.requires.next d i h there)
    ∙ sym (around_is c.args.k.now c.args.s c.args.b (around.Try) c.requires.catches (bodies.settled_in c.args.k.now.program.now c.in-Some.x.now.body.body.body))
    ∙ sym (c.begin_block.ensures.left c.args.s (shows_next c.args.k.now c.args.p c.in-Some.x.now at c.args.s c.args.b c.requires.next)))

pub returns-in-Some-clause-sound : goal.returns-in-Some-clause-sound
returns-in-Some-clause-sound c = one_body_sound c.args.k.now c.args.p c.in-Some.x.now c.begin_block.new.self (sym c.get_mut.ensures.value ∙ ap option_copied_mut c.in-Some.is) c.begin_block.ensures.kept c.requires.sound c.begin_block.ensures.sound
